-- The table that stands in the place of a file.
use Rattle.std.specs.Prelude.{◌-◌, ◌==◌, ◌||◌, Bool, [], ◌∷◌, length, take, drop, codes, if◌then◌else◌}
use Rattle.std.specs.List.{list_any}
use Rattle.std.specs.Str.{bytes_eq}
use Rattle.sqlite_trees.specs.Sound.{same_name}
use Rattle.task_ast.specs.meaning.Tree.{Name}

-- whether a name has a slash (47)
abbrev pub has_slash : Name → Bool
has_slash = list_any (λ b. b == 47)

-- what stands after the last slash
abbrev pub without_folders : Name → Name
without_folders [] = []
without_folders (b ∷ rest) = if has_slash (b ∷ rest) then without_folders rest else b ∷ rest

-- the name without `.csv` at its end
abbrev pub without_ending : Name → Name
without_ending name = let at = length name - 4 in if bytes_eq (drop at name) (codes ".csv") then take at name else name

abbrev pub table_of : Name → Name
table_of file = without_ending (without_folders file)

-- whether a name begins with a word, in any case
abbrev pub begins : (word name : Name) → Bool
begins word name = same_name (take (length word) name) word

-- the names that are kept for this program and for SQLite
abbrev pub is_reserved : Name → Bool
is_reserved table = begins (codes "gprs_") table || begins (codes "sqlite_") table
