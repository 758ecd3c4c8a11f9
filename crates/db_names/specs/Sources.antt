-- The tables that stand in the place of the files which a program names.
use Rattle.std.specs.Prelude.{ℤ, List, [], ◌∷◌, ◌++◌, Option, None, Some, Result, Ok, Err, if◌then◌else◌}
use Rattle.std.specs.List.{list_any}
use Rattle.std.specs.Str.{bytes_eq}
use Rattle.sqlite_trees.specs.Sound.{same_name}
use Rattle.task_ast.specs.declared.tree.Head.{Head}
use Rattle.task_ast.specs.declared.tree.Head.TheVariants.{RecHead, FeedHead}
use Rattle.task_ast.specs.meaning.Tree.{Name}
use Rattle.db_names.specs.declared.sources.NameRule.{NameRule}
use Rattle.db_names.specs.declared.sources.NameRule.TheVariants.{Program, Reserved, Twice}
use Rattle.db_names.specs.declared.sources.Shape.TheVariants.{Cells, Rows}
use Rattle.db_names.specs.declared.sources.Source.{Source}
use Rattle.db_names.specs.Tables.{is_reserved, table_of}

-- what a record of this name and size reads, if it names a file
abbrev pub cells_in : Name → ℤ → Option Name → Option Source
cells_in name size None = None
cells_in name size (Some file) = Some (record { file = file; shape = Cells name size })

-- what a declaration reads, if it names a file
abbrev pub source_in : Head → Option Source
source_in (RecHead name size by from line) = cells_in name size from
source_in (FeedHead name fields from line) = Some (record { file = from; shape = Rows fields })
source_in head = None

-- the first rule that a file breaks after those before it
abbrev pub rule_of : (program : Name) → List Source → Source → Option NameRule
rule_of program before source =
    if bytes_eq program source.file then Some Program
    else if is_reserved (table_of source.file) then Some Reserved
    else if list_any (λ it. same_name (table_of it.file) (table_of source.file)) before then Some Twice else None

-- what is read where a file is put to those before it, unless it breaks a rule, and others follow
abbrev pub put : List Source → Source → Option NameRule → (List Source → Result (List Source) (Name × NameRule)) → Result (List Source) (Name × NameRule)
put before source None later = later (before ++ source ∷ [])
put before source (Some rule) later = Err (source.file, rule)

-- the same where a declaration comes after those before it, which may name a file
abbrev pub one_more : (program : Name) → List Source → Option Source → (List Source → Result (List Source) (Name × NameRule))
    → Result (List Source) (Name × NameRule)
one_more program before None later = later before
one_more program before (Some source) later = put before source (rule_of program before source) later

-- what all declarations read after those before them, or the first file that breaks a rule
abbrev pub sources_from : (program : Name) → List Source → List Head → Result (List Source) (Name × NameRule)
sources_from program before [] = Ok before
sources_from program before (head ∷ heads) = one_more program before (source_in head) (λ more. sources_from program more heads)

abbrev pub sources_of : (program : Name) → List Head → Result (List Source) (Name × NameRule)
sources_of program heads = sources_from program [] heads
