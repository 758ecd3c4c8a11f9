-- The cells of the records that come from files, head by head.
use Rattle.std.specs.Prelude.{ℤ, List, [], ◌∷◌, ◌++◌, Option, Some, None}
use Rattle.task_ast.specs.declared.tree.Head.{Head}
use Rattle.task_ast.specs.declared.tree.Head.TheVariants.{RecHead, FeedHead}
use Rattle.task_ast.specs.meaning.Tree.{Name}

-- the cells of a record, where it comes from a file
abbrev pub own_cells : Option Name → List ℤ → List (List ℤ)
own_cells None cells = []
own_cells (Some file) cells = cells ∷ []

-- For each of these heads that names a file, the cells of its record, where these are the records, each by its name with its cells. Those of a feed
-- are none.
abbrev pub sourced : List Head → List (Name × List ℤ) → List (List ℤ)
sourced [] records = []
sourced (RecHead name size by from line ∷ heads) [] = []
sourced (RecHead name size by from line ∷ heads) (own ∷ records) = own_cells from own.1 ++ sourced heads records
sourced (FeedHead name fields file line ∷ heads) records = [] ∷ sourced heads records
sourced (head ∷ heads) records = sourced heads records
