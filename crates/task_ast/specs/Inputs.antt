-- Which inputs are those of a program.
use Rattle.std.specs.Prelude.{◌≡◌, ℕ, List, [], ◌∷◌, length, map}
use Rattle.gp_base.specs.declared.feed.Feed.{Feed}
use Rattle.gp_base.specs.declared.feed.Inputs.{Inputs}
use Rattle.task_ast.specs.declared.tree.Head.{Head}
use Rattle.task_ast.specs.declared.tree.Head.TheVariants.{FeedHead}
use Rattle.task_ast.specs.meaning.Tree.{Program}
use Rattle.task_ast.specs.meaning.Names.{natural, records_of, cells_in}

-- how many fields the feeds have, in declared order
abbrev pub fields_of : List Head → List ℕ
fields_of [] = []
fields_of (FeedHead name fields from line ∷ heads) = natural fields ∷ fields_of heads
fields_of (head ∷ heads) = fields_of heads

abbrev pub fields_in : Feed → ℕ
fields_in feed = feed.fields

-- the inputs are those of a program: as many record cells and as many feeds as it declares, each feed with its declared fields
pub record AreInputsOf (program : Program) (inputs : Inputs) : Type 0 where
  pub records : length inputs.records ≡ cells_in (records_of program.heads)
  pub feeds : map fields_in inputs.feeds ≡ fields_of program.heads
