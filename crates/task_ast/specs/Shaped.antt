-- Which trees are shaped as those of a text are.
use Rattle.std.specs.Prelude.{ℤ, pos, negsuc, Bool, true, false, ◌&&◌, None, IsTrue, ◌≡◌}
use Rattle.std.specs.List.{list_all}
use Rattle.task_ast.specs.meaning.Tree.{Stmt, At, What, While, If, SetReg, Read, Write, Print, When, Block, Nothing, Then, Program}
use Rattle.task_ast.specs.declared.tree.Head.{Head}
use Rattle.task_ast.specs.declared.tree.Head.TheVariants.{LockHead, BarrierHead, RecHead, FeedHead}
use Rattle.task_ast.specs.meaning.Check.{check_fault}

abbrev pub is_natural : ℤ → Bool
is_natural (pos n) = true
is_natural (negsuc n) = false

abbrev pub is_shaped_head : Head → Bool
is_shaped_head (LockHead name size line) = is_natural size
is_shaped_head (BarrierHead name number line) = is_natural number
is_shaped_head (RecHead name size by from line) = is_natural size
is_shaped_head (FeedHead name fields from line) = is_natural fields

-- whether a statement is a data statement
abbrev pub is_data : What → Bool
is_data (SetReg x e) = true
is_data (Read r i x) = true
is_data (Write r i e) = true
is_data (Print es) = true
is_data (When e a b) = true
is_data _ = false

abbrev pub all_data : Block → Bool
all_data Nothing = true
all_data (Then (At line w) b) = is_data w && all_data b

abbrev mutual
  -- each `when` in the statement has data statements alone
  pub is_shaped_what : What → Bool
  is_shaped_what (While e b) = is_shaped_block b
  is_shaped_what (If e a b) = is_shaped_block a && is_shaped_block b
  is_shaped_what (When e a b) = (all_data a && is_shaped_block a) && (all_data b && is_shaped_block b)
  is_shaped_what _ = true

  pub is_shaped_stmt : Stmt → Bool
  is_shaped_stmt (At line w) = is_shaped_what w

  pub is_shaped_block : Block → Bool
  is_shaped_block Nothing = true
  is_shaped_block (Then s b) = is_shaped_stmt s && is_shaped_block b

-- no size, number of fields or barrier's number is negative, and `when` has data statements alone
abbrev pub is_shaped : Program → Bool
is_shaped program = list_all is_shaped_head program.heads && list_all (λ task. is_shaped_block task.body) program.tasks

-- a shaped program at which no rule fails
pub record IsAccepted (program : Program) : Type 0 where
  pub shaped : IsTrue (is_shaped program)
  pub faultless : check_fault program ≡ None
