-- The statements that a thread has left.
use Rattle.std.specs.Prelude.{List, [], ◌∷◌, ◌++◌}
use Rattle.std.specs.Borrow.{Bor}
use Rattle.task_ast.specs.declared.tree.Stmt as code
use Rattle.task_ast.specs.meaning.Tree.{Stmt}
use Rattle.task_ast.specs.View.{plain_stmts}
use Rattle.one_thread.specs.declared.left.Left.{Left}

-- the statements of the blocks around the present one, of which the innermost stands last
abbrev pub around_of : List (Bor (List code.Stmt)) → List Stmt
around_of [] = []
around_of (b ∷ rest) = around_of rest ++ plain_stmts b.now

-- the statements left
abbrev pub left_of : Left → List Stmt
left_of left = plain_stmts left.present.now ++ around_of left.around.items

abbrev pub after_first : List code.Stmt → List code.Stmt
after_first [] = []
after_first (s ∷ rest) = rest

-- those after the first of the present block
abbrev pub rest_of : Left → List Stmt
rest_of left = plain_stmts (after_first left.present.now) ++ around_of left.around.items
