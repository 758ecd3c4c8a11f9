-- A tree of the code as the tree that definitions see.
use Rattle.std.specs.Prelude.{List, map}
use Rattle.task_ast.specs.meaning.Tree as plain
use Rattle.task_ast.specs.meaning.Tree.{links, block, Links, Block}
use Rattle.task_ast.specs.declared.tree.Op.{Op}
use Rattle.task_ast.specs.declared.tree.Expr.{Expr}
use Rattle.task_ast.specs.declared.tree.Expr.TheOpen as e
use Rattle.task_ast.specs.declared.tree.Expr.TheFolds.{fold-Expr}
use Rattle.task_ast.specs.declared.tree.Stmt.{Stmt}
use Rattle.task_ast.specs.declared.tree.What.{What}
use Rattle.task_ast.specs.declared.tree.What.TheOpen as w
use Rattle.task_ast.specs.declared.tree.What.TheFolds.{fold-Stmt, fold-What}
use Rattle.task_ast.specs.declared.tree.TaskText.{TaskText}
use Rattle.task_ast.specs.declared.tree.Program.{Program}

abbrev pub expr_of : e.Expr-F plain.Expr → plain.Expr
expr_of (e.Num n) = plain.Num n
expr_of (e.Ctl x) = plain.Ctl x
expr_of (e.Reg x) = plain.Reg x
expr_of e.Me = plain.Me
expr_of (e.Rows f) = plain.Rows f
expr_of (e.Cell f row field) = plain.Cell f row.value field.value
expr_of (e.Neg a) = plain.Neg a.value
expr_of (e.Not a) = plain.Not a.value
expr_of (e.Chain first others) = plain.Chain first.value (links others)

unfoldable pub plain_expr : Expr → plain.Expr
plain_expr e = fold-Expr plain.Expr expr_of e

abbrev pub plain_members : List (Op × Expr) → List (Op × plain.Expr)
plain_members others = map (λ (m : Op × Expr). (m.0, plain_expr m.1)) others

abbrev pub plain_links : List (Op × Expr) → Links
plain_links others = links (plain_members others)

abbrev pub plain_exprs : List Expr → List plain.Expr
plain_exprs es = map plain_expr es

abbrev pub what_of : w.What-F plain.What plain.Stmt → plain.What
what_of (w.SetCtl x e) = plain.SetCtl x (plain_expr e)
what_of (w.While e body) = plain.While (plain_expr e) (block body)
what_of (w.If e first second) = plain.If (plain_expr e) (block first) (block second)
what_of (w.Lock a i) = plain.Lock a i
what_of (w.Unlock a i) = plain.Unlock a i
what_of (w.Fork t es x) = plain.Fork t (plain_exprs es) x
what_of (w.Join e x) = plain.Join (plain_expr e) x
what_of (w.Barrier b) = plain.Barrier b
what_of (w.Settle x c) = plain.Settle x c
what_of (w.SetReg x e) = plain.SetReg x (plain_expr e)
what_of (w.Read r i x) = plain.Read r i x
what_of (w.Write r i e) = plain.Write r i (plain_expr e)
what_of (w.Print es) = plain.Print (plain_exprs es)
what_of (w.When e first second) = plain.When (plain_expr e) (block first) (block second)

abbrev pub stmt_of : w.Stmt-F plain.What plain.Stmt → plain.Stmt
stmt_of s = plain.At s.line s.what

unfoldable pub plain_what : What → plain.What
plain_what w = fold-What plain.What plain.Stmt what_of stmt_of w

unfoldable pub plain_stmt : Stmt → plain.Stmt
plain_stmt s = fold-Stmt plain.What plain.Stmt what_of stmt_of s

abbrev pub plain_stmts : List Stmt → List plain.Stmt
plain_stmts b = map plain_stmt b

abbrev pub plain_block : List Stmt → Block
plain_block b = block (plain_stmts b)

abbrev pub plain_task : TaskText → plain.TaskText
plain_task t = record { name = t.name; params = t.params; vars = t.vars; body = plain_block t.body; line = t.line }

abbrev pub plain_program : Program → plain.Program
plain_program p = record { heads = p.heads; tasks = map plain_task p.tasks }
