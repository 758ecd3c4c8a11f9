-- The view of a tree at each variant.
use Rattle.std.proofs.Common.{◌≡◌, ℕ, ℤ, List, Option, Box, Global, ap, sym, ◌∙◌}
use Rattle.task_ast.specs.meaning.Tree as plain
use Rattle.task_ast.specs.View.{expr_of, plain_expr, plain_links, plain_exprs, what_of, stmt_of, plain_what, plain_stmt, plain_block}
use Rattle.task_ast.specs.declared.tree.Op.{Op}
use Rattle.task_ast.specs.declared.tree.Atom.{Atom}
use Rattle.task_ast.specs.declared.tree.Expr.{Expr}
use Rattle.task_ast.specs.declared.tree.Expr.TheOpen as e
use Rattle.task_ast.specs.declared.tree.Expr.TheVariants.{Num, Ctl, Reg, Me, Rows, rolls-Num, rolls-Ctl, rolls-Reg, rolls-Me, rolls-Rows, rolls-Cell, rolls-Neg, rolls-Not, rolls-Chain}
use Rattle.task_ast.specs.declared.tree.Expr.TheViews.{roll-Expr, Cell, Neg, Not, Chain}
use Rattle.task_ast.specs.declared.tree.Expr.TheFolds.{map-Expr, fold-roll-Expr}
use Rattle.task_ast.specs.declared.tree.Stmt.{Stmt}
use Rattle.task_ast.specs.declared.tree.What.{What}
use Rattle.task_ast.specs.declared.tree.What.TheOpen as w
use Rattle.task_ast.specs.declared.tree.What.TheVariants.{SetCtl, Lock, Unlock, Fork, Join, Barrier, Settle, SetReg, Read, Write, Print, rolls-SetCtl, rolls-While, rolls-If, rolls-Lock, rolls-Unlock, rolls-Fork, rolls-Join, rolls-Barrier, rolls-Settle, rolls-SetReg, rolls-Read, rolls-Write, rolls-Print, rolls-When}
use Rattle.task_ast.specs.declared.tree.What.TheViews.{roll-What, While, If, When}
use Rattle.task_ast.specs.declared.tree.What.TheFolds.{map-What, fold-roll-What, fold_out-Stmt}

expr_level : (level : e.Expr-F Expr) → plain_expr (roll-Expr level) ≡ expr_of (map-Expr Expr plain.Expr plain_expr level)
unfolding plain_expr
expr_level level = fold-roll-Expr plain.Expr expr_of level

pub expr_Num : (n : ℤ) → plain_expr (Num n) ≡ plain.Num n
expr_Num n = ap plain_expr (sym (rolls-Num n)) ∙ expr_level (e.Num n)

pub expr_Ctl : (x : List ℕ) → plain_expr (Ctl x) ≡ plain.Ctl x
expr_Ctl x = ap plain_expr (sym (rolls-Ctl x)) ∙ expr_level (e.Ctl x)

pub expr_Reg : (x : List ℕ) → plain_expr (Reg x) ≡ plain.Reg x
expr_Reg x = ap plain_expr (sym (rolls-Reg x)) ∙ expr_level (e.Reg x)

pub expr_Me : plain_expr Me ≡ plain.Me
expr_Me = ap plain_expr (sym rolls-Me) ∙ expr_level e.Me

pub expr_Rows : (f : List ℕ) → plain_expr (Rows f) ≡ plain.Rows f
expr_Rows f = ap plain_expr (sym (rolls-Rows f)) ∙ expr_level (e.Rows f)

pub expr_Cell : (f : List ℕ) (row : Box Expr Global) (field : Box Expr Global)
    → plain_expr (Cell f row field) ≡ plain.Cell f (plain_expr row.value) (plain_expr field.value)
expr_Cell f row field = ap plain_expr (sym (rolls-Cell f row field)) ∙ expr_level (e.Cell f row field)

pub expr_Neg : (a : Box Expr Global) → plain_expr (Neg a) ≡ plain.Neg (plain_expr a.value)
expr_Neg a = ap plain_expr (sym (rolls-Neg a)) ∙ expr_level (e.Neg a)

pub expr_Not : (a : Box Expr Global) → plain_expr (Not a) ≡ plain.Not (plain_expr a.value)
expr_Not a = ap plain_expr (sym (rolls-Not a)) ∙ expr_level (e.Not a)

pub expr_Chain : (first : Box Expr Global) (others : List (Op × Expr))
    → plain_expr (Chain first others) ≡ plain.Chain (plain_expr first.value) (plain_links others)
expr_Chain first others = ap plain_expr (sym (rolls-Chain first others)) ∙ expr_level (e.Chain first others)

pub stmt_At : (s : Stmt) → plain_stmt s ≡ plain.At s.line (plain_what s.what)
unfolding plain_stmt plain_what
stmt_At s = fold_out-Stmt plain.What plain.Stmt what_of stmt_of s

what_level : (level : w.What-F What Stmt)
    → plain_what (roll-What level) ≡ what_of (map-What What Stmt plain.What plain.Stmt plain_what plain_stmt level)
unfolding plain_what plain_stmt
what_level level = fold-roll-What plain.What plain.Stmt what_of stmt_of level

pub what_SetCtl : (x : List ℕ) (e : Expr) → plain_what (SetCtl x e) ≡ plain.SetCtl x (plain_expr e)
what_SetCtl x e = ap plain_what (sym (rolls-SetCtl x e)) ∙ what_level (w.SetCtl x e)

pub what_While : (e : Expr) (body : List Stmt) → plain_what (While e body) ≡ plain.While (plain_expr e) (plain_block body)
what_While e body = ap plain_what (sym (rolls-While e body)) ∙ what_level (w.While e body)

pub what_If : (e : Expr) (first : List Stmt) (second : List Stmt)
    → plain_what (If e first second) ≡ plain.If (plain_expr e) (plain_block first) (plain_block second)
what_If e first second = ap plain_what (sym (rolls-If e first second)) ∙ what_level (w.If e first second)

pub what_Lock : (a : List ℕ) (i : Atom) → plain_what (Lock a i) ≡ plain.Lock a i
what_Lock a i = ap plain_what (sym (rolls-Lock a i)) ∙ what_level (w.Lock a i)

pub what_Unlock : (a : List ℕ) (i : Atom) → plain_what (Unlock a i) ≡ plain.Unlock a i
what_Unlock a i = ap plain_what (sym (rolls-Unlock a i)) ∙ what_level (w.Unlock a i)

pub what_Fork : (t : List ℕ) (es : List Expr) (x : Option (List ℕ)) → plain_what (Fork t es x) ≡ plain.Fork t (plain_exprs es) x
what_Fork t es x = ap plain_what (sym (rolls-Fork t es x)) ∙ what_level (w.Fork t es x)

pub what_Join : (e : Expr) (x : Option (List ℕ)) → plain_what (Join e x) ≡ plain.Join (plain_expr e) x
what_Join e x = ap plain_what (sym (rolls-Join e x)) ∙ what_level (w.Join e x)

pub what_Barrier : (b : List ℕ) → plain_what (Barrier b) ≡ plain.Barrier b
what_Barrier b = ap plain_what (sym (rolls-Barrier b)) ∙ what_level (w.Barrier b)

pub what_Settle : (x c : List ℕ) → plain_what (Settle x c) ≡ plain.Settle x c
what_Settle x c = ap plain_what (sym (rolls-Settle x c)) ∙ what_level (w.Settle x c)

pub what_SetReg : (x : List ℕ) (e : Expr) → plain_what (SetReg x e) ≡ plain.SetReg x (plain_expr e)
what_SetReg x e = ap plain_what (sym (rolls-SetReg x e)) ∙ what_level (w.SetReg x e)

pub what_Read : (r : List ℕ) (i : Atom) (x : List ℕ) → plain_what (Read r i x) ≡ plain.Read r i x
what_Read r i x = ap plain_what (sym (rolls-Read r i x)) ∙ what_level (w.Read r i x)

pub what_Write : (r : List ℕ) (i : Atom) (e : Expr) → plain_what (Write r i e) ≡ plain.Write r i (plain_expr e)
what_Write r i e = ap plain_what (sym (rolls-Write r i e)) ∙ what_level (w.Write r i e)

pub what_Print : (es : List Expr) → plain_what (Print es) ≡ plain.Print (plain_exprs es)
what_Print es = ap plain_what (sym (rolls-Print es)) ∙ what_level (w.Print es)

pub what_When : (e : Expr) (first : List Stmt) (second : List Stmt)
    → plain_what (When e first second) ≡ plain.When (plain_expr e) (plain_block first) (plain_block second)
what_When e first second = ap plain_what (sym (rolls-When e first second)) ∙ what_level (w.When e first second)

pub ruleset view = (
  expr_Num,
  expr_Ctl,
  expr_Reg,
  expr_Me,
  expr_Rows,
  expr_Cell,
  expr_Neg,
  expr_Not,
  expr_Chain,
  stmt_At,
  what_SetCtl,
  what_While,
  what_If,
  what_Lock,
  what_Unlock,
  what_Fork,
  what_Join,
  what_Barrier,
  what_Settle,
  what_SetReg,
  what_Read,
  what_Write,
  what_Print,
  what_When,
)
