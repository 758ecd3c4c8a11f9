-- The kind of a statement, told by what it is not.
use Rattle.std.proofs.Common.{◌≡◌, ℕ, true, List, Option, sym, ap, ◌∙◌, subst}
use Rattle.task_ast.specs.declared.tree.Atom.{Atom}
use Rattle.task_ast.specs.declared.tree.Expr.{Expr}
use Rattle.task_ast.specs.declared.tree.Stmt.{Stmt}
use Rattle.task_ast.specs.declared.tree.What.{What}
use Rattle.task_ast.specs.declared.tree.What.TheOpen as w
use Rattle.task_ast.specs.declared.tree.What.TheVariants.{SetCtl, Lock, Unlock, Fork, Join, Barrier, Settle, rolls-SetCtl, rolls-While, rolls-If, rolls-Lock, rolls-Unlock, rolls-Fork, rolls-Join, rolls-Barrier, rolls-Settle, rolls-SetReg, rolls-Read, rolls-Write, rolls-Print, rolls-When}
use Rattle.task_ast.specs.declared.tree.What.TheViews.{roll-What, out-What, roll-out-What, While, If}
use Rattle.task_ast.specs.Shaped.{is_data}
use Rattle.task_ast.specs.View.{plain_what}
use Rattle.task_ast.proofs.Views.{what_SetCtl, what_While, what_If, what_Lock, what_Unlock, what_Barrier, what_Settle, what_SetReg, what_Read, what_Write, what_Print, what_When}
use Rattle.one_thread.proofs.Beginning.{begins_plainly}

begins_level : (level : w.What-F What Stmt)
    → ((t : List ℕ) (es : List Expr) (into : Option (List ℕ)) → roll-What level ≡ Fork t es into → ⊥)
    → ((e : Expr) (into : Option (List ℕ)) → roll-What level ≡ Join e into → ⊥)
    → begins_plainly (plain_what (roll-What level)) ≡ true
begins_level (w.SetCtl x e) fork join = ap begins_plainly (ap plain_what (rolls-SetCtl x e) ∙ what_SetCtl x e)
begins_level (w.While e body) fork join = ap begins_plainly (ap plain_what (rolls-While e body) ∙ what_While e body)
begins_level (w.If e first second) fork join = ap begins_plainly (ap plain_what (rolls-If e first second) ∙ what_If e first second)
begins_level (w.Lock a i) fork join = ap begins_plainly (ap plain_what (rolls-Lock a i) ∙ what_Lock a i)
begins_level (w.Unlock a i) fork join = ap begins_plainly (ap plain_what (rolls-Unlock a i) ∙ what_Unlock a i)
begins_level (w.Fork t es into) fork join = absurd (fork t es into (rolls-Fork t es into))
begins_level (w.Join e into) fork join = absurd (join e into (rolls-Join e into))
begins_level (w.Barrier b) fork join = ap begins_plainly (ap plain_what (rolls-Barrier b) ∙ what_Barrier b)
begins_level (w.Settle x c) fork join = ap begins_plainly (ap plain_what (rolls-Settle x c) ∙ what_Settle x c)
begins_level (w.SetReg x e) fork join = ap begins_plainly (ap plain_what (rolls-SetReg x e) ∙ what_SetReg x e)
begins_level (w.Read r i x) fork join = ap begins_plainly (ap plain_what (rolls-Read r i x) ∙ what_Read r i x)
begins_level (w.Write r i e) fork join = ap begins_plainly (ap plain_what (rolls-Write r i e) ∙ what_Write r i e)
begins_level (w.Print es) fork join = ap begins_plainly (ap plain_what (rolls-Print es) ∙ what_Print es)
begins_level (w.When e first second) fork join = ap begins_plainly (ap plain_what (rolls-When e first second) ∙ what_When e first second)

-- at a statement that is neither a fork nor a join a subthread does nothing first
pub begins-other : (what : What)
    → ((t : List ℕ) (es : List Expr) (into : Option (List ℕ)) → what ≡ Fork t es into → ⊥)
    → ((e : Expr) (into : Option (List ℕ)) → what ≡ Join e into → ⊥)
    → begins_plainly (plain_what what) ≡ true
begins-other what fork join =
    subst (λ x. begins_plainly (plain_what x) ≡ true) (roll-out-What what)
    (begins_level (out-What what) (λ t es into is. fork t es into (sym (roll-out-What what) ∙ is))
    (λ e into is. join e into (sym (roll-out-What what) ∙ is)))

module _ (what : What)
    (setctl : (x : List ℕ) (e : Expr) → what ≡ SetCtl x e → ⊥)
    (while : (e : Expr) (body : List Stmt) → what ≡ While e body → ⊥)
    (choice : (e : Expr) (first second : List Stmt) → what ≡ If e first second → ⊥)
    (lock : (a : List ℕ) (i : Atom) → what ≡ Lock a i → ⊥)
    (unlock : (a : List ℕ) (i : Atom) → what ≡ Unlock a i → ⊥)
    (fork : (t : List ℕ) (es : List Expr) (into : Option (List ℕ)) → what ≡ Fork t es into → ⊥)
    (join : (e : Expr) (into : Option (List ℕ)) → what ≡ Join e into → ⊥)
    (barrier : (b : List ℕ) → what ≡ Barrier b → ⊥)
    (settle : (x c : List ℕ) → what ≡ Settle x c → ⊥) where
  data_level : (level : w.What-F What Stmt) → what ≡ roll-What level → is_data (plain_what (roll-What level)) ≡ true
  data_level (w.SetCtl x e) is = absurd (setctl x e (is ∙ rolls-SetCtl x e))
  data_level (w.While e body) is = absurd (while e body (is ∙ rolls-While e body))
  data_level (w.If e first second) is = absurd (choice e first second (is ∙ rolls-If e first second))
  data_level (w.Lock a i) is = absurd (lock a i (is ∙ rolls-Lock a i))
  data_level (w.Unlock a i) is = absurd (unlock a i (is ∙ rolls-Unlock a i))
  data_level (w.Fork t es into) is = absurd (fork t es into (is ∙ rolls-Fork t es into))
  data_level (w.Join e into) is = absurd (join e into (is ∙ rolls-Join e into))
  data_level (w.Barrier b) is = absurd (barrier b (is ∙ rolls-Barrier b))
  data_level (w.Settle x c) is = absurd (settle x c (is ∙ rolls-Settle x c))
  data_level (w.SetReg x e) is = ap is_data (ap plain_what (rolls-SetReg x e) ∙ what_SetReg x e)
  data_level (w.Read r i x) is = ap is_data (ap plain_what (rolls-Read r i x) ∙ what_Read r i x)
  data_level (w.Write r i e) is = ap is_data (ap plain_what (rolls-Write r i e) ∙ what_Write r i e)
  data_level (w.Print es) is = ap is_data (ap plain_what (rolls-Print es) ∙ what_Print es)
  data_level (w.When e first second) is = ap is_data (ap plain_what (rolls-When e first second) ∙ what_When e first second)

  -- a statement that is none of these is a data statement
  pub data-other : is_data (plain_what what) ≡ true
  data-other =
      ap (λ x. is_data (plain_what x)) (sym (roll-out-What what)) ∙ data_level (out-What what) (sym (roll-out-What what))
