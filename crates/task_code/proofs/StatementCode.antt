-- The instructions of a statement of the code, from what it is.
use Rattle.std.proofs.Common.{◌≡◌, ◌⊎◌, inl, inr, ℕ, List, [], ◌∷◌, ap, sym, ◌∙◌, refl}
use Rattle.task_ast.specs.declared.tree.Atom.{Atom}
use Rattle.task_ast.specs.declared.tree.Expr.{Expr}
use Rattle.task_ast.specs.declared.tree.Stmt.{Stmt}
use Rattle.task_ast.specs.declared.tree.What.TheVariants as w
use Rattle.task_ast.specs.declared.tree.What.TheViews.{When}
use Rattle.task_ast.specs.meaning.Tree as tree
use Rattle.task_ast.specs.View.{plain_expr, plain_exprs, plain_what, plain_stmt, plain_block}
use Rattle.task_ast.proofs.Views.{stmt_At, what_SetReg, what_Read, what_Write, what_Print, what_When}
use Rattle.task_code.specs.Instructions.{At, Do}
use Rattle.task_code.specs.Lowering.{Scope, deed, what_code, stmt_code}

module _ (scope : Scope) (st : Stmt) where
  pub code_of_what : (what : tree.What) → plain_what st.what ≡ what → what_code scope st.line what ≡ stmt_code scope (plain_stmt st)
  code_of_what what is = sym (ap (stmt_code scope) (stmt_At st ∙ ap (tree.At st.line) is))

  code_of_deed : (what : tree.What) → plain_what st.what ≡ what
      → At st.line (Do (deed scope what)) ∷ [] ≡ what_code scope st.line what
      → At st.line (Do (deed scope (plain_what st.what))) ∷ [] ≡ stmt_code scope (plain_stmt st)
  code_of_deed what is same = ap (λ v. At st.line (Do (deed scope v)) ∷ []) is ∙ same ∙ code_of_what what is

  -- a statement on data
  pub code_of_data :
      ((x : List ℕ) × (e : Expr) × st.what ≡ w.SetReg x e)
      ⊎ (((r : List ℕ) × (i : Atom) × (x : List ℕ) × st.what ≡ w.Read r i x)
      ⊎ (((r : List ℕ) × (i : Atom) × (e : Expr) × st.what ≡ w.Write r i e)
      ⊎ (((es : List Expr) × st.what ≡ w.Print es)
      ⊎ ((e : Expr) × (first : List Stmt) × (second : List Stmt) × st.what ≡ When e first second))))
      → At st.line (Do (deed scope (plain_what st.what))) ∷ [] ≡ stmt_code scope (plain_stmt st)
  code_of_data (inl (x, e, is)) = code_of_deed (tree.SetReg x (plain_expr e)) (ap plain_what is ∙ what_SetReg x e) refl
  code_of_data (inr (inl (r, i, x, is))) = code_of_deed (tree.Read r i x) (ap plain_what is ∙ what_Read r i x) refl
  code_of_data (inr (inr (inl (r, i, e, is)))) = code_of_deed (tree.Write r i (plain_expr e)) (ap plain_what is ∙ what_Write r i e) refl
  code_of_data (inr (inr (inr (inl (es, is))))) = code_of_deed (tree.Print (plain_exprs es)) (ap plain_what is ∙ what_Print es) refl
  code_of_data (inr (inr (inr (inr (e, first, second, is))))) =
      code_of_deed (tree.When (plain_expr e) (plain_block first) (plain_block second))
      (ap plain_what is ∙ what_When e first second) refl
