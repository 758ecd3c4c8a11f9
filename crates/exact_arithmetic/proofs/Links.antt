-- Chains, with the flag so far.
use Rattle.std.proofs.Common.{◌≡◌, ℕ, ◌+◌, ◌<◌, ◌∙◌, ℤ, List, length, drop, get_or, Some, Bool, true, false, ◌&&◌, refl, sym, ap}
use Rattle.std.proofs.lemmas.List.{at_drop_more}
use Rattle.task_ast.specs.meaning.Tree.{Link}
use Rattle.task_ast.specs.meaning.Value.{value, operate, operate_on}
use Rattle.task_ast.specs.View.{plain_expr, plain_links}
use Rattle.task_ast.specs.declared.env.Env.{Env}
use Rattle.task_ast.specs.declared.tree.Op.{Op}
use Rattle.task_ast.specs.declared.tree.Expr.{Expr}
use Rattle.exact_arithmetic.specs.Exact.{is_exact, is_exact_on, stays, stays_on}

flag-one : (exact side here rest : Bool) → (((exact && side) && here) && rest) ≡ (exact && ((side && here) && rest))
flag-one true side here rest = refl
flag-one false side here rest = refl

from-here : (links : List (Op × Expr)) (env : Env) (i : ℕ) (m : Op × Expr) (a : ℤ) → i < length links → m ≡ get_or links i m
    → stays_on (Link m.0 (plain_expr m.1) (plain_links (drop (i + 1) links))) env (Some a) ≡ stays_on (plain_links (drop i links)) env (Some a)
from-here links env i m a below is =
    ap (λ (m : Op × Expr). stays_on (Link m.0 (plain_expr m.1) (plain_links (drop (i + 1) links))) env (Some a)) is
    ∙ sym (at_drop_more (λ (left : List (Op × Expr)). stays_on (plain_links left) env (Some a)) links i m below)

-- after one more member, which has a value
pub flag-more : (links : List (Op × Expr)) (env : Env) (i : ℕ) (m : Op × Expr) (a b : ℤ) (exact : Bool) → i < length links
    → m ≡ get_or links i m → Some b ≡ value (plain_expr m.1) env
    → (((exact && stays (plain_expr m.1) env) && is_exact m.0 a b)
    && stays_on (plain_links (drop (i + 1) links)) env (Some (operate m.0 a b)))
    ≡ (exact && stays_on (plain_links (drop i links)) env (Some a))
flag-more links env i m a b exact below is side =
    flag-one exact (stays (plain_expr m.1) env) (is_exact m.0 a b)
    (stays_on (plain_links (drop (i + 1) links)) env (Some (operate m.0 a b)))
    ∙ ap (λ v. exact && ((stays (plain_expr m.1) env && is_exact_on m.0 (Some a) v)
    && stays_on (plain_links (drop (i + 1) links)) env (operate_on m.0 (Some a) v))) side
    ∙ ap (λ w. exact && w) (from-here links env i m a below is)
