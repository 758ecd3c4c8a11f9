-- Values of chains.
use Rattle.std.proofs.Common.{◌≡◌, ℕ, ◌+◌, ◌<◌, ℤ, List, length, drop, get_or, Option, Some, None, refl, ap, sym, ◌∙◌}
use Rattle.std.proofs.lemmas.List.{at_drop_more}
use Rattle.task_ast.specs.meaning.Tree.{Links, NoLinks, Link}
use Rattle.task_ast.specs.meaning.Value.{value, value_on, operate, operate_on}
use Rattle.task_ast.specs.View.{plain_expr, plain_links}
use Rattle.task_ast.specs.declared.env.Env.{Env}
use Rattle.task_ast.specs.declared.tree.Op.{Op}
use Rattle.task_ast.specs.declared.tree.Expr.{Expr}

-- a chain that has no value so far has none
pub value_on_none : (links : Links) (env : Env) → value_on links env None ≡ None
value_on_none NoLinks env = refl
value_on_none (Link op e links) env = value_on_none links env

-- the value of a chain from a member on
abbrev value_from : List (Op × Expr) → Env → ℕ → Option ℤ → Option ℤ
value_from links env i so_far = value_on (plain_links (drop i links)) env so_far

value_from-step : (links : List (Op × Expr)) (env : Env) (i : ℕ) (m : Op × Expr) (so_far : Option ℤ) → i < length links
    → m ≡ get_or links i m →
    value_from links env (i + 1) (operate_on m.0 so_far (value (plain_expr m.1) env)) ≡ value_from links env i so_far
value_from-step links env i m so_far below is =
    ap (λ (m : Op × Expr). value_from links env (i + 1) (operate_on m.0 so_far (value (plain_expr m.1) env))) is
    ∙ sym (at_drop_more (λ (left : List (Op × Expr)). value_on (plain_links left) env so_far) links i m below)

-- where the member has a value, and where it has none
pub value_from-some : (links : List (Op × Expr)) (env : Env) (i : ℕ) (m : Op × Expr) (a b : ℤ) → i < length links → m ≡ get_or links i m →
    Some b ≡ value (plain_expr m.1) env → value_on (plain_links (drop (i + 1) links)) env (Some (operate m.0 a b))
    ≡ value_on (plain_links (drop i links)) env (Some a)
value_from-some links env i m a b below is side =
    ap (λ v. value_from links env (i + 1) (operate_on m.0 (Some a) v)) side ∙ value_from-step links env i m (Some a) below is

pub value_from-none : (links : List (Op × Expr)) (env : Env) (i : ℕ) (m : Op × Expr) (a : ℤ) → i < length links → m ≡ get_or links i m →
    None ≡ value (plain_expr m.1) env → None ≡ value_on (plain_links (drop i links)) env (Some a)
value_from-none links env i m a below is side =
    sym (value_on_none (plain_links (drop (i + 1) links)) env)
    ∙ ap (λ v. value_from links env (i + 1) (operate_on m.0 (Some a) v)) side ∙ value_from-step links env i m (Some a) below is
