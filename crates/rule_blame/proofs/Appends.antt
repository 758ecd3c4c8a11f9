-- Lists that are put at the end of others.
use Rattle.std.proofs.Common.{◌≡◌, ◌∙◌, ◌<◌, ◌+◌, ℕ, zero, suc, Bool, true, List, [], ◌∷◌, ◌++◌, length, get_or, drop, refl, ap, sym, append_assoc, add-one, arith}
use Rattle.std.specs.List.{Contains}
use Rattle.std.proofs.lemmas.List.{append-nil, get_or-map, length-map, drop_more}
use Rattle.std.proofs.lemmas.Slice.Eq.{bytes_eq-Decides}
use Rattle.task_ast.specs.declared.tree.Param.{Param}
use Rattle.task_ast.specs.declared.tree.Expr.{Expr as CodeExpr}
use Rattle.task_ast.specs.meaning.Tree.{Name, Expr}
use Rattle.task_ast.specs.View.{plain_expr, plain_exprs}
use Rattle.task_ast.specs.meaning.Names.{is_name}
use Rattle.rule_blame.specs.declared.entries.Entry.{Entry}
use Rattle.rule_blame.specs.Uses.{Used, names_of, argument_names}
use Rattle.rule_blame.specs.DeclaredNames as plain
use Rattle.rule_blame.specs.Views.{entry_of, entries_in, decides_at}

pub ruleset appends = (append_assoc, append-nil)

arguments_next : (params : List Param) (e : Expr) (es : List Expr) (i : ℕ)
    → argument_names (drop i params) (e ∷ es) ≡ names_of (decides_at params i) e ++ argument_names (drop (suc i) params) es
arguments_next [] e es zero = refl
arguments_next [] e es (suc i) = refl
arguments_next (p ∷ params) e es zero = refl
arguments_next (p ∷ params) e es (suc i) = arguments_next params e es i

-- the next argument, where so many parameters and arguments are passed
pub arguments_at : (params : List Param) (e : Expr) (es : List Expr) (i : ℕ)
    → argument_names (drop i params) (e ∷ es) ≡ names_of (decides_at params i) e ++ argument_names (drop (i + 1) params) es
arguments_at params e es i =
    arguments_next params e es i
    ∙ ap (λ n. names_of (decides_at params i) e ++ argument_names (drop n params) es) (sym (add-one i))

same_bytes : (x y : Name) → is_name x y ≡ true → x ≡ y
same_bytes x y e = (bytes_eq-Decides x y).0 e

pub entry_among : (entries : List Entry) (i : ℕ) (e : Entry) (name : Name) → i < length entries → e ≡ get_or entries i e
    → is_name name e.name.now ≡ true → Contains (entries_in entries) (name, e.line)
entry_among entries i e name within is same = (
  i,
  omega (arith, length-map entries entry_of),
  get_or-map entry_of entries i e (name, e.line) within ∙ ap entry_of (sym is)
      ∙ ap (λ (x : Name). (x, e.line)) (sym (same_bytes name e.name.now same)),
)

-- what was put in for the next argument, and what is left
pub arguments_step : (params : List Param) (arguments : List CodeExpr) (i : ℕ) (e : CodeExpr) (old new : List Used) (decides : Bool)
    → i < length arguments → e ≡ get_or arguments i e → decides ≡ decides_at params i → new ≡ old ++ names_of decides (plain_expr e)
    → new ++ argument_names (drop (i + 1) params) (plain_exprs (drop (i + 1) arguments))
    ≡ old ++ argument_names (drop i params) (plain_exprs (drop i arguments))
arguments_step params arguments i e old new decides within is same put =
    let left = argument_names (drop (i + 1) params) (plain_exprs (drop (i + 1) arguments)) in
    ap (λ (l : List Used). l ++ left) put ∙ append_assoc old (names_of decides (plain_expr e)) left
    ∙ ap (λ (l : List Used). old ++ l)
    (ap (λ (d : Bool). names_of d (plain_expr e) ++ left) same
    ∙ sym (arguments_at params (plain_expr e) (plain_exprs (drop (i + 1) arguments)) i)
    ∙ ap (λ (l : List CodeExpr). argument_names (drop i params) (plain_exprs l))
    (sym (drop_more arguments i e within ∙ ap (λ (y : CodeExpr). y ∷ drop (i + 1) arguments) (sym is))))
