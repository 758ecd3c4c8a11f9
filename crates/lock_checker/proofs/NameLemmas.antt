-- Names among declared variables.
use Rattle.std.proofs.Common.{◌≡◌, ℕ, ◌+◌, ◌<◌, List, [], ◌∷◌, ◌++◌, Bool, refl, ap, ◌∙◌, sym, length, get_or, drop}
use Rattle.std.specs.Prelude.{◌||◌}
use Rattle.std.proofs.lemmas.List.{at_drop_more}
use Rattle.std.proofs.lemmas.List.Folds.{list_any-append}
use Rattle.task_ast.specs.declared.tree.Param.{Param}
use Rattle.task_ast.specs.declared.tree.Param.TheVariants as param
use Rattle.task_ast.specs.declared.tree.VarLine.{VarLine}
use Rattle.task_ast.specs.meaning.Tree.{Name}
use Rattle.task_ast.specs.meaning.Names.{is_name, is_among, controls, datas, declared_in}

pub controls-append : (a b : List Param) → controls (a ++ b) ≡ controls a ++ controls b
controls-append [] b = refl
controls-append (param.Ctl x ∷ a) b = ap (λ l. x ∷ l) (controls-append a b)
controls-append (param.Reg x ∷ a) b = controls-append a b

pub datas-append : (a b : List Param) → datas (a ++ b) ≡ datas a ++ datas b
datas-append [] b = refl
datas-append (param.Ctl x ∷ a) b = datas-append a b
datas-append (param.Reg x ∷ a) b = ap (λ l. x ∷ l) (datas-append a b)

pub among-controls : (x : Name) (a b : List Param) → is_among x (controls (a ++ b)) ≡ (is_among x (controls a) || is_among x (controls b))
among-controls x a b = ap (is_among x) (controls-append a b) ∙ list_any-append (is_name x) (controls a) (controls b)

pub among-datas : (x : Name) (a b : List Param) → is_among x (datas (a ++ b)) ≡ (is_among x (datas a) || is_among x (datas b))
among-datas x a b = ap (is_among x) (datas-append a b) ∙ list_any-append (is_name x) (datas a) (datas b)

pub ruleset among_parts = (among-controls, among-datas)

module _ (x : Name) (lines : List VarLine) (i : ℕ) (v : VarLine) (within : i < length lines)
    (is : v ≡ get_or lines i v) (first : Bool) where
  -- a name stands in what is left of the var lines where it stands in the first of them or after it
  pub control_left : first ≡ is_among x (controls v.names)
      → is_among x (controls (declared_in (drop i lines))) ≡ (first || is_among x (controls (declared_in (drop (i + 1) lines))))
  control_left stands =
      at_drop_more (λ l. is_among x (controls (declared_in l))) lines i v within
      ∙ ap (λ (y : VarLine). is_among x (controls (y.names ++ declared_in (drop (i + 1) lines)))) (sym is)
      ∙ among-controls x v.names (declared_in (drop (i + 1) lines))
      ∙ ap (λ b. b || is_among x (controls (declared_in (drop (i + 1) lines)))) (sym stands)

  pub data_left : first ≡ is_among x (datas v.names)
      → is_among x (datas (declared_in (drop i lines))) ≡ (first || is_among x (datas (declared_in (drop (i + 1) lines))))
  data_left stands =
      at_drop_more (λ l. is_among x (datas (declared_in l))) lines i v within
      ∙ ap (λ (y : VarLine). is_among x (datas (y.names ++ declared_in (drop (i + 1) lines)))) (sym is)
      ∙ among-datas x v.names (declared_in (drop (i + 1) lines))
      ∙ ap (λ b. b || is_among x (datas (declared_in (drop (i + 1) lines)))) (sym stands)
