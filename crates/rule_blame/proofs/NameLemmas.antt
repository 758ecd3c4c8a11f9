-- Names among those of two lists of variables.
use Rattle.std.proofs.Common.{◌≡◌, ◌∙◌, ◌<◌, ◌+◌, ℕ, Bool, true, false, List, [], ◌∷◌, ◌++◌, length, get_or, drop, refl, ap, sym}
use Rattle.std.specs.Prelude.{◌||◌}
use Rattle.std.proofs.lemmas.List.{at_drop_more}
use Rattle.std.proofs.lemmas.List.Folds.{list_any-append}
use Rattle.task_ast.specs.declared.tree.VarLine.{VarLine}
use Rattle.task_ast.specs.declared.tree.Param.{Param}
use Rattle.task_ast.specs.declared.tree.Param.TheVariants as param
use Rattle.task_ast.specs.meaning.Tree.{Name}
use Rattle.task_ast.specs.meaning.Names.{is_name, is_among, controls, datas, declared_in}

controls-append : (a b : List Param) → controls (a ++ b) ≡ controls a ++ controls b
controls-append [] b = refl
controls-append (param.Ctl x ∷ a) b = ap (λ (l : List Name). x ∷ l) (controls-append a b)
controls-append (param.Reg x ∷ a) b = controls-append a b

datas-append : (a b : List Param) → datas (a ++ b) ≡ datas a ++ datas b
datas-append [] b = refl
datas-append (param.Ctl x ∷ a) b = datas-append a b
datas-append (param.Reg x ∷ a) b = ap (λ (l : List Name). x ∷ l) (datas-append a b)

pub among-controls : (x : Name) (a b : List Param) → is_among x (controls (a ++ b)) ≡ (is_among x (controls a) || is_among x (controls b))
among-controls x a b = ap (is_among x) (controls-append a b) ∙ list_any-append (is_name x) (controls a) (controls b)

pub among-datas : (x : Name) (a b : List Param) → is_among x (datas (a ++ b)) ≡ (is_among x (datas a) || is_among x (datas b))
among-datas x a b = ap (is_among x) (datas-append a b) ∙ list_any-append (is_name x) (datas a) (datas b)

module _ (x : Name) (lines : List VarLine) (i : ℕ) (v : VarLine) (within : i < length lines) (is : v ≡ get_or lines i v) where
  pub control_next : is_among x (controls (declared_in (drop i lines)))
      ≡ (is_among x (controls v.names) || is_among x (controls (declared_in (drop (i + 1) lines))))
  control_next =
      at_drop_more (λ (l : List VarLine). is_among x (controls (declared_in l))) lines i v within
      ∙ ap (λ (w : VarLine). is_among x (controls (declared_in (w ∷ drop (i + 1) lines)))) (sym is)
      ∙ among-controls x v.names (declared_in (drop (i + 1) lines))

  pub data_next : is_among x (datas (declared_in (drop i lines)))
      ≡ (is_among x (datas v.names) || is_among x (datas (declared_in (drop (i + 1) lines))))
  data_next =
      at_drop_more (λ (l : List VarLine). is_among x (datas (declared_in l))) lines i v within
      ∙ ap (λ (w : VarLine). is_among x (datas (declared_in (w ∷ drop (i + 1) lines)))) (sym is)
      ∙ among-datas x v.names (declared_in (drop (i + 1) lines))

-- one or another, of which the one is known
pub or_found : (a b : Bool) (whole : Bool) → (a || b) ≡ whole → a ≡ true → true ≡ whole
or_found true b whole e f = e
or_found false b whole e f = absurd (cc)

pub or_later : (a b : Bool) (whole : Bool) → (a || b) ≡ whole → a ≡ false → b ≡ whole
or_later false b whole e f = e
or_later true b whole e f = absurd (cc)

pub ruleset among_parts = (among-controls, among-datas)
