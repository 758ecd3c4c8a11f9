-- What marks tell of those that are redone.
use Rattle.std.proofs.Common.{◌≡◌, inl, inr, length-append, ℕ, ◌+◌, ◌<◌, ◌≤◌, true, false, ◌||◌, List, [], ◌∷◌, ◌++◌, length, length-drop, get_or, get_or-drop, take, drop, Option, Some, None, refl, sym, ap, subst, ◌∙◌, arith}
use Rattle.std.specs.Prelude.{slice_get}
use Rattle.std.specs.List.{list_any}
use Rattle.std.specs.Option.{option_and_then}
use Rattle.std.proofs.Math.Bool.{or-false}
use Rattle.std.proofs.lemmas.Bool.{cases_eq, false≢true, false_from_ne_true}
use Rattle.std.proofs.lemmas.List.{take-append-drop}
use Rattle.std.proofs.lemmas.List.Folds.{list_any_none, list_any-append}
use Rattle.std.proofs.lemmas.Option.{slice_get-get_or, slice_get_within}
use Rattle.gp_base.specs.declared.footprint.Footprint.{Footprint}
use Rattle.task_ast.proofs.IssuedTables.{get_last, get_push}
use Rattle.dependence.specs.Conflict.{Conflict}
use Rattle.dependence.proofs.Conflicting.{conflicting-is}
use Rattle.reorder_list.specs.declared.entry.Entry.{Entry}
use Rattle.reorder_list.specs.Entries.{known_foot}
use Rattle.restart.specs.Redo.{clash_between, clash_of}
use Rattle.reorder_list.specs.declared.touched.Touched.{Touched}
use Rattle.reorder_list.specs.Touching.{IsMarked, KeepsMarks, IsClearPast}
use Rattle.restart.specs.inner.Marked.{AllMarked}

-- what an entry touches, where there is one
abbrev pub foot_in : Option Entry → Option Footprint
foot_in o = option_and_then (λ e. e.foot) o

-- nothing is in conflict with a footprint that is not known
clash-unknown : (earlier : Option Footprint) → clash_between earlier None ≡ false
clash-unknown (Some f) = refl
clash-unknown None = refl

-- the footprint of an earlier one that is in conflict is known
clash-known : (earlier : Option Footprint) (foot : Footprint) → clash_between earlier (Some foot) ≡ true
    → (other : Footprint) × (earlier ≡ Some other) × Conflict other foot
clash-known (Some other) foot clash = (other, refl, (conflicting-is other foot).0 clash)
clash-known None foot clash = absurd (false≢true clash)

pub none-unknown : (entries : List Entry) (redo : List ℕ) (p : ℕ) → known_foot entries p ≡ None
    → list_any (λ q. clash_of entries q p) redo ≡ false
none-unknown entries redo p unknown =
    list_any_none (λ q. clash_of entries q p) redo
    (λ k d less. ap (clash_between (known_foot entries (get_or redo k d))) unknown ∙ clash-unknown (known_foot entries (get_or redo k d)))

module _ (entries : List Entry) (redo : List ℕ) (touched : Touched) (p last many : ℕ) (foot : Footprint)
    (marked : AllMarked entries redo touched) (known : known_foot entries p ≡ Some foot) (clear : IsClearPast touched last foot)
    (reaches : (k : ℕ) → many ≤ k → k < length redo → last ≤ k) where
  -- none from a place on is in conflict, where each of those has a greater mark than all that is touched
  none-past : list_any (λ q. clash_of entries q p) (drop many redo) ≡ false
  none-past = list_any_none (λ q. clash_of entries q p) (drop many redo) (λ k d less. false_from_ne_true _ (apart k d less))
    where
      apart : (k d : ℕ) → k < length (drop many redo) → clash_of entries (get_or (drop many redo) k d) p ≡ true → ⊥
      apart k d less clash =
          let size = length-drop many redo in
          let within : many + k < length redo = omega arith in
          let q = get_or redo (many + k) d in
          let here : clash_of entries q p ≡ true =
          subst (λ x. clash_of entries x p ≡ true) (get_or-drop many redo k d) clash in
          let found = clash-known (known_foot entries q) foot (sym (ap (clash_between (known_foot entries q)) known) ∙ here) in
          let far = reaches (many + k) (omega arith) within in
          clear (many + k + 1) found.0 (marked (many + k) q found.0 (slice_get-get_or redo (many + k) d within) found.1) (omega arith)
          found.2

  -- so those before it tell all
  pub first-tell : list_any (λ q. clash_of entries q p) (take many redo) ≡ list_any (λ q. clash_of entries q p) redo
  first-tell =
      let clashes = λ (q : ℕ). clash_of entries q p in
      sym (or-false (list_any clashes (take many redo))) ∙ (ap (λ b. list_any clashes (take many redo) || b) (sym none-past)
      ∙ (sym (list_any-append clashes (take many redo) (drop many redo)) ∙ ap (list_any clashes) (take-append-drop many redo)))

pub none-marked : (entries : List Entry) (touched : Touched) → AllMarked entries [] touched
none-marked entries touched k q foot at known = absurd (let less = slice_get_within [] k q at in omega arith)

pub length-push : (xs : List ℕ) (y : ℕ) → length (xs ++ y ∷ []) ≡ length xs + 1
length-push xs y = simp length-append refl

-- one more that is redone is marked
pub one-marked : (entries : List Entry) (redo : List ℕ) (before after : Touched) (p : ℕ) → AllMarked entries redo before
    → KeepsMarks before after
    → ((foot : Footprint) → known_foot entries p ≡ Some foot → IsMarked after (length redo + 1) foot)
    → AllMarked entries (redo ++ p ∷ []) after
one-marked entries redo before after p so_far kept here k q foot at known =
    elim (cases_eq k (length redo)) [
      | inl same ↦
          (let both : Some p ≡ Some q = sym (get_last redo p) ∙ (ap (slice_get (redo ++ p ∷ [])) (sym same) ∙ at) in
          let is : p ≡ q = cc both in
          rw same (here foot (subst (λ x. known_foot entries x ≡ Some foot) (sym is) known)))
      | inr ne ↦
          (let less = slice_get_within (redo ++ p ∷ []) k q at in
          let size = length-push redo p in
          let within : k < length redo = omega arith in
          kept (k + 1) foot (so_far k q foot (sym (get_push redo p k within) ∙ at) known))
    ]
