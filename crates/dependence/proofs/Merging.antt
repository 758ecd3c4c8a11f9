-- Lists of locations that rise are searched for a shared one in one pass.
use Rattle.std.proofs.Common.{◌≡◌, inl, inr, ℕ, ◌+◌, ◌-◌, ◌<◌, ◌≤◌, List, length, Contains, Some, get_or, sym, ap, subst, ◌∙◌, arith}
use Rattle.std.specs.Prelude.{slice_get}
use Rattle.std.proofs.lemmas.Bool.{cases_eq, cases_lt}
use Rattle.std.proofs.lemmas.Option.{slice_get-get_or, slice_get_within}
use Rattle.gp_base.specs.declared.footprint.Loc.{Loc}
use Rattle.gp_base.specs.declared.footprint.Loc.TheVariants.{Regs, Lock, Rec}
use Rattle.dependence.specs.Conflict.{Shared}
use Rattle.dependence.specs.inner.Rising.{kind_of, number_of, IsBelow, RisesTo, Rises, AreBelow, IsNotBelow}

-- no location comes before itself
below-other : (x : Loc) → ¬ IsBelow x x
below-other x (inl l) = omega arith
below-other x (inr l) = let m = l.1 in omega arith

below-then : (x y z : Loc) → IsBelow x y → IsBelow y z → IsBelow x z
below-then x y z (inl l) (inl m) = inl (omega arith)
below-then x y z (inl l) (inr m) = inl (let e = m.0 in omega arith)
below-then x y z (inr l) (inl m) = inl (let e = l.0 in omega arith)
below-then x y z (inr l) (inr m) = inr (l.0 ∙ m.0, (let a = l.1 in let b = m.1 in omega arith))

same-location : (x y : Loc) → kind_of x ≡ kind_of y → number_of x ≡ number_of y → x ≡ y
same-location (Regs a) (Regs b) kind number = ap Regs number
same-location (Lock a) (Lock b) kind number = ap Lock number
same-location (Rec a) (Rec b) kind number = ap Rec number
same-location (Regs a) (Lock b) kind number = absurd (omega arith)
same-location (Regs a) (Rec b) kind number = absurd (omega arith)
same-location (Lock a) (Regs b) kind number = absurd (omega arith)
same-location (Lock a) (Rec b) kind number = absurd (omega arith)
same-location (Rec a) (Regs b) kind number = absurd (omega arith)
same-location (Rec a) (Lock b) kind number = absurd (omega arith)

-- of two that differ one comes before the other
below-or : (x y : Loc) → ¬ IsBelow x y → (x ≡ y → ⊥) → IsBelow y x
below-or x y not_below apart =
    elim (cases_eq (kind_of x) (kind_of y)) [
      | inl kind ↦ elim (cases_eq (number_of x) (number_of y)) [
        | inl number ↦ absurd (apart (same-location x y kind number))
        | inr ne ↦ elim (cases_lt (number_of x) (number_of y)) [
          | inl l ↦ absurd (not_below (inr (kind, l)))
          | inr l ↦ inr (sym kind, (omega arith))
        ]
      ]
      | inr ne ↦ elim (cases_lt (kind_of x) (kind_of y)) [
        | inl l ↦ absurd (not_below (inl l))
        | inr l ↦ inl (omega arith)
      ]
    ]

-- one more location rises where the one before it is below it
pub rises-more : (locations : List Loc) (many : ℕ) (x y : Loc) → 1 ≤ many → RisesTo locations many → slice_get locations (many - 1) ≡ Some x
    → slice_get locations many ≡ Some y
    → IsBelow x y → RisesTo locations (many + 1)
rises-more locations many x y some so_far at_x at_y below j k v w l within at_v at_w =
    elim (cases_eq k many) [
      | inl same ↦
          (let both : Some y ≡ Some w = sym at_y ∙ (ap (slice_get locations) (sym same) ∙ at_w) in
          let is : y ≡ w = cc both in
          subst (IsBelow v) is (before j v (omega arith) at_v))
      | inr ne ↦ so_far j k v w l (omega arith) at_v at_w
    ]
  where
    before : (j : ℕ) (v : Loc) → j < many → slice_get locations j ≡ Some v → IsBelow v y
    before j v l at_v =
        elim (cases_eq j (many - 1)) [
          | inl same ↦
              (let both : Some x ≡ Some v = sym at_x ∙ (ap (slice_get locations) (sym same) ∙ at_v) in
              let is : x ≡ v = cc both in
              subst (λ z. IsBelow z y) is below)
          | inr ne ↦ below-then v x y (so_far j (many - 1) v x (omega arith) (omega arith) at_v at_x) below
        ]

-- one more that is below the location
pub below-more : (locations : List Loc) (many : ℕ) (x loc : Loc) → AreBelow locations many loc → slice_get locations many ≡ Some x
    → IsBelow x loc → AreBelow locations (many + 1) loc
below-more locations many x loc so_far at_x below k v l at_v =
    elim (cases_eq k many) [
      | inl same ↦
          (let both : Some x ≡ Some v = sym at_x ∙ (ap (slice_get locations) (sym same) ∙ at_v) in
          let is : x ≡ v = cc both in
          subst (λ z. IsBelow z loc) is below)
      | inr ne ↦ so_far k v (omega arith) at_v
    ]

-- those below a location are below the next one of a list that rises
pub below-next : (left right : List Loc) (many i : ℕ) (x y : Loc) → Rises left → slice_get left i ≡ Some x → slice_get left (i + 1) ≡ Some y
    → AreBelow right many x → AreBelow right many y
below-next left right many i x y rises at_x at_y below k v l at_v =
    below-then v x y (below k v l at_v) (rises i (i + 1) x y (omega arith) (slice_get_within left (i + 1) y at_y) at_x at_y)

-- a location that stands neither before the place nor there does not stand in a list that rises
pub stands-nowhere : (right : List Loc) (place : ℕ) (x : Loc) → Rises right → AreBelow right place x → IsNotBelow right place x
    → (slice_get right place ≡ Some x → ⊥) → ¬ Contains right x
stands-nowhere right place x rises below above apart found =
    elim (cases_lt found.0 place) [
      | inl l ↦ below-other x (below found.0 x l there)
      | inr high ↦ elim (cases_eq found.0 place) [
        | inl same ↦ apart (ap (slice_get right) (sym same) ∙ there)
        | inr ne ↦
            (let l = found.1 in
            let y = get_or right place x in
            let at_y = slice_get-get_or right place x (omega arith) in
            above y at_y (rises place found.0 y x (omega arith) l at_y there))
      ]
    ]
  where
    there : slice_get right found.0 ≡ Some x
    there = slice_get-get_or right found.0 x found.1 ∙ ap Some found.2

-- none of the first so many of the left list stands in the right one
abbrev pub StandNowhere : (left right : List Loc) → ℕ → Type 0
StandNowhere left right many = (j : ℕ) (x : Loc) → j < many → slice_get left j ≡ Some x → ¬ Contains right x

pub nowhere-more : (left right : List Loc) (many : ℕ) (x : Loc) → StandNowhere left right many → slice_get left many ≡ Some x
    → ¬ Contains right x → StandNowhere left right (many + 1)
nowhere-more left right many x so_far at_x none j v l at_v =
    elim (cases_eq j many) [
      | inl same ↦
          (let both : Some x ≡ Some v = sym at_x ∙ (ap (slice_get left) (sym same) ∙ at_v) in
          let is : x ≡ v = cc both in
          subst (λ z. ¬ Contains right z) is none)
      | inr ne ↦ so_far j v (omega arith) at_v
    ]

pub none-shared : (left right : List Loc) (many : ℕ) → length left ≤ many → StandNowhere left right many → ¬ Shared left right
none-shared left right many all nowhere shared =
    let found = shared.1 in
    nowhere found.0 shared.0 (let l = found.1 in omega arith) (slice_get-get_or left found.0 shared.0 found.1 ∙ ap Some found.2) shared.2
