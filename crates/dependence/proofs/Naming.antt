-- The record cells that actions name, and the locks over them. Naming only adds cells (Sub), so that what some actions
-- name is named by all of them. Where each action names only cells that pass a test, so does what all of them name
-- (Pass). Locations in footprints are maps of these lists, and a member of a map comes from a member.
use Rattle.std.proofs.Common.{◌≡◌, ◌⊎◌, inl, inr, ℕ, zero, suc, Bool, true, false, cond, List, [], ◌∷◌, map, refl, sym, ap, subst, ◌∙◌, nat_eq, nat_lt, ◌||◌, Contains, get_or, length, ◌<◌, arith}
use Rattle.std.proofs.lemmas.Bool.{or_left, or_right, or_cases, eqb-true, eq-eqb, false≢true}
use Rattle.gp_base.specs.declared.footprint.Loc.{Loc}
use Rattle.gp_base.specs.declared.footprint.Loc.TheVariants as loc
use Rattle.task_ast.specs.meaning.Action.{Action, Set, Load, Store, Say, Choose, Child, Give, Bring, Arm, NoAction, OneAction}
use Rattle.task_ast.specs.meaning.Footprint.{with_cell, Named, naming, arm_naming, all_naming, named_by}
use Rattle.task_ast.specs.laws.Keeps.{NamesOnly, ArmNamesOnly, AllName, WritesOnly, ArmWritesOnly, AllWrite}
use Rattle.dependence.specs.meaning.Dependents.{is_member}
use Rattle.dependence.proofs.Struck.{Contains-head, Contains-later}

-- ---- one cell more

pub cell-here : (c : ℕ) (cells : List ℕ) → is_member c (with_cell c cells) ≡ true
cell-here c [] = or_left (nat_eq c c) false (eq-eqb c c refl)
cell-here c (d ∷ cells) = go (nat_lt c d) (nat_eq c d) refl (cell-here c cells)
  where
    go : (less same : Bool) → nat_eq c d ≡ same → is_member c (with_cell c cells) ≡ true
        → is_member c (cond less (c ∷ d ∷ cells) (cond same (d ∷ cells) (d ∷ with_cell c cells))) ≡ true
    go true same e ih = or_left (nat_eq c c) _ (eq-eqb c c refl)
    go false true e ih = or_left (nat_eq c d) _ e
    go false false e ih = or_right (nat_eq c d) _ ih

pub cell-kept : (c x : ℕ) (cells : List ℕ) → is_member x cells ≡ true → is_member x (with_cell c cells) ≡ true
cell-kept c x [] e = absurd (false≢true e)
cell-kept c x (d ∷ cells) e = go (nat_lt c d) (nat_eq c d) (cell-kept c x cells)
  where
    go : (less same : Bool) → (is_member x cells ≡ true → is_member x (with_cell c cells) ≡ true)
        → is_member x (cond less (c ∷ d ∷ cells) (cond same (d ∷ cells) (d ∷ with_cell c cells))) ≡ true
    go true same ih = or_right (nat_eq x c) _ e
    go false true ih = e
    go false false ih =
        elim (or_cases (nat_eq x d) (is_member x cells) e) [
          | inl this ↦ or_left (nat_eq x d) _ this
          | inr other ↦ or_right (nat_eq x d) _ (ih other)
        ]

pub cell-cases : (c x : ℕ) (cells : List ℕ) → is_member x (with_cell c cells) ≡ true → (x ≡ c) ⊎ (is_member x cells ≡ true)
cell-cases c x [] e = elim (or_cases (nat_eq x c) false e) [ inl this ↦ inl (eqb-true x c this) | inr other ↦ absurd (false≢true other) ]
cell-cases c x (d ∷ cells) e = go (nat_lt c d) (nat_eq c d) e (cell-cases c x cells)
  where
    go : (less same : Bool) → is_member x (cond less (c ∷ d ∷ cells) (cond same (d ∷ cells) (d ∷ with_cell c cells))) ≡ true
        → (is_member x (with_cell c cells) ≡ true → (x ≡ c) ⊎ (is_member x cells ≡ true)) → (x ≡ c) ⊎ (is_member x (d ∷ cells) ≡ true)
    go true same f ih =
        elim (or_cases (nat_eq x c) (is_member x (d ∷ cells)) f) [ inl this ↦ inl (eqb-true x c this) | inr other ↦ inr other ]
    go false true f ih = inr f
    go false false f ih =
        elim (or_cases (nat_eq x d) (is_member x (with_cell c cells)) f) [
          | inl this ↦ inr (or_left (nat_eq x d) _ this)
          | inr other ↦ elim (ih other) [ inl same ↦ inl same | inr old ↦ inr (or_right (nat_eq x d) _ old) ]
        ]

-- ---- naming only adds cells

pub record Sub (n m : Named) : Type 0 where
  pub reads : (x : ℕ) → is_member x n.reads ≡ true → is_member x m.reads ≡ true
  pub writes : (x : ℕ) → is_member x n.writes ≡ true → is_member x m.writes ≡ true

sub_same : (n : Named) → Sub n n
sub_same n = record { reads = λ x e. e; writes = λ x e. e }

sub_then : {a b c : Named} → Sub a b → Sub b c → Sub a c
sub_then f g = record { reads = λ x e. g.reads x (f.reads x e); writes = λ x e. g.writes x (f.writes x e) }

mutual
  naming-adds : (a : Action) (n : Named) → Sub n (naming a n)
  naming-adds (Set k t) n = sub_same n
  naming-adds (Load c k) n = record { reads = λ x e. cell-kept c x n.reads e; writes = λ x e. e }
  naming-adds (Store c t) n = record { reads = λ x e. e; writes = λ x e. cell-kept c x n.writes e }
  naming-adds (Say ts) n = sub_same n
  naming-adds (Choose t a b) n = sub_then (arm-adds a n) (arm-adds b (arm_naming a n))
  naming-adds (Child count) n = sub_same n
  naming-adds (Give k t) n = sub_same n
  naming-adds (Bring k) n = sub_same n

  arm-adds : (arm : Arm) (n : Named) → Sub n (arm_naming arm n)
  arm-adds NoAction n = sub_same n
  arm-adds (OneAction a arm) n = sub_then (naming-adds a n) (arm-adds arm (naming a n))

all-adds : (actions : List Action) (n : Named) → Sub n (all_naming actions n)
all-adds [] n = sub_same n
all-adds (a ∷ actions) n = sub_then (naming-adds a n) (all-adds actions (naming a n))

-- ---- what is named passes a test that passes all of it

pub record Pass (reads writes : ℕ → Bool) (n : Named) : Type 0 where
  pub read : (x : ℕ) → is_member x n.reads ≡ true → reads x ≡ true
  pub written : (x : ℕ) → is_member x n.writes ≡ true → writes x ≡ true

pass_less : {reads writes : ℕ → Bool} {n m : Named} → Sub n m → Pass reads writes m → Pass reads writes n
pass_less sub pass = record { read = λ x e. pass.read x (sub.reads x e); written = λ x e. pass.written x (sub.writes x e) }

module _ (test : ℕ → Bool) where
  mutual
    names-so : (a : Action) (n : Named) → Pass test test (naming a n) → NamesOnly test a
    names-so (Set k t) n pass = tt
    names-so (Load c k) n pass = pass.read c (cell-here c n.reads)
    names-so (Store c t) n pass = pass.written c (cell-here c n.writes)
    names-so (Say ts) n pass = tt
    names-so (Choose t a b) n pass = (arm-so a n (pass_less (arm-adds b (arm_naming a n)) pass), arm-so b (arm_naming a n) pass)
    names-so (Child count) n pass = tt
    names-so (Give k t) n pass = tt
    names-so (Bring k) n pass = tt

    arm-so : (arm : Arm) (n : Named) → Pass test test (arm_naming arm n) → ArmNamesOnly test arm
    arm-so NoAction n pass = tt
    arm-so (OneAction a arm) n pass = (names-so a n (pass_less (arm-adds arm (naming a n)) pass), arm-so arm (naming a n) pass)

  all-so : (actions : List Action) (n : Named) → Pass test test (all_naming actions n) → AllName test actions
  all-so [] n pass = tt
  all-so (a ∷ actions) n pass = (names-so a n (pass_less (all-adds actions (naming a n)) pass), all-so actions (naming a n) pass)

  mutual
    writes-so : (a : Action) (n : Named) → Pass (λ x. true) test (naming a n) → WritesOnly test a
    writes-so (Set k t) n pass = tt
    writes-so (Load c k) n pass = tt
    writes-so (Store c t) n pass = pass.written c (cell-here c n.writes)
    writes-so (Say ts) n pass = tt
    writes-so (Choose t a b) n pass = (arm-writes a n (pass_less (arm-adds b (arm_naming a n)) pass), arm-writes b (arm_naming a n) pass)
    writes-so (Child count) n pass = tt
    writes-so (Give k t) n pass = tt
    writes-so (Bring k) n pass = tt

    arm-writes : (arm : Arm) (n : Named) → Pass (λ x. true) test (arm_naming arm n) → ArmWritesOnly test arm
    arm-writes NoAction n pass = tt
    arm-writes (OneAction a arm) n pass = (writes-so a n (pass_less (arm-adds arm (naming a n)) pass), arm-writes arm (naming a n) pass)

  all-writes : (actions : List Action) (n : Named) → Pass (λ x. true) test (all_naming actions n) → AllWrite test actions
  all-writes [] n pass = tt
  all-writes (a ∷ actions) n pass = (writes-so a n (pass_less (all-adds actions (naming a n)) pass), all-writes actions (naming a n) pass)

-- the actions name the cells that they name
pub names-named : (actions : List Action)
    → AllName (λ x. is_member x (named_by actions).reads || is_member x (named_by actions).writes) actions
names-named actions =
    all-so (λ x. is_member x (named_by actions).reads || is_member x (named_by actions).writes) actions (record { reads = []; writes = [] })
    (record {
      read = λ x e. or_left (is_member x (named_by actions).reads) (is_member x (named_by actions).writes) e;
      written = λ x e. or_right (is_member x (named_by actions).reads) (is_member x (named_by actions).writes) e;
    })

pub writes-named : (actions : List Action) → AllWrite (λ x. is_member x (named_by actions).writes) actions
writes-named actions =
    all-writes (λ x. is_member x (named_by actions).writes) actions (record { reads = []; writes = [] })
    (record { read = λ x e. refl; written = λ x e. e })

-- ---- where actions name only cells that pass, what is named passes

module _ (test : ℕ → Bool) where
  with-passing : (c x : ℕ) (cells : List ℕ) → test c ≡ true → (is_member x cells ≡ true → test x ≡ true)
      → is_member x (with_cell c cells) ≡ true → test x ≡ true
  with-passing c x cells passes old e = elim (cell-cases c x cells e) [ inl same ↦ ap test same ∙ passes | inr before ↦ old before ]

  mutual
    passes-so : (a : Action) (n : Named) → NamesOnly test a → Pass test test n → Pass test test (naming a n)
    passes-so (Set k t) n names pass = pass
    passes-so (Load c k) n names pass = record { read = λ x e. with-passing c x n.reads names (pass.read x) e; written = pass.written }
    passes-so (Store c t) n names pass = record { read = pass.read; written = λ x e. with-passing c x n.writes names (pass.written x) e }
    passes-so (Say ts) n names pass = pass
    passes-so (Choose t a b) n names pass = arm-passes b (arm_naming a n) names.1 (arm-passes a n names.0 pass)
    passes-so (Child count) n names pass = pass
    passes-so (Give k t) n names pass = pass
    passes-so (Bring k) n names pass = pass

    arm-passes : (arm : Arm) (n : Named) → ArmNamesOnly test arm → Pass test test n → Pass test test (arm_naming arm n)
    arm-passes NoAction n names pass = pass
    arm-passes (OneAction a arm) n names pass = arm-passes arm (naming a n) names.1 (passes-so a n names.0 pass)

  all-passes : (actions : List Action) (n : Named) → AllName test actions → Pass test test n → Pass test test (all_naming actions n)
  all-passes [] n names pass = pass
  all-passes (a ∷ actions) n names pass = all-passes actions (naming a n) names.1 (passes-so a n names.0 pass)

  pub named-passes : (actions : List Action) → AllName test actions → Pass test test (named_by actions)
  named-passes actions names =
      all-passes actions (record { reads = []; writes = [] }) names
      (record { read = λ x e. absurd (false≢true e); written = λ x e. absurd (false≢true e) })

-- ---- locations in footprints

-- a member of a map comes from a member
pub from-map : (cells : List ℕ) (l : Loc) → Contains (map loc.Rec cells) l → (c : ℕ) × (l ≡ loc.Rec c) × (is_member c cells ≡ true)
from-map cells l h = go cells h.0 h.1 h.2
  where
    go : (xs : List ℕ) (k : ℕ) → k < length (map loc.Rec xs) → get_or (map loc.Rec xs) k l ≡ l
        → (c : ℕ) × (l ≡ loc.Rec c) × (is_member c xs ≡ true)
    go [] k less e = absurd (omega arith)
    go (x ∷ xs) zero less e = (x, sym e, or_left (nat_eq x x) _ (eq-eqb x x refl))
    go (x ∷ xs) (suc k) less e = let rest = go xs k (omega arith) e in (rest.0, rest.1, or_right (nat_eq rest.0 x) _ rest.2)

pub to-map : (cells : List ℕ) (c : ℕ) → is_member c cells ≡ true → Contains (map loc.Rec cells) (loc.Rec c)
to-map [] c e = absurd (false≢true e)
to-map (x ∷ xs) c e =
    elim (or_cases (nat_eq c x) (is_member c xs) e) [
      | inl this ↦
          subst (λ y. Contains (map loc.Rec (x ∷ xs)) (loc.Rec y)) (sym (eqb-true c x this)) (Contains-head (loc.Rec x) (map loc.Rec xs))
      | inr other ↦ Contains-later (loc.Rec x) (map loc.Rec xs) (loc.Rec c) (to-map xs c other)
    ]
