-- Which thread owns the lock of each holding, and that no two holdings name one lock.
use Rattle.std.proofs.Common.{◌≡◌, inl, inr, ℕ, zero, suc, ◌+◌, ◌<◌, Bool, true, false, cond, List, [], ◌∷◌, ◌++◌, length, Contains, Option, Some, None, unwrap_or, refl, sym, ap, ◌∙◌, subst, arith}
use Rattle.std.specs.Prelude.{◌⊎◌, replicate, not, slice_set, nat_eq}
use Rattle.std.proofs.lemmas.Bool.{eq-eqb}
use Rattle.std.proofs.lemmas.List.Elements.{Contains-append_right}
use Rattle.task_ast.specs.Table.{owner_in}
use Rattle.task_ast.specs.declared.sync.SyncOp.{SyncOp}
use Rattle.task_ast.specs.declared.sync.SyncOp.TheVariants as sync
use Rattle.task_ast.specs.meaning.Held.{Pair, same_pair}
use Rattle.task_ast.specs.meaning.Table.{owned_from}
use Rattle.task_ast.specs.meaning.Turn.{owners_after}
use Rattle.lock_checker.specs.WalkLaw.{Holding, released}
use Rattle.lock_checker.specs.Soundness.{Each, Apart, HasCell}
use Rattle.task_ast.proofs.IssuedTables.{get_set_here, get_set_other, length_set}

abbrev pub Owners : Type 0
Owners = List (Option ℕ)

pub each_then : (P Q : Holding → Type 0) → ((h : Holding) → P h → Q h) → (held : List Holding) → Each P held → Each Q held
each_then P Q then_it [] all = tt
each_then P Q then_it (h ∷ held) all = (then_it h all.0, each_then P Q then_it held all.1)

pub each_push : (P : Holding → Type 0) (held : List Holding) (h : Holding) → Each P held → P h → Each P (held ++ h ∷ [])
each_push P [] h all new = (new, tt)
each_push P (k ∷ held) h all new = (all.0, each_push P held h all.1 new)

-- what is left passes, and is of other pairs
pub each_left : (P Q : Holding → Type 0) (p : Pair) → ((h : Holding) → same_pair p h.pair ≡ false → P h → Q h) → (held : List Holding)
    → Each P held → Each Q (released held p)
each_left P Q p then_it [] all = tt
each_left P Q p then_it (h ∷ held) all = go (same_pair p h.pair) refl (each_left P Q p then_it held all.1)
  where
    go : (b : Bool) → same_pair p h.pair ≡ b → Each Q (released held p) → Each Q (cond (not b) (h ∷ released held p) (released held p))
    go true e rest = rest
    go false e rest = (then_it h e all.0, rest)

pub both : (P Q : Holding → Type 0) (held : List Holding) → Each P held → Each Q held → Each (λ h. P h × Q h) held
both P Q [] all also = tt
both P Q (h ∷ held) all also = ((all.0, also.0), both P Q held all.1 also.1)

-- a holding of a cell that no other has
pub apart_push : (held : List Holding) (h : Holding) → Apart held → Each (λ k. k.cell ≡ h.cell → ⊥) held → Apart (held ++ h ∷ [])
apart_push held h apart new =
    each_push (λ k. Each (λ j. k.cell ≡ j.cell → k.pair ≡ j.pair) (held ++ h ∷ [])) held h
    (each_then (λ k. Each (λ j. k.cell ≡ j.cell → k.pair ≡ j.pair) held × (k.cell ≡ h.cell → ⊥))
    (λ k. Each (λ j. k.cell ≡ j.cell → k.pair ≡ j.pair) (held ++ h ∷ []))
    (λ k both. each_push (λ j. k.cell ≡ j.cell → k.pair ≡ j.pair) held h both.0 (λ e. absurd (both.1 e)))
    held (both (λ k. Each (λ j. k.cell ≡ j.cell → k.pair ≡ j.pair) held) (λ k. k.cell ≡ h.cell → ⊥) held apart new))
    (each_push (λ j. h.cell ≡ j.cell → h.pair ≡ j.pair) held h
    (each_then (λ k. k.cell ≡ h.cell → ⊥) (λ j. h.cell ≡ j.cell → h.pair ≡ j.pair) (λ k ne e. absurd (ne (sym e))) held new) (λ e. refl))

pub apart_left : (held : List Holding) (p : Pair) → Apart held → Apart (released held p)
apart_left held p apart =
    each_left (λ h. Each (λ k. h.cell ≡ k.cell → h.pair ≡ k.pair) held)
    (λ h. Each (λ k. h.cell ≡ k.cell → h.pair ≡ k.pair) (released held p)) p
    (λ h e all. each_left (λ k. h.cell ≡ k.cell → h.pair ≡ k.pair) (λ k. h.cell ≡ k.cell → h.pair ≡ k.pair) p (λ k e same. same) held all)
    held apart

-- ---- which cells are held

pub has_old : (held : List Holding) (h : Holding) (m : ℕ) → HasCell held m → HasCell (held ++ h ∷ []) m
has_old [] h m has = absurd has
has_old (k ∷ held) h m (inl e) = inl e
has_old (k ∷ held) h m (inr has) = inr (has_old held h m has)

pub has_new : (held : List Holding) (h : Holding) → HasCell (held ++ h ∷ []) h.cell
has_new [] h = inl refl
has_new (k ∷ held) h = inr (has_new held h)

-- what is left has all other cells than that of the pair
pub has_left : (held : List Holding) (p : Pair) (l m : ℕ) → Each (λ k. same_pair p k.pair ≡ true → k.cell ≡ l) held → (m ≡ l → ⊥)
    → HasCell held m → HasCell (released held p) m
has_left [] p l m cells ne has = absurd has
has_left (h ∷ held) p l m cells ne has = go (same_pair p h.pair) refl has (has_left held p l m cells.1 ne)
  where
    go : (b : Bool) → same_pair p h.pair ≡ b → (h.cell ≡ m) ⊎ HasCell held m → (HasCell held m → HasCell (released held p) m)
        → HasCell (cond (not b) (h ∷ released held p) (released held p)) m
    go true e (inl is) rest = absurd (ne (sym is ∙ cells.0 e))
    go true e (inr later) rest = rest later
    go false e (inl is) rest = inl is
    go false e (inr later) rest = inr (rest later)

-- at first no lock has an owner
pub first_free : (n lock t : ℕ) → owner_in (replicate n None) lock ≡ Some t → ⊥
first_free zero lock t e = cc e
first_free (suc n) zero t e = cc e
first_free (suc n) (suc lock) t e = first_free n lock t e

-- ---- owners after a lock or an unlock

pub set_here : (owners : Owners) (l : ℕ) (o : Option ℕ) → l < length owners → owner_in (slice_set owners l o) l ≡ o
set_here owners l o less = ap (λ x. unwrap_or x None) (get_set_here owners l o less)

pub set_other : (owners : Owners) (l m : ℕ) (o : Option ℕ) → (m ≡ l → ⊥) → owner_in (slice_set owners l o) m ≡ owner_in owners m
set_other owners l m o ne = ap (λ x. unwrap_or x None) (get_set_other owners l m o ne)

pub owners_length : (op : SyncOp) (t : ℕ) (owners : Owners) → length (owners_after op t owners) ≡ length owners
owners_length (sync.Lock l) t owners = length_set owners l (Some t)
owners_length (sync.Unlock l) t owners = length_set owners l None
owners_length _ t owners = refl

-- the lock cells of a thread stand in the list of those that it owns
pub owned_has : (owners : Owners) (n t l : ℕ) → owner_in owners l ≡ Some t → Contains (owned_from n owners t) (n + l)
owned_has [] n t l e = absurd (cc e)
owned_has (None ∷ owners) n t zero e = absurd (cc e)
owned_has (None ∷ owners) n t (suc l) e = subst (Contains (owned_from (suc n) owners t)) (omega arith) (owned_has owners (suc n) t l e)
owned_has (Some owner ∷ owners) n t zero e =
    let same : owner ≡ t = ap (λ o. unwrap_or o owner) e in
    rw (eq-eqb t owner (sym same)) (0, omega arith, omega arith)
owned_has (Some owner ∷ owners) n t (suc l) e =
    go (nat_eq t owner) (subst (Contains (owned_from (suc n) owners t)) (omega arith) (owned_has owners (suc n) t l e))
  where
    go : (b : Bool) → Contains (owned_from (suc n) owners t) (n + suc l)
        → Contains (cond b (n ∷ owned_from (suc n) owners t) (owned_from (suc n) owners t)) (n + suc l)
    go true there = Contains-append_right (n ∷ []) (owned_from (suc n) owners t) (n + suc l) there
    go false there = there
