-- What is kept of positions, changed in place.
use Rattle.std.proofs.Common.{◌≡◌, inl, inr, ℕ, ◌+◌, ◌<◌, ◌≤◌, Bool, true, false, ◌||◌, List, [], ◌∷◌, ◌++◌, length, get_or, get_or-set_same, get_or-set_other, take, refl, sym, ap, ◌∙◌, subst, arith, append_assoc}
use Rattle.std.specs.Prelude.{slice_set}
use Rattle.std.proofs.lemmas.Bool.{cases_eq}
use Rattle.std.proofs.lemmas.List.{append-nil, take_more, get_or_default}
use Rattle.gp_audit.specs.declared.state.Seen.{Seen}
use Rattle.gp_audit.specs.inner.Audited.{Audited, seen_at, first_seen, taken_seen, raised_seen, changed_at, all_raised, where_applied, waits_again}

pub same-kept : (a b : Audited) → a.steps ≡ b.steps → a.faults ≡ b.faults → a.seen ≡ b.seen → a.out ≡ b.out → a.waiting ≡ b.waiting
    → a.retired ≡ b.retired → a ≡ b
same-kept a b steps faults seen out waiting retired =
    λ i. record { steps = steps i; faults = faults i; seen = seen i; out = out i; waiting = waiting i; retired = retired i }

-- a position, whatever stands in for one that isn't there
pub seen-there : (seen : List Seen) (p : ℕ) (s : Seen) → p < length seen → s ≡ get_or seen p s → s ≡ seen_at seen p
seen-there seen p s l is = is ∙ get_or_default seen p s (first_seen p) l

pub or-true : (a b v : Bool) → a ≡ true → v ≡ a → v ≡ (a || b)
or-true a b v t e = e ∙ (t ∙ sym (ap (λ x. x || b) t))

pub or-false : (a b v : Bool) → a ≡ false → v ≡ b → v ≡ (a || b)
or-false a b v f e = e ∙ sym (ap (λ x. x || b) f)

pub taken-is : (seen : List Seen) (p : ℕ) (s : Seen) (applies value : Bool) → p < length seen → s ≡ get_or seen p s
    → value ≡ (applies || s.applied)
    → slice_set seen p (record { attempt = s.attempt; begun = s.begun; posted = s.posted; applied = value; taken = true })
    ≡ changed_at (taken_seen applies) p seen
taken-is seen p s applies value l is e = rw e (ap (λ x. slice_set seen p (taken_seen applies x)) (seen-there seen p s l is))

raised-next : (front : ℕ) (redo : List ℕ) (p : ℕ) (seen : List Seen)
    → all_raised front (redo ++ p ∷ []) seen ≡ changed_at (raised_seen front) p (all_raised front redo seen)
raised-next front [] p seen = refl
raised-next front (x ∷ xs) p seen = raised-next front xs p (changed_at (raised_seen front) x seen)

raised-more : (front : ℕ) (redo : List ℕ) (i d : ℕ) (seen now : List Seen) → i < length redo → now ≡ all_raised front (take i redo) seen
    → changed_at (raised_seen front) (get_or redo i d) now ≡ all_raised front (take (i + 1) redo) seen
raised-more front redo i d seen now l e =
    ap (changed_at (raised_seen front) (get_or redo i d)) e
    ∙ (sym (raised-next front (take i redo) (get_or redo i d) seen) ∙ ap (λ r. all_raised front r seen) (sym (take_more redo i d l)))

pub raised-is : (front begun : ℕ) (redo : List ℕ) (i p d : ℕ) (seen now : List Seen) (s : Seen) → begun ≡ front → i < length redo
    → p ≡ get_or redo i d → p < length now → s ≡ get_or now p s
    → now ≡ all_raised front (take i redo) seen
    → slice_set now p (record { attempt = s.attempt + 1; begun = begun; posted = false; applied = false; taken = s.taken })
    ≡ all_raised front (take (i + 1) redo) seen
raised-is front begun redo i p d seen now s f l at within is so =
    rw f (ap (λ x. slice_set now p (raised_seen front x)) (seen-there now p s within is)
    ∙ (ap (λ x. changed_at (raised_seen front) x now) at ∙ raised-more front redo i d seen now l so))

-- what waits again goes on by a position
waits-next : (front : ℕ) (redo : List ℕ) (p : ℕ) (seen : List Seen)
    → waits_again front (redo ++ p ∷ []) seen
    ≡ waits_again front redo seen ++ where_applied (seen_at (all_raised front redo seen) p).applied p
waits-next front [] p seen = append-nil (where_applied (seen_at seen p).applied p)
waits-next front (x ∷ xs) p seen =
    let here = where_applied (seen_at seen x).applied x in
    let later = changed_at (raised_seen front) x seen in
    ap (λ rest. here ++ rest) (waits-next front xs p later)
    ∙ sym (append_assoc here (waits_again front xs later) (where_applied (seen_at (all_raised front xs later) p).applied p))

pub waits-is : (front : ℕ) (redo : List ℕ) (i p d : ℕ) (seen now : List Seen) (s : Seen) (waiting : List ℕ) → i < length redo
    → p ≡ get_or redo i d → p < length now
    → s ≡ get_or now p s → now ≡ all_raised front (take i redo) seen
    → (waiting ++ waits_again front (take i redo) seen) ++ where_applied s.applied p ≡ waiting ++ waits_again front (take (i + 1) redo) seen
waits-is front redo i p d seen now s waiting l at within is so =
    append_assoc waiting (waits_again front (take i redo) seen) (where_applied s.applied p)
    ∙ ap (λ rest. waiting ++ rest)
    (ap (λ (x : Seen). waits_again front (take i redo) seen ++ where_applied x.applied p)
    (seen-there now p s within is ∙ ap (λ xs. seen_at xs p) so)
    ∙ (ap (λ q. waits_again front (take i redo) seen ++ where_applied (seen_at (all_raised front (take i redo) seen) q).applied q) at
    ∙ (sym (waits-next front (take i redo) (get_or redo i d) seen) ∙ ap (λ r. waits_again front r seen) (sym (take_more redo i d l)))))

-- one more attempt
pub raised-few : (seen : List Seen) (p : ℕ) (s : Seen) (most next : ℕ) → p < length seen → s.attempt ≤ next → most ≤ next
    → ((q : ℕ) → (seen_at seen q).attempt ≤ most)
    → (q : ℕ) → (seen_at (slice_set seen p s) q).attempt ≤ next
raised-few seen p s most next within little more few q =
    elim (cases_eq q p) [
      | inl same ↦
          (let is : (seen_at (slice_set seen q s) q).attempt ≡ s.attempt =
          ap (λ (x : Seen). x.attempt) (get_or-set_same seen q s (first_seen q) (omega arith)) in
          let here : (seen_at (slice_set seen p s) q).attempt ≡ s.attempt =
          subst (λ x. (seen_at (slice_set seen x s) q).attempt ≡ s.attempt) same is in
          omega arith)
      | inr other ↦
          (let is : (seen_at (slice_set seen p s) q).attempt ≡ (seen_at seen q).attempt =
          ap (λ (x : Seen). x.attempt) (get_or-set_other seen p q s (first_seen q) other) in let f = few q in omega arith)
    ]
