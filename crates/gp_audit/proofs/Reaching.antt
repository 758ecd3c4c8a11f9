-- What is kept tells which position is struck next.
use Rattle.std.proofs.Common.{◌≡◌, inl, inr, ◌+◌, Bool, true, false, nat_eq, nat_lt, nat_le, ◌&&◌, ◌||◌, length, Option, Some, None, refl, sym, ap, ◌∙◌, arith}
use Rattle.std.specs.Prelude.{slice_get}
use Rattle.std.proofs.lemmas.Option.{slice_get_within, slice_get-get_or}
use Rattle.std.proofs.lemmas.Bool.{lt-ltb, le-ltb, cases_lt}
use Rattle.gp_base.specs.declared.fault.Fault.{Fault}
use Rattle.dependence.specs.meaning.Restarts.{Dependence, Progress, drains, begun_of, is_live, is_due, least_struck, struck_next}
use Rattle.gp_audit.specs.declared.state.Seen.{Seen}
use Rattle.gp_audit.specs.Steps.{dependence_by}
use Rattle.gp_audit.specs.inner.Audited.{Audited, first_seen, strikes_one, strikes, least_of, is_last, drains_now, struck_in}
use Rattle.gp_audit.specs.inner.Replayed.{Reaches}

module _ (at : Progress) (a : Audited) (reaches : Reaches at a) where
  abbrev dependence : Dependence
  dependence = dependence_by a.steps

  strikes-is : (any : Bool) (fault : Fault)
      → strikes any a.seen fault ≡ (is_live at fault && (any || nat_le (begun_of at.made fault.pos + fault.delay) at.front))
  strikes-is any fault = go (slice_get a.seen fault.pos) refl
    where
      go : (o : Option Seen) → slice_get a.seen fault.pos ≡ o
          → strikes_one any (length a.seen) fault o
          ≡ (is_live at fault && (any || nat_le (begun_of at.made fault.pos + fault.delay) at.front))
      go None e = rw late refl
        where
          late : nat_lt fault.pos at.front ≡ false
          late =
              elim (cases_lt fault.pos at.front) [
                | inl l ↦
                    absurd (let front = reaches.front in
                    let some = slice_get-get_or a.seen fault.pos (first_seen fault.pos) (omega arith) in let bad = sym e ∙ some in cc)
                | inr l ↦ le-ltb _ _ l
              ]
      go (Some s) e =
          let is = reaches.each fault.pos s e in
          let within = slice_get_within a.seen fault.pos s e in
          let front = reaches.front in
          let early : nat_lt fault.pos at.front ≡ true = lt-ltb _ _ (omega arith) in
          rw (early, is.attempt, is.begun, reaches.front) refl

  pub due-is : least_of a false ≡ least_struck (is_due at) a.faults
  due-is = ap (λ test. least_struck test a.faults) (λ i fault. strikes-is false fault i)

  and-true : (b : Bool) → (b && true) ≡ b
  and-true true = refl
  and-true false = refl

  pub live-is : least_of a true ≡ least_struck (is_live at) a.faults
  live-is = ap (λ test. least_struck test a.faults) (λ i fault. (strikes-is true fault ∙ and-true (is_live at fault)) i)

  pub drains-is : drains_now a ≡ drains dependence at.front
  drains-is = ap (drains dependence) reaches.front

  pub last-is : is_last a ≡ nat_eq at.front dependence.count
  last-is = ap (λ n. nat_eq n (length a.steps)) reaches.front

  pub struck-is : struck_in a ≡ struck_next dependence a.faults at
  struck-is = rw (due-is, live-is, drains-is) refl
