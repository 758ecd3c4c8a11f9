-- Ways over threads that are stopped.
use Rattle.std.proofs.Common.{◌≡◌, ◌⊎◌, inl, inr, ℕ, zero, suc, ◌+◌, ◌-◌, ◌<◌, ◌≤◌, Bool, true, false, cond, List, [], ◌∷◌, ◌++◌, length, set, max, nat_lt, unwrap_or, option_map, Some, refl, sym, ap, ◌∙◌, subst, arith}
use Rattle.std.specs.Prelude.{slice_get, slice_set}
use Rattle.std.proofs.lemmas.Bool.{cases_lt, cases_eq, ltb-true, false≢true}
use Rattle.task_ast.specs.Table.{Seat, Table, learning}
use Rattle.task_ast.specs.meaning.Table.{is_waiting}
use Rattle.task_ast.proofs.IssuedTables.{get_set_here, get_set_other}
use Rattle.task_ast.proofs.Rounds.{other_nth}
use Rattle.token_order.specs.declared.spans.Way.{Way}
use Rattle.token_order.specs.Spans.{is_stopped, stopped_at, waiting_at, StoppedOver, WaysStand, past_of}
use Rattle.token_order.proofs.Outcomes.{ways_kept}

-- no way
pub no_way : (t : ℕ) (way : Way) (seats : List Seat) → way.to ≤ t → way.past ≤ t → StoppedOver t way seats
no_way t way seats to past =
    record {
      each = λ u l m. absurd (omega (arith, to, l, m));
      waits = λ l. absurd (omega (arith, past, l));
      within = λ l. absurd (omega (arith, past, l));
    }

pushed : (ways : List Way) (way there : Way) (t : ℕ) → slice_get (ways ++ way ∷ []) t ≡ Some there
    → (slice_get ways t ≡ Some there) ⊎ (way ≡ there)
pushed [] way there zero e = inr (cc e)
pushed [] way there (suc t) e = absurd (cc e)
pushed (x ∷ xs) way there zero e = inl e
pushed (x ∷ xs) way there (suc t) e = pushed xs way there t e

pub ways_pushed : (ways after : List Way) (seats : List Seat) → after ≡ ways ++ record { to = 0; past = 0 } ∷ [] → WaysStand ways seats
    → WaysStand after seats
ways_pushed ways after seats is stand t way at =
    elim (pushed ways (record { to = 0; past = 0 }) way t (ap (λ ws. slice_get ws t) (sym is) ∙ at)) [
      | inl old ↦ stand t way old
      | inr new ↦ subst (λ w. StoppedOver t w seats) new (no_way t (record { to = 0; past = 0 }) seats (omega arith) (omega arith))
    ]

pub ways_set : (ways : List Way) (seats : List Seat) (t : ℕ) (way : Way) → t < length ways → WaysStand ways seats → StoppedOver t way seats
    → WaysStand (slice_set ways t way) seats
ways_set ways seats t way l stand new u there at =
    elim (cases_eq u t) [
      | inl same ↦
          (let is : way ≡ there = cc (sym (get_set_here ways t way l) ∙ ap (slice_get (slice_set ways t way)) (sym same) ∙ at) in
          subst (λ v. StoppedOver v there seats) (sym same) (subst (λ w. StoppedOver t w seats) is new))
      | inr other ↦ stand u there (sym (get_set_other ways t u way other) ∙ at)
    ]

-- the ways before a place are none
abbrev pub ForgotBelow : ℕ → List Way → Type 0
ForgotBelow n ways = (t : ℕ) (way : Way) → t < n → slice_get ways t ≡ Some way → (way.to ≡ 0) × (way.past ≡ 0)

set_here : (ways : List Way) (i : ℕ) (way there : Way) → slice_get (set ways i way) i ≡ Some there → way ≡ there
set_here [] i way there e = absurd (cc e)
set_here (x ∷ xs) zero way there e = cc e
set_here (x ∷ xs) (suc i) way there e = set_here xs i way there e

set_other : (ways : List Way) (i t : ℕ) (way : Way) → (t ≡ i → ⊥) → slice_get (set ways i way) t ≡ slice_get ways t
set_other [] i t way ne = refl
set_other (x ∷ xs) zero zero way ne = absurd (ne refl)
set_other (x ∷ xs) zero (suc t) way ne = refl
set_other (x ∷ xs) (suc i) zero way ne = refl
set_other (x ∷ xs) (suc i) (suc t) way ne = set_other xs i t way (λ e. ne (ap suc e))

pub forgot_more : (ways : List Way) (i : ℕ) → ForgotBelow i ways → ForgotBelow (i + 1) (set ways i (record { to = 0; past = 0 }))
forgot_more ways i before t way l at =
    elim (cases_eq t i) [
      | inl same ↦
          (let is = set_here ways i (record { to = 0; past = 0 }) way
          (ap (slice_get (set ways i (record { to = 0; past = 0 }))) (sym same) ∙ at) in
          (sym (ap (λ (w : Way). w.to) is), sym (ap (λ (w : Way). w.past) is)))
      | inr other ↦ before t way (omega (arith, l, other)) (sym (set_other ways i t (record { to = 0; past = 0 }) other) ∙ at)
    ]

pub forgot : (ways : List Way) (seats : List Seat) (n : ℕ) → length ways ≤ n → ForgotBelow n ways → WaysStand ways seats
forgot ways seats n all none t way at =
    let h = none t way (let l = within ways t way at in omega (arith, l, all)) at in
    no_way t way seats (let e = h.0 in omega (arith, e)) (let e = h.1 in omega (arith, e))
  where
    within : (ways : List Way) (t : ℕ) (way : Way) → slice_get ways t ≡ Some way → t < length ways
    within ways t way at = Rattle.std.proofs.lemmas.Option.slice_get_within ways t way at

-- a walk goes on over a way
pub further : (seats : List Seat) (from t past : ℕ) (seat : Seat) (waits : Bool) (way : Way) → slice_get seats t ≡ Some seat
    → is_stopped seat ≡ true → waits ≡ is_waiting seat.stand → StoppedOver from (record { to = t; past = past }) seats → StoppedOver t way seats
    → StoppedOver from (record { to = max (t + 1) way.to; past = past_of past t waits way }) seats
further seats from t past seat waits way at stops waits_is before after =
    record { each = each; waits = λ l. (last l).0; within = λ l. (last l).1 }
  where
    each : (u : ℕ) → from ≤ u → u < max (t + 1) way.to → stopped_at seats u ≡ true
    each u l m = go (cases_lt u t) (cases_eq u t)
      where
        go : (u < t) ⊎ (t ≤ u) → (u ≡ t) ⊎ (u ≡ t → ⊥) → stopped_at seats u ≡ true
        go (inl below) c = before.each u l below
        go (inr above) (inl e) = ap (stopped_at seats) e ∙ ap (λ o. unwrap_or (option_map is_stopped o) false) at ∙ stops
        go (inr above) (inr other) = after.each u above (omega (arith, above, m, other))

    last : from < past_of past t waits way
        → (waiting_at seats (past_of past t waits way - 1) ≡ true) × (past_of past t waits way ≤ max (t + 1) way.to)
    last = go (nat_lt t way.past) refl waits waits_is
      where
        go : (b : Bool) → nat_lt t way.past ≡ b → (w : Bool) → w ≡ is_waiting seat.stand
            → from < cond b way.past (cond w (t + 1) past)
            → (waiting_at seats (cond b way.past (cond w (t + 1) past) - 1) ≡ true) × (cond b way.past (cond w (t + 1) past) ≤ max (t + 1) way.to)
        go true e w is l =
            let less = ltb-true t way.past e in
            let within = after.within less in
            (after.waits less, omega (arith, within))
        go false e true is l =
            let one : t + 1 - 1 ≡ t = omega arith in (
              ap (waiting_at seats) one ∙ ap (λ o. unwrap_or (option_map (λ s. is_waiting s.stand) o) false) at ∙ sym is,
              omega arith,
            )
        go false e false is l = let within = before.within l in (before.waits l, omega (arith, within))

-- a thread that is not stopped learns, and no way is over it
pub ways_learnt : (ways : List Way) (table : Table) (t : ℕ) (next : Rattle.task_ast.specs.declared.sync.Next.Next) → stopped_at table.seats t ≡ false
    → WaysStand ways table.seats → WaysStand ways (learning table t next).seats
ways_learnt ways table t next free =
    ways_kept ways table.seats (learning table t next).seats
    (λ u stops. ap (option_map (λ s. (s.next, s.stand)))
    (other_nth (λ s. record s { next = Some next }) table.seats t u
    (λ e. false≢true (sym free ∙ ap (stopped_at table.seats) (sym e) ∙ stops))))
