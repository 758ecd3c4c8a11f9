-- A thread at a barrier.
use Rattle.std.proofs.Common.{◌≡◌, ℕ, ◌+◌, ◌<◌, ◌≤◌, true, false, cond, nat_le, nat_lt, unwrap_or, count_by, map, Option, Some, None, refl, sym, ap, ◌∙◌, arith}
use Rattle.std.specs.Prelude.{slice_get}
use Rattle.std.specs.Option.{option_map, option_and_then}
use Rattle.std.proofs.lemmas.Bool.{false≢true, le-leb, lt-leb, eq-eqb}
use Rattle.gp_base.specs.declared.ending.End.TheVariants.{Spent}
use Rattle.task_ast.specs.declared.sync.SyncOp.{SyncOp}
use Rattle.task_ast.specs.declared.sync.SyncOp.TheVariants as sync
use Rattle.task_ast.specs.declared.sync.Next.{Next}
use Rattle.task_ast.specs.meaning.Repeat.{Done}
use Rattle.task_ast.specs.meaning.Table.{Stand, Away, Waits, Released, meets}
use Rattle.task_ast.specs.Table.{Seat, Table, next_of, unpassed, waits_at}
use Rattle.task_ast.specs.meaning.Turn.{is_away}
use Rattle.task_ast.specs.Turn.{Ended, tried, stand_of, met, arrived, released_at, issuing, passing}
use Rattle.task_ast.proofs.Counting.{one, count-with_nth, count-map, get-map, get-with_nth}
use Rattle.task_ast.proofs.SeenSeats.{opened}
use Rattle.task_ast.specs.Looking.{is_free_to_go}

meets_own : (b : ℕ) (op : SyncOp) (line : ℕ) → op ≡ sync.Barrier b → meets b (Some (record { sync = op; line = line })) ≡ true
meets_own b op line e = rw e (eq-eqb b b refl)

wait : Seat → Seat
wait s = record s { stand = Waits }

-- the thread has come to the barrier, and has not arrived
pub record Comes (table : Table) (t b : ℕ) : Type 0 where
  pub seat : Seat
  pub there : slice_get table.seats t ≡ Some seat
  pub meets : meets b seat.next ≡ true
  pub away : seat.stand ≡ Away

pub comes : (table : Table) (t b : ℕ) (next : Next) → next_of table t ≡ Some next → next.sync ≡ sync.Barrier b → stand_of table t ≡ Away
    → Comes table t b
comes table t b next known is away = go (slice_get table.seats t) refl
  where
    go : (o : Option Seat) → slice_get table.seats t ≡ o → Comes table t b
    go None at = absurd (cc (sym (ap (option_and_then (λ s. s.next)) at) ∙ known))
    go (Some seat) at =
        record {
          seat = seat;
          there = at;
          meets = ap (meets b) (sym (ap (option_and_then (λ s. s.next)) at) ∙ known) ∙ meets_own b next.sync next.line is;
          away = sym (ap (λ o. unwrap_or (option_map (λ s. s.stand) o) Away) at) ∙ away;
        }

not_waiting : (b : ℕ) (s : Seat) → s.stand ≡ Away → waits_at b s ≡ false
not_waiting b s e = rw e refl

-- one more waits after an arrival
pub arrival_counts : (table : Table) (t b : ℕ) → Comes table t b
    → count_by (waits_at b) (arrived table t).seats ≡ count_by (waits_at b) table.seats + 1
arrival_counts table t b at =
    let seat = at.seat in
    let changed =
    count-with_nth (waits_at b) (map unpassed table.seats) t (λ s. record s { stand = Waits }) (unpassed seat)
    (get-map unpassed table.seats t seat at.there) in
    let same = count-map (waits_at b) unpassed (λ s. refl) table.seats in
    let before : one (waits_at b (unpassed seat)) ≡ 0 = ap one (not_waiting b (unpassed seat) at.away) in
    let after : one (waits_at b (record (unpassed seat) { stand = Waits })) ≡ 1 = ap (λ m. one (cond true m false)) at.meets in
    omega (arith, changed, same, before, after)

pub met_opened : (table : Table) (t b number count : ℕ) → Comes table t b → number ≡ unwrap_or (slice_get table.barriers b) 0
    → count ≡ count_by (waits_at b) table.seats → number ≤ count + 1 → met (arrived table t) b ≡ opened table t b
met_opened table t b number count at number_is count_is enough =
    let e : nat_le (unwrap_or (slice_get table.barriers b) 0) (count_by (waits_at b) (arrived table t).seats) ≡ true =
    rw (sym number_is, arrival_counts table t b at, sym count_is) (le-leb number (count + 1) enough) in
    rw e refl

pub met_closed : (table : Table) (t b number count : ℕ) → Comes table t b → number ≡ unwrap_or (slice_get table.barriers b) 0
    → count ≡ count_by (waits_at b) table.seats → count + 1 < number → met (arrived table t) b ≡ arrived table t
met_closed table t b number count at number_is count_is few =
    let e : nat_le (unwrap_or (slice_get table.barriers b) 0) (count_by (waits_at b) (arrived table t).seats) ≡ false =
    rw (sym number_is, arrival_counts table t b at, sym count_is) (lt-leb number (count + 1) few) in
    rw e refl

there_after : (table : Table) (t b : ℕ) (at : Comes table t b)
    → slice_get (arrived table t).seats t ≡ Some (record (unpassed at.seat) { stand = Waits })
there_after table t b at =
    get-with_nth (map unpassed table.seats) t (λ s. record s { stand = Waits }) (unpassed at.seat)
    (get-map unpassed table.seats t at.seat at.there)

arrived_waits : (table : Table) (t b : ℕ) → Comes table t b → stand_of (arrived table t) t ≡ Waits
arrived_waits table t b at = ap (λ o. unwrap_or (option_map (λ s. s.stand) o) Away) (there_after table t b at)

opened_released : (table : Table) (t b : ℕ) → Comes table t b → stand_of (opened table t b) t ≡ Released
opened_released table t b at =
    ap (λ o. unwrap_or (option_map (λ s. s.stand) o) Away) (get-map (released_at b) (arrived table t).seats t _ (there_after table t b at))
    ∙ ap (λ m. (cond (cond true m false) (record (unpassed at.seat) { stand = Released })
    (record (unpassed at.seat) { stand = Waits })).stand) at.meets

-- the last thread to arrive goes on
pub last_goes : (table : Table) (t b number count : ℕ) (next : Next) → Comes table t b → stand_of table t ≡ Away
    → number ≡ unwrap_or (slice_get table.barriers b) 0
    → count ≡ count_by (waits_at b) table.seats → number ≤ count + 1
    → tried (sync.Barrier b) table t next ≡ issuing (opened table t b) t next
last_goes table t b number count next at away number_is count_is enough =
    rw (away, met_opened table t b number count at number_is count_is enough, opened_released table t b at) refl

-- another waits
pub one_waits : (table : Table) (t b number count : ℕ) (next : Next) → Comes table t b → stand_of table t ≡ Away
    → number ≡ unwrap_or (slice_get table.barriers b) 0
    → count ≡ count_by (waits_at b) table.seats → count + 1 < number → tried (sync.Barrier b) table t next ≡ passing (arrived table t) t
one_waits table t b number count next at away number_is count_is few =
    rw (away, met_closed table t b number count at number_is count_is few, arrived_waits table t b at) refl

-- a released thread goes on
pub free_goes : (table : Table) (t b : ℕ) (next : Next) (s : Stand) → stand_of table t ≡ s → is_free_to_go s ≡ true
    → tried (sync.Barrier b) table t next ≡ issuing table t next
free_goes table t b next Released e free = rw (e, e) refl
free_goes table t b next Waits e free = absurd (false≢true free)
free_goes table t b next Away e free = absurd (false≢true free)

pub is_away_so : (s : Stand) → is_away s ≡ true → s ≡ Away
is_away_so Away e = refl
is_away_so Waits e = absurd (false≢true e)
is_away_so Released e = absurd (false≢true e)

-- a thread that has arrived passes
pub still_waits : (table : Table) (t b : ℕ) (next : Next) (s : Stand) → stand_of table t ≡ s → is_free_to_go s ≡ false → is_away s ≡ false
    → tried (sync.Barrier b) table t next ≡ passing table t
still_waits table t b next Released e free away = absurd (false≢true (sym free))
still_waits table t b next Waits e free away = rw (e, e) refl
still_waits table t b next Away e free away = absurd (false≢true (sym away))

-- the limit is reached
pub spent_issue : (table : Table) (t : ℕ) (next : Next) → nat_lt table.issued table.limit ≡ false
    → issuing table t next ≡ Done (Ended (Spent table.limit))
spent_issue table t next e = rw e refl
