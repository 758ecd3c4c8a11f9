-- Threads that have ended and have not passed.
use Rattle.std.proofs.Common.{◌≡◌, ◌⊎◌, inl, inr, ℕ, zero, suc, ◌+◌, ◌-◌, ◌<◌, ◌≤◌, Bool, true, false, not, ◌&&◌, cond, List, [], ◌∷◌, ◌++◌, length, map, unwrap_or, option_map, option_and_then, max, Option, Some, None, refl, sym, ap, ◌∙◌, arith}
use Rattle.std.specs.Prelude.{slice_get}
use Rattle.std.proofs.lemmas.Bool.{false≢true, cases_lt, cases_eq}
use Rattle.std.proofs.lemmas.List.{length_push}
use Rattle.std.proofs.lemmas.Option.{slice_get_within}
use Rattle.task_ast.specs.declared.sync.SyncOp.{SyncOp}
use Rattle.task_ast.specs.declared.sync.SyncOp.TheVariants as sync
use Rattle.task_ast.specs.Table.{has_ended, is_known_end, Seat, Table, next_of, unpassed, new_seat, waits_at}
use Rattle.task_ast.specs.meaning.Table.{Released, numbers, with_nth}
use Rattle.task_ast.specs.Turn.{look, released_at, seats_after}
use Rattle.task_ast.proofs.Looks.{skipped, numbers-first}
use Rattle.task_ast.proofs.Rounds.{other_nth}
use Rattle.task_ast.proofs.SeenSeats.{look-past}
use Rattle.ended_seats.specs.Idle.{is_idle, idle_at, passed_at, IdleBetween}

-- what an idle thread is
pub ended : (seat : Seat) → is_idle seat ≡ true → has_ended seat ≡ true
ended seat e = go (has_ended seat) (not seat.passed) e
  where
    go : (a b : Bool) → a && b ≡ true → a ≡ true
    go true b e = refl
    go false b e = absurd (false≢true e)

fresh : (seat : Seat) → is_idle seat ≡ true → seat.passed ≡ false
fresh seat e = go (has_ended seat) seat.passed e
  where
    go : (a b : Bool) → a && not b ≡ true → b ≡ false
    go true false e = refl
    go true true e = absurd (false≢true e)
    go false b e = absurd (false≢true e)

-- one that has not ended is not idle
pub not_idle : (seat : Seat) → has_ended seat ≡ false → is_idle seat ≡ false
not_idle seat e = ap (λ b. b && not seat.passed) e

pub idle_fresh : (seats : List Seat) (t : ℕ) → idle_at seats t ≡ true → passed_at seats t ≡ false
idle_fresh seats t e = go (slice_get seats t) e
  where
    go : (o : Option Seat) → unwrap_or (option_map is_idle o) false ≡ true → unwrap_or (option_map (λ s. s.passed) o) false ≡ false
    go None e = refl
    go (Some seat) e = fresh seat e

idle_ended : (table : Table) (t : ℕ) → idle_at table.seats t ≡ true → is_known_end (next_of table t) ≡ true
idle_ended table t e = go (slice_get table.seats t) e
  where
    go : (o : Option Seat) → unwrap_or (option_map is_idle o) false ≡ true → is_known_end (option_and_then (λ s. s.next) o) ≡ true
    go None e = absurd (false≢true e)
    go (Some seat) e = ended seat e

pub idle_within : (seats : List Seat) (t : ℕ) → idle_at seats t ≡ true → t < length seats
idle_within seats t e = go (slice_get seats t) refl e
  where
    go : (o : Option Seat) → slice_get seats t ≡ o → unwrap_or (option_map is_idle o) false ≡ true → t < length seats
    go None at e = absurd (false≢true e)
    go (Some seat) at e = slice_get_within seats t seat at

-- a walk over idle threads goes on from one that is idle
pub further : (seats : List Seat) (from t n : ℕ) (seat : Seat) → slice_get seats t ≡ Some seat → is_idle seat ≡ true
    → IdleBetween from t seats → IdleBetween t n seats → IdleBetween from (max (t + 1) n) seats
further seats from t n seat at is before after u l m = go (cases_lt u t) (cases_eq u t)
  where
    go : (u < t) ⊎ (t ≤ u) → (u ≡ t) ⊎ (u ≡ t → ⊥) → idle_at seats u ≡ true
    go (inl below) c = before u l below
    go (inr above) (inl e) = ap (idle_at seats) e ∙ ap (λ o. unwrap_or (option_map is_idle o) false) at ∙ is
    go (inr above) (inr other) = after u above (omega (arith, above, m, other))

-- a look goes past idle threads
past_count : (table : Table) (k from to : ℕ) → IdleBetween from (from + k) table.seats
    → look table (numbers from (to - from)) ≡ look table (numbers (from + k) (to - (from + k)))
past_count table zero from to idle = let e : from + 0 ≡ from = omega arith in rw e refl
past_count table (suc k) from to idle =
    elim (cases_lt from to) [
      | inl l ↦
          (let next : suc from + k ≡ from + suc k = omega arith in
          ap (look table) (numbers-first from to l)
          ∙ skipped from (next_of table from) _ (idle_ended table from (idle from (omega arith) (omega arith)))
          ∙ past_count table k (suc from) to (λ t a b. idle t (omega (arith, a)) (omega (arith, b)))
          ∙ ap (λ n. look table (numbers n (to - n))) next)
      | inr l ↦
          (let one : to - from ≡ 0 = omega (arith, l) in
          let two : to - (from + suc k) ≡ 0 = omega (arith, l) in
          ap (λ n. look table (numbers from n)) one ∙ ap (λ n. look table (numbers (from + suc k) n)) (sym two))
    ]

pub past : (table : Table) (from to hop : ℕ) → IdleBetween from hop table.seats → from ≤ hop
    → look table (numbers from (to - from)) ≡ look table (numbers hop (to - hop))
past table from to hop idle l =
    let e : from + (hop - from) ≡ hop = omega (arith, l) in
    past_count table (hop - from) from to (λ t a b. idle t a (omega (arith, b, e))) ∙ ap (λ n. look table (numbers n (to - n))) e

-- a look goes on from a thread that has ended
pub onwards : (table : Table) (t to n : ℕ) (seat : Seat) → slice_get table.seats t ≡ Some seat → has_ended seat ≡ true → t < to
    → IdleBetween t n table.seats → look table (numbers t (to - t)) ≡ look table (numbers (max (t + 1) n) (to - max (t + 1) n))
onwards table t to n seat at e l idle =
    look-past table t to seat l at e
    ∙ past table (suc t) to (max (t + 1) n) (λ u a b. idle u (omega (arith, a)) (omega (arith, a, b))) (omega arith)

-- a change of a thread that is not idle
pub idle_nth : (from to : ℕ) (seats : List Seat) (t : ℕ) (seat : Seat) (f : Seat → Seat) → slice_get seats t ≡ Some seat → is_idle seat ≡ false
    → IdleBetween from to seats → IdleBetween from to (with_nth seats t f)
idle_nth from to seats t seat f at not idle u l m =
    elim (cases_eq u t) [
      | inl e ↦
          absurd (false≢true (sym not ∙ ap (λ o. unwrap_or (option_map is_idle o) false) (sym at) ∙ ap (idle_at seats) (sym e)
          ∙ idle u l m))
      | inr other ↦ ap (λ o. unwrap_or (option_map is_idle o) false) (other_nth f seats t u other) ∙ idle u l m
    ]

-- a change of each thread that leaves it idle
pub idle_map : (f : Seat → Seat) → ((s : Seat) → is_idle s ≡ true → is_idle (f s) ≡ true) → (seats : List Seat) (t : ℕ) → idle_at seats t ≡ true
    → idle_at (map f seats) t ≡ true
idle_map f keeps [] t e = absurd (false≢true e)
idle_map f keeps (x ∷ xs) zero e = keeps x e
idle_map f keeps (x ∷ xs) (suc t) e = idle_map f keeps xs t e

pub idle_unpassed : (seats : List Seat) (t : ℕ) → idle_at seats t ≡ true → idle_at (map unpassed seats) t ≡ true
idle_unpassed seats t e = idle_map unpassed (λ s is. ap (λ b. b && true) (ended s is)) seats t e

released_same : (b : Bool) (s : Seat) → is_idle s ≡ true → is_idle (cond b (record s { stand = Released }) s) ≡ true
released_same true s e = e
released_same false s e = e

pub idle_released : (b : ℕ) (seats : List Seat) (t : ℕ) → idle_at seats t ≡ true → idle_at (map (released_at b) seats) t ≡ true
idle_released b seats t e = idle_map (released_at b) (λ s is. released_same (waits_at b s) s is) seats t e

idle_push : (seats : List Seat) (seat : Seat) (t : ℕ) → idle_at seats t ≡ true → idle_at (seats ++ seat ∷ []) t ≡ true
idle_push [] seat t e = absurd (false≢true e)
idle_push (x ∷ xs) seat zero e = e
idle_push (x ∷ xs) seat (suc t) e = idle_push xs seat t e

-- an issue takes no thread away
pub idle_after : (op : SyncOp) (seats : List Seat) (t : ℕ) → idle_at seats t ≡ true → idle_at (seats_after op seats) t ≡ true
idle_after (sync.Fork task arguments) seats t e = idle_push seats new_seat t e
idle_after _ seats t e = e

pub grows : (op : SyncOp) (seats : List Seat) → length seats ≤ length (seats_after op seats)
grows (sync.Fork task arguments) seats = let one = length_push seats new_seat in omega (arith, one)
grows _ seats = omega arith
