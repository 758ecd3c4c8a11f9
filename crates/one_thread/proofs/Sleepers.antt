-- Threads that have ended or wait at a barrier, and the ways over them.
use Rattle.std.proofs.Common.{◌≡◌, ◌⊎◌, inl, inr, ℕ, zero, suc, ◌+◌, ◌<◌, ◌≤◌, true, false, ◌||◌, max, List, [], ◌∷◌, ◌++◌, map, set, unwrap_or, option_map, option_and_then, Option, Some, None, refl, sym, ap, ◌∙◌, arith}
use Rattle.std.specs.Prelude.{slice_get}
use Rattle.std.proofs.lemmas.Bool.{false≢true, cases_lt, cases_eq}
use Rattle.task_ast.specs.declared.sync.SyncOp.{SyncOp}
use Rattle.task_ast.specs.declared.sync.SyncOp.TheVariants as sync
use Rattle.task_ast.specs.declared.sync.Next.{Next}
use Rattle.task_ast.specs.Table.{Seat, Table, unpassed, new_seat}
use Rattle.task_ast.specs.Turn.{stand_of, seats_after}
use Rattle.task_ast.specs.meaning.Table.{Stand, Away, Waits, is_waiting, is_end, with_nth}
use Rattle.task_ast.proofs.ChangedSeats.{map-replaced}
use Rattle.task_ast.proofs.Counting.{get-with_nth}
use Rattle.task_ast.proofs.Rounds.{other_nth, keeps_map}
use Rattle.task_ast.proofs.SeenSeats.{seen-at}
use Rattle.one_thread.specs.inner.Resting.{stalls, rests_at, rests, RestBetween}
use Rattle.one_thread.specs.inner.Sleeping.{sleeps_before, sleeps_by, sleeps, sleeps_at, SleepBetween, way_at, SleepOver, IsUncrossed}

-- ---- threads that sleep rest

rests-before : (op : SyncOp) (stand : Stand) (table : Table) (t : ℕ) → stand_of table t ≡ stand → sleeps_before op stand ≡ true
    → is_end op || stalls op table t ≡ true
rests-before sync.End stand table t at e = refl
rests-before (sync.Barrier b) stand table t at e = ap is_waiting at ∙ e
rests-before sync.Start stand table t at e = absurd (false≢true e)
rests-before (sync.Lock l) stand table t at e = absurd (false≢true e)
rests-before (sync.Unlock l) stand table t at e = absurd (false≢true e)
rests-before (sync.Fork task arguments) stand table t at e = absurd (false≢true e)
rests-before (sync.Join h) stand table t at e = absurd (false≢true e)
rests-before (sync.Settle register control) stand table t at e = absurd (false≢true e)
rests-before sync.BadIndex stand table t at e = absurd (false≢true e)
rests-before sync.Spent stand table t at e = absurd (false≢true e)

sleeps-rests : (table : Table) (t : ℕ) → sleeps_at table.seats t ≡ true → rests table t ≡ true
sleeps-rests table t e = go (slice_get table.seats t) refl e
  where
    by_next : (o : Option Next) (stand : Stand) → stand_of table t ≡ stand → sleeps_by o stand ≡ true → rests_at o table t ≡ true
    by_next None stand at e = absurd (false≢true e)
    by_next (Some next) stand at e = rests-before next.sync stand table t at e

    go : (o : Option Seat) → slice_get table.seats t ≡ o → unwrap_or (option_map sleeps o) false ≡ true
        → rests_at (option_and_then (λ s. s.next) o) table t ≡ true
    go None at e = absurd (false≢true e)
    go (Some seat) at e = by_next seat.next seat.stand (ap (λ o. unwrap_or (option_map (λ s. s.stand) o) Away) at) e

-- threads that rest, and then threads that sleep
pub rest-sleep : (table : Table) (from t to : ℕ) → RestBetween from t table → SleepBetween t to table.seats → RestBetween from to table
rest-sleep table from t to rest sleep u l m =
    elim (cases_lt u t) [ inl below ↦ rest u l below | inr above ↦ sleeps-rests table u (sleep u above m) ]

-- and one that rests
pub rest-more : (table : Table) (from t : ℕ) → RestBetween from t table → rests table t ≡ true → RestBetween from (t + 1) table
rest-more table from t before rest u l m =
    elim (cases_eq u t) [ inl is ↦ ap (rests table) is ∙ rest | inr other ↦ before u l (omega (arith, m, other)) ]

-- a walk goes on from a thread that sleeps
pub further-sleep : (seats : List Seat) (from t n : ℕ) (seat : Seat) → slice_get seats t ≡ Some seat → sleeps seat ≡ true
    → SleepBetween from t seats → SleepBetween t n seats → SleepBetween from (max (t + 1) n) seats
further-sleep seats from t n seat at is before after u l m = go (cases_lt u t) (cases_eq u t)
  where
    go : (u < t) ⊎ (t ≤ u) → (u ≡ t) ⊎ (u ≡ t → ⊥) → sleeps_at seats u ≡ true
    go (inl below) c = before u l below
    go (inr above) (inl e) = ap (sleeps_at seats) e ∙ ap (λ o. unwrap_or (option_map sleeps o) false) at ∙ is
    go (inr above) (inr other) = after u above (omega (arith, above, m, other))

-- ---- ways

-- a way is kept
pub kept-way : (ways after : List ℕ) (seats : List Seat) (t to : ℕ) → way_at after t ≡ to
    → ((u : ℕ) → (u ≡ t → ⊥) → way_at after u ≡ way_at ways u) → SleepBetween t to seats → SleepOver ways seats → SleepOver after seats
kept-way ways after seats t to here others between sleep u v l m =
    elim (cases_eq u t) [
      | inl is ↦ (let n = ap (way_at after) is in between v (omega (arith, is, l)) (omega (arith, n, here, m)))
      | inr other ↦ (let n = others u other in sleep u v l (omega (arith, n, m)))
    ]

-- none is kept
pub no-way : (ways : List ℕ) (seats : List Seat) → ways ≡ [] → SleepOver ways seats
no-way ways seats none u v l m = let e = ap (λ ws. way_at ws u) none in absurd (omega (arith, e, m))

-- none goes over a thread that does not sleep
pub uncrossed : (ways : List ℕ) (seats : List Seat) (t : ℕ) (seat : Seat) → slice_get seats t ≡ Some seat → sleeps seat ≡ false
    → SleepOver ways seats → IsUncrossed ways t
uncrossed ways seats t seat at not sleep u l = go (cases_lt t (way_at ways u))
  where
    go : (t < way_at ways u) ⊎ (way_at ways u ≤ t) → way_at ways u ≤ t
    go (inr m) = m
    go (inl m) = absurd (false≢true (sym not ∙ ap (λ o. unwrap_or (option_map sleeps o) false) (sym at) ∙ sleep u t l m))

-- ---- changes of a thread table

-- one thread is changed, which sleeps afterwards where a way goes over it
put-thread : {X : Type 0} (view : X → Seat) (ways : List ℕ) (items : List X) (t : ℕ) (x y : X) → slice_get items t ≡ Some x
    → ((u : ℕ) → u ≤ t → t < way_at ways u → sleeps (view y) ≡ true)
    → SleepOver ways (map view items) → SleepOver ways (map view (set items t y))
put-thread view ways items t x y at crossed sleep u v l m = ap (λ ss. sleeps_at ss v) seats ∙ go (cases_eq v t)
  where
    seats : map view (set items t y) ≡ with_nth (map view items) t (λ s. view y)
    seats = map-replaced view items t (λ s. view y) x y at refl

    go : (v ≡ t) ⊎ (v ≡ t → ⊥) → sleeps_at (with_nth (map view items) t (λ s. view y)) v ≡ true
    go (inl is) =
        ap (sleeps_at (with_nth (map view items) t (λ s. view y))) is
        ∙ ap (λ o. unwrap_or (option_map sleeps o) false)
        (get-with_nth (map view items) t (λ s. view y) (view x) (seen-at view items t x at))
        ∙ crossed u (omega (arith, is, l)) (omega (arith, is, m))
    go (inr other) =
        ap (λ o. unwrap_or (option_map sleeps o) false) (other_nth (λ s. view y) (map view items) t v other) ∙ sleep u v l m

-- over which no way goes
pub put-uncrossed : {X : Type 0} (view : X → Seat) (ways : List ℕ) (items : List X) (t : ℕ) (x y : X) → slice_get items t ≡ Some x
    → IsUncrossed ways t → SleepOver ways (map view items) → SleepOver ways (map view (set items t y))
put-uncrossed view ways items t x y at free sleep =
    put-thread view ways items t x y at (λ u l m. let up = free u l in absurd (omega (arith, up, m))) sleep

-- or that sleeps where it did
pub put-asleep : {X : Type 0} (view : X → Seat) (ways : List ℕ) (items : List X) (t : ℕ) (x y : X) → slice_get items t ≡ Some x
    → (sleeps (view x) ≡ true → sleeps (view y) ≡ true) → SleepOver ways (map view items) → SleepOver ways (map view (set items t y))
put-asleep view ways items t x y at stays sleep =
    put-thread view ways items t x y at
    (λ u l m. stays (ap (λ o. unwrap_or (option_map sleeps o) false) (sym (seen-at view items t x at)) ∙ sleep u t l m)) sleep

-- one that arrives
pub arrives : (o : Option Next) (stand : Stand) → sleeps_by o stand ≡ true → sleeps_by o Waits ≡ true
arrives None stand e = absurd (false≢true e)
arrives (Some next) stand e = go next.sync e
  where
    go : (op : SyncOp) → sleeps_before op stand ≡ true → sleeps_before op Waits ≡ true
    go sync.End e = refl
    go (sync.Barrier b) e = refl
    go sync.Start e = absurd (false≢true e)
    go (sync.Lock l) e = absurd (false≢true e)
    go (sync.Unlock l) e = absurd (false≢true e)
    go (sync.Fork task arguments) e = absurd (false≢true e)
    go (sync.Join h) e = absurd (false≢true e)
    go (sync.Settle register control) e = absurd (false≢true e)
    go sync.BadIndex e = absurd (false≢true e)
    go sync.Spent e = absurd (false≢true e)

-- no thread has passed any more
pub cleared-sleep : {X : Type 0} (view : X → Seat) (ways : List ℕ) (old after : List X) → map view after ≡ map unpassed (map view old)
    → SleepOver ways (map view old) → SleepOver ways (map view after)
cleared-sleep view ways old after seats sleep t u l m =
    ap (λ ss. sleeps_at ss u) seats ∙ keeps_map (λ o. unwrap_or (option_map sleeps o) false) unpassed (λ s. refl) (map view old) u
    ∙ sleep t u l m

-- an issue
pub issued-sleep : {X : Type 0} (view : X → Seat) (ways : List ℕ) (op : SyncOp) (old after : List X)
    → map view after ≡ seats_after op (map view old) → SleepOver ways (map view old) → SleepOver ways (map view after)
issued-sleep view ways op old after seats sleep t u l m = ap (λ ss. sleeps_at ss u) seats ∙ grown op (map view old) u (sleep t u l m)
  where
    pushed : (seats : List Seat) (u : ℕ) → sleeps_at seats u ≡ true → sleeps_at (seats ++ new_seat ∷ []) u ≡ true
    pushed [] u e = absurd (false≢true e)
    pushed (x ∷ xs) zero e = e
    pushed (x ∷ xs) (suc u) e = pushed xs u e

    grown : (op : SyncOp) (seats : List Seat) (u : ℕ) → sleeps_at seats u ≡ true → sleeps_at (seats_after op seats) u ≡ true
    grown (sync.Fork task arguments) seats u e = pushed seats u e
    grown _ seats u e = e
