-- One turn, by the thread that the token comes to.
use Rattle.std.proofs.Common.{Result, Ok, Err, ℤ, IfOk, ◌≡◌, ℕ, ◌<◌, ◌≤◌, Bool, true, false, cond, nat_le, unwrap_or, count_by, List, map, Some, None, refl, sym, ap, ◌∙◌, length}
use Rattle.std.specs.Prelude.{slice_get}
use Rattle.std.specs.declared.alloc.AllocError.{AllocError}
use Rattle.gp_base.specs.declared.ending.End.{End}
use Rattle.one_thread.specs.declared.turns.Turn.{Turn as TurnHere}
use Rattle.one_thread.specs.declared.turns.Turn.TheVariants as here
use Rattle.task_ast.specs.Turn.{next_issue, turns_left, Turn, Needs, Ended, deadlocked, look, turn, tried, stand_of, met, arrived, come_to, at_barrier, released_at, issuing, passing}
use Rattle.task_ast.specs.meaning.Repeat.{go_on}
use Rattle.task_ast.specs.declared.sync.Next.{Next}
use Rattle.task_ast.specs.declared.sync.SyncOp.{SyncOp}
use Rattle.task_ast.specs.declared.sync.SyncOp.TheVariants as sync_op
use Rattle.task_ast.specs.meaning.Repeat.{Again, Done}
use Rattle.task_ast.specs.meaning.Table.{Stand, Away, Waits, Released, ring, numbers}
use Rattle.task_ast.specs.Table.{Seat as SeatThere, Table, next_of, waits_at}
use Rattle.gp_base.specs.declared.ending.End.TheVariants.{Finished}
use Rattle.task_ast.specs.meaning.Turn.{is_away}
use Rattle.std.proofs.lemmas.Bool.{false≢true, le-leb, lt-leb}
use Rattle.one_thread.specs.declared.seats.Table.{Table as Ring}
use Rattle.one_thread.specs.declared.seats.Seat.{Seat}
use Rattle.one_thread.specs.View.{table_of, seat_of, gives, gave}
use Rattle.task_ast.specs.Looking.{is_free_to_go}
use Rattle.task_ast.proofs.SeenSeats.{LooksAt, next-at, passed-at, stand-at, arrived_next, opened, opened_next}

pub met-released : (before : Ring) (t b number count : ℕ) (middle released : List Seat)
    → map seat_of middle ≡ (arrived (table_of before) t).seats → number ≡ unwrap_or (slice_get before.barriers.items b) 0
    → count ≡ count_by (waits_at b) (map seat_of middle) → number ≤ count → map seat_of released ≡ map (released_at b) (map seat_of middle)
    → record (table_of before) { seats = map seat_of released } ≡ met (arrived (table_of before) t) b
met-released before t b number count middle released middle_is number_is count_is enough released_is =
    let e : nat_le (unwrap_or (slice_get before.barriers.items b) 0) (count_by (waits_at b) (arrived (table_of before) t).seats) ≡ true =
    rw (sym middle_is, sym count_is, sym number_is) (le-leb number count enough) in
    rw (released_is, middle_is, e) refl

pub met-not : (before : Ring) (t b number count : ℕ) (middle : List Seat) → map seat_of middle ≡ (arrived (table_of before) t).seats
    → number ≡ unwrap_or (slice_get before.barriers.items b) 0
    → count ≡ count_by (waits_at b) (map seat_of middle) → count < number
    → record (table_of before) { seats = map seat_of middle } ≡ met (arrived (table_of before) t) b
met-not before t b number count middle middle_is number_is count_is few =
    let e : nat_le (unwrap_or (slice_get before.barriers.items b) 0) (count_by (waits_at b) (arrived (table_of before) t).seats) ≡ false =
    rw (sym middle_is, sym count_is, sym number_is) (lt-leb number count few) in
    rw (middle_is, e) refl

come-away : (s : Stand) (table : Table) (t b : ℕ) → is_away s ≡ true → come_to s table t b ≡ met (arrived table t) b
come-away Away table t b e = refl
come-away Waits table t b e = absurd (false≢true e)
come-away Released table t b e = absurd (false≢true e)

come-there : (s : Stand) (table : Table) (t b : ℕ) → is_away s ≡ false → come_to s table t b ≡ table
come-there Away table t b e = absurd (false≢true (sym e))
come-there Waits table t b e = refl
come-there Released table t b e = refl

abbrev pub HasCome : Ring → Ring → ℕ → ℕ → Type 0
HasCome before after t b = table_of after ≡ come_to (stand_of (table_of before) t) (table_of before) t b

pub come-by : (before after : Ring) (t b : ℕ) (seat : SeatThere) → slice_get (table_of before).seats t ≡ Some seat
    → is_away seat.stand ≡ true → table_of after ≡ met (arrived (table_of before) t) b → HasCome before after t b
come-by before after t b seat at away e =
    e ∙ sym (ap (λ s. come_to s (table_of before) t b) (stand-at (table_of before) t seat at)
    ∙ come-away seat.stand (table_of before) t b away)

pub come-not : (before after : Ring) (t b : ℕ) (seat : SeatThere) → slice_get (table_of before).seats t ≡ Some seat
    → is_away seat.stand ≡ false → after ≡ before → HasCome before after t b
come-not before after t b seat at away e =
    ap table_of e ∙ sym (ap (λ s. come_to s (table_of before) t b) (stand-at (table_of before) t seat at)
    ∙ come-there seat.stand (table_of before) t b away)

pub met-next : (table : Table) (t b : ℕ) → next_of (met (arrived table t) b) t ≡ next_of table t
met-next table t b = go (nat_le (unwrap_or (slice_get table.barriers b) 0) (count_by (waits_at b) (arrived table t).seats))
  where
    go : (all : Bool) → next_of (cond all (opened table t b) (arrived table t)) t ≡ next_of table t
    go true = opened_next table t b t
    go false = arrived_next table t t

come-next : (s : Stand) (table : Table) (t b : ℕ) → next_of (come_to s table t b) t ≡ next_of table t
come-next Away table t b = met-next table t b
come-next Waits table t b = refl
come-next Released table t b = refl

pub next-there : (before after : Ring) (t b : ℕ) (next : Next) → HasCome before after t b → next_of (table_of before) t ≡ Some next
    → next_of (table_of after) t ≡ Some next
next-there before after t b next e at = ap (λ r. next_of r t) e ∙ come-next (stand_of (table_of before) t) (table_of before) t b ∙ at

goes : (s : Stand) (table : Table) (t : ℕ) (next : Next) → is_free_to_go s ≡ true → at_barrier s table t next ≡ issuing table t next
goes Away table t next e = absurd (false≢true e)
goes Waits table t next e = absurd (false≢true e)
goes Released table t next e = refl

waits : (s : Stand) (table : Table) (t : ℕ) (next : Next) → is_free_to_go s ≡ false → at_barrier s table t next ≡ passing table t
waits Away table t next e = refl
waits Waits table t next e = refl
waits Released table t next e = absurd (false≢true (sym e))

pub meets-goes : (before after : Ring) (t b : ℕ) (seat : SeatThere) (next : Next) → HasCome before after t b
    → slice_get (table_of after).seats t ≡ Some seat → is_free_to_go seat.stand ≡ true
    → tried (sync_op.Barrier b) (table_of before) t next ≡ issuing (table_of after) t next
meets-goes before after t b seat next e at free =
    rw (sym e, stand-at (table_of after) t seat at) (goes seat.stand (table_of after) t next free)

pub meets-waits : (before after : Ring) (t b : ℕ) (seat : SeatThere) (next : Next) → HasCome before after t b
    → slice_get (table_of after).seats t ≡ Some seat → is_free_to_go seat.stand ≡ false
    → tried (sync_op.Barrier b) (table_of before) t next ≡ passing (table_of after) t
meets-waits before after t b seat next e at free =
    rw (sym e, stand-at (table_of after) t seat at) (waits seat.stand (table_of after) t next free)

-- a thread that has passed ends the run
pub turn-stuck : (table : Table) (t : ℕ) (seat : SeatThere) (next : Next) → LooksAt table (Some t) → slice_get table.seats t ≡ Some seat
    → seat.next ≡ Some next → seat.passed ≡ true → turn table ≡ deadlocked (look table (numbers 0 (length table.seats)))
turn-stuck table t seat next looks at is passed = rw (looks, next-at table t seat at ∙ is, passed-at table t seat at, passed) refl

-- an unknown thread is needed
pub turn-needs : (ring : Ring) (t : ℕ) → LooksAt (table_of ring) (Some t) → next_of (table_of ring) t ≡ None
    → turn (table_of ring) ≡ Done (Needs t)
turn-needs ring t looks none = rw (looks, none) refl

pub turn-finished : (ring : Ring) → LooksAt (table_of ring) None → turn (table_of ring) ≡ Done (Ended Finished)
turn-finished ring looks = rw looks refl

abbrev NextIs : Ring → ℕ → Next → Type 0
NextIs ring t next = next_of (table_of ring) t ≡ Some next

-- what an issue after an arrival gives
pub goes-on : (r : Result TurnHere AllocError) (before middle after : Ring) (t b : ℕ)
    → IfOk r (λ r. (next : Next) → NextIs middle t next → issuing (table_of middle) t next ≡ gives r (table_of after))
    → ((next : Next) → NextIs before t next → (tried (sync_op.Barrier b) (table_of before) t next ≡ issuing (table_of middle) t next)
    × NextIs middle t next)
    → IfOk r (λ r. (next : Next) → NextIs before t next → tried (sync_op.Barrier b) (table_of before) t next ≡ gives r (table_of after))
goes-on (Ok r) before middle after t b issues leads = λ next e. (leads next e).0 ∙ issues next (leads next e).1
goes-on (Err e) before middle after t b issues leads = issues

-- the turn follows a rule
pub by-rule : (r : Result TurnHere AllocError) (before after : Ring) (t : ℕ) (next : Next) (rule : Next → Again Table Turn)
    → turn (table_of before) ≡ rule next → NextIs before t next
    → IfOk r (λ r. (next : Next) → NextIs before t next → rule next ≡ gives r (table_of after))
    → IfOk r (λ r. turn (table_of before) ≡ gives r (table_of after))
by-rule (Ok r) before after t next rule turns is goes = turns ∙ goes next is
by-rule (Err e) before after t next rule turns is goes = goes

-- or one that tells the line
pub by-line : (r : Result TurnHere AllocError) (before after : Ring) (t : ℕ) (next : Next) (rule : Next → Again Table Turn)
    → turn (table_of before) ≡ rule next → NextIs before t next
    → IfOk r (λ r. (n : Next) → NextIs before t n → n.line ≡ next.line → rule n ≡ gives r (table_of after))
    → IfOk r (λ r. turn (table_of before) ≡ gives r (table_of after))
by-line (Ok r) before after t next rule turns is goes = turns ∙ goes next is refl
by-line (Err e) before after t next rule turns is goes = goes

-- or that of a fork
pub by-fork : (r : Result TurnHere AllocError) (before after : Ring) (t : ℕ) (next : Next) (task : ℕ) (arguments : List ℤ)
    → turn (table_of before) ≡ tried (sync_op.Fork task arguments) (table_of before) t next → NextIs before t next
    → IfOk r (λ r. (n : Next) (k : ℕ) (values : List ℤ) → NextIs before t n → n.line ≡ next.line
    → tried (sync_op.Fork k values) (table_of before) t n ≡ gives r (table_of after))
    → IfOk r (λ r. turn (table_of before) ≡ gives r (table_of after))
by-fork (Ok r) before after t next task arguments turns is goes = turns ∙ goes next task arguments is refl
by-fork (Err e) before after t next task arguments turns is goes = goes

-- the run ends
pub by-end : (r : Result TurnHere AllocError) (before : Ring) (e : End) → turn (table_of before) ≡ Done (Ended e)
    → IfOk r (λ r. r ≡ here.Ended e) → IfOk r (λ r. turn (table_of before) ≡ gives r (table_of before))
by-end (Ok r) before e turns is = turns ∙ ap (λ r. gives r (table_of before)) (sym is)
by-end (Err a) before e turns is = is

-- a turn that does not pass is the last
pub last-turn : (r : TurnHere) (after : Table) → (r ≡ here.Pass → ⊥)
    → go_on turn turns_left (Ended Finished) next_issue (gives r after) ≡ gave r after
last-turn (here.Issue t next child) after goes = refl
last-turn here.Pass after goes = absurd (goes refl)
last-turn (here.Needs t) after goes = refl
last-turn (here.Ended e) after goes = refl

-- a synchronisation that no rule keeps from it begins a subthread
pub tried-issues : (op : SyncOp) (table : Table) (t : ℕ) (next : Next) → ((lock : ℕ) → op ≡ sync_op.Lock lock → ⊥)
    → ((task : ℕ) (arguments : List ℤ) → op ≡ sync_op.Fork task arguments → ⊥) → ((h : ℤ) → op ≡ sync_op.Join h → ⊥)
    → ((barrier : ℕ) → op ≡ sync_op.Barrier barrier → ⊥) → (op ≡ sync_op.BadIndex → ⊥) → (op ≡ sync_op.Spent → ⊥)
    → tried op table t next ≡ issuing table t next
tried-issues sync_op.Start table t next lock fork join barrier index spent = refl
tried-issues (sync_op.Unlock l) table t next lock fork join barrier index spent = refl
tried-issues (sync_op.Settle register control) table t next lock fork join barrier index spent = refl
tried-issues sync_op.End table t next lock fork join barrier index spent = refl
tried-issues (sync_op.Lock l) table t next lock fork join barrier index spent = absurd (lock l refl)
tried-issues (sync_op.Fork task arguments) table t next lock fork join barrier index spent = absurd (fork task arguments refl)
tried-issues (sync_op.Join h) table t next lock fork join barrier index spent = absurd (join h refl)
tried-issues (sync_op.Barrier b) table t next lock fork join barrier index spent = absurd (barrier b refl)
tried-issues sync_op.BadIndex table t next lock fork join barrier index spent = absurd (index refl)
tried-issues sync_op.Spent table t next lock fork join barrier index spent = absurd (spent refl)
