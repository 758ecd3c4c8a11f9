-- The order of subthreads and the plain run: one subthread after another, on one thread, as a token goes round the threads (after
-- G. Gupta, S. Sridharan and G. S. Sohi, Globally precise-restartable execution of parallel programs, PLDI 2014). For example, the text
--     task tell(n) { print n; }
--     task main() { var i; while i < 1 { i = i + 1; } fork tell(i + 1); print i; join 1; }
-- has four subthreads, at the positions 0 to 3: thread 0 from its start, with the loop, which prints nothing; thread 0
-- from the fork of thread 1, which prints 1; thread 1 from its start, which prints 2; thread 0 from the join of thread 1,
-- which has ended, and it prints nothing. Then both threads have ended: the run is finished. A limit of no loop turn
-- would end it Spent 0, after position 0, and one of three subthreads Spent 3, after position 2.
use Rattle.std.specs.Prelude.{ℕ, suc, ℤ, pos, negsuc, ◌+◌, ◌*◌, ◌==◌, Bool, true, false, not, cond, List, [], ◌∷◌, ◌++◌, length, replicate, map, count_by, Option, Some, None, is_none, nat_lt, nat_le, slice_get, unwrap_or}
use Rattle.gp_base.specs.declared.limits.TheConstants.{MOST_THREADS}
use Rattle.gp_base.specs.declared.limits.Limits.{Limits}
use Rattle.gp_base.specs.declared.feed.Inputs.{Inputs}
use Rattle.gp_base.specs.declared.ending.Why.{Why}
use Rattle.gp_base.specs.declared.ending.Why.TheVariants as why
use Rattle.gp_base.specs.declared.ending.End.{End}
use Rattle.gp_base.specs.declared.ending.End.TheVariants.{Finished, Stuck, Spent}
use Rattle.task_ast.specs.declared.sync.SyncOp.{SyncOp}
use Rattle.task_ast.specs.declared.sync.SyncOp.TheVariants as sync
use Rattle.task_ast.specs.declared.sync.Next.{Next}
use Rattle.task_ast.specs.meaning.Tree.{Program}
use Rattle.task_ast.specs.meaning.Names.{locks_of, barriers_of, cells_in, registers_of, records_of}
use Rattle.task_ast.specs.meaning.Control.{Point, with_number, beginning, first_actions, tree_body}
use Rattle.task_ast.specs.meaning.State.{State, RegistersOf, number_at, opened, with_registers, cell_value}
use Rattle.task_ast.specs.meaning.Effect.{effect, after}
use Rattle.task_ast.specs.meaning.Repeat.{Again, More, Done, Move, Goes, Ends, until_done, steps, state_after}
use Rattle.task_ast.specs.meaning.Table.{Stand, Away, Waits, Released, numbers, ring, is_end, with_nth, is_waiting, owned_from}
use Rattle.task_ast.specs.meaning.Turn.{owners_after, child_of, is_away}
use Rattle.task_ast.specs.meaning.Plain.{Subthread, task_at, start_point, setting_of, main_number, main_task, ending_of}

-- one thread: the synchronisation that comes next, the position of its last subthread, whether it has passed since the last issue or
-- arrival, how it stands to the barrier that comes next, and where it stands in its text
pub record Thread : Type 0 where
  pub next : Next
  pub last : Option ℕ
  pub passed : Bool
  pub stand : Stand
  pub at : Point

-- the threads, the owner of each lock cell, whose turn was last, how many subthreads there were, and the data
pub record Run : Type 0 where
  pub threads : List Thread
  pub owners : List (Option ℕ)
  pub token : Option ℕ
  pub issued : ℕ
  pub state : State

-- a thread after a change: it has not passed since
abbrev pub unpassed_thread : Thread → Thread
unpassed_thread th = record th { passed = false }

-- the run in which one thread is changed
abbrev pub with_thread : Run → ℕ → (Thread → Thread) → Run
with_thread x t f = record x { threads = with_nth x.threads t f }

-- whether a synchronisation is this barrier
abbrev pub is_barrier_of : ℕ → SyncOp → Bool
is_barrier_of b (sync.Barrier c) = b == c
is_barrier_of b _ = false

-- whether the thread waits at this barrier
abbrev pub is_held_at : ℕ → Thread → Bool
is_held_at b th = cond (is_waiting th.stand) (is_barrier_of b th.next.sync) false

-- a thread that waits at this barrier is released
abbrev pub let_go : ℕ → Thread → Thread
let_go b th = cond (is_held_at b th) (record th { stand = Released }) th

-- a settle first sets a control variable to the value that the register has
abbrev pub settled_point : SyncOp → List ℤ → Point → Point
settled_point (sync.Settle register control) registers p = record p { names = with_number p.names control (number_at registers register) }
settled_point _ registers p = p

-- the run ends at this thread's next synchronisation
abbrev pub stuck_at : Why → ℕ → Thread → Again Run (Move Run Subthread End)
stuck_at cause t th = Done (Ends (Stuck cause t th.next.line))

-- a thread that isn't enabled passes
abbrev pub passes_on : Run → ℕ → Again Run (Move Run Subthread End)
passes_on x t = More (record (with_thread x t (λ th. record th { passed = true })) { token = Some t })

module _ (program : Program) (inputs : Inputs) (limits : Limits) where
  -- a thread at the start of its task
  abbrev pub starting : (task thread : ℕ) → List ℤ → Thread
  starting task t arguments =
      record {
        next = record { sync = sync.Start; line = 0 };
        last = None;
        passed = false;
        stand = Away;
        at = start_point (task_at program task) t arguments;
      }

  -- the thread of this number
  abbrev pub thread_at : Run → ℕ → Thread
  thread_at x t = unwrap_or (slice_get x.threads t) (starting 0 t [])

  -- a forked thread stands last
  abbrev pub with_forked : SyncOp → List Thread → List Thread
  with_forked (sync.Fork task arguments) threads = threads ++ starting task (length threads) arguments ∷ []
  with_forked _ threads = threads

  -- the thread performs its synchronisation and begins one subthread, which goes on up to the next one
  abbrev pub begun_by : Run → ℕ → Thread → Move Run Subthread End
  begun_by x t th =
      let op = th.next.sync in
      let child = child_of op (length x.threads) in
      let owners = owners_after op t x.owners in
      let p = settled_point op (x.state (RegistersOf t)) th.at in
      let b = tree_body (setting_of program inputs) limits.turns (beginning op child p) in
      let actions = first_actions (setting_of program inputs) op p ++ b.actions in
      let e = effect t op child actions x.state in
      let there : Thread = record { next = b.next; last = Some x.issued; passed = false; stand = Away; at = b.at } in
      Goes
      (record { thread = t; begins = th.next; child = child; held = owned_from 0 owners t; actions = actions; lines = e.prints })
      (record {
        threads = with_forked op (with_nth (map unpassed_thread x.threads) t (λ _. there));
        owners = owners;
        token = Some t;
        issued = suc x.issued;
        state = after e x.state;
      })

  -- so it does where it is enabled, unless the limit is reached
  abbrev pub goes_on : Run → ℕ → Thread → Again Run (Move Run Subthread End)
  goes_on x t th = Done (cond (nat_lt x.issued limits.subthreads) (begun_by x t th) (Ends (Spent limits.subthreads)))

  -- where the stated number of threads wait at a barrier, all of them are released
  abbrev pub all_met : Run → ℕ → Run
  all_met x b =
      cond (nat_le (unwrap_or (slice_get (map (λ h. h.1) (barriers_of program.heads)) b) 0) (count_by (is_held_at b) x.threads))
      (record x { threads = map (let_go b) x.threads })
      x

  -- a thread that has not arrived arrives, which counts as a change
  abbrev pub comes_to : Stand → Run → ℕ → ℕ → Run
  comes_to Away x t b = all_met (with_thread (record x { threads = map unpassed_thread x.threads }) t (λ th. record th { stand = Waits })) b
  comes_to _ x t b = x

  -- a released thread is enabled, and a waiting one passes
  abbrev pub stands_at : Stand → Run → ℕ → Thread → Again Run (Move Run Subthread End)
  stands_at Released x t th = goes_on x t th
  stands_at _ x t th = passes_on x t

  -- whether the thread has ended
  abbrev pub has_finished : Run → ℕ → Bool
  has_finished x t = is_end (thread_at x t).next.sync

  -- the rules at the turn of a thread
  abbrev pub tries_by : SyncOp → Run → ℕ → Thread → Again Run (Move Run Subthread End)
  tries_by sync.BadIndex x t th = stuck_at why.Index t th
  tries_by sync.Spent x t th = Done (Ends (Spent (unwrap_or th.last 0)))
  tries_by (sync.Join (pos h)) x t th =
      cond (nat_lt h (length x.threads)) (cond (has_finished x h) (goes_on x t th) (passes_on x t)) (stuck_at why.Join t th)
  tries_by (sync.Join (negsuc h)) x t th = stuck_at why.Join t th
  tries_by (sync.Fork task arguments) x t th = cond (nat_lt (length x.threads) MOST_THREADS) (goes_on x t th) (stuck_at why.Threads t th)
  tries_by (sync.Lock l) x t th = cond (is_none (unwrap_or (slice_get x.owners l) None)) (goes_on x t th) (passes_on x t)
  tries_by (sync.Barrier b) x t th = let there = comes_to th.stand x t b in stands_at (thread_at there t).stand there t th
  tries_by _ x t th = goes_on x t th

  -- the first of these threads that has not ended
  abbrev pub first_up : Run → List ℕ → Option ℕ
  first_up x [] = None
  first_up x (t ∷ ts) = cond (has_finished x t) (first_up x ts) (Some t)

  -- nobody can go on: the least-numbered thread that has not ended is told
  abbrev pub dead_at : Run → Option ℕ → Again Run (Move Run Subthread End)
  dead_at x None = Done (Ends Finished)
  dead_at x (Some t) = stuck_at why.Deadlock t (thread_at x t)

  -- the turn of the thread that the token comes to; a token that comes back to a thread that has passed has found a deadlock
  abbrev pub turn_of : Run → Option ℕ → Again Run (Move Run Subthread End)
  turn_of x None = Done (Ends Finished)
  turn_of x (Some t) =
      cond (thread_at x t).passed (dead_at x (first_up x (numbers 0 (length x.threads))))
      (tries_by (thread_at x t).next.sync x t (thread_at x t))

  abbrev pub one_turn : Run → Again Run (Move Run Subthread End)
  one_turn x = turn_of x (first_up x (ring x.token (length x.threads)))

  -- so many turns may pass: all threads once after each arrival that is still to come, and those that have not passed
  abbrev pub left_turns : Run → ℕ
  left_turns x = suc (length x.threads) * count_by (λ th. is_away th.stand) x.threads + count_by (λ th. not th.passed) x.threads

  -- the next subthread, or the end
  abbrev pub plain_move : Run → Move Run Subthread End
  plain_move x = until_done one_turn left_turns (Ends Finished) x

  -- thread 0 at the start of `main`
  abbrev pub plain_opening : Run
  plain_opening =
      record {
        threads = starting (main_number program) 0 [] ∷ [];
        owners = replicate (cells_in (locks_of program.heads)) None;
        token = None;
        issued = 0;
        state = with_registers 0 (length (registers_of (main_task program))) (opened inputs.records);
      }

  -- each subthread in order; one step more than the limit finds the end
  abbrev pub plain_order : List Subthread
  plain_order = steps plain_move (suc limits.subthreads) plain_opening

  -- the run before the subthread at a position, or at its end where that comes before
  abbrev pub plain_before : (position : ℕ) → Run
  plain_before p = state_after plain_move p plain_opening

  -- how the run ends
  abbrev pub plain_end : End
  plain_end = ending_of (plain_move (plain_before (suc limits.subthreads)))

  -- the cells of all records at the end
  abbrev pub plain_records : List ℤ
  plain_records = map (cell_value (plain_before (suc limits.subthreads)).state) (numbers 0 (cells_in (records_of program.heads)))
