-- The turns of the threads as a token goes round, where some next synchronisations may be unknown.
use Rattle.std.specs.Prelude.{ℕ, suc, pos, negsuc, ◌+◌, ◌*◌, Bool, true, false, not, cond, List, [], ◌∷◌, ◌++◌, length, map, count_by, Option, Some, None, is_none, nat_lt, nat_le, slice_get, unwrap_or}
use Rattle.std.specs.Option.{option_map}
use Rattle.gp_base.specs.declared.limits.TheConstants.{MOST_THREADS}
use Rattle.gp_base.specs.declared.ending.Why.{Why}
use Rattle.gp_base.specs.declared.ending.Why.TheVariants as why
use Rattle.gp_base.specs.declared.ending.End.{End}
use Rattle.gp_base.specs.declared.ending.End.TheVariants.{Finished, Stuck, Spent}
use Rattle.task_ast.specs.declared.sync.SyncOp.{SyncOp}
use Rattle.task_ast.specs.declared.sync.SyncOp.TheVariants as sync
use Rattle.task_ast.specs.declared.sync.Next.{Next}
use Rattle.task_ast.specs.meaning.Repeat.{Again, More, Done, until_done}
use Rattle.task_ast.specs.meaning.Table.{Stand, Away, Waits, Released, numbers, ring, is_end}
use Rattle.task_ast.specs.Table.{Seat, Table, next_of, last_in, unpassed, with_seat, new_seat, waits_at}
use Rattle.task_ast.specs.meaning.Turn.{owners_after, child_of, is_away}

-- what a turn does besides passing; it needs a thread's next synchronisation where the rules look at it and it is unknown
pub data Turn : Type 0 where
  Issue : (thread : ℕ) → Next → (child : Option ℕ) → Table → Turn
  Needs : (thread : ℕ) → Turn
  Ended : End → Turn

-- which thread the token comes to
pub data Look : Type 0 where
  To : (thread : ℕ) → Next → Look
  Unknown : (thread : ℕ) → Look
  NoThread : Look

-- this thread, unless it has ended
abbrev pub look_at : ℕ → Option Next → Look → Look
look_at t None others = Unknown t
look_at t (Some next) others = cond (is_end next.sync) others (To t next)

-- the first of these threads that has not ended
abbrev pub look : Table → List ℕ → Look
look table [] = NoThread
look table (t ∷ ts) = look_at t (next_of table t) (look table ts)

-- a thread that isn't enabled passes
abbrev pub passing : Table → ℕ → Again Table Turn
passing table t = More (record (with_seat table t (λ s. record s { passed = true })) { token = Some t })

-- a forked thread stands last
abbrev pub seats_after : SyncOp → List Seat → List Seat
seats_after (sync.Fork task arguments) seats = seats ++ new_seat ∷ []
seats_after _ seats = seats

-- a thread that is enabled performs its synchronisation and begins one subthread, unless the limit is reached
abbrev pub issuing : Table → ℕ → Next → Again Table Turn
issuing table t next =
    cond (nat_lt table.issued table.limit)
    (Done (Issue t next (child_of next.sync (length table.seats)) (record {
      limit = table.limit;
      barriers = table.barriers;
      seats =
          seats_after next.sync (map unpassed (with_seat table t
          (λ s. record { next = None; last = Some table.issued; passed = false; stand = Away })).seats);
      owners = owners_after next.sync t table.owners;
      token = Some t;
      issued = suc table.issued;
    })))
    (Done (Ended (Spent table.limit)))

-- how a thread stands to the barrier that comes next
abbrev pub stand_of : Table → ℕ → Stand
stand_of table t = unwrap_or (option_map (λ s. s.stand) (slice_get table.seats t)) Away

-- a thread that waits at this barrier is released
abbrev pub released_at : ℕ → Seat → Seat
released_at b s = cond (waits_at b s) (record s { stand = Released }) s

-- the thread arrives, which counts as a change
abbrev pub arrived : Table → ℕ → Table
arrived table t = with_seat (record table { seats = map unpassed table.seats }) t (λ s. record s { stand = Waits })

-- where the stated number of threads wait, all of them are released
abbrev pub met : Table → ℕ → Table
met table b =
    cond (nat_le (unwrap_or (slice_get table.barriers b) 0) (count_by (waits_at b) table.seats))
    (record table { seats = map (released_at b) table.seats })
    table

-- a thread that has not arrived arrives
abbrev pub come_to : Stand → Table → ℕ → ℕ → Table
come_to Away table t b = met (arrived table t) b
come_to _ table t b = table

-- a released thread is enabled, and a waiting one passes
abbrev pub at_barrier : Stand → Table → ℕ → Next → Again Table Turn
at_barrier Released table t next = issuing table t next
at_barrier _ table t next = passing table t

-- a join of a thread whose next synchronisation is this
abbrev pub at_join : ℕ → Option Next → Table → ℕ → Next → Again Table Turn
at_join h None table t next = Done (Needs h)
at_join h (Some other) table t next = cond (is_end other.sync) (issuing table t next) (passing table t)

-- the position of the thread's last subthread; 0 where it has none
abbrev pub last_of : Table → ℕ → ℕ
last_of table t = unwrap_or (last_in table t) 0

-- the run ends at this thread's next synchronisation
abbrev pub stuck : Why → ℕ → Next → Again Table Turn
stuck cause t next = Done (Ended (Stuck cause t next.line))

-- the rules at the turn of a thread whose next synchronisation is this
abbrev pub tried : SyncOp → Table → ℕ → Next → Again Table Turn
tried sync.BadIndex table t next = stuck why.Index t next
tried sync.Spent table t next = Done (Ended (Spent (last_of table t)))
tried (sync.Join (pos h)) table t next =
    cond (nat_lt h (length table.seats)) (at_join h (next_of table h) table t next) (stuck why.Join t next)
tried (sync.Join (negsuc h)) table t next = stuck why.Join t next
tried (sync.Fork task arguments) table t next =
    cond (nat_lt (length table.seats) MOST_THREADS) (issuing table t next) (stuck why.Threads t next)
tried (sync.Lock l) table t next = cond (is_none (unwrap_or (slice_get table.owners l) None)) (issuing table t next) (passing table t)
tried (sync.Barrier b) table t next = let there = come_to (stand_of table t) table t b in at_barrier (stand_of there t) there t next
tried _ table t next = issuing table t next

-- whether the thread has passed since the last issue or arrival
abbrev pub has_passed : Table → ℕ → Bool
has_passed table t = unwrap_or (option_map (λ s. s.passed) (slice_get table.seats t)) false

-- nobody can go on: the least-numbered thread that has not ended is told
abbrev pub deadlocked : Look → Again Table Turn
deadlocked (To t next) = stuck why.Deadlock t next
deadlocked (Unknown t) = Done (Needs t)
deadlocked NoThread = Done (Ended Finished)

-- the turn of the thread that the token comes to; a token that comes back to a thread that has passed has found a deadlock
abbrev pub at_look : Look → Table → Again Table Turn
at_look NoThread table = Done (Ended Finished)
at_look (Unknown t) table = Done (Needs t)
at_look (To t next) table =
    cond (has_passed table t) (deadlocked (look table (numbers 0 (length table.seats)))) (tried next.sync table t next)

-- one turn: a pass, or what is done
abbrev pub turn : Table → Again Table Turn
turn table = at_look (look table (ring table.token (length table.seats))) table

-- so many turns may pass: all threads once after each arrival that is still to come, and those that have not passed
abbrev pub turns_left : Table → ℕ
turns_left table = suc (length table.seats) * count_by (λ s. is_away s.stand) table.seats + count_by (λ s. not s.passed) table.seats

-- turns up to an issue, an end, or a next synchronisation that isn't known
abbrev pub next_issue : Table → Turn
next_issue table = until_done turn turns_left (Ended Finished) table
