-- What a turn leaves of the threads, and the one form that an issue has. A pass keeps the threads and what is known of
-- them (SameThreads). So by the rules of a turn, and then over all the passes before it, an issue is one from a table
-- with the same threads, of a thread whose next synchronisation is known and may begin.
use Rattle.std.proofs.Common.{◌≡◌, ℕ, zero, suc, ◌<◌, Bool, true, false, cond, map, length, Option, Some, None, is_none, nat_lt, nat_le, unwrap_or, refl, sym, ap, ◌∙◌, subst, arith, count_by, option_and_then}
use Rattle.std.specs.Prelude.{slice_get, pos, negsuc}
use Rattle.std.proofs.lemmas.Bool.{ltb-true, false≢true}
use Rattle.std.proofs.lemmas.List.{length-map}
use Rattle.gp_base.specs.declared.limits.TheConstants.{MOST_THREADS}
use Rattle.gp_base.specs.declared.ending.End.{End}
use Rattle.gp_base.specs.declared.ending.End.TheVariants.{Finished}
use Rattle.task_ast.specs.declared.sync.SyncOp.{SyncOp}
use Rattle.task_ast.specs.declared.sync.SyncOp.TheVariants as sync
use Rattle.task_ast.specs.declared.sync.Next.{Next}
use Rattle.task_ast.specs.meaning.Repeat.{Again, More, Done, go_on, repeated, until_done}
use Rattle.task_ast.specs.meaning.Table.{Stand, Away, Waits, Released, ring, is_end, numbers}
use Rattle.task_ast.specs.Table.{Seat, Table, next_of, unpassed, with_seat, waits_at, is_known_end, owner_in}
use Rattle.task_ast.specs.meaning.Turn.{owners_after, child_of}
use Rattle.task_ast.specs.Turn.{Turn, Issue, Needs, Ended, Look, To, Unknown, NoThread, look, passing, issuing, seats_after, stand_of, released_at, arrived, met, come_to, at_barrier, at_join, tried, has_passed, at_look, turn, turns_left, next_issue, deadlocked}
use Rattle.task_ast.proofs.Counting.{length-with_nth}
use Rattle.task_ast.proofs.Rounds.{keeps_nth, keeps_map, length_arrive, pass, wait, arrive}
use Rattle.task_ast.proofs.Turns.{Known, known_to, look_known}
use Rattle.task_ast.specs.laws.Threads.{SameThreads, MayBegin}

pub same_threads : (table : Table) → SameThreads table table
same_threads table = record { threads = refl; next = λ u. refl; last = λ u. refl; owners = refl; limit = refl; issued = refl }

pub same_then : {a b c : Table} → SameThreads a b → SameThreads b c → SameThreads a c
same_then f g =
    record {
      threads = g.threads ∙ f.threads;
      next = λ u. g.next u ∙ f.next u;
      last = λ u. g.last u ∙ f.last u;
      owners = g.owners
          ∙ f.owners;
      limit = g.limit ∙ f.limit;
      issued = g.issued ∙ f.issued;
    }

-- the table after an issue
abbrev pub issued_table : Table → ℕ → Next → Table
issued_table table t next =
    record {
      limit = table.limit;
      barriers = table.barriers;
      seats =
          seats_after next.sync (map unpassed (with_seat table t
          (λ s. record s { next = None; last = Some table.issued; passed = false; stand = Away })).seats);
      owners = owners_after next.sync t table.owners;
      token = Some t;
      issued = suc table.issued;
    }

-- what may begin in a table with the same threads may begin
may_same : {table there : Table} → SameThreads table there → (op : SyncOp) → MayBegin there op → MayBegin table op
may_same same (sync.Lock l) may = ap (λ owners. owner_in owners l) (sym same.owners) ∙ may
may_same same (sync.Fork task arguments) may = subst (λ n. n < MOST_THREADS) same.threads may
may_same same (sync.Join (pos h)) may = (subst (λ n. h < n) same.threads may.0, ap is_known_end (sym (same.next h)) ∙ may.1)
may_same same (sync.Join (negsuc h)) may = may
may_same same sync.Start may = tt
may_same same (sync.Unlock l) may = tt
may_same same (sync.Settle register control) may = tt
may_same same (sync.Barrier b) may = tt
may_same same sync.End may = may
may_same same sync.BadIndex may = may
may_same same sync.Spent may = may

-- each pass keeps the threads, and each issue is one from a table with the same threads
pub data Form (table : Table) : Again Table Turn → Type 0 where
  passes : {there : Table} → SameThreads table there → Form table (More there)
  issues : {t : ℕ} {next : Next} (there : Table) → SameThreads table there → next_of table t ≡ Some next → table.issued < table.limit
      → MayBegin table next.sync
      → Form table (Done (Issue t next (child_of next.sync (length there.seats)) (issued_table there t next)))
  needs : {t : ℕ} → Form table (Done (Needs t))
  ends : {ending : End} → Form table (Done (Ended ending))

cond_form : (table : Table) (b : Bool) (f g : Again Table Turn) → (b ≡ true → Form table f) → (b ≡ false → Form table g)
    → Form table (cond b f g)
cond_form table true f g first second = first refl
cond_form table false f g first second = second refl

issuing_form : (table there : Table) (t : ℕ) (next : Next) → SameThreads table there → next_of table t ≡ Some next
    → MayBegin table next.sync → Form table (issuing there t next)
issuing_form table there t next same e may =
    cond_form table (nat_lt there.issued there.limit) _ _
    (λ b. let below : there.issued < there.limit = ltb-true _ _ b in let i = same.issued in let l = same.limit in
    issues there same e (omega arith) may) (λ b. ends)

passing_form : (table there : Table) (t : ℕ) → SameThreads table there → Form table (passing there t)
passing_form table there t same =
    passes (same_then same (record {
      threads = length-with_nth there.seats t pass;
      next = λ u. keeps_nth (λ o. option_and_then (λ s. s.next) o) pass (λ s. refl) there.seats t u;
      last = λ u. keeps_nth (λ o. option_and_then (λ s. s.last) o) pass (λ s. refl) there.seats t u;
      owners = refl;
      limit = refl;
      issued = refl;
    }))

barrier_form : (table there : Table) (stand : Stand) (t : ℕ) (next : Next) → SameThreads table there → next_of table t ≡ Some next
    → MayBegin table next.sync → Form table (at_barrier stand there t next)
barrier_form table there Away t next same e may = passing_form table there t same
barrier_form table there Waits t next same e may = passing_form table there t same
barrier_form table there Released t next same e may = issuing_form table there t next same e may

released_kept : {Y : Type 0} (f : Seat → Option Y) → ((s : Seat) → f (record s { stand = Released }) ≡ f s) → (b : Bool) (s : Seat)
    → f (cond b (record s { stand = Released }) s) ≡ f s
released_kept f same true s = same s
released_kept f same false s = refl

arrived_same : (table : Table) (t : ℕ) → SameThreads table (arrived table t)
arrived_same table t =
    record {
      threads = length_arrive table.seats t;
      next =
          λ u. keeps_nth (λ o. option_and_then (λ s. s.next) o) wait (λ s. refl) (map unpassed table.seats) t u
          ∙ keeps_map (λ o. option_and_then (λ s. s.next) o) unpassed (λ s. refl) table.seats u;
      last =
          λ u. keeps_nth (λ o. option_and_then (λ s. s.last) o) wait (λ s. refl) (map unpassed table.seats) t u
          ∙ keeps_map (λ o. option_and_then (λ s. s.last) o) unpassed (λ s. refl) table.seats u;
      owners = refl;
      limit = refl;
      issued = refl;
    }

released_same : (table : Table) (b : ℕ) → SameThreads table (record table { seats = map (released_at b) table.seats })
released_same table b =
    record {
      threads = length-map table.seats (released_at b);
      next =
          λ u. keeps_map (λ o. option_and_then (λ s. s.next) o) (released_at b)
          (λ s. released_kept (λ s. s.next) (λ s. refl) (waits_at b s) s) table.seats u;
      last =
          λ u. keeps_map (λ o. option_and_then (λ s. s.last) o) (released_at b)
          (λ s. released_kept (λ s. s.last) (λ s. refl) (waits_at b s) s) table.seats u;
      owners = refl;
      limit = refl;
      issued = refl;
    }

met_same : (table : Table) (t b : ℕ) → SameThreads table (met (arrived table t) b)
met_same table t b = go (nat_le (unwrap_or (slice_get table.barriers b) 0) (count_by (waits_at b) (arrive table.seats t)))
  where
    go : (all : Bool)
        → SameThreads table (cond all (record (arrived table t) { seats = map (released_at b) (arrive table.seats t) }) (arrived table t))
    go true = same_then (arrived_same table t) (released_same (arrived table t) b)
    go false = arrived_same table t

come_same : (stand : Stand) (table : Table) (t b : ℕ) → SameThreads table (come_to stand table t b)
come_same Away table t b = met_same table t b
come_same Waits table t b = same_threads table
come_same Released table t b = same_threads table

joining_form : (h : ℕ) (o : Option Next) (table : Table) (t : ℕ) (next : Next) → next_of table t ≡ Some next
    → (is_known_end o ≡ true → MayBegin table next.sync) → Form table (at_join h o table t next)
joining_form h None table t next e may = needs
joining_form h (Some other) table t next e may =
    cond_form table (is_end other.sync) _ _ (λ b. issuing_form table table t next (same_threads table) e (may b))
    (λ b. passing_form table table t (same_threads table))

none_is : (o : Option ℕ) → is_none o ≡ true → o ≡ None
none_is None e = refl
none_is (Some x) e = cc e

tried_form : (op : SyncOp) (table : Table) (t : ℕ) (next : Next) → op ≡ next.sync → is_end op ≡ false → next_of table t ≡ Some next
    → Form table (tried op table t next)
tried_form sync.Start table t next is live e = issuing_form table table t next (same_threads table) e (subst (MayBegin table) is tt)
tried_form (sync.Settle register control) table t next is live e =
    issuing_form table table t next (same_threads table) e (subst (MayBegin table) is tt)
tried_form (sync.Lock l) table t next is live e =
    cond_form table (is_none (owner_in table.owners l)) _ _
    (λ b. issuing_form table table t next (same_threads table) e (subst (MayBegin table) is (none_is (owner_in table.owners l) b)))
    (λ b. passing_form table table t (same_threads table))
tried_form (sync.Unlock l) table t next is live e = issuing_form table table t next (same_threads table) e (subst (MayBegin table) is tt)
tried_form (sync.Fork task arguments) table t next is live e =
    cond_form table (nat_lt (length table.seats) MOST_THREADS) _ _
    (λ b. issuing_form table table t next (same_threads table) e (subst (MayBegin table) is (ltb-true _ _ b))) (λ b. ends)
tried_form (sync.Join (pos h)) table t next is live e =
    cond_form table (nat_lt h (length table.seats)) _ _
    (λ b. joining_form h (next_of table h) table t next e (λ ended. subst (MayBegin table) is (ltb-true _ _ b, ended))) (λ b. ends)
tried_form (sync.Join (negsuc h)) table t next is live e = ends
tried_form (sync.Barrier b) table t next is live e =
    let there = come_to (stand_of table t) table t b in
    barrier_form table there (stand_of there t) t next (come_same (stand_of table t) table t b) e (subst (MayBegin table) is tt)
tried_form sync.End table t next is live e = absurd (false≢true (sym live))
tried_form sync.BadIndex table t next is live e = ends
tried_form sync.Spent table t next is live e = ends

stuck_form : (table : Table) (l : Look) → Form table (deadlocked l)
stuck_form table (To t next) = ends
stuck_form table (Unknown t) = needs
stuck_form table NoThread = ends

look_form : (table : Table) (l : Look) → Known table l → Form table (at_look l table)
look_form table (To t next) (known_to e live) =
    cond_form table (has_passed table t) _ _ (λ b. stuck_form table (look table (numbers 0 (length table.seats))))
    (λ b. tried_form next.sync table t next refl live e)
look_form table (Unknown t) known = needs
look_form table NoThread known = ends

pub turn_form : (table : Table) → Form table (turn table)
turn_form table = look_form table _ (look_known table (ring table.token (length table.seats)))

-- the form of an issue from a table with the same threads
form_from : {table there : Table} {what : Turn} → SameThreads table there → Form there (Done what) → Form table (Done what)
form_from {table = table} same (issues {t = t} {next = next} deep other e less may) =
    let i = same.issued in let l = same.limit in
    issues deep (same_then same other) (sym (same.next t) ∙ e) (omega arith) (may_same same next.sync may)
form_from same needs = needs
form_from same ends = ends

repeated_form : (n : ℕ) (table : Table) → Form table (Done (repeated turn turns_left (Ended Finished) n table))
unfolding repeated
repeated_form zero table = ends
repeated_form (suc n) table = go (turn table) (turn_form table) (repeated_form n)
  where
    go : (r : Again Table Turn) → Form table r → ((there : Table) → Form there (Done (repeated turn turns_left (Ended Finished) n there)))
        → Form table (Done (go_on turn turns_left (Ended Finished) (repeated turn turns_left (Ended Finished) n) r))
    go (More there) (passes same) again = form_from same (again there)
    go (Done what) form again = form

pub next_form : (table : Table) → Form table (Done (next_issue table))
unfolding until_done
next_form table = repeated_form (suc (turns_left table)) table
