-- Each turn that passes leaves fewer turns that may pass. The measure counts the threads that are away from a barrier,
-- many times over, and those that have not passed. A pass is by a thread that had not passed; an arrival makes one less
-- away, whatever else it clears. So `next_issue` is one turn, and the same again where it passes.
use Rattle.std.proofs.Common.{◌≡◌, ℕ, suc, ◌+◌, ◌*◌, ◌<◌, ◌≤◌, Bool, true, false, not, cond, List, [], ◌∷◌, map, length, Option, Some, None, is_none, nat_lt, nat_le, unwrap_or, refl, sym, ap, ◌∙◌, subst, arith, count_by, option_map, option_and_then}
use Rattle.std.specs.Prelude.{slice_get, pos, negsuc}
use Rattle.std.proofs.lemmas.List.{length-map}
use Rattle.std.proofs.lemmas.List.Sums.{count_by-le-length}
use Rattle.gp_base.specs.declared.limits.TheConstants.{MOST_THREADS}
use Rattle.gp_base.specs.declared.ending.End.TheVariants.{Finished}
use Rattle.task_ast.specs.Table.{owner_in, Seat, Table, next_of, unpassed, waits_at}
use Rattle.task_ast.specs.declared.sync.SyncOp.{SyncOp}
use Rattle.task_ast.specs.declared.sync.SyncOp.TheVariants as sync
use Rattle.task_ast.specs.declared.sync.Next.{Next}
use Rattle.task_ast.specs.meaning.Repeat.{Again, More, Done, go_on}
use Rattle.task_ast.specs.Repeat.{IsFalling}
use Rattle.task_ast.specs.meaning.Table.{Stand, Away, Waits, Released, ring, is_end, with_nth, meets, is_waiting, numbers}
use Rattle.task_ast.specs.meaning.Turn.{is_away}
use Rattle.task_ast.specs.Turn.{Turn, Ended, Look, To, Unknown, NoThread, look_at, look, passing, issuing, stand_of, released_at, arrived, met, come_to, at_barrier, at_join, tried, has_passed, at_look, turn, turns_left, next_issue, deadlocked}
use Rattle.task_ast.proofs.Counting.{one, count-with_nth, count-with_nth-same, length-with_nth, count-map, get-map, less_second, less_first}
use Rattle.task_ast.proofs.Repeats.{until_done_step}

-- the thread that the token comes to has this next synchronisation, and has not ended
pub data Known (table : Table) : Look → Type 0 where
  known_to : {t : ℕ} {next : Next} → next_of table t ≡ Some next → is_end next.sync ≡ false → Known table (To t next)
  known_unknown : {t : ℕ} → Known table (Unknown t)
  known_none : Known table NoThread

look_known_at : (table : Table) (t : ℕ) (o : Option Next) (others : Look) → next_of table t ≡ o → Known table others
    → Known table (look_at t o others)
look_known_at table t None others e known = known_unknown
look_known_at table t (Some next) others e known = go (is_end next.sync) refl
  where
    go : (b : Bool) → is_end next.sync ≡ b → Known table (cond b others (To t next))
    go true is = known
    go false is = known_to e is

pub look_known : (table : Table) (ts : List ℕ) → Known table (look table ts)
look_known table [] = known_none
look_known table (t ∷ ts) = look_known_at table t (next_of table t) (look table ts) refl (look_known table ts)

-- a turn that passes leaves fewer than n
data Falls : ℕ → Again Table Turn → Type 0 where
  passes : {n : ℕ} {after : Table} → turns_left after < n → Falls n (More after)
  ends : {n : ℕ} {what : Turn} → Falls n (Done what)

falls-more : {n : ℕ} {after : Table} → Falls n (More after) → turns_left after < n
falls-more (passes less) = less

cond_falls : (n : ℕ) (b : Bool) (first second : Again Table Turn) → Falls n first → Falls n second → Falls n (cond b first second)
cond_falls n true first second f s = f
cond_falls n false first second f s = s

issuing_falls : (n : ℕ) (table : Table) (t : ℕ) (next : Next) → Falls n (issuing table t next)
issuing_falls n table t next = cond_falls n (nat_lt table.issued table.limit) _ _ ends ends

abbrev away : List Seat → ℕ
away seats = count_by (λ s. is_away s.stand) seats

abbrev fresh : List Seat → ℕ
fresh seats = count_by (λ s. not s.passed) seats

abbrev left : List Seat → ℕ
left seats = suc (length seats) * away seats + fresh seats

same_away_less : (seats other : List Seat) → length other ≡ length seats → away other ≡ away seats → fresh other < fresh seats
    → left other < left seats
same_away_less seats other l a f = rw (l, a) (less_second (suc (length seats)) (away seats) (fresh seats) (fresh other) f)

less_away_less : (seats other : List Seat) → length other ≡ length seats → suc (away other) ≡ away seats → left other < left seats
less_away_less seats other l a =
    let most : fresh other ≤ length other = count_by-le-length (λ s. not s.passed) other in
    rw (l, sym a) (less_first (suc (length seats)) (away other) (fresh seats) (fresh other) (omega arith))

abbrev pass : Seat → Seat
pass s = record s { passed = true }

abbrev wait : Seat → Seat
wait s = record s { stand = Waits }

-- a thread that had not passed passes
passing_falls : (table : Table) (t : ℕ) (seat : Seat) → slice_get table.seats t ≡ Some seat → seat.passed ≡ false
    → Falls (turns_left table) (passing table t)
passing_falls table t seat e unpassed_yet =
    let counted : fresh (with_nth table.seats t pass) + one (not seat.passed) ≡ fresh table.seats + 0 =
    count-with_nth (λ s. not s.passed) table.seats t pass seat e in
    let was : one (not seat.passed) ≡ 1 = rw unpassed_yet refl in
    let same = count-with_nth (λ s. is_away s.stand) table.seats t pass seat e in
    passes (same_away_less table.seats (with_nth table.seats t pass) (length-with_nth table.seats t pass) (omega arith) (omega arith))

released-away : (at : Bool) (stand : Stand) (s : Seat) → s.stand ≡ stand
    → is_away (cond (cond (is_waiting stand) at false) (record s { stand = Released }) s).stand ≡ is_away stand
released-away at Away s e = rw e refl
released-away true Waits s e = refl
released-away false Waits s e = rw e refl
released-away at Released s e = rw e refl

away-released : (b : ℕ) (s : Seat) → is_away (released_at b s).stand ≡ is_away s.stand
away-released b s = released-away (meets b s.next) s.stand s refl

abbrev arrive : List Seat → ℕ → List Seat
arrive seats t = with_nth (map unpassed seats) t wait

away-arrive : (seats : List Seat) (t : ℕ) (seat : Seat) → slice_get seats t ≡ Some seat → is_away seat.stand ≡ true
    → suc (away (arrive seats t)) ≡ away seats
away-arrive seats t seat e was_away =
    let counted : away (arrive seats t) + one (is_away seat.stand) ≡ away (map unpassed seats) + 0 =
    count-with_nth (λ s. is_away s.stand) (map unpassed seats) t wait (unpassed seat) (get-map unpassed seats t seat e) in
    let same : away (map unpassed seats) ≡ away seats = count-map (λ s. is_away s.stand) unpassed (λ s. refl) seats in
    let was : one (is_away seat.stand) ≡ 1 = rw was_away refl in
    omega arith

length-arrive : (seats : List Seat) (t : ℕ) → length (arrive seats t) ≡ length seats
length-arrive seats t = length-with_nth (map unpassed seats) t wait ∙ length-map seats unpassed

-- a thread arrives and passes
arrival_falls : (table : Table) (t b : ℕ) (seat : Seat) → slice_get table.seats t ≡ Some seat → is_away seat.stand ≡ true
    → Falls (turns_left table) (passing (met (arrived table t) b) t)
arrival_falls table t b seat e was_away =
    go (nat_le (unwrap_or (slice_get table.barriers b) 0) (count_by (waits_at b) (arrive table.seats t)))
  where
    fallen : (seats : List Seat) → length seats ≡ length table.seats → suc (away seats) ≡ away table.seats
        → left (with_nth seats t pass) < left table.seats
    fallen seats l a =
        let same : away (with_nth seats t pass) ≡ away seats = count-with_nth-same (λ s. is_away s.stand) pass (λ s. refl) seats t in
        less_away_less table.seats (with_nth seats t pass) (length-with_nth seats t pass ∙ l) (ap suc same ∙ a)

    released : List Seat
    released = map (released_at b) (arrive table.seats t)

    go : (all : Bool)
        → Falls (turns_left table) (passing (cond all
        (record (arrived table t) { seats = map (released_at b) (arrive table.seats t) }) (arrived table t)) t)
    go true =
        passes (fallen (map (released_at b) (arrive table.seats t))
        (length-map (arrive table.seats t) (released_at b) ∙ length-arrive table.seats t)
        (ap suc (count-map (λ s. is_away s.stand) (released_at b) (away-released b) (arrive table.seats t))
        ∙ away-arrive table.seats t seat e was_away))
    go false = passes (fallen (arrive table.seats t) (length-arrive table.seats t) (away-arrive table.seats t seat e was_away))

-- a thread at a barrier, where it waits already or is released, or where it has arrived
barrier_falls : (n : ℕ) (stand : Stand) (table : Table) (t : ℕ) (next : Next) → Falls n (passing table t)
    → Falls n (at_barrier stand table t next)
barrier_falls n Away table t next falls = falls
barrier_falls n Waits table t next falls = falls
barrier_falls n Released table t next falls = issuing_falls n table t next

meeting_falls : (stand : Stand) (table : Table) (t b : ℕ) (next : Next) (seat : Seat) → slice_get table.seats t ≡ Some seat
    → seat.passed ≡ false → seat.stand ≡ stand
    → Falls (turns_left table) (at_barrier (stand_of (come_to stand table t b) t) (come_to stand table t b) t next)
meeting_falls Away table t b next seat e unpassed_yet is =
    barrier_falls (turns_left table) (stand_of (met (arrived table t) b) t) (met (arrived table t) b) t next
    (arrival_falls table t b seat e (ap is_away is))
meeting_falls Waits table t b next seat e unpassed_yet is =
    barrier_falls (turns_left table) (stand_of table t) table t next (passing_falls table t seat e unpassed_yet)
meeting_falls Released table t b next seat e unpassed_yet is =
    barrier_falls (turns_left table) (stand_of table t) table t next (passing_falls table t seat e unpassed_yet)

stand_of-is : (table : Table) (t : ℕ) (seat : Seat) → slice_get table.seats t ≡ Some seat → stand_of table t ≡ seat.stand
stand_of-is table t seat e = ap (λ o. unwrap_or (option_map (λ s. s.stand) o) Away) e

joining_falls : (h : ℕ) (o : Option Next) (table : Table) (t : ℕ) (next : Next) → Falls (turns_left table) (passing table t)
    → Falls (turns_left table) (at_join h o table t next)
joining_falls h None table t next falls = ends
joining_falls h (Some other) table t next falls = cond_falls _ (is_end other.sync) _ _ (issuing_falls _ table t next) falls

-- the rules at a thread that has not passed
tried_falls : (op : SyncOp) (table : Table) (t : ℕ) (next : Next) (seat : Seat) → slice_get table.seats t ≡ Some seat → seat.passed ≡ false
    → Falls (turns_left table) (tried op table t next)
tried_falls sync.Start table t next seat e unpassed_yet = issuing_falls _ table t next
tried_falls (sync.Settle register control) table t next seat e unpassed_yet = issuing_falls _ table t next
tried_falls (sync.Lock l) table t next seat e unpassed_yet =
    cond_falls _ (is_none (owner_in table.owners l)) _ _ (issuing_falls _ table t next) (passing_falls table t seat e unpassed_yet)
tried_falls (sync.Unlock l) table t next seat e unpassed_yet = issuing_falls _ table t next
tried_falls (sync.Fork task arguments) table t next seat e unpassed_yet =
    cond_falls _ (nat_lt (length table.seats) MOST_THREADS) _ _ (issuing_falls _ table t next) ends
tried_falls (sync.Join (pos h)) table t next seat e unpassed_yet =
    cond_falls _ (nat_lt h (length table.seats)) _ _
    (joining_falls h (next_of table h) table t next (passing_falls table t seat e unpassed_yet)) ends
tried_falls (sync.Join (negsuc h)) table t next seat e unpassed_yet = ends
tried_falls (sync.Barrier b) table t next seat e unpassed_yet =
    subst (λ stand. Falls (turns_left table) (at_barrier (stand_of (come_to stand table t b) t) (come_to stand table t b) t next))
    (sym (stand_of-is table t seat e))
    (meeting_falls seat.stand table t b next seat e unpassed_yet refl)
tried_falls sync.End table t next seat e unpassed_yet = issuing_falls _ table t next
tried_falls sync.BadIndex table t next seat e unpassed_yet = ends
tried_falls sync.Spent table t next seat e unpassed_yet = ends

-- the seat of a thread whose next synchronisation is known
seat_of : (table : Table) (t : ℕ) (next : Next) → next_of table t ≡ Some next → (seat : Seat) × (slice_get table.seats t ≡ Some seat)
seat_of table t next e = go (slice_get table.seats t) refl e
  where
    go : (o : Option Seat) → slice_get table.seats t ≡ o → option_and_then (λ s. s.next) o ≡ Some next
        → (seat : Seat) × (slice_get table.seats t ≡ Some seat)
    go None is e = absurd (cc e)
    go (Some seat) is e = (seat, is)

stuck_falls : {n : ℕ} (l : Look) → Falls n (deadlocked l)
stuck_falls (To t next) = ends
stuck_falls (Unknown t) = ends
stuck_falls NoThread = ends

look_falls : (table : Table) (l : Look) → Known table l → Falls (turns_left table) (at_look l table)
look_falls table (To t next) (known_to e live) = go (has_passed table t) refl
  where
    there : (seat : Seat) × (slice_get table.seats t ≡ Some seat)
    there = seat_of table t next e

    go : (b : Bool) → has_passed table t ≡ b
        → Falls (turns_left table) (cond b (deadlocked (look table (numbers 0 (length table.seats)))) (tried next.sync table t next))
    go true is = stuck_falls (look table (numbers 0 (length table.seats)))
    go false is =
        tried_falls next.sync table t next there.0 there.1 (sym (ap (λ o. unwrap_or (option_map (λ s. s.passed) o) false) there.1) ∙ is)
look_falls table (Unknown t) known = ends
look_falls table NoThread known = ends

pub turn-IsFalling : IsFalling turn turns_left
turn-IsFalling = record {
  falls =
      λ table after e. falls-more (subst (Falls (turns_left table)) e
      (look_falls table (look table (ring table.token (length table.seats)))
      (look_known table (ring table.token (length table.seats)))));
}

-- `next_issue` is one turn, and then the same again where it passes
pub next_issue_step : (table : Table) → next_issue table ≡ go_on turn turns_left (Ended Finished) next_issue (turn table)
next_issue_step table = until_done_step turn turns_left (Ended Finished) turn-IsFalling table
