-- A turn leaves at most as many threads as may exist, and the thread whose turn was last is one of them. Each rule of a
-- turn passes or issues for the thread that the token comes to, which is there, and no rule takes a thread away; so the
-- thread whose turn was last is there after it (TokenAfter).
use Rattle.std.proofs.Common.{◌≡◌, ℕ, ◌<◌, ◌≤◌, Bool, true, false, cond, nat_lt, nat_le, unwrap_or, is_none, count_by, List, map, length, Option, Some, None, refl, sym, ap, ◌∙◌, subst, arith}
use Rattle.std.specs.Prelude.{slice_get, pos, negsuc}
use Rattle.std.specs.Option.{option_and_then}
use Rattle.std.proofs.lemmas.List.{length-map}
use Rattle.std.proofs.lemmas.Option.{slice_get_within}
use Rattle.gp_base.specs.declared.limits.TheConstants.{MOST_THREADS}
use Rattle.task_ast.specs.Table.{owner_in, Seat, Table, next_of, unpassed, waits_at, learning}
use Rattle.task_ast.specs.meaning.Table.{Stand, Away, Waits, Released, ring, is_end, with_nth, numbers}
use Rattle.task_ast.specs.Turn.{Turn, Issue, Needs, Ended, Look, To, Unknown, NoThread, look, turn, tried, at_look, deadlocked, has_passed, stand_of, met, arrived, come_to, at_barrier, released_at, issuing, passing, at_join}
use Rattle.task_ast.specs.declared.sync.SyncOp.{SyncOp}
use Rattle.task_ast.specs.declared.sync.SyncOp.TheVariants as sync
use Rattle.task_ast.specs.declared.sync.Next.{Next}
use Rattle.task_ast.specs.meaning.Repeat.{Again, More, Done}
use Rattle.task_ast.specs.laws.Threads.{table_after}
use Rattle.task_ast.proofs.Counting.{length-with_nth}
use Rattle.task_ast.proofs.IssuedTables.{learnt_length}
use Rattle.task_ast.proofs.TurnLaws.{pass_law, issue_law}
use Rattle.token_order.proofs.Owned.{length-after}
use Rattle.task_ast.proofs.SeatLimits.{seats_law}
use Rattle.task_ast.proofs.Turns.{Known, known_to, look_known}
use Rattle.ended_seats.proofs.Idle.{grows}
use Rattle.token_order.specs.declared.threads.Threads.{Threads}
use Rattle.token_order.specs.declared.rules.Turn.{Turn as TurnHere}
use Rattle.token_order.specs.declared.rules.Turn.TheVariants as here
use Rattle.token_order.specs.View.{IsBelow, StandsInside, WalksStand, table, seat_of}
use Rattle.token_order.specs.Turned.{Answered}

-- the thread whose turn was last is there
abbrev HasToken : Table → Type 0
HasToken table = IsBelow (length table.seats) table.token

data TokenAfter : Again Table Turn → Type 0 where
  passes : {after : Table} → HasToken after → TokenAfter (More after)
  issues : {t : ℕ} {next : Next} {child : Option ℕ} {after : Table} → HasToken after → TokenAfter (Done (Issue t next child after))
  needs : {t : ℕ} → TokenAfter (Done (Needs t))
  over : {e : _} → TokenAfter (Done (Ended e))

pass-token : (table : Table) (t : ℕ) → t < length table.seats → TokenAfter (passing table t)
pass-token table t l = let same = length-with_nth table.seats t (λ s. record s { passed = true }) in passes (omega (arith, same, l))

cond-token : (b : Bool) (first second : Again Table Turn) → TokenAfter first → TokenAfter second → TokenAfter (cond b first second)
cond-token true first second f s = f
cond-token false first second f s = s

issue-token : (table : Table) (t : ℕ) (next : Next) → t < length table.seats → TokenAfter (issuing table t next)
issue-token table t next l =
    let changed = with_nth table.seats t (λ s. record { next = None; last = Some table.issued; passed = false; stand = Away }) in
    let long = grows next.sync (map unpassed changed) in
    let same =
    length-map changed unpassed ∙ length-with_nth table.seats t
    (λ s. record { next = None; last = Some table.issued; passed = false; stand = Away }) in
    cond-token (nat_lt table.issued table.limit) _ _ (issues (omega (arith, long, same, l))) over

met-length : (table : Table) (t b : ℕ) → length (met (arrived table t) b).seats ≡ length table.seats
met-length table t b = go (nat_le (unwrap_or (slice_get table.barriers b) 0) (count_by (waits_at b) (arrived table t).seats))
  where
    there : length (arrived table t).seats ≡ length table.seats
    there = length-with_nth (map unpassed table.seats) t (λ s. record s { stand = Waits }) ∙ length-map table.seats unpassed

    go : (all : Bool)
        → length (cond all (record (arrived table t) { seats = map (released_at b) (arrived table t).seats }) (arrived table t)).seats
        ≡ length table.seats
    go true = length-map (arrived table t).seats (released_at b) ∙ there
    go false = there

come-length : (s : Stand) (table : Table) (t b : ℕ) → length (come_to s table t b).seats ≡ length table.seats
come-length Away table t b = met-length table t b
come-length Waits table t b = refl
come-length Released table t b = refl

barrier-token : (s : Stand) (table : Table) (t : ℕ) (next : Next) → t < length table.seats → TokenAfter (at_barrier s table t next)
barrier-token Away table t next l = pass-token table t l
barrier-token Waits table t next l = pass-token table t l
barrier-token Released table t next l = issue-token table t next l

joining-token : (h : ℕ) (o : Option Next) (table : Table) (t : ℕ) (next : Next) → t < length table.seats
    → TokenAfter (at_join h o table t next)
joining-token h None table t next l = needs
joining-token h (Some other) table t next l = cond-token (is_end other.sync) _ _ (issue-token table t next l) (pass-token table t l)

tried-token : (op : SyncOp) (table : Table) (t : ℕ) (next : Next) → t < length table.seats → TokenAfter (tried op table t next)
tried-token sync.Start table t next l = issue-token table t next l
tried-token (sync.Lock k) table t next l =
    cond-token (is_none (owner_in table.owners k)) _ _ (issue-token table t next l) (pass-token table t l)
tried-token (sync.Settle register control) table t next l = issue-token table t next l
tried-token (sync.Unlock k) table t next l = issue-token table t next l
tried-token (sync.Fork task arguments) table t next l =
    cond-token (nat_lt (length table.seats) MOST_THREADS) _ _ (issue-token table t next l) over
tried-token (sync.Join (pos h)) table t next l =
    cond-token (nat_lt h (length table.seats)) _ _ (joining-token h (next_of table h) table t next l) over
tried-token (sync.Join (negsuc h)) table t next l = over
tried-token (sync.Barrier b) table t next l =
    let same = come-length (stand_of table t) table t b in
    barrier-token (stand_of (come_to (stand_of table t) table t b) t) (come_to (stand_of table t) table t b) t next (omega (arith, same, l))
tried-token sync.End table t next l = issue-token table t next l
tried-token sync.BadIndex table t next l = over
tried-token sync.Spent table t next l = over

within : (seats : List Seat) (t : ℕ) (next : Next) → option_and_then (λ s. s.next) (slice_get seats t) ≡ Some next → t < length seats
within seats t next e = go (slice_get seats t) refl e
  where
    go : (o : Option Seat) → slice_get seats t ≡ o → option_and_then (λ s. s.next) o ≡ Some next → t < length seats
    go None at f = absurd (cc f)
    go (Some seat) at f = slice_get_within seats t seat at

deadlocked-token : (l : Look) → TokenAfter (deadlocked l)
deadlocked-token (To t next) = over
deadlocked-token (Unknown t) = needs
deadlocked-token NoThread = over

look-token : (table : Table) (l : Look) → Known table l → TokenAfter (at_look l table)
look-token table (To t next) (known_to e live) =
    cond-token (has_passed table t) _ _ (deadlocked-token (look table (numbers 0 (length table.seats))))
    (tried-token next.sync table t next (within table.seats t next e))
look-token table (Unknown t) known = needs
look-token table NoThread known = over

turn-token : (table : Table) → TokenAfter (turn table)
turn-token table =
    look-token table (look table (ring table.token (length table.seats))) (look_known table (ring table.token (length table.seats)))

passed : {after : Table} → TokenAfter (More after) → HasToken after
passed (passes token) = token

issued : {t : ℕ} {next : Next} {child : Option ℕ} {after : Table} → TokenAfter (Done (Issue t next child after)) → HasToken after
issued (issues token) = token

few-table : (threads : Threads) → StandsInside threads → length (table threads).seats ≤ MOST_THREADS
few-table threads inside = subst (λ n. n ≤ MOST_THREADS) (sym (length-map threads.seats.items seat_of)) inside.few

stands : (threads : Threads) → length (table threads).seats ≤ MOST_THREADS → HasToken (table threads)
    → length threads.owners.items ≤ 4294967295 → WalksStand threads → StandsInside threads
stands threads few token locks walks =
    let same = length-map threads.seats.items seat_of in
    record {
      few = subst (λ n. n ≤ MOST_THREADS) same few;
      token = subst (λ n. IsBelow n threads.token) same token;
      locks = locks;
      walks = walks;
    }

same-locks : (before after : Threads) → StandsInside before → length after.owners.items ≡ length before.owners.items
    → length after.owners.items ≤ 4294967295
same-locks before after inside same = subst (λ n. n ≤ 4294967295) (sym same) inside.locks

still : (before after : Threads) → StandsInside before → WalksStand after → table after ≡ table before → StandsInside after
still before after inside walks same =
    stands after (subst (λ there. length there.seats ≤ MOST_THREADS) (sym same) (few-table before inside))
    (subst HasToken (sym same) (subst (λ n. IsBelow n before.token) (sym (length-map before.seats.items seat_of)) inside.token))
    (same-locks before after inside (ap (λ there. length there.owners) same)) walks

pub turn-stands : (before after : Threads) (r : TurnHere) → StandsInside before → WalksStand after
    → Answered (turn (table before)) (table before) r (table after) → StandsInside after
turn-stands before after (here.Issue t next child) inside walks e =
    stands after (seats_law (table before) (table after) (few-table before inside) (ap table_after e))
    (issued (subst TokenAfter e (turn-token (table before))))
    (same-locks before after inside (ap length (issue_law (table before) t next child (table after) e).owners
    ∙ length-after next.sync t before.owners.items)) walks
turn-stands before after here.Pass inside walks e =
    stands after (seats_law (table before) (table after) (few-table before inside) (ap table_after e))
    (passed (subst TokenAfter e (turn-token (table before))))
    (same-locks before after inside (ap length (pass_law (table before) (table after) e).owners)) walks
turn-stands before after (here.Settles t) inside walks h = absurd h
turn-stands before after (here.Needs t) inside walks h = still before after inside walks (h.1)
turn-stands before after (here.Ended e) inside walks h = still before after inside walks (h.1)

pub learn-stands : (before after : Threads) (t : ℕ) (next : Next) → StandsInside before → WalksStand after → table after ≡ learning (table before) t next
    → StandsInside after
learn-stands before after t next inside walks e =
    let same = learnt_length (table before) t next in
    stands after (subst (λ there. length there.seats ≤ MOST_THREADS) (sym e)
    (subst (λ n. n ≤ MOST_THREADS) (sym same) (few-table before inside)))
    (subst HasToken (sym e) (subst (λ n. IsBelow n before.token) (sym (same ∙ length-map before.seats.items seat_of)) inside.token))
    (same-locks before after inside (ap (λ there. length there.owners) e)) walks
