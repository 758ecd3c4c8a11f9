-- The turn of a table that knows less. Of a thread whose next synchronisation the one table knows, the other knows the
-- same; all else that the rules read is the same in both. So each rule passes, issues or ends alike on both, and the
-- token comes to the same thread in both, or in the one to a thread of which it doesn't know what it does next.
use Rattle.std.proofs.Common.{◌≡◌, inl, ℕ, zero, suc, ◌+◌, ◌-◌, ◌<◌, ◌≤◌, Bool, true, false, cond, List, [], ◌∷◌, ◌++◌, map, length, Option, Some, None, is_none, nat_lt, nat_le, unwrap_or, refl, sym, ap, ◌∙◌, subst, arith, count_by, option_map, option_and_then}
use Rattle.std.specs.Prelude.{slice_get, pos, negsuc}
use Rattle.std.proofs.lemmas.Bool.{ltb-true}
use Rattle.std.proofs.lemmas.List.{append-nil}
use Rattle.gp_base.specs.declared.limits.TheConstants.{MOST_THREADS}
use Rattle.gp_base.specs.declared.ending.End.TheVariants.{Stuck}
use Rattle.gp_base.specs.declared.ending.Why.TheVariants as why
use Rattle.task_ast.specs.Table.{owner_in, Seat, Table, next_of, unpassed, new_seat, waits_at}
use Rattle.task_ast.specs.declared.sync.SyncOp.{SyncOp}
use Rattle.task_ast.specs.declared.sync.SyncOp.TheVariants as sync
use Rattle.task_ast.specs.declared.sync.Next.{Next}
use Rattle.task_ast.specs.meaning.Repeat.{Again, Done}
use Rattle.task_ast.specs.meaning.Table.{Stand, Away, Waits, Released, numbers, ring, is_end}
use Rattle.task_ast.specs.Turn.{Turn, Ended, Look, To, Unknown, NoThread, look_at, look, passing, issuing, seats_after, stand_of, released_at, arrived, come_to, at_barrier, at_join, tried, has_passed, at_look, turn, deadlocked}
use Rattle.task_ast.specs.Reached.{Reached}
use Rattle.task_ast.proofs.Rounds.{rounds_kept, keeps_nth, keeps_map, pass, wait, arrive}
use Rattle.task_ast.proofs.Turns.{Known, known_to, look_known}
use Rattle.task_ast.specs.laws.Less.{SeatLess, SeatsLess, KnowsLess, Alike, passes, issues, needs, ends}
use Rattle.task_ast.proofs.LessSeats.{GotLess, no_seat, some_seat, length_less, get_less, nth_less, map_less, push_less, unpassed_less, known_same, count_less, released_less}

-- the table with other seats
abbrev seated : Table → List Seat → Table
seated table seats = record table { seats = seats }

less_of : (table : Table) (seats : List Seat) → SeatsLess table.seats seats → KnowsLess table (seated table seats)
less_of table seats h = record { seats = h; limit = refl; barriers = refl; owners = refl; token = refl; issued = refl }

cond_alike : (table : Table) (b : Bool) (f g h k : Again Table Turn) → (b ≡ true → Alike table f h) → (b ≡ false → Alike table g k)
    → Alike table (cond b f g) (cond b h k)
cond_alike table true f g h k first second = first refl
cond_alike table false f g h k first second = second refl

-- ---- what is read of the seats

got_stand : (o p : Option Seat) → GotLess o p → unwrap_or (option_map (λ s. s.stand) o) Away ≡ unwrap_or (option_map (λ s. s.stand) p) Away
got_stand o p no_seat = refl
got_stand o p (some_seat h) = h.stand

got_passed : (o p : Option Seat) → GotLess o p
    → unwrap_or (option_map (λ s. s.passed) o) false ≡ unwrap_or (option_map (λ s. s.passed) p) false
got_passed o p no_seat = refl
got_passed o p (some_seat h) = h.passed

got_last : (o p : Option Seat) → GotLess o p → option_and_then (λ s. s.last) o ≡ option_and_then (λ s. s.last) p
got_last o p no_seat = refl
got_last o p (some_seat h) = h.last

got_next : (o p : Option Seat) (next : Next) → GotLess o p → option_and_then (λ s. s.next) o ≡ Some next
    → option_and_then (λ s. s.next) p ≡ Some next
got_next o p next no_seat e = e
got_next o p next (some_seat {l = l} {m = m} h) e = sym (known_same l m next e h) ∙ e

-- the thread is one of the seats
pub inside_of : (seats : List Seat) (t : ℕ) (next : Next) → option_and_then (λ s. s.next) (slice_get seats t) ≡ Some next → t < length seats
inside_of [] t next e = absurd (cc e)
inside_of (s ∷ seats) zero next e = omega arith
inside_of (s ∷ seats) (suc t) next e = let h = inside_of seats t next e in omega arith

-- ---- the rules

seats_after_less : (op : SyncOp) (less more : List Seat) → SeatsLess less more → SeatsLess (seats_after op less) (seats_after op more)
seats_after_less (sync.Fork task arguments) less more h = push_less less more new_seat h
seats_after_less _ less more h = h

begun_less : (position : ℕ) (l m : Seat) → SeatLess l m
    → SeatLess (record { next = None; last = Some position; passed = false; stand = Away })
    (record { next = None; last = Some position; passed = false; stand = Away })
begun_less position l m h = record { next = inl refl; last = refl; passed = refl; stand = refl }

issuing_alike : (of table : Table) (seats : List Seat) (t : ℕ) (next : Next) → SeatsLess table.seats seats
    → Alike of (issuing table t next) (issuing (seated table seats) t next)
issuing_alike of table seats t next h =
    rw (sym (length_less table.seats seats h))
    (cond_alike of (nat_lt table.issued table.limit) _ _ _ _
    (λ e. issues (record {
      seats =
          seats_after_less next.sync _ _ (map_less unpassed unpassed_less _ _
          (nth_less _ _ table.seats seats t h (λ l m is s. begun_less table.issued l m s)));
      limit = refl;
      barriers = refl;
      owners = refl;
      token = refl;
      issued = refl;
    }))
    (λ e. ends))

passed_less : (l m : Seat) (next : Next) → l.next ≡ Some next → SeatLess l m → SeatLess (pass l) (pass m)
passed_less l m next e h = record { next = inl (known_same l m next e h); last = h.last; passed = refl; stand = h.stand }

waiting_less : (l m : Seat) (next : Next) → l.next ≡ Some next → SeatLess l m → SeatLess (wait l) (wait m)
waiting_less l m next e h = record { next = inl (known_same l m next e h); last = h.last; passed = h.passed; stand = refl }

next_at : (seats : List Seat) (t : ℕ) (next : Next) (l : Seat) → option_and_then (λ s. s.next) (slice_get seats t) ≡ Some next
    → slice_get seats t ≡ Some l → l.next ≡ Some next
next_at seats t next l e is = sym (ap (λ o. option_and_then (λ s. s.next) o) is) ∙ e

passing_alike : (of table : Table) (seats : List Seat) (t : ℕ) (next : Next) → next_of table t ≡ Some next → SeatsLess table.seats seats
    → Alike of (passing table t) (passing (seated table seats) t)
passing_alike of table seats t next e h =
    passes (record {
      seats = nth_less pass pass table.seats seats t h (λ l m is s. passed_less l m next (next_at table.seats t next l e is) s);
      limit = refl;
      barriers = refl;
      owners = refl;
      token = refl;
      issued = refl;
    })

barrier_alike : (of table : Table) (seats : List Seat) (stand : Stand) (t : ℕ) (next : Next) → next_of table t ≡ Some next
    → SeatsLess table.seats seats
    → Alike of (at_barrier stand table t next) (at_barrier stand (seated table seats) t next)
barrier_alike of table seats Away t next e h = passing_alike of table seats t next e h
barrier_alike of table seats Waits t next e h = passing_alike of table seats t next e h
barrier_alike of table seats Released t next e h = issuing_alike of table seats t next h

arrive_less : (less more : List Seat) (t : ℕ) (next : Next) → option_and_then (λ s. s.next) (slice_get less t) ≡ Some next
    → SeatsLess less more → SeatsLess (arrive less t) (arrive more t)
arrive_less less more t next e h =
    nth_less wait wait (map unpassed less) (map unpassed more) t (map_less unpassed unpassed_less less more h)
    (λ l m is s. waiting_less l m next (next_at (map unpassed less) t next l
    (keeps_map (λ o. option_and_then (λ s. s.next) o) unpassed (λ s. refl) less t ∙ e) is) s)

arrived_next : (seats : List Seat) (t u : ℕ)
    → option_and_then (λ s. s.next) (slice_get (arrive seats t) u) ≡ option_and_then (λ s. s.next) (slice_get seats u)
arrived_next seats t u =
    keeps_nth (λ o. option_and_then (λ s. s.next) o) wait (λ s. refl) (map unpassed seats) t u
    ∙ keeps_map (λ o. option_and_then (λ s. s.next) o) unpassed (λ s. refl) seats u

released_next : (b : Bool) (s : Seat) → (cond b (record s { stand = Released }) s).next ≡ s.next
released_next true s = refl
released_next false s = refl

-- a table that stands for a list of seats, and its turn there
at_barrier_alike : (of table : Table) (less more : List Seat) (t : ℕ) (next : Next)
    → option_and_then (λ s. s.next) (slice_get less t) ≡ Some next → SeatsLess less more
    → Alike of (at_barrier (stand_of (seated table less) t) (seated table less) t next)
    (at_barrier (stand_of (seated table more) t) (seated table more) t next)
at_barrier_alike of table less more t next e h =
    rw (sym (got_stand (slice_get less t) (slice_get more t) (get_less less more t h)))
    (barrier_alike of (seated table less) more (stand_of (seated table less) t) t next e h)

meeting_alike : (of table : Table) (seats : List Seat) (stand : Stand) (t b : ℕ) (next : Next) → next_of table t ≡ Some next
    → SeatsLess table.seats seats
    → Alike of (at_barrier (stand_of (come_to stand table t b) t) (come_to stand table t b) t next)
    (at_barrier (stand_of (come_to stand (seated table seats) t b) t) (come_to stand (seated table seats) t b) t next)
meeting_alike of table seats Waits t b next e h = at_barrier_alike of table table.seats seats t next e h
meeting_alike of table seats Released t b next e h = at_barrier_alike of table table.seats seats t next e h
meeting_alike of table seats Away t b next e h =
    rw (sym (count_less b (arrive table.seats t) (arrive seats t) came))
    (go (nat_le (unwrap_or (slice_get table.barriers b) 0) (count_by (waits_at b) (arrive table.seats t))))
  where
    came : SeatsLess (arrive table.seats t) (arrive seats t)
    came = arrive_less table.seats seats t next e h

    there : option_and_then (λ s. s.next) (slice_get (arrive table.seats t) t) ≡ Some next
    there = arrived_next table.seats t t ∙ e

    go : (all : Bool)
        → (let here = cond all (record (arrived table t) { seats = map (released_at b) (arrive table.seats t) }) (arrived table t) in
        let over =
        cond all (record (arrived (seated table seats) t) { seats = map (released_at b) (arrive seats t) })
        (arrived (seated table seats) t) in
        Alike of (at_barrier (stand_of here t) here t next) (at_barrier (stand_of over t) over t next))
    go true =
        at_barrier_alike of table (map (released_at b) (arrive table.seats t)) (map (released_at b) (arrive seats t)) t next
        (keeps_map (λ o. option_and_then (λ s. s.next) o) (released_at b) (λ s. released_next (waits_at b s) s) (arrive table.seats t) t
        ∙ there)
        (map_less (released_at b) (released_less b) _ _ came)
    go false = at_barrier_alike of table (arrive table.seats t) (arrive seats t) t next there came

joining_alike : (table : Table) (seats : List Seat) (h : ℕ) (o p : Option Next) (t : ℕ) (next : Next) → h < length table.seats
    → next_of table h ≡ o
    → ((other : Next) → o ≡ Some other → p ≡ Some other) → next_of table t ≡ Some next → SeatsLess table.seats seats
    → Alike table (at_join h o table t next) (at_join h p (seated table seats) t next)
joining_alike table seats h None p t next h_in is same e less = needs h_in is
joining_alike table seats h (Some other) p t next h_in is same e less =
    rw (same other refl) (cond_alike table (is_end other.sync) _ _ _ _ (λ b. issuing_alike table table seats t next less)
    (λ b. passing_alike table table seats t next e less))

tried_alike : (op : SyncOp) (table : Table) (seats : List Seat) (t : ℕ) (next : Next) → next_of table t ≡ Some next
    → SeatsLess table.seats seats
    → Alike table (tried op table t next) (tried op (seated table seats) t next)
tried_alike sync.Start table seats t next e h = issuing_alike table table seats t next h
tried_alike (sync.Settle register control) table seats t next e h = issuing_alike table table seats t next h
tried_alike (sync.Lock l) table seats t next e h =
    cond_alike table (is_none (owner_in table.owners l)) _ _ _ _ (λ b. issuing_alike table table seats t next h)
    (λ b. passing_alike table table seats t next e h)
tried_alike (sync.Unlock l) table seats t next e h = issuing_alike table table seats t next h
tried_alike (sync.Fork task arguments) table seats t next e h =
    subst (λ n. Alike table (tried (sync.Fork task arguments) table t next)
    (cond (nat_lt n MOST_THREADS) (issuing (seated table seats) t next) (Done (Ended (Stuck why.Threads t next.line)))))
    (length_less table.seats seats h)
    (cond_alike table (nat_lt (length table.seats) MOST_THREADS) _ _ _ _ (λ b. issuing_alike table table seats t next h) (λ b. ends))
tried_alike (sync.Join (pos h)) table seats t next e less =
    subst (λ n. Alike table (tried (sync.Join (pos h)) table t next)
    (cond (nat_lt h n) (at_join h (next_of (seated table seats) h) (seated table seats) t next)
    (Done (Ended (Stuck why.Join t next.line)))))
    (length_less table.seats seats less)
    (cond_alike table (nat_lt h (length table.seats)) _ _ _ _
    (λ b. joining_alike table seats h (next_of table h) (next_of (seated table seats) h) t next (ltb-true _ _ b) refl
    (λ other is. got_next (slice_get table.seats h) (slice_get seats h) other (get_less table.seats seats h less) is) e less)
    (λ b. ends))
tried_alike (sync.Join (negsuc h)) table seats t next e less = ends
tried_alike (sync.Barrier b) table seats t next e h =
    rw (sym (got_stand (slice_get table.seats t) (slice_get seats t) (get_less table.seats seats t h)))
    (meeting_alike table table seats (stand_of table t) t b next e h)
tried_alike sync.End table seats t next e h = issuing_alike table table seats t next h
tried_alike sync.BadIndex table seats t next e h = ends
tried_alike sync.Spent table seats t next e h =
    rw (got_last (slice_get table.seats t) (slice_get seats t) (get_less table.seats seats t h)) ends

-- ---- the thread that the token comes to

-- the looks of both, at the same threads
data LooksAlike (table : Table) : Look → Look → Type 0 where
  to_one : {t : ℕ} {next : Next} → LooksAlike table (To t next) (To t next)
  to_none : LooksAlike table NoThread NoThread
  to_unknown : {t : ℕ} {other : Look} → t < length table.seats → next_of table t ≡ None → LooksAlike table (Unknown t) other

look_at_alike : (table : Table) (t : ℕ) (o p : Option Next) (others over : Look) → t < length table.seats → next_of table t ≡ o
    → ((next : Next) → o ≡ Some next → p ≡ Some next)
    → LooksAlike table others over → LooksAlike table (look_at t o others) (look_at t p over)
look_at_alike table t None p others over t_in is same alike = to_unknown t_in is
look_at_alike table t (Some next) p others over t_in is same alike = rw (same next refl) (go (is_end next.sync))
  where
    go : (b : Bool) → LooksAlike table (cond b others (To t next)) (cond b over (To t next))
    go true = alike
    go false = to_one

numbers_alike : (table : Table) (seats : List Seat) → SeatsLess table.seats seats → (a n : ℕ) (rest : List ℕ) → a + n ≤ length table.seats
    → LooksAlike table (look table rest) (look (seated table seats) rest)
    → LooksAlike table (look table (numbers a n ++ rest)) (look (seated table seats) (numbers a n ++ rest))
numbers_alike table seats h a zero rest within alike = alike
numbers_alike table seats h a (suc n) rest within alike =
    look_at_alike table a (next_of table a) (next_of (seated table seats) a) _ _ (omega arith) refl
    (λ next is. got_next (slice_get table.seats a) (slice_get seats a) next (get_less table.seats seats a h) is)
    (numbers_alike table seats h (suc a) n rest (omega arith) alike)

first_alike : (table : Table) (seats : List Seat) → SeatsLess table.seats seats → (n : ℕ) → n ≤ length table.seats
    → LooksAlike table (look table (numbers 0 n)) (look (seated table seats) (numbers 0 n))
first_alike table seats h n within =
    subst (λ ts. LooksAlike table (look table ts) (look (seated table seats) ts)) (append-nil (numbers 0 n))
    (numbers_alike table seats h 0 n [] (omega arith) to_none)

ring_alike : (table : Table) (seats : List Seat) → SeatsLess table.seats seats → (token : Option ℕ)
    → unwrap_or token (length table.seats - 1) < length table.seats
    → LooksAlike table (look table (ring token (length table.seats))) (look (seated table seats) (ring token (length table.seats)))
ring_alike table seats h None inside = first_alike table seats h (length table.seats) (omega arith)
ring_alike table seats h (Some t) inside =
    numbers_alike table seats h (suc t) (length table.seats - suc t) (numbers 0 (suc t)) (omega arith)
    (first_alike table seats h (suc t) (omega arith))

stuck_alike : (table : Table) (here over : Look) → LooksAlike table here over → Alike table (deadlocked here) (deadlocked over)
stuck_alike table here over to_one = ends
stuck_alike table here over to_none = ends
stuck_alike table here over (to_unknown t_in none) = needs t_in none

at_look_alike : (table : Table) (seats : List Seat) → SeatsLess table.seats seats → (here over : Look) → Known table here
    → LooksAlike table here over
    → Alike table (at_look here table) (at_look over (seated table seats))
at_look_alike table seats h here over known to_none = ends
at_look_alike table seats h here over known (to_unknown t_in none) = needs t_in none
at_look_alike table seats h here over (known_to e live) (to_one {t = t} {next = next}) =
    rw (sym (got_passed (slice_get table.seats t) (slice_get seats t) (get_less table.seats seats t h)))
    (cond_alike table (has_passed table t) _ _ _ _
    (λ b. stuck_alike table _ _
    (subst (λ n. LooksAlike table (look table (numbers 0 (length table.seats))) (look (seated table seats) (numbers 0 n)))
    (length_less table.seats seats h) (first_alike table seats h (length table.seats) (omega arith))))
    (λ b. tried_alike next.sync table seats t next e h))

seated_alike : (table : Table) (seats : List Seat) → Reached table → SeatsLess table.seats seats
    → Alike table (turn table) (turn (seated table seats))
seated_alike table seats reached h =
    subst (λ n. Alike table (turn table) (at_look (look (seated table seats) (ring table.token n)) (seated table seats)))
    (length_less table.seats seats h)
    (at_look_alike table seats h _ _ (look_known table _)
    (ring_alike table seats h table.token (rounds_kept reached).inside))

seated_is : (less more : Table) → KnowsLess less more → seated less more.seats ≡ more
seated_is less more h =
    λ i. record {
      limit = h.limit i;
      barriers = h.barriers i;
      seats = more.seats;
      owners = h.owners i;
      token = h.token i;
      issued = h.issued i;
    }

pub turn_alike : (less more : Table) → Reached less → KnowsLess less more → Alike less (turn less) (turn more)
turn_alike less more reached h =
    subst (λ table. Alike less (turn less) (turn table)) (seated_is less more h) (seated_alike less more.seats reached h.seats)
