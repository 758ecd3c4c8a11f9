-- The plain run comes to an end by its rules. Where each thread's next synchronisation is known (Whole) no turn asks
-- for one: the token comes to threads that are there, and each rule passes to such a table, issues from it, or ends.
-- After an issue it is unknown of one thread alone (Begun).
use Rattle.std.proofs.Common.{◌≡◌, inl, inr, ℕ, zero, suc, ◌+◌, ◌-◌, ◌<◌, ◌≤◌, Bool, true, false, cond, List, [], ◌∷◌, ◌++◌, map, length, Option, Some, None, is_none, nat_lt, nat_le, unwrap_or, refl, sym, ap, ◌∙◌, subst, arith, count_by, option_and_then}
use Rattle.std.specs.Prelude.{slice_get, pos, negsuc}
use Rattle.std.proofs.lemmas.Bool.{cases_lt, ltb-true}
use Rattle.std.proofs.lemmas.List.{length-map, append-nil}
use Rattle.gp_base.specs.declared.limits.TheConstants.{MOST_THREADS}
use Rattle.gp_base.specs.declared.ending.End.{End}
use Rattle.task_ast.specs.Table.{owner_in, Seat, Table, next_of, unpassed, new_seat, waits_at}
use Rattle.task_ast.specs.declared.sync.SyncOp.{SyncOp}
use Rattle.task_ast.specs.declared.sync.SyncOp.TheVariants as sync
use Rattle.task_ast.specs.declared.sync.Next.{Next}
use Rattle.task_ast.specs.meaning.Repeat.{Again, More, Done}
use Rattle.task_ast.specs.meaning.Table.{Stand, Away, Waits, Released, numbers, ring, is_end, with_nth}
use Rattle.task_ast.specs.Turn.{Turn, Issue, Ended, Look, To, Unknown, NoThread, look_at, look, passing, issuing, seats_after, stand_of, released_at, arrived, met, come_to, at_barrier, at_join, tried, has_passed, at_look, deadlocked, turn}
use Rattle.task_ast.specs.Reached.{Reached}
use Rattle.task_ast.proofs.Counting.{length-with_nth, get-with_nth}
use Rattle.task_ast.proofs.Rounds.{rounds_kept, keeps_nth, keeps_map, other_nth, there_nth, arrive, length_arrive, pass, wait}

-- the next synchronisation of a seat that may be there is known
abbrev KnownIn : Option Seat → Type 0
KnownIn o = (next : Next) × (option_and_then (λ s. s.next) o ≡ Some next)

known_moved : {a b : Option Next} → a ≡ b → (next : Next) × (b ≡ Some next) → (next : Next) × (a ≡ Some next)
known_moved e known = (known.0, e ∙ known.1)

-- so many were issued of so many, and each thread's next synchronisation is known
pub record Whole (limit issued : ℕ) (table : Table) : Type 0 where
  pub limit_is : table.limit ≡ limit
  pub issued_is : table.issued ≡ issued
  pub within : issued ≤ limit
  pub known : (u : ℕ) → u < length table.seats → KnownIn (slice_get table.seats u)

-- the same after an issue of t, whose next synchronisation isn't known
pub record Begun (limit issued t : ℕ) (table : Table) : Type 0 where
  pub limit_is : table.limit ≡ limit
  pub issued_is : table.issued ≡ issued
  pub within : issued ≤ limit
  pub here : t < length table.seats
  pub unknown : next_of table t ≡ None
  pub others : (u : ℕ) → u < length table.seats → (u ≡ t → ⊥) → KnownIn (slice_get table.seats u)

-- what turns lead to: an issue, or an end
pub data Fair (limit issued : ℕ) : Turn → Type 0 where
  issues : {t : ℕ} {next : Next} {child : Option ℕ} {after : Table} → Begun limit (suc issued) t after
      → Fair limit issued (Issue t next child after)
  ends : {ending : End} → Fair limit issued (Ended ending)

pub data Goes (limit issued : ℕ) : Again Table Turn → Type 0 where
  more : {after : Table} → Whole limit issued after → Goes limit issued (More after)
  done : {what : Turn} → Fair limit issued what → Goes limit issued (Done what)

cond_goes : (limit issued : ℕ) (b : Bool) (first second : Again Table Turn) → (b ≡ true → Goes limit issued first)
    → (b ≡ false → Goes limit issued second) → Goes limit issued (cond b first second)
cond_goes limit issued true first second f s = f refl
cond_goes limit issued false first second f s = s refl

get_push : {X : Type 0} (xs : List X) (y : X) (u : ℕ) → u < length xs → slice_get (xs ++ y ∷ []) u ≡ slice_get xs u
get_push [] y u l = absurd (omega arith)
get_push (x ∷ xs) y zero l = refl
get_push (x ∷ xs) y (suc u) l = get_push xs y u (omega arith)

get_last : {X : Type 0} (xs : List X) (y : X) → slice_get (xs ++ y ∷ []) (length xs) ≡ Some y
get_last [] y = refl
get_last (x ∷ xs) y = get_last xs y

length_push : {X : Type 0} (xs : List X) (y : X) → length (xs ++ y ∷ []) ≡ suc (length xs)
length_push [] y = refl
length_push (x ∷ xs) y = ap suc (length_push xs y)

-- the seats after an issue: those before, and a new one after a fork
after_seats : (op : SyncOp) (xs : List Seat) (t : ℕ) → t < length xs → ((u : ℕ) → u < length xs → (u ≡ t → ⊥) → KnownIn (slice_get xs u))
    → option_and_then (λ s. s.next) (slice_get xs t) ≡ None
    → (t < length (seats_after op xs)) × (option_and_then (λ s. s.next) (slice_get (seats_after op xs) t) ≡ None)
    × ((u : ℕ) → u < length (seats_after op xs) → (u ≡ t → ⊥) → KnownIn (slice_get (seats_after op xs) u))
after_seats (sync.Fork task arguments) xs t l others none = (
  (let e = length_push xs new_seat in omega arith),
  ap (λ o. option_and_then (λ s. s.next) o) (get_push xs new_seat t l) ∙ none,
  λ u k ne. elim (cases_lt u (length xs)) [
    | inl m ↦ known_moved (ap (λ o. option_and_then (λ s. s.next) o) (get_push xs new_seat u m)) (others u m ne)
    | inr m ↦
        (let e = length_push xs new_seat in
        let same : u ≡ length xs = omega arith in
        known_moved (ap (λ o. option_and_then (λ s. s.next) o) (ap (slice_get (xs ++ new_seat ∷ [])) same ∙ get_last xs new_seat))
        (record { sync = sync.Start; line = 0 }, refl))
  ],
)
after_seats _ xs t l others none = (l, none, others)

abbrev begun : ℕ → Seat → Seat
begun position s = record { next = None; last = Some position; passed = false; stand = Away }

issuing_goes : (limit issued : ℕ) (table : Table) (t : ℕ) (next : Next) → Whole limit issued table → t < length table.seats
    → Goes limit issued (issuing table t next)
issuing_goes limit issued table t next whole t_in =
    cond_goes limit issued (nat_lt table.issued table.limit) _ _
    (λ e. let less : table.issued < table.limit = ltb-true _ _ e in let l = whole.limit_is in let i = whole.issued_is in
    done (issues (record {
      limit_is = whole.limit_is;
      issued_is = ap suc whole.issued_is;
      within = omega arith;
      here = seats.0;
      unknown = seats.1;
      others = seats.2;
    })))
    (λ e. done ends)
  where
    xs : List Seat
    xs = map unpassed (with_nth table.seats t (begun table.issued))

    same : length (map unpassed (with_nth table.seats t (begun table.issued))) ≡ length table.seats
    same = length-map (with_nth table.seats t (begun table.issued)) unpassed ∙ length-with_nth table.seats t (begun table.issued)

    before : (u : ℕ) → option_and_then (λ s. s.next) (slice_get (map unpassed (with_nth table.seats t (begun table.issued))) u)
        ≡ option_and_then (λ s. s.next) (slice_get (with_nth table.seats t (begun table.issued)) u)
    before u = keeps_map (λ o. option_and_then (λ s. s.next) o) unpassed (λ s. refl) (with_nth table.seats t (begun table.issued)) u

    seats : (t < length (seats_after next.sync (map unpassed (with_nth table.seats t (begun table.issued)))))
        × (option_and_then (λ s. s.next) (slice_get (seats_after next.sync (map unpassed (with_nth table.seats t (begun table.issued)))) t)
        ≡ None)
        × ((u : ℕ) → u < length (seats_after next.sync (map unpassed (with_nth table.seats t (begun table.issued)))) → (u ≡ t → ⊥)
        → KnownIn (slice_get (seats_after next.sync (map unpassed (with_nth table.seats t (begun table.issued)))) u))
    seats =
        after_seats next.sync (map unpassed (with_nth table.seats t (begun table.issued))) t (let e = same in omega arith)
        (λ u l ne. let e = same in known_moved (before u
        ∙ ap (λ o. option_and_then (λ s. s.next) o) (other_nth (begun table.issued) table.seats t u ne))
        (whole.known u (omega arith)))
        (let seat = there_nth (begun table.issued) table.seats t t_in in
        before t ∙ ap (λ o. option_and_then (λ s. s.next) o) (get-with_nth table.seats t (begun table.issued) seat.0 seat.1))

-- a table with other seats that know as much
kept_whole : (limit issued : ℕ) (table after : Table) → after.limit ≡ table.limit → after.issued ≡ table.issued
    → length after.seats ≡ length table.seats
    → ((u : ℕ) → option_and_then (λ s. s.next) (slice_get after.seats u) ≡ option_and_then (λ s. s.next) (slice_get table.seats u))
    → Whole limit issued table → Whole limit issued after
kept_whole limit issued table after l i n same whole =
    record {
      limit_is = l ∙ whole.limit_is;
      issued_is = i ∙ whole.issued_is;
      within = whole.within;
      known = λ u u_in. known_moved (same u) (whole.known u (omega arith));
    }

passing_goes : (limit issued : ℕ) (table : Table) (t : ℕ) → Whole limit issued table → Goes limit issued (passing table t)
passing_goes limit issued table t whole =
    more (kept_whole limit issued table _ refl refl (length-with_nth table.seats t pass)
    (λ u. keeps_nth (λ o. option_and_then (λ s. s.next) o) pass (λ s. refl) table.seats t u) whole)

released_next : (b : Bool) (s : Seat) → (cond b (record s { stand = Released }) s).next ≡ s.next
released_next true s = refl
released_next false s = refl

met_whole : (limit issued : ℕ) (table : Table) (t b : ℕ) → Whole limit issued table → Whole limit issued (met (arrived table t) b)
met_whole limit issued table t b whole =
    go (nat_le (unwrap_or (slice_get table.barriers b) 0) (count_by (waits_at b) (arrive table.seats t)))
  where
    arrived_next : (u : ℕ)
        → option_and_then (λ s. s.next) (slice_get (arrive table.seats t) u) ≡ option_and_then (λ s. s.next) (slice_get table.seats u)
    arrived_next u =
        keeps_nth (λ o. option_and_then (λ s. s.next) o) wait (λ s. refl) (map unpassed table.seats) t u
        ∙ keeps_map (λ o. option_and_then (λ s. s.next) o) unpassed (λ s. refl) table.seats u

    go : (all : Bool)
        → Whole limit issued (cond all (record (arrived table t) { seats = map (released_at b) (arrive table.seats t) }) (arrived table t))
    go true =
        kept_whole limit issued table _ refl refl (length-map (arrive table.seats t) (released_at b) ∙ length_arrive table.seats t)
        (λ u. keeps_map (λ o. option_and_then (λ s. s.next) o) (released_at b) (λ s. released_next (waits_at b s) s)
        (arrive table.seats t) u ∙ arrived_next u) whole
    go false = kept_whole limit issued table _ refl refl (length_arrive table.seats t) arrived_next whole

met_length : (table : Table) (t b : ℕ) → length (met (arrived table t) b).seats ≡ length table.seats
met_length table t b = go (nat_le (unwrap_or (slice_get table.barriers b) 0) (count_by (waits_at b) (arrive table.seats t)))
  where
    go : (all : Bool)
        → length (cond all (record (arrived table t) { seats = map (released_at b) (arrive table.seats t) }) (arrived table t)).seats
        ≡ length table.seats
    go true = length-map (arrive table.seats t) (released_at b) ∙ length_arrive table.seats t
    go false = length_arrive table.seats t

barrier_goes : (limit issued : ℕ) (stand : Stand) (table : Table) (t : ℕ) (next : Next) → Whole limit issued table → t < length table.seats
    → Goes limit issued (at_barrier stand table t next)
barrier_goes limit issued Away table t next whole t_in = passing_goes limit issued table t whole
barrier_goes limit issued Waits table t next whole t_in = passing_goes limit issued table t whole
barrier_goes limit issued Released table t next whole t_in = issuing_goes limit issued table t next whole t_in

meeting_goes : (limit issued : ℕ) (stand : Stand) (table : Table) (t b : ℕ) (next : Next) → Whole limit issued table
    → t < length table.seats
    → Goes limit issued (at_barrier (stand_of (come_to stand table t b) t) (come_to stand table t b) t next)
meeting_goes limit issued Away table t b next whole t_in =
    barrier_goes limit issued (stand_of (met (arrived table t) b) t) (met (arrived table t) b) t next
    (met_whole limit issued table t b whole) (let e = met_length table t b in omega arith)
meeting_goes limit issued Waits table t b next whole t_in = barrier_goes limit issued (stand_of table t) table t next whole t_in
meeting_goes limit issued Released table t b next whole t_in = barrier_goes limit issued (stand_of table t) table t next whole t_in

joining_goes : (limit issued h : ℕ) (o : Option Next) (table : Table) (t : ℕ) (next : Next) → Whole limit issued table
    → t < length table.seats → (o ≡ None → ⊥) → Goes limit issued (at_join h o table t next)
joining_goes limit issued h None table t next whole t_in some = absurd (some refl)
joining_goes limit issued h (Some other) table t next whole t_in some =
    cond_goes limit issued (is_end other.sync) _ _ (λ e. issuing_goes limit issued table t next whole t_in)
    (λ e. passing_goes limit issued table t whole)

tried_goes : (limit issued : ℕ) (op : SyncOp) (table : Table) (t : ℕ) (next : Next) → Whole limit issued table → t < length table.seats
    → Goes limit issued (tried op table t next)
tried_goes limit issued sync.Start table t next whole t_in = issuing_goes limit issued table t next whole t_in
tried_goes limit issued (sync.Settle register control) table t next whole t_in = issuing_goes limit issued table t next whole t_in
tried_goes limit issued (sync.Lock l) table t next whole t_in =
    cond_goes limit issued (is_none (owner_in table.owners l)) _ _ (λ e. issuing_goes limit issued table t next whole t_in)
    (λ e. passing_goes limit issued table t whole)
tried_goes limit issued (sync.Unlock l) table t next whole t_in = issuing_goes limit issued table t next whole t_in
tried_goes limit issued (sync.Fork task arguments) table t next whole t_in =
    cond_goes limit issued (nat_lt (length table.seats) MOST_THREADS) _ _
    (λ e. issuing_goes limit issued table t next whole t_in) (λ e. done ends)
tried_goes limit issued (sync.Join (pos h)) table t next whole t_in =
    cond_goes limit issued (nat_lt h (length table.seats)) _ _
    (λ e. joining_goes limit issued h (next_of table h) table t next whole t_in
    (λ none. let k = whole.known h (ltb-true _ _ e) in some_none (sym k.1 ∙ none)))
    (λ e. done ends)
  where
    some_none : {A : Type 0} {x : A} → Some x ≡ None → ⊥
    some_none e = cc e
tried_goes limit issued (sync.Join (negsuc h)) table t next whole t_in = done ends
tried_goes limit issued (sync.Barrier b) table t next whole t_in = meeting_goes limit issued (stand_of table t) table t b next whole t_in
tried_goes limit issued sync.End table t next whole t_in = issuing_goes limit issued table t next whole t_in
tried_goes limit issued sync.BadIndex table t next whole t_in = done ends
tried_goes limit issued sync.Spent table t next whole t_in = done ends

-- which thread the token comes to, where each one's next synchronisation is known
data Met (table : Table) : Look → Type 0 where
  met_thread : {t : ℕ} {next : Next} → t < length table.seats → Met table (To t next)
  met_none : Met table NoThread

met_at : (table : Table) (t : ℕ) (o : Option Next) (others : Look) → t < length table.seats → (next : Next) → o ≡ Some next
    → Met table others → Met table (look_at t o others)
met_at table t None others l next e met = absurd (cc e)
met_at table t (Some first) others l next e met = go (is_end first.sync)
  where
    go : (b : Bool) → Met table (cond b others (To t first))
    go true = met
    go false = met_thread l

met_numbers : (table : Table) → ((u : ℕ) → u < length table.seats → KnownIn (slice_get table.seats u)) → (a n : ℕ) (rest : List ℕ)
    → a + n ≤ length table.seats → Met table (look table rest) → Met table (look table (numbers a n ++ rest))
met_numbers table known a zero rest le met = met
met_numbers table known a (suc n) rest le met =
    let k = known a (omega arith) in
    met_at table a (next_of table a) (look table (numbers (suc a) n ++ rest)) (omega arith) k.0 k.1
    (met_numbers table known (suc a) n rest (omega arith) met)

met_ring : (table : Table) (token : Option ℕ) → ((u : ℕ) → u < length table.seats → KnownIn (slice_get table.seats u))
    → unwrap_or token (length table.seats - 1) < length table.seats
    → Met table (look table (ring token (length table.seats)))
met_ring table None known inside =
    subst (λ ts. Met table (look table ts)) (append-nil (numbers 0 (length table.seats)))
    (met_numbers table known 0 (length table.seats) [] (omega arith) met_none)
met_ring table (Some last) known inside =
    met_numbers table known (suc last) (length table.seats - suc last) (numbers 0 (suc last)) (omega arith)
    (subst (λ ts. Met table (look table ts)) (append-nil (numbers 0 (suc last)))
    (met_numbers table known 0 (suc last) [] (omega arith) met_none))

stuck_goes : {limit issued : ℕ} {table : Table} (l : Look) → Met table l → Goes limit issued (deadlocked l)
stuck_goes (To t next) met = done ends
stuck_goes (Unknown t) met = elim met [ ]
stuck_goes NoThread met = done ends

look_goes : (limit issued : ℕ) (table : Table) (l : Look) → Whole limit issued table → Met table l → Goes limit issued (at_look l table)
look_goes limit issued table (To t next) whole (met_thread t_in) =
    cond_goes limit issued (has_passed table t) _ _
    (λ e. stuck_goes (look table (numbers 0 (length table.seats)))
    (subst (λ ts. Met table (look table ts)) (append-nil _)
    (met_numbers table whole.known 0 (length table.seats) [] (omega arith) met_none)))
    (λ e. tried_goes limit issued next.sync table t next whole t_in)
look_goes limit issued table (Unknown t) whole met = elim met [ ]
look_goes limit issued table NoThread whole met = done ends

pub turn_goes : (limit issued : ℕ) (table : Table) → Reached table → Whole limit issued table → Goes limit issued (turn table)
turn_goes limit issued table reached whole =
    look_goes limit issued table (look table (ring table.token (length table.seats))) whole
    (met_ring table table.token whole.known (rounds_kept reached).inside)
