-- The threads that have passed stand last in the order in which the token looks at them. Threads are ranked by how far
-- they stand after the one whose turn was last. Of two that have not ended, where the nearer has passed, the farther
-- has (Staged); each turn keeps that, since the thread that the token comes to is the nearest that has not ended, and
-- stands last then. So where that one has passed all have, which is the deadlock.
use Rattle.std.proofs.Common.{◌≡◌, inl, inr, ℕ, zero, suc, ◌+◌, ◌-◌, ◌<◌, ◌≤◌, Bool, true, false, ◌||◌, cond, List, [], ◌∷◌, ◌++◌, map, length, Option, Some, None, is_none, nat_lt, nat_le, unwrap_or, refl, sym, ap, ◌∙◌, subst, arith, count_by, option_map, option_and_then}
use Rattle.std.specs.Prelude.{slice_get, pos, negsuc}
use Rattle.std.specs.List.{list_all}
use Rattle.std.proofs.lemmas.Bool.{cases_lt, cases_eq, false≢true, lt-ltb, le-ltb, and_parts}
use Rattle.std.proofs.lemmas.List.{length-map, append-nil}
use Rattle.gp_base.specs.declared.limits.TheConstants.{MOST_THREADS}
use Rattle.gp_base.specs.declared.ending.End.{End}
use Rattle.task_ast.specs.declared.sync.SyncOp.{SyncOp}
use Rattle.task_ast.specs.declared.sync.SyncOp.TheVariants as sync
use Rattle.task_ast.specs.declared.sync.Next.{Next}
use Rattle.task_ast.specs.meaning.Repeat.{Again, More, Done}
use Rattle.task_ast.specs.meaning.Table.{Stand, Away, Waits, Released, numbers, ring, is_end, with_nth}
use Rattle.task_ast.specs.Table.{Seat, Table, next_of, unpassed, new_seat, learning, waits_at, is_known_end, has_ended, all_passed, owner_in}
use Rattle.task_ast.specs.Turn.{Turn, Issue, Needs, Ended, Look, To, Unknown, NoThread, look_at, look, passing, issuing, seats_after, stand_of, released_at, arrived, met, come_to, at_barrier, at_join, tried, has_passed, at_look, deadlocked, turn}
use Rattle.task_ast.specs.Reached.{Reached, at_start, by_pass, by_issue, by_learning, start_table}
use Rattle.task_ast.proofs.Counting.{length-with_nth, get-with_nth}
use Rattle.task_ast.proofs.Turns.{Known, known_to, look_known}

-- how far the thread is after the one whose turn was last
abbrev rank : (last n t : ℕ) → ℕ
rank last n t = cond (nat_lt last t) (t - suc last) (t + n - suc last)

rank-after : (last n t : ℕ) → last < t → rank last n t ≡ t - suc last
rank-after last n t l = rw (lt-ltb last t l) refl

rank-up_to : (last n t : ℕ) → t ≤ last → rank last n t ≡ t + n - suc last
rank-up_to last n t l = rw (le-ltb last t l) refl

-- one turn later the others have come nearer by the same
rank-turned : (last n t u : ℕ) → last < n → t < n → u < n → rank last n t < rank last n u → rank t n u ≡ rank last n u - suc (rank last n t)
rank-turned last n t u l_in t_in u_in less =
    elim (cases_lt last t) [
      | inl lt ↦ elim (cases_lt last u) [
        | inl lu ↦
            (let rt = rank-after last n t lt in let ru = rank-after last n u lu in let after = rank-after t n u (omega arith) in
            omega arith)
        | inr lu ↦
            (let rt = rank-after last n t lt in let ru = rank-up_to last n u lu in let after = rank-up_to t n u (omega arith) in
            omega arith)
      ]
      | inr lt ↦ elim (cases_lt last u) [
        | inl lu ↦ absurd (let rt = rank-up_to last n t lt in let ru = rank-after last n u lu in omega arith)
        | inr lu ↦
            (let rt = rank-up_to last n t lt in let ru = rank-up_to last n u lu in let after = rank-after t n u (omega arith) in
            omega arith)
      ]
    ]

-- the thread whose turn it was stands last
rank-most : (n t u : ℕ) → t < n → u < n → rank t n u ≤ rank t n t
rank-most n t u t_in u_in =
    let mine = rank-up_to t n t (omega arith) in
    elim (cases_lt t u) [
      | inl l ↦ (let other = rank-after t n u l in omega arith)
      | inr l ↦ (let other = rank-up_to t n u l in omega arith)
    ]

-- two threads of one rank are the same
rank-same : (last n t u : ℕ) → last < n → t < n → u < n → rank last n t ≡ rank last n u → t ≡ u
rank-same last n t u l_in t_in u_in e =
    elim (cases_lt last t) [
      | inl lt ↦ elim (cases_lt last u) [
        | inl lu ↦ (let rt = rank-after last n t lt in let ru = rank-after last n u lu in omega arith)
        | inr lu ↦ absurd (let rt = rank-after last n t lt in let ru = rank-up_to last n u lu in omega arith)
      ]
      | inr lt ↦ elim (cases_lt last u) [
        | inl lu ↦ absurd (let rt = rank-up_to last n t lt in let ru = rank-after last n u lu in omega arith)
        | inr lu ↦ (let rt = rank-up_to last n t lt in let ru = rank-up_to last n u lu in omega arith)
      ]
    ]

-- whether the thread is known to have ended
abbrev ended : Table → ℕ → Bool
ended table u = is_known_end (next_of table u)

-- the thread that the token comes to in a part of the order
data Found (table : Table) (a n : ℕ) (rest : List ℕ) (t : ℕ) : Type 0 where
  in_part : a ≤ t → t < a + n → ((u : ℕ) → a ≤ u → u < t → ended table u ≡ true) → Found table a n rest t
  in_rest : ((u : ℕ) → a ≤ u → u < a + n → ended table u ≡ true) → (next : Next) → look table rest ≡ To t next → Found table a n rest t

found : (table : Table) (a n : ℕ) (rest : List ℕ) (t : ℕ) (next : Next) → look table (numbers a n ++ rest) ≡ To t next
    → Found table a n rest t
found table a zero rest t next e = in_rest (λ u l m. absurd (omega arith)) next e
found table a (suc n) rest t next e = at_first (next_of table a) refl e (λ f. found table (suc a) n rest t next f)
  where
    wider : (e : ended table a ≡ true) (u : ℕ) → a ≤ u → (suc a ≤ u → ended table u ≡ true) → ended table u ≡ true
    wider e u l later = elim (cases_eq a u) [ inl same ↦ ap (ended table) (sym same) ∙ e | inr other ↦ later (omega arith) ]

    go_on : ended table a ≡ true → Found table (suc a) n rest t → Found table a (suc n) rest t
    go_on is (in_part l m before) = in_part (omega arith) (omega arith) (λ u k j. wider is u k (λ i. before u i j))
    go_on is (in_rest before other f) = in_rest (λ u k j. wider is u k (λ i. before u i (omega arith))) other f

    tested : (b : Bool) (first : Next) → is_end first.sync ≡ b → next_of table a ≡ Some first
        → cond b (look table (numbers (suc a) n ++ rest)) (To a first) ≡ To t next
        → (look table (numbers (suc a) n ++ rest) ≡ To t next → Found table (suc a) n rest t) → Found table a (suc n) rest t
    tested true first is at f again = go_on (ap is_known_end at ∙ is) (again f)
    tested false first is at f again =
        let same : a ≡ t = cc f in
        in_part (omega arith) (omega arith) (λ u k j. absurd (omega arith))

    at_first : (o : Option Next) → next_of table a ≡ o → look_at a o (look table (numbers (suc a) n ++ rest)) ≡ To t next
        → (look table (numbers (suc a) n ++ rest) ≡ To t next → Found table (suc a) n rest t) → Found table a (suc n) rest t
    at_first None at f again = absurd (cc f)
    at_first (Some first) at f again = tested (is_end first.sync) first refl at f again

-- of two threads that have not ended, where the nearer has passed, the farther has
abbrev Staged : (n last : ℕ) → (passed end : ℕ → Bool) → Type 0
Staged n last passed end =
    (u v : ℕ) → u < n → v < n → rank last n u < rank last n v → passed u ≡ true → end u ≡ false → end v ≡ false → passed v ≡ true

both_ways' : {A : Type 0} (b : Bool) → b ≡ true → b ≡ false → A
both_ways' b t f = absurd (false≢true (sym f ∙ t))

staged_none : (n last : ℕ) (passed end : ℕ → Bool) → ((u : ℕ) → passed u ≡ false) → Staged n last passed end
staged_none n last passed end none u v u_in v_in less is eu ev = both_ways' (passed u) is (none u)

staged_alone : (n t : ℕ) (passed end : ℕ → Bool) → t < n → ((u : ℕ) → (u ≡ t → ⊥) → passed u ≡ false) → Staged n t passed end
staged_alone n t passed end t_in others u v u_in v_in less is eu ev =
    elim (cases_eq u t) [
      | inl same ↦
          absurd (let most = rank-most n t v t_in v_in in
          let at : rank t n t < rank t n v = subst (λ x. rank t n x < rank t n v) same less in omega arith)
      | inr other ↦ both_ways' (passed u) is (others u other)
    ]

staged_fewer : (n last : ℕ) (passed after end ends : ℕ → Bool) → ((u : ℕ) → after u ≡ passed u) → ((u : ℕ) → ends u ≡ false → end u ≡ false)
    → Staged n last passed end → Staged n last after ends
staged_fewer n last passed after end ends same fewer staged u v u_in v_in less is eu ev =
    same v ∙ staged u v u_in v_in less (sym (same u) ∙ is) (fewer u eu) (fewer v ev)

-- the thread that the token comes to passes
staged_turned : (n last t : ℕ) (passed after end ends : ℕ → Bool) → last < n → t < n → Staged n last passed end
    → ((u : ℕ) → u < n → rank last n u < rank last n t → end u ≡ true) → after t ≡ true → ((u : ℕ) → (u ≡ t → ⊥) → after u ≡ passed u)
    → ((u : ℕ) → ends u ≡ end u) → Staged n t after ends
staged_turned n last t passed after end ends l_in t_in staged nearest mine others same u v u_in v_in less is eu ev =
    elim (cases_eq v t) [
      | inl at ↦ ap after at ∙ mine
      | inr other ↦ elim (cases_eq u t) [
        | inl at ↦
            absurd (let most = rank-most n t v t_in v_in in
            let there : rank t n t < rank t n v = subst (λ x. rank t n x < rank t n v) at less in omega arith)
        | inr another ↦
            (let behind_u = behind u u_in another (sym (same u) ∙ eu) in
            let behind_v = behind v v_in other (sym (same v) ∙ ev) in
            let turned_u = rank-turned last n t u l_in t_in u_in behind_u in
            let turned_v = rank-turned last n t v l_in t_in v_in behind_v in
            others v other ∙ staged u v u_in v_in (omega arith) (sym (others u another) ∙ is) (sym (same u) ∙ eu) (sym (same v) ∙ ev))
      ]
    ]
  where
    behind : (w : ℕ) → w < n → (w ≡ t → ⊥) → end w ≡ false → rank last n t < rank last n w
    behind w w_in other live =
        elim (cases_lt (rank last n w) (rank last n t)) [
          | inl l ↦ both_ways' (end w) (nearest w w_in l) live
          | inr l ↦ elim (cases_eq (rank last n t) (rank last n w)) [
            | inl e ↦ absurd (other (sym (rank-same last n t w l_in t_in w_in e)))
            | inr ne ↦ omega arith
          ]
        ]

-- whose turn was last; at the start the last thread's, so that the first stands next
abbrev pub last_turn : Table → ℕ
last_turn table = unwrap_or table.token (length table.seats - 1)

pub record Rounds (table : Table) : Type 0 where
  pub inside : last_turn table < length table.seats
  pub staged : Staged (length table.seats) (last_turn table) (has_passed table) (ended table)

-- the threads before the one that the token comes to have ended
pub record Nearest (table : Table) (t : ℕ) : Type 0 where
  pub here : t < length table.seats
  pub before : (u : ℕ) → u < length table.seats
      → rank (last_turn table) (length table.seats) u < rank (last_turn table) (length table.seats) t → ended table u ≡ true

all_of_part : (table : Table) (n t : ℕ) (next : Next) → look table (numbers 0 n) ≡ To t next
    → (t < n) × ((u : ℕ) → u < t → ended table u ≡ true)
all_of_part table n t next e = go (found table 0 n [] t next (subst (λ ts. look table ts ≡ To t next) (sym (append-nil (numbers 0 n))) e))
  where
    go : Found table 0 n [] t → (t < n) × ((u : ℕ) → u < t → ended table u ≡ true)
    go (in_part l m before) = (omega arith, λ u k. before u (omega arith) k)
    go (in_rest before other f) = absurd (cc f)

nearest_from : (table : Table) (token : Option ℕ) (n t : ℕ) (next : Next) → unwrap_or token (n - 1) < n
    → look table (ring token n) ≡ To t next
    → (t < n) × ((u : ℕ) → u < n → rank (unwrap_or token (n - 1)) n u < rank (unwrap_or token (n - 1)) n t → ended table u ≡ true)
nearest_from table None n t next inside e =
    let h = all_of_part table n t next e in
    let here : t < n = h.0 in (
      here,
      λ u l less. let ru = rank-up_to (n - 1) n u (omega arith) in let rt = rank-up_to (n - 1) n t (omega arith) in
          h.1 u (omega arith),
    )
nearest_from table (Some last) n t next inside e = go (found table (suc last) (n - suc last) (numbers 0 (suc last)) t next e)
  where
    go : Found table (suc last) (n - suc last) (numbers 0 (suc last)) t
        → (t < n) × ((u : ℕ) → u < n → rank last n u < rank last n t → ended table u ≡ true)
    go (in_part l m before) = (
      omega arith,
      λ u u_in less. let rt = rank-after last n t (omega arith) in
          elim (cases_lt last u) [
            | inl k ↦ (let ru = rank-after last n u k in before u (omega arith) (omega arith))
            | inr k ↦ absurd (let ru = rank-up_to last n u k in omega arith)
          ],
    )
    go (in_rest before other f) =
        let h = all_of_part table (suc last) t other f in
        let here : t < suc last = h.0 in (
          omega arith,
          λ u u_in less. let rt = rank-up_to last n t (omega arith) in
              elim (cases_lt last u) [
                | inl k ↦ before u (omega arith) (omega arith)
                | inr k ↦ (let ru = rank-up_to last n u k in h.1 u (omega arith))
              ],
        )

pub nearest : (table : Table) (t : ℕ) (next : Next) → Rounds table → look table (ring table.token (length table.seats)) ≡ To t next
    → Nearest table t
nearest table t next rounds e =
    let h = nearest_from table table.token (length table.seats) t next rounds.inside e in
    record { here = h.0; before = h.1 }

-- ---- what is read of a changed list

pub keeps_nth : {X Y : Type 0} (h : Option X → Y) (f : X → X) → ((x : X) → h (Some (f x)) ≡ h (Some x)) → (xs : List X) (n m : ℕ)
    → h (slice_get (with_nth xs n f) m) ≡ h (slice_get xs m)
keeps_nth h f same [] n m = refl
keeps_nth h f same (x ∷ xs) zero zero = same x
keeps_nth h f same (x ∷ xs) zero (suc m) = refl
keeps_nth h f same (x ∷ xs) (suc n) zero = refl
keeps_nth h f same (x ∷ xs) (suc n) (suc m) = keeps_nth h f same xs n m

pub other_nth : {X : Type 0} (f : X → X) (xs : List X) (n m : ℕ) → (m ≡ n → ⊥) → slice_get (with_nth xs n f) m ≡ slice_get xs m
other_nth f [] n m ne = refl
other_nth f (x ∷ xs) zero zero ne = absurd (ne refl)
other_nth f (x ∷ xs) zero (suc m) ne = refl
other_nth f (x ∷ xs) (suc n) zero ne = refl
other_nth f (x ∷ xs) (suc n) (suc m) ne = other_nth f xs n m (λ e. ne (ap suc e))

pub keeps_map : {X Y : Type 0} (h : Option X → Y) (f : X → X) → ((x : X) → h (Some (f x)) ≡ h (Some x)) → (xs : List X) (m : ℕ)
    → h (slice_get (map f xs) m) ≡ h (slice_get xs m)
keeps_map h f same [] m = refl
keeps_map h f same (x ∷ xs) zero = same x
keeps_map h f same (x ∷ xs) (suc m) = keeps_map h f same xs m

pub there_nth : {X : Type 0} (f : X → X) (xs : List X) (n : ℕ) → n < length xs → (x : X) × (slice_get xs n ≡ Some x)
there_nth f [] n l = absurd (omega arith)
there_nth f (x ∷ xs) zero l = (x, refl)
there_nth f (x ∷ xs) (suc n) l = there_nth f xs n (omega arith)

abbrev passed_in : Option Seat → Bool
passed_in o = unwrap_or (option_map (λ s. s.passed) o) false

unpassed_all : (xs : List Seat) (m : ℕ) → passed_in (slice_get (map unpassed xs) m) ≡ false
unpassed_all [] m = refl
unpassed_all (x ∷ xs) zero = refl
unpassed_all (x ∷ xs) (suc m) = unpassed_all xs m

unpassed_more : (xs : List Seat) (y : Seat) → y.passed ≡ false → ((m : ℕ) → passed_in (slice_get xs m) ≡ false) → (m : ℕ)
    → passed_in (slice_get (xs ++ y ∷ []) m) ≡ false
unpassed_more [] y e none zero = e
unpassed_more [] y e none (suc m) = refl
unpassed_more (x ∷ xs) y e none zero = none 0
unpassed_more (x ∷ xs) y e none (suc m) = unpassed_more xs y e (λ k. none (suc k)) m

unpassed_after : (op : SyncOp) (xs : List Seat) → ((m : ℕ) → passed_in (slice_get xs m) ≡ false) → (m : ℕ)
    → passed_in (slice_get (seats_after op xs) m) ≡ false
unpassed_after (sync.Fork task arguments) xs none m = unpassed_more xs new_seat refl none m
unpassed_after _ xs none m = none m

length-push' : (xs : List Seat) (y : Seat) → length xs ≤ length (xs ++ y ∷ [])
length-push' [] y = omega arith
length-push' (x ∷ xs) y = let h = length-push' xs y in omega arith

length_after : (op : SyncOp) (xs : List Seat) → length xs ≤ length (seats_after op xs)
length_after (sync.Fork task arguments) xs = length-push' xs new_seat
length_after _ xs = omega arith

-- ---- each turn keeps the rounds

data Keeps : Again Table Turn → Type 0 where
  passes : {after : Table} → Rounds after → Keeps (More after)
  issues : {t : ℕ} {next : Next} {child : Option ℕ} {after : Table} → Rounds after → Keeps (Done (Issue t next child after))
  needs : {t : ℕ} → Keeps (Done (Needs t))
  ends : {ending : End} → Keeps (Done (Ended ending))

keeps-more : {after : Table} → Keeps (More after) → Rounds after
keeps-more (passes rounds) = rounds

keeps-issue : {t : ℕ} {next : Next} {child : Option ℕ} {after : Table} → Keeps (Done (Issue t next child after)) → Rounds after
keeps-issue (issues rounds) = rounds

cond_keeps : (b : Bool) (first second : Again Table Turn) → Keeps first → Keeps second → Keeps (cond b first second)
cond_keeps true first second f s = f
cond_keeps false first second f s = s

abbrev issued_seats : SyncOp → List Seat → ℕ → ℕ → List Seat
issued_seats op seats t position =
    seats_after op (map unpassed (with_nth seats t (λ s. record { next = None; last = Some position; passed = false; stand = Away })))

length_issued : (op : SyncOp) (seats : List Seat) (t position : ℕ) → length seats ≤ length (issued_seats op seats t position)
length_issued op seats t position =
    let begun : List Seat = with_nth seats t (λ s. record { next = None; last = Some position; passed = false; stand = Away }) in
    let same : length begun ≡ length seats =
    length-with_nth seats t (λ s. record { next = None; last = Some position; passed = false; stand = Away }) in
    let mapped : length (map unpassed begun) ≡ length begun = length-map begun unpassed in
    let more : length (map unpassed begun) ≤ length (seats_after op (map unpassed begun)) = length_after op (map unpassed begun) in
    omega arith

issuing_keeps : (table : Table) (t : ℕ) (next : Next) → t < length table.seats → Keeps (issuing table t next)
issuing_keeps table t next t_in =
    cond_keeps (nat_lt table.issued table.limit) _ _
    (issues (record {
      inside = (let more = length_issued next.sync table.seats t table.issued in omega arith);
      staged =
          staged_none _ _ _ _ (unpassed_after next.sync
          (map unpassed (with_nth table.seats t (λ s.
          record { next = None; last = Some table.issued; passed = false; stand = Away })))
          (unpassed_all (with_nth table.seats t (λ s. record { next = None; last = Some table.issued; passed = false; stand = Away }))));
    }))
    ends

abbrev pub pass : Seat → Seat
pass s = record s { passed = true }

abbrev pub wait : Seat → Seat
wait s = record s { stand = Waits }

passing_keeps : (table : Table) (t : ℕ) → Rounds table → Nearest table t → Keeps (passing table t)
passing_keeps table t rounds nearest =
    passes (record {
      inside = rw (length-with_nth table.seats t pass) nearest.here;
      staged =
          rw (length-with_nth table.seats t pass)
          (staged_turned (length table.seats) (last_turn table) t (has_passed table) (has_passed after) (ended table) (ended after)
          rounds.inside nearest.here rounds.staged nearest.before mine
          (λ u ne. ap passed_in (other_nth pass table.seats t u ne))
          (λ u. keeps_nth (λ o. is_known_end (option_and_then (λ s. s.next) o)) pass (λ s. refl) table.seats t u));
    })
  where
    after : Table
    after = record table { seats = with_nth table.seats t pass; token = Some t }

    mine : has_passed after t ≡ true
    mine = let seat = there_nth pass table.seats t nearest.here in ap passed_in (get-with_nth table.seats t pass seat.0 seat.1)

abbrev pub arrive : List Seat → ℕ → List Seat
arrive seats t = with_nth (map unpassed seats) t wait

unpassed_arrive : (seats : List Seat) (t m : ℕ) → passed_in (slice_get (arrive seats t) m) ≡ false
unpassed_arrive seats t m = keeps_nth passed_in wait (λ s. refl) (map unpassed seats) t m ∙ unpassed_all seats m

pub length_arrive : (seats : List Seat) (t : ℕ) → length (arrive seats t) ≡ length seats
length_arrive seats t = length-with_nth (map unpassed seats) t wait ∙ length-map seats unpassed

released_passed : (b : Bool) (s : Seat) → (cond b (record s { stand = Released }) s).passed ≡ s.passed
released_passed true s = refl
released_passed false s = refl

-- the table in which a thread has arrived, and all are released where they are enough
met_seats : (table : Table) (t b : ℕ)
    → (length (met (arrived table t) b).seats ≡ length table.seats) × ((m : ℕ) → has_passed (met (arrived table t) b) m ≡ false)
met_seats table t b = go (nat_le (unwrap_or (slice_get table.barriers b) 0) (count_by (waits_at b) (arrive table.seats t)))
  where
    there : Bool → Table
    there all = cond all (record (arrived table t) { seats = map (released_at b) (arrive table.seats t) }) (arrived table t)

    go : (all : Bool) → (length (there all).seats ≡ length table.seats) × ((m : ℕ) → has_passed (there all) m ≡ false)
    go true = (
      length-map (arrive table.seats t) (released_at b) ∙ length_arrive table.seats t,
      λ m. keeps_map passed_in (released_at b) (λ s. released_passed (waits_at b s) s) (arrive table.seats t) m
          ∙ unpassed_arrive table.seats t m,
    )
    go false = (length_arrive table.seats t, unpassed_arrive table.seats t)

-- a thread passes in a table in which none has passed
first_keeps : (table : Table) (t : ℕ) → t < length table.seats → ((m : ℕ) → has_passed table m ≡ false) → Keeps (passing table t)
first_keeps table t t_in none =
    passes (record {
      inside = rw (length-with_nth table.seats t pass) t_in;
      staged = rw (length-with_nth table.seats t pass) (staged_alone (length table.seats) t (has_passed after) (ended after) t_in
          (λ u ne. ap passed_in (other_nth pass table.seats t u ne) ∙ none u));
    })
  where
    after : Table
    after = record table { seats = with_nth table.seats t pass; token = Some t }

barrier_keeps : (stand : Stand) (table : Table) (t : ℕ) (next : Next) → t < length table.seats → Keeps (passing table t)
    → Keeps (at_barrier stand table t next)
barrier_keeps Away table t next t_in keeps = keeps
barrier_keeps Waits table t next t_in keeps = keeps
barrier_keeps Released table t next t_in keeps = issuing_keeps table t next t_in

meeting_keeps : (stand : Stand) (table : Table) (t b : ℕ) (next : Next) → Rounds table → Nearest table t
    → Keeps (at_barrier (stand_of (come_to stand table t b) t) (come_to stand table t b) t next)
meeting_keeps Away table t b next rounds nearest =
    let h = met_seats table t b in
    let t_in : t < length (met (arrived table t) b).seats =
    (let l : t < length table.seats = nearest.here in let same = h.0 in omega arith) in
    barrier_keeps (stand_of (met (arrived table t) b) t) (met (arrived table t) b) t next t_in
    (first_keeps (met (arrived table t) b) t t_in h.1)
meeting_keeps Waits table t b next rounds nearest =
    barrier_keeps (stand_of table t) table t next nearest.here (passing_keeps table t rounds nearest)
meeting_keeps Released table t b next rounds nearest =
    barrier_keeps (stand_of table t) table t next nearest.here (passing_keeps table t rounds nearest)

joining_keeps : (h : ℕ) (o : Option Next) (table : Table) (t : ℕ) (next : Next) → Rounds table → Nearest table t
    → Keeps (at_join h o table t next)
joining_keeps h None table t next rounds nearest = needs
joining_keeps h (Some other) table t next rounds nearest =
    cond_keeps (is_end other.sync) _ _ (issuing_keeps table t next nearest.here) (passing_keeps table t rounds nearest)

tried_keeps : (op : SyncOp) (table : Table) (t : ℕ) (next : Next) → Rounds table → Nearest table t → Keeps (tried op table t next)
tried_keeps sync.Start table t next rounds nearest = issuing_keeps table t next nearest.here
tried_keeps (sync.Settle register control) table t next rounds nearest = issuing_keeps table t next nearest.here
tried_keeps (sync.Lock l) table t next rounds nearest =
    cond_keeps (is_none (owner_in table.owners l)) _ _ (issuing_keeps table t next nearest.here) (passing_keeps table t rounds nearest)
tried_keeps (sync.Unlock l) table t next rounds nearest = issuing_keeps table t next nearest.here
tried_keeps (sync.Fork task arguments) table t next rounds nearest =
    cond_keeps (nat_lt (length table.seats) MOST_THREADS) _ _ (issuing_keeps table t next nearest.here) ends
tried_keeps (sync.Join (pos h)) table t next rounds nearest =
    cond_keeps (nat_lt h (length table.seats)) _ _ (joining_keeps h (next_of table h) table t next rounds nearest) ends
tried_keeps (sync.Join (negsuc h)) table t next rounds nearest = ends
tried_keeps (sync.Barrier b) table t next rounds nearest = meeting_keeps (stand_of table t) table t b next rounds nearest
tried_keeps sync.End table t next rounds nearest = issuing_keeps table t next nearest.here
tried_keeps sync.BadIndex table t next rounds nearest = ends
tried_keeps sync.Spent table t next rounds nearest = ends

stuck_keeps : (l : Look) → Keeps (deadlocked l)
stuck_keeps (To t next) = ends
stuck_keeps (Unknown t) = needs
stuck_keeps NoThread = ends

look_keeps : (table : Table) (l : Look) → Rounds table → look table (ring table.token (length table.seats)) ≡ l → Keeps (at_look l table)
look_keeps table (To t next) rounds e =
    cond_keeps (has_passed table t) _ _ (stuck_keeps (look table (numbers 0 (length table.seats))))
    (tried_keeps next.sync table t next rounds (nearest table t next rounds e))
look_keeps table (Unknown t) rounds e = needs
look_keeps table NoThread rounds e = ends

turn_keeps : (table : Table) → Rounds table → Keeps (turn table)
turn_keeps table rounds = look_keeps table (look table (ring table.token (length table.seats))) rounds refl

rounds_at_start : (limit : ℕ) (barriers : List ℕ) (owners : List (Option ℕ)) (main : Next) → Rounds (start_table limit barriers owners main)
rounds_at_start limit barriers owners main = record { inside = omega arith; staged = staged_none _ _ _ _ none }
  where
    none : (u : ℕ) → has_passed (start_table limit barriers owners main) u ≡ false
    none zero = refl
    none (suc u) = refl

learning_keeps : (table : Table) (t : ℕ) (next : Next) → next_of table t ≡ None → Rounds table → Rounds (learning table t next)
learning_keeps table t next unknown rounds =
    record {
      inside = rw (length-with_nth table.seats t learn) rounds.inside;
      staged =
          rw (length-with_nth table.seats t learn)
          (staged_fewer (length table.seats) (last_turn table) (has_passed table) (has_passed (learning table t next)) (ended table)
          (ended (learning table t next))
          (λ u. keeps_nth passed_in learn (λ s. refl) table.seats t u) fewer rounds.staged);
    }
  where
    learn : Seat → Seat
    learn s = record s { next = Some next }

    fewer : (u : ℕ) → ended (learning table t next) u ≡ false → ended table u ≡ false
    fewer u e =
        elim (cases_eq u t) [
          | inl same ↦ ap (ended table) same ∙ ap is_known_end unknown
          | inr other ↦ ap (λ o. is_known_end (option_and_then (λ s. s.next) o)) (sym (other_nth learn table.seats t u other)) ∙ e
        ]

pub rounds_kept : {table : Table} → Reached table → Rounds table
rounds_kept (at_start {limit = limit} {barriers = barriers} {owners = owners} {main = main}) = rounds_at_start limit barriers owners main
rounds_kept (by_pass {table = table} reached e) = keeps-more (subst Keeps e (turn_keeps table (rounds_kept reached)))
rounds_kept (by_issue {table = table} reached e) = keeps-issue (subst Keeps e (turn_keeps table (rounds_kept reached)))
rounds_kept (by_learning {table = table} t next reached e) = learning_keeps table t next e (rounds_kept reached)

-- ---- the deadlock

pub all_from : {X : Type 0} (test : X → Bool) (xs : List X) → ((m : ℕ) (x : X) → slice_get xs m ≡ Some x → test x ≡ true)
    → list_all test xs ≡ true
all_from test [] each = refl
all_from test (x ∷ xs) each = rw (each 0 x refl) (all_from test xs (λ m. each (suc m)))

each_of : {X : Type 0} (test : X → Bool) (xs : List X) (m : ℕ) (x : X) → list_all test xs ≡ true → slice_get xs m ≡ Some x → test x ≡ true
each_of test [] m x all e = absurd (cc e)
each_of test (y ∷ ys) zero x all e = ap test (sym (cc e)) ∙ (and_parts (test y) (list_all test ys) all).0
each_of test (y ∷ ys) (suc m) x all e = each_of test ys m x (and_parts (test y) (list_all test ys) all).1 e

pub some_below : {X : Type 0} (xs : List X) (m : ℕ) (x : X) → slice_get xs m ≡ Some x → m < length xs
some_below [] m x e = absurd (cc e)
some_below (y ∷ ys) zero x e = omega arith
some_below (y ∷ ys) (suc m) x e = let h = some_below ys m x e in omega arith

live_of : {table : Table} {t : ℕ} {next : Next} → Known table (To t next) → ended table t ≡ false
live_of (known_to at live) = ap is_known_end at ∙ live

pub deadlock_is : (table : Table) → Rounds table → (t : ℕ) (next : Next) → look table (ring table.token (length table.seats)) ≡ To t next
    → has_passed table t ≡ all_passed table
deadlock_is table rounds t next e = go (has_passed table t) (all_passed table) refl refl
  where
    near : Nearest table t
    near = nearest table t next rounds e

    live : ended table t ≡ false
    live = live_of (subst (Known table) e (look_known table (ring table.token (length table.seats))))

    -- a thread that has not ended has passed, where the one that the token comes to has
    later : has_passed table t ≡ true → (m : ℕ) → m < length table.seats → ended table m ≡ false → has_passed table m ≡ true
    later is m m_in going =
        elim (cases_lt (rank (last_turn table) (length table.seats) m) (rank (last_turn table) (length table.seats) t)) [
          | inl l ↦ both_ways' (ended table m) (near.before m m_in l) going
          | inr l ↦ elim (cases_eq (rank (last_turn table) (length table.seats) t) (rank (last_turn table) (length table.seats) m)) [
            | inl same ↦
                ap (has_passed table) (sym (rank-same (last_turn table) (length table.seats) t m rounds.inside near.here m_in same)) ∙ is
            | inr other ↦ rounds.staged t m near.here m_in (omega arith) is live going
          ]
        ]

    either : (seat : Seat) → (has_ended seat ≡ false → seat.passed ≡ true) → (has_ended seat || seat.passed) ≡ true
    either seat when = of (has_ended seat) when
      where
        of : (b : Bool) → (b ≡ false → seat.passed ≡ true) → (b || seat.passed) ≡ true
        of true when = refl
        of false when = when refl

    each : has_passed table t ≡ true → (m : ℕ) (s : Seat) → slice_get table.seats m ≡ Some s → (has_ended s || s.passed) ≡ true
    each is m s at =
        either s (λ going. sym (ap passed_in at)
        ∙ later is m (some_below table.seats m s at) (ap (λ o. is_known_end (option_and_then (λ x. x.next) o)) at ∙ going))

    mine : all_passed table ≡ true → has_passed table t ≡ true
    mine all =
        let seat = there_nth pass table.seats t near.here in
        let closed : has_ended seat.0 ≡ false = sym (ap (λ o. is_known_end (option_and_then (λ x. x.next) o)) seat.1) ∙ live in
        ap passed_in seat.1 ∙ (sym (ap (λ b. b || seat.0.passed) closed)
        ∙ each_of (λ s. has_ended s || s.passed) table.seats t seat.0 all seat.1)

    go : (b all : Bool) → has_passed table t ≡ b → all_passed table ≡ all → b ≡ all
    go true true is f = refl
    go false false is f = refl
    go true false is f = both_ways' (all_passed table) (all_from (λ s. has_ended s || s.passed) table.seats (each is)) f
    go false true is f = both_ways' (has_passed table t) (mine f) is
