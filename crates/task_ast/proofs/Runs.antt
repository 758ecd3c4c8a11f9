-- The plain run is the run of the general turn over the points of the tree.
use Rattle.std.proofs.Common.{◌≡◌, ℕ, zero, suc, ◌+◌, ◌-◌, ◌*◌, ◌<◌, ◌≤◌, pos, negsuc, Bool, true, false, not, cond, List, [], ◌∷◌, ◌++◌, length, map, Option, Some, None, nat_lt, nat_le, refl, sym, ap, ◌∙◌, subst, arith, slice_get, count_by}
use Rattle.std.specs.Prelude.{⊤, is_none, unwrap_or, slice_set}
use Rattle.std.specs.Option.{option_map, option_and_then}
use Rattle.std.proofs.lemmas.Bool.{ltb-true}
use Rattle.std.proofs.lemmas.List.{map-append, set-append_left, length-map, length-append}
use Rattle.std.proofs.lemmas.Option.{slice_get-map}
use Rattle.gp_base.specs.declared.limits.TheConstants.{MOST_THREADS}
use Rattle.gp_base.specs.declared.limits.Limits.{Limits}
use Rattle.gp_base.specs.declared.feed.Inputs.{Inputs}
use Rattle.gp_base.specs.declared.ending.Why.TheVariants as why
use Rattle.gp_base.specs.declared.ending.End.{End}
use Rattle.gp_base.specs.declared.ending.End.TheVariants.{Finished, Spent}
use Rattle.task_ast.specs.declared.sync.SyncOp.{SyncOp}
use Rattle.task_ast.specs.declared.sync.SyncOp.TheVariants as sync
use Rattle.task_ast.specs.declared.sync.Next.{Next}
use Rattle.task_ast.specs.meaning.Tree.{Program}
use Rattle.task_ast.specs.meaning.Names.{barriers_of, cells_in, records_of}
use Rattle.task_ast.specs.meaning.Control.{Point, tree_body, beginning, first_actions}
use Rattle.task_ast.specs.meaning.State.{State, RegistersOf, cell_value}
use Rattle.task_ast.specs.meaning.Effect.{effect, after}
use Rattle.task_ast.specs.meaning.Repeat.{Again, More, Done, Move, Goes, Ends, go_on, repeated, until_done, steps, state_after, state_from, steps_from}
use Rattle.task_ast.specs.meaning.Table.{Stand, Away, Waits, Released, numbers, ring, with_nth, meets, is_waiting, owned_from}
use Rattle.task_ast.specs.Table.{Seat, Table, next_of, unpassed, with_seat, learning, new_seat, waits_at}
use Rattle.task_ast.specs.meaning.Turn.{owners_after, child_of, is_away}
use Rattle.task_ast.specs.Turn.{Turn, Issue, Ended, Look, To, NoThread, look, look_at, passing, seats_after, issuing, stand_of, released_at, arrived, met, come_to, at_barrier, at_join, last_of, stuck, tried, has_passed, deadlocked, at_look, turn, turns_left, next_issue}
use Rattle.task_ast.specs.meaning.Plain.{Subthread, ending_of, task_at, start_point, setting_of}
use Rattle.task_ast.specs.Plain.{Plain, PlainOf, points_with, point_by, settled_by, from_by, performed_by, on_turn_by, tree_machine, move, order, end}
use Rattle.task_ast.specs.Position.{before}
use Rattle.task_ast.specs.meaning.Run.{Thread, Run, unpassed_thread, with_thread, is_barrier_of, is_held_at, let_go, settled_point, stuck_at, passes_on, starting, thread_at, with_forked, begun_by, goes_on, all_met, comes_to, stands_at, has_finished, tries_by, first_up, dead_at, turn_of, one_turn, left_turns, plain_move, plain_opening, plain_order, plain_before, plain_end}
use Rattle.task_ast.specs.laws.Runs.{seat_for, table_for, plain_for, move_for, IsInside, RunMoveLaw, RunInsideLaw, RunEndLaw}
use Rattle.task_ast.proofs.Counting.{count-cons, one}

-- ---- lists

with_nth-map : {A B : Type 0} (v : A → B) (f : B → B) (g : A → A) → ((x : A) → f (v x) ≡ v (g x)) → (xs : List A) (n : ℕ)
    → with_nth (map v xs) n f ≡ map v (with_nth xs n g)
with_nth-map v f g same [] n = refl
with_nth-map v f g same (x ∷ xs) zero = λ i. same x i ∷ map v xs
with_nth-map v f g same (x ∷ xs) (suc n) = λ i. v x ∷ with_nth-map v f g same xs n i

map-map : {A B : Type 0} (v : A → B) (f : B → B) (g : A → A) → ((x : A) → f (v x) ≡ v (g x)) → (xs : List A)
    → map f (map v xs) ≡ map v (map g xs)
map-map v f g same [] = refl
map-map v f g same (x ∷ xs) = λ i. same x i ∷ map-map v f g same xs i

map-kept : {A B : Type 0} (v : A → B) (g : A → A) → ((x : A) → v (g x) ≡ v x) → (xs : List A) → map v (map g xs) ≡ map v xs
map-kept v g same [] = refl
map-kept v g same (x ∷ xs) = λ i. same x i ∷ map-kept v g same xs i

nth-kept : {A B : Type 0} (v : A → B) (g : A → A) → ((x : A) → v (g x) ≡ v x) → (xs : List A) (n : ℕ) → map v (with_nth xs n g) ≡ map v xs
nth-kept v g same [] n = refl
nth-kept v g same (x ∷ xs) zero = λ i. same x i ∷ map v xs
nth-kept v g same (x ∷ xs) (suc n) = λ i. v x ∷ nth-kept v g same xs n i

length-nth : {A : Type 0} (xs : List A) (n : ℕ) (f : A → A) → length (with_nth xs n f) ≡ length xs
length-nth [] n f = refl
length-nth (x ∷ xs) zero f = refl
length-nth (x ∷ xs) (suc n) f = ap suc (length-nth xs n f)

nth-front : {A : Type 0} (xs ys : List A) (n : ℕ) (f : A → A) → n < length xs → with_nth (xs ++ ys) n f ≡ with_nth xs n f ++ ys
nth-front [] ys n f l = absurd (omega arith)
nth-front (x ∷ xs) ys zero f l = refl
nth-front (x ∷ xs) ys (suc n) f l = λ i. x ∷ nth-front xs ys n f (omega arith) i

count-map : {A B : Type 0} (v : A → B) (p : B → Bool) (q : A → Bool) → ((x : A) → p (v x) ≡ q x) → (xs : List A)
    → count_by p (map v xs) ≡ count_by q xs
count-map v p q same [] = refl
count-map v p q same (x ∷ xs) =
    count-cons p (v x) (map v xs)
    ∙ ((λ i. one (same x i) + count-map v p q same xs i) ∙ sym (count-cons q x xs))

read-option : {A B : Type 0} (v : A → B) (o : Option A) (d : A) → unwrap_or (option_map v o) (v d) ≡ v (unwrap_or o d)
read-option v None d = refl
read-option v (Some x) d = refl

-- what is read of an element, or of another where there is none
read-or : {A B : Type 0} (v : A → B) (xs : List A) (n : ℕ) (d : A) → unwrap_or (slice_get (map v xs) n) (v d) ≡ v (unwrap_or (slice_get xs n) d)
read-or v xs n d = ap (λ o. unwrap_or o (v d)) (slice_get-map v xs n) ∙ read-option v (slice_get xs n) d

-- ---- threads

begun-seats : (threads : List Thread) (t : ℕ) (last : Option ℕ) (next : Next) (p : Point)
    → with_nth (map unpassed (with_nth (map seat_for threads) t (λ s. record { next = None; last = last; passed = false; stand = Away }))) t
    (λ s. record s { next = Some next })
    ≡ map seat_for (with_nth (map unpassed_thread threads) t
    (λ _. record { next = next; last = last; passed = false; stand = Away; at = p }))
begun-seats [] t last next p = refl
begun-seats (th ∷ threads) zero last next p =
    λ i. record { next = Some next; last = last; passed = false; stand = Away }
    ∷ map-map seat_for unpassed unpassed_thread (λ x. refl) threads i
begun-seats (th ∷ threads) (suc t) last next p = λ i. seat_for (unpassed_thread th) ∷ begun-seats threads t last next p i

begun-points : (threads : List Thread) (t : ℕ) (last : Option ℕ) (next : Next) (p : Point)
    → slice_set (map (λ (th : Thread). th.at) threads) t p
    ≡ map (λ (th : Thread). th.at) (with_nth (map unpassed_thread threads) t
    (λ _. record { next = next; last = last; passed = false; stand = Away; at = p }))
begun-points [] t last next p = refl
begun-points (th ∷ threads) zero last next p =
    λ i. p ∷ sym (map-kept (λ (th : Thread). th.at) unpassed_thread (λ x. refl) threads) i
begun-points (th ∷ threads) (suc t) last next p = λ i. th.at ∷ begun-points threads t last next p i

barrier-is : (b : ℕ) (op : SyncOp) (line : ℕ) → meets b (Some (record { sync = op; line = line })) ≡ is_barrier_of b op
barrier-is b sync.Start line = refl
barrier-is b (sync.Lock l) line = refl
barrier-is b (sync.Unlock l) line = refl
barrier-is b (sync.Fork task arguments) line = refl
barrier-is b (sync.Join h) line = refl
barrier-is b (sync.Barrier c) line = refl
barrier-is b (sync.Settle register control) line = refl
barrier-is b sync.End line = refl
barrier-is b sync.BadIndex line = refl
barrier-is b sync.Spent line = refl

waits-is : (b : ℕ) (th : Thread) → waits_at b (seat_for th) ≡ is_held_at b th
waits-is b th = ap (λ m. cond (is_waiting th.stand) m false) (barrier-is b th.next.sync th.next.line)

released-is : (b : ℕ) (th : Thread) → released_at b (seat_for th) ≡ seat_for (let_go b th)
released-is b th = ap (λ w. cond w (record (seat_for th) { stand = Released }) (seat_for th)) (waits-is b th) ∙ go (is_held_at b th)
  where
    go : (w : Bool) → cond w (record (seat_for th) { stand = Released }) (seat_for th) ≡ seat_for (cond w (record th { stand = Released }) th)
    go true = refl
    go false = refl

let_go-at : (b : ℕ) (th : Thread) → (let_go b th).at ≡ th.at
let_go-at b th = go (is_held_at b th)
  where
    go : (w : Bool) → (cond w (record th { stand = Released }) th).at ≡ th.at
    go true = refl
    go false = refl

settled-is : (program : Program) (inputs : Inputs) (limits : Limits) (op : SyncOp) (t : ℕ) (state : State) (p : Point)
    → settled_by (tree_machine program inputs limits) op t state p ≡ settled_point op (state (RegistersOf t)) p
settled-is program inputs limits sync.Start t state p = refl
settled-is program inputs limits (sync.Lock l) t state p = refl
settled-is program inputs limits (sync.Unlock l) t state p = refl
settled-is program inputs limits (sync.Fork task arguments) t state p = refl
settled-is program inputs limits (sync.Join h) t state p = refl
settled-is program inputs limits (sync.Barrier c) t state p = refl
settled-is program inputs limits (sync.Settle register control) t state p = refl
settled-is program inputs limits sync.End t state p = refl
settled-is program inputs limits sync.BadIndex t state p = refl
settled-is program inputs limits sync.Spent t state p = refl

module _ (program : Program) (inputs : Inputs) (limits : Limits) where
  abbrev points : Run → List Point
  points x = map (λ (th : Thread). th.at) x.threads

  abbrev table : Run → Table
  table x = table_for program limits x

  abbrev Answer : Type 0
  Answer = Again Run (Move Run Subthread End)

  abbrev there : Run → ℕ → Thread
  there x t = thread_at program inputs limits x t

  -- where it leads, the token is at a thread
  abbrev Stays : Move Run Subthread End → Type 0
  Stays (Goes s y) = IsInside y
  Stays (Ends e) = ⊤

  -- ---- forks

  forked-seats : (op : SyncOp) (xs : List Thread) (t : ℕ) (f : Seat → Seat) (ys : List Seat) → t < length ys
      → with_nth ys t f ≡ map seat_for xs → length xs ≡ length ys
      → with_nth (seats_after op ys) t f ≡ map seat_for (with_forked program inputs limits op xs)
  forked-seats (sync.Fork task arguments) xs t f ys l e n =
      nth-front ys (new_seat ∷ []) t f l
      ∙ (ap (λ s. s ++ new_seat ∷ []) e
      ∙ sym (map-append seat_for xs (starting program inputs limits task (length xs) arguments ∷ [])))
  forked-seats sync.Start xs t f ys l e n = e
  forked-seats (sync.Lock k) xs t f ys l e n = e
  forked-seats (sync.Unlock k) xs t f ys l e n = e
  forked-seats (sync.Join h) xs t f ys l e n = e
  forked-seats (sync.Barrier c) xs t f ys l e n = e
  forked-seats (sync.Settle register control) xs t f ys l e n = e
  forked-seats sync.End xs t f ys l e n = e
  forked-seats sync.BadIndex xs t f ys l e n = e
  forked-seats sync.Spent xs t f ys l e n = e

  forked-points : (op : SyncOp) (xs : List Thread) (t : ℕ) (p : Point) (ps : List Point) → t < length ps
      → slice_set ps t p ≡ map (λ (th : Thread). th.at) xs → length xs ≡ length ps
      → slice_set (points_with (tree_machine program inputs limits) op (length ps) ps) t p
      ≡ map (λ (th : Thread). th.at) (with_forked program inputs limits op xs)
  forked-points (sync.Fork task arguments) xs t p ps l e n =
      set-append_left ps (start_point (task_at program task) (length ps) arguments ∷ []) t p l
      ∙ ((λ i. e i ++ start_point (task_at program task) (sym n i) arguments ∷ [])
      ∙ sym (map-append (λ (th : Thread). th.at) xs (starting program inputs limits task (length xs) arguments ∷ [])))
  forked-points sync.Start xs t p ps l e n = e
  forked-points (sync.Lock k) xs t p ps l e n = e
  forked-points (sync.Unlock k) xs t p ps l e n = e
  forked-points (sync.Join h) xs t p ps l e n = e
  forked-points (sync.Barrier c) xs t p ps l e n = e
  forked-points (sync.Settle register control) xs t p ps l e n = e
  forked-points sync.End xs t p ps l e n = e
  forked-points sync.BadIndex xs t p ps l e n = e
  forked-points sync.Spent xs t p ps l e n = e

  forked-longer : (op : SyncOp) (xs : List Thread) → length xs ≤ length (with_forked program inputs limits op xs)
  forked-longer (sync.Fork task arguments) xs =
      let n = length-append xs (starting program inputs limits task (length xs) arguments ∷ []) in omega arith
  forked-longer sync.Start xs = omega arith
  forked-longer (sync.Lock k) xs = omega arith
  forked-longer (sync.Unlock k) xs = omega arith
  forked-longer (sync.Join h) xs = omega arith
  forked-longer (sync.Barrier c) xs = omega arith
  forked-longer (sync.Settle register control) xs = omega arith
  forked-longer sync.End xs = omega arith
  forked-longer sync.BadIndex xs = omega arith
  forked-longer sync.Spent xs = omega arith

  -- ---- one subthread

  module _ (given_table : Table) (x : Run) (t : ℕ) (th : Thread) (l : t < length x.threads) (here : (there x t).at ≡ th.at) where
    abbrev from : PlainOf Point
    from = record { table = given_table; points = points x; state = x.state }

    abbrev op : SyncOp
    op = th.next.sync

    abbrev issued_table : Table
    issued_table =
        record {
          limit = limits.subthreads;
          barriers = map (λ h. h.1) (barriers_of program.heads);
          seats =
              seats_after op (map unpassed (with_seat (table x) t
              (λ s. record { next = None; last = Some x.issued; passed = false; stand = Away })).seats);
          owners = owners_after op t x.owners;
          token = Some t;
          issued = suc x.issued;
        }

    point-is : from_by (tree_machine program inputs limits) from op t ≡ settled_point op (x.state (RegistersOf t)) th.at
    point-is =
        settled-is program inputs limits op t x.state (point_by (tree_machine program inputs limits) from t)
        ∙ ap (settled_point op (x.state (RegistersOf t)))
        (read-or (λ (th : Thread). th.at) x.threads t (starting program inputs limits 0 t []) ∙ here)

    seats-is : (next : Next) (p : Point)
        → (learning issued_table t next).seats
        ≡ map seat_for (with_forked program inputs limits op (with_nth (map unpassed_thread x.threads) t
        (λ _. record { next = next; last = Some x.issued; passed = false; stand = Away; at = p })))
    seats-is next p =
        let a = length-nth (map unpassed_thread x.threads) t
        (λ _. record { next = next; last = Some x.issued; passed = false; stand = Away; at = p }) in
        let b = length-map x.threads unpassed_thread in
        let c = length-map x.threads seat_for in
        let d = length-nth (map seat_for x.threads) t (λ s. record { next = None; last = Some x.issued; passed = false; stand = Away }) in
        let e = length-map (with_nth (map seat_for x.threads) t
        (λ s. record { next = None; last = Some x.issued; passed = false; stand = Away })) unpassed in
        forked-seats op _ t (λ s. record s { next = Some next }) _ (omega arith) (begun-seats x.threads t (Some x.issued) next p) (omega arith)

    points-is : (next : Next) (p : Point)
        → slice_set (points_with (tree_machine program inputs limits) op (length (points x)) (points x)) t p
        ≡ map (λ (th : Thread). th.at) (with_forked program inputs limits op (with_nth (map unpassed_thread x.threads) t
        (λ _. record { next = next; last = Some x.issued; passed = false; stand = Away; at = p })))
    points-is next p =
        let a = length-nth (map unpassed_thread x.threads) t
        (λ _. record { next = next; last = Some x.issued; passed = false; stand = Away; at = p }) in
        let b = length-map x.threads unpassed_thread in
        let c = length-map x.threads (λ (th : Thread). th.at) in
        forked-points op _ t p (points x) (omega arith) (begun-points x.threads t (Some x.issued) next p) (omega arith)

    abbrev perform : Option ℕ → Point → Move Plain Subthread End
    perform child p =
        let b = tree_body (setting_of program inputs) limits.turns (beginning op child p) in
        let actions = first_actions (setting_of program inputs) op p ++ b.actions in
        let e = effect t op child actions x.state in
        Goes
        (record {
          thread = t;
          begins = th.next;
          child = child;
          held = owned_from 0 issued_table.owners t;
          actions = actions;
          lines = e.prints;
        })
        (record {
          table = learning issued_table t b.next;
          points = slice_set (points_with (tree_machine program inputs limits) op (length (points x)) (points x)) t b.at;
          state = after e x.state;
        })

    abbrev child : Option ℕ
    child = child_of op (length x.threads)

    abbrev settled : Point
    settled = settled_point op (x.state (RegistersOf t)) th.at

    abbrev reached : Point
    reached = beginning op child settled

    performed-is : performed_by (tree_machine program inputs limits) t th.next (child_of op (length (map seat_for x.threads))) issued_table from
        ≡ move_for program limits (begun_by program inputs limits x t th)
    performed-is =
        (λ i. perform (child_of op (length-map x.threads seat_for i)) (point-is i))
        ∙ (λ i.
        let b = tree_body (setting_of program inputs) limits.turns reached in
        let actions = first_actions (setting_of program inputs) op settled ++ b.actions in
        let e = effect t op child actions x.state in
        Goes
        (record {
          thread = t;
          begins = th.next;
          child = child;
          held = owned_from 0 issued_table.owners t;
          actions = actions;
          lines = e.prints;
        })
        (record {
          table = record {
            limit = limits.subthreads;
            barriers = map (λ h. h.1) (barriers_of program.heads);
            seats = seats-is b.next b.at i;
            owners = owners_after op t x.owners;
            token = Some t;
            issued = suc x.issued;
          };
          points = points-is b.next b.at i;
          state = after e x.state;
        }))

    begun-inside : Stays (begun_by program inputs limits x t th)
    begun-inside u e =
        let b = tree_body (setting_of program inputs) limits.turns reached in
        let same : t ≡ u = cc e in
        let a = length-nth (map unpassed_thread x.threads) t
        (λ _. record { next = b.next; last = Some x.issued; passed = false; stand = Away; at = b.at }) in
        let c = length-map x.threads unpassed_thread in
        let d = forked-longer op (with_nth (map unpassed_thread x.threads) t
        (λ _. record { next = b.next; last = Some x.issued; passed = false; stand = Away; at = b.at })) in
        omega arith

  -- ---- turns

  module _ (given_table : Table) where
    -- both turns pass, and leave the points and the data; or both make the same move
    abbrev AlikeTurn : List Point → State → Again Table Turn → Answer → Type 0
    AlikeTurn ps state (More later) (More y) = (later ≡ table y) × (points y ≡ ps) × (y.state ≡ state) × IsInside y
    AlikeTurn ps state (Done answer) (Done m) =
        (on_turn_by (tree_machine program inputs limits) (record { table = given_table; points = ps; state = state }) answer
        ≡ move_for program limits m)
        × Stays m
    AlikeTurn ps state _ _ = ⊥

    issue-alike : (x : Run) (t : ℕ) (th : Thread) → t < length x.threads → (there x t).at ≡ th.at
        → AlikeTurn (points x) x.state (issuing (table x) t th.next) (goes_on program inputs limits x t th)
    issue-alike x t th l here = go (nat_lt x.issued limits.subthreads)
      where
        go : (b : Bool)
            → AlikeTurn (points x) x.state
            (cond b
            (Done (Issue t th.next (child_of th.next.sync (length (map seat_for x.threads))) (issued_table given_table x t th l here)))
            (Done (Ended (Spent limits.subthreads))))
            (Done (cond b (begun_by program inputs limits x t th) (Ends (Spent limits.subthreads))))
        go true = (performed-is given_table x t th l here, begun-inside given_table x t th l here)
        go false = (refl, tt)

    pass-alike : (x : Run) (t : ℕ) → t < length x.threads → AlikeTurn (points x) x.state (passing (table x) t) (passes_on x t)
    pass-alike x t l = (
      (λ i. record {
        limit = limits.subthreads;
        barriers = map (λ h. h.1) (barriers_of program.heads);
        seats = with_nth-map seat_for (λ s. record s { passed = true }) (λ th. record th { passed = true }) (λ th. refl) x.threads t i;
        owners = x.owners;
        token = Some t;
        issued = x.issued;
      }),
      nth-kept (λ (th : Thread). th.at) (λ th. record th { passed = true }) (λ th. refl) x.threads t,
      refl,
      (λ u e. (let same : t ≡ u = cc e in
          let n = length-nth x.threads t (λ (th : Thread). record th { passed = true }) in
          omega arith)),
    )

    -- ---- barriers

    met-is : (z : Run) (b : ℕ) → met (table z) b ≡ table (all_met program inputs limits z b)
    met-is z b =
        (λ i. cond (nat_le (unwrap_or (slice_get (map (λ h. h.1) (barriers_of program.heads)) b) 0)
        (count-map seat_for (waits_at b) (is_held_at b) (waits-is b) z.threads i))
        (record (table z) { seats = map (released_at b) (map seat_for z.threads) })
        (table z))
        ∙ go (nat_le (unwrap_or (slice_get (map (λ h. h.1) (barriers_of program.heads)) b) 0) (count_by (is_held_at b) z.threads))
      where
        go : (c : Bool)
            → cond c (record (table z) { seats = map (released_at b) (map seat_for z.threads) }) (table z)
            ≡ table (cond c (record z { threads = map (let_go b) z.threads }) z)
        go true = λ i. record (table z) { seats = map-map seat_for (released_at b) (let_go b) (released-is b) z.threads i }
        go false = refl

    -- what stays of a run
    record SameRest (x z : Run) : Type 0 where
      same_points : points z ≡ points x
      same_state : z.state ≡ x.state
      same_length : length z.threads ≡ length x.threads

    all_met-rest : (x z : Run) (b : ℕ) → SameRest x z → SameRest x (all_met program inputs limits z b)
    all_met-rest x z b rest =
        go (nat_le (unwrap_or (slice_get (map (λ h. h.1) (barriers_of program.heads)) b) 0) (count_by (is_held_at b) z.threads))
      where
        go : (c : Bool) → SameRest x (cond c (record z { threads = map (let_go b) z.threads }) z)
        go true = record {
          same_points = map-kept (λ (th : Thread). th.at) (let_go b) (let_go-at b) z.threads ∙ rest.same_points;
          same_state = rest.same_state;
          same_length = length-map z.threads (let_go b) ∙ rest.same_length;
        }
        go false = rest

    abbrev arrives : Run → ℕ → Run
    arrives x t = with_thread (record x { threads = map unpassed_thread x.threads }) t (λ th. record th { stand = Waits })

    arrives-is : (x : Run) (t : ℕ) → arrived (table x) t ≡ table (arrives x t)
    arrives-is x t =
        λ i. record (table x) {
          seats =
              (ap (λ seats. with_nth seats t (λ s. record s { stand = Waits }))
              (map-map seat_for unpassed unpassed_thread (λ th. refl) x.threads)
              ∙ with_nth-map seat_for (λ s. record s { stand = Waits }) (λ th. record th { stand = Waits }) (λ th. refl)
              (map unpassed_thread x.threads) t) i;
        }

    arrives-rest : (x : Run) (t : ℕ) → SameRest x (arrives x t)
    arrives-rest x t =
        record {
          same_points =
              nth-kept (λ (th : Thread). th.at) (λ th. record th { stand = Waits }) (λ th. refl) (map unpassed_thread x.threads) t
              ∙ map-kept (λ (th : Thread). th.at) unpassed_thread (λ th. refl) x.threads;
          same_state = refl;
          same_length =
              length-nth (map unpassed_thread x.threads) t (λ (th : Thread). record th { stand = Waits })
              ∙ length-map x.threads unpassed_thread;
        }

    own-rest : (x : Run) → SameRest x x
    own-rest x = record { same_points = refl; same_state = refl; same_length = refl }

    come-is : (stand : Stand) (x : Run) (t b : ℕ) → come_to stand (table x) t b ≡ table (comes_to program inputs limits stand x t b)
    come-is Away x t b = ap (λ later. met later b) (arrives-is x t) ∙ met-is (arrives x t) b
    come-is Waits x t b = refl
    come-is Released x t b = refl

    come-rest : (stand : Stand) (x : Run) (t b : ℕ) → SameRest x (comes_to program inputs limits stand x t b)
    come-rest Away x t b = all_met-rest x (arrives x t) b (arrives-rest x t)
    come-rest Waits x t b = own-rest x
    come-rest Released x t b = own-rest x

    stand-is : (z : Run) (t : ℕ) → stand_of (table z) t ≡ (there z t).stand
    stand-is z t =
        ap (λ o. unwrap_or (option_map (λ s. s.stand) o) Away) (slice_get-map seat_for z.threads t) ∙ go (slice_get z.threads t)
      where
        go : (o : Option Thread) → unwrap_or (option_map (λ s. s.stand) (option_map seat_for o)) Away
            ≡ (unwrap_or o (starting program inputs limits 0 t [])).stand
        go None = refl
        go (Some th) = refl

    same-there : (x z : Run) (t : ℕ) → points z ≡ points x → (there z t).at ≡ (there x t).at
    same-there x z t same =
        sym (read-or (λ (th : Thread). th.at) z.threads t (starting program inputs limits 0 t []))
        ∙ (ap (λ ps. unwrap_or (slice_get ps t) (starting program inputs limits 0 t []).at) same
        ∙ read-or (λ (th : Thread). th.at) x.threads t (starting program inputs limits 0 t []))

    -- from the points and data of a run that differs in its threads' standing
    moved : (x z : Run) → SameRest x z → (a : Again Table Turn) (b : Answer) → AlikeTurn (points z) z.state a b
        → AlikeTurn (points x) x.state a b
    moved x z rest a b alike =
        subst (λ state. AlikeTurn (points x) state a b) rest.same_state
        (subst (λ ps. AlikeTurn ps z.state a b) rest.same_points alike)

    stands-alike : (stand : Stand) (x z : Run) (t : ℕ) → SameRest x z → t < length x.threads
        → AlikeTurn (points x) x.state (at_barrier stand (table z) t (there x t).next)
        (stands_at program inputs limits stand z t (there x t))
    stands-alike Released x z t rest l =
        moved x z rest (issuing (table z) t (there x t).next) (goes_on program inputs limits z t (there x t))
        (issue-alike z t (there x t) (let same = rest.same_length in omega arith) (same-there x z t rest.same_points))
    stands-alike Away x z t rest l =
        moved x z rest (passing (table z) t) (passes_on z t) (pass-alike z t (let same = rest.same_length in omega arith))
    stands-alike Waits x z t rest l =
        moved x z rest (passing (table z) t) (passes_on z t) (pass-alike z t (let same = rest.same_length in omega arith))

    -- ---- the rules

    next-in : (threads : List Thread) (h : ℕ) (d : Thread) → h < length threads
        → option_and_then (λ s. s.next) (slice_get (map seat_for threads) h) ≡ Some (unwrap_or (slice_get threads h) d).next
    next-in [] h d l = absurd (omega arith)
    next-in (th ∷ threads) zero d l = refl
    next-in (th ∷ threads) (suc h) d l = next-in threads h d (omega arith)

    next-is : (x : Run) (h : ℕ) → h < length x.threads → next_of (table x) h ≡ Some (there x h).next
    next-is x h l = next-in x.threads h (starting program inputs limits 0 h []) l

    last-is : (x : Run) (t : ℕ) → last_of (table x) t ≡ unwrap_or (there x t).last 0
    last-is x t =
        ap (λ o. unwrap_or (option_and_then (λ s. s.last) o) 0) (slice_get-map seat_for x.threads t) ∙ go (slice_get x.threads t)
      where
        go : (o : Option Thread) → unwrap_or (option_and_then (λ s. s.last) (option_map seat_for o)) 0
            ≡ unwrap_or (unwrap_or o (starting program inputs limits 0 t [])).last 0
        go None = refl
        go (Some th) = refl

    passed-is : (x : Run) (t : ℕ) → has_passed (table x) t ≡ (there x t).passed
    passed-is x t =
        ap (λ o. unwrap_or (option_map (λ s. s.passed) o) false) (slice_get-map seat_for x.threads t) ∙ go (slice_get x.threads t)
      where
        go : (o : Option Thread) → unwrap_or (option_map (λ s. s.passed) (option_map seat_for o)) false
            ≡ (unwrap_or o (starting program inputs limits 0 t [])).passed
        go None = refl
        go (Some th) = refl

    tries-alike : (op : SyncOp) (x : Run) (t : ℕ) → t < length x.threads
        → AlikeTurn (points x) x.state (tried op (table x) t (there x t).next) (tries_by program inputs limits op x t (there x t))
    tries-alike sync.Start x t l = issue-alike x t (there x t) l refl
    tries-alike (sync.Unlock k) x t l = issue-alike x t (there x t) l refl
    tries-alike (sync.Settle register control) x t l = issue-alike x t (there x t) l refl
    tries-alike sync.End x t l = issue-alike x t (there x t) l refl
    tries-alike sync.BadIndex x t l = (refl, tt)
    tries-alike sync.Spent x t l = (ap (λ n. Ends (Spent n)) (last-is x t), tt)
    tries-alike (sync.Lock k) x t l = go (unwrap_or (slice_get x.owners k) None)
      where
        go : (o : Option ℕ)
            → AlikeTurn (points x) x.state (cond (is_none o) (issuing (table x) t (there x t).next) (passing (table x) t))
            (cond (is_none o) (goes_on program inputs limits x t (there x t)) (passes_on x t))
        go None = issue-alike x t (there x t) l refl
        go (Some owner) = pass-alike x t l
    tries-alike (sync.Fork task arguments) x t l =
        subst
        (λ n. AlikeTurn (points x) x.state
        (cond (nat_lt n MOST_THREADS) (issuing (table x) t (there x t).next) (stuck why.Threads t (there x t).next))
        (cond (nat_lt (length x.threads) MOST_THREADS) (goes_on program inputs limits x t (there x t)) (stuck_at why.Threads t (there x t))))
        (sym (length-map x.threads seat_for)) (go (nat_lt (length x.threads) MOST_THREADS))
      where
        go : (b : Bool)
            → AlikeTurn (points x) x.state
            (cond b (issuing (table x) t (there x t).next) (stuck why.Threads t (there x t).next))
            (cond b (goes_on program inputs limits x t (there x t)) (stuck_at why.Threads t (there x t)))
        go true = issue-alike x t (there x t) l refl
        go false = (refl, tt)
    tries-alike (sync.Join (negsuc h)) x t l = (refl, tt)
    tries-alike (sync.Join (pos h)) x t l =
        subst
        (λ n. AlikeTurn (points x) x.state
        (cond (nat_lt h n) (at_join h (next_of (table x) h) (table x) t (there x t).next) (stuck why.Join t (there x t).next))
        (cond (nat_lt h (length x.threads))
        (cond (has_finished program inputs limits x h) (goes_on program inputs limits x t (there x t)) (passes_on x t))
        (stuck_at why.Join t (there x t))))
        (sym (length-map x.threads seat_for)) (go (nat_lt h (length x.threads)) refl)
      where
        joins : (b : Bool)
            → AlikeTurn (points x) x.state
            (cond b (issuing (table x) t (there x t).next) (passing (table x) t))
            (cond b (goes_on program inputs limits x t (there x t)) (passes_on x t))
        joins true = issue-alike x t (there x t) l refl
        joins false = pass-alike x t l

        go : (b : Bool) → nat_lt h (length x.threads) ≡ b
            → AlikeTurn (points x) x.state
            (cond b (at_join h (next_of (table x) h) (table x) t (there x t).next) (stuck why.Join t (there x t).next))
            (cond b
            (cond (has_finished program inputs limits x h) (goes_on program inputs limits x t (there x t)) (passes_on x t))
            (stuck_at why.Join t (there x t)))
        go true e =
            subst
            (λ o. AlikeTurn (points x) x.state (at_join h o (table x) t (there x t).next)
            (cond (has_finished program inputs limits x h) (goes_on program inputs limits x t (there x t)) (passes_on x t)))
            (sym (next-is x h (ltb-true h (length x.threads) e)))
            (joins (has_finished program inputs limits x h))
        go false e = (refl, tt)
    tries-alike (sync.Barrier b) x t l =
        subst
        (λ stand. AlikeTurn (points x) x.state
        (at_barrier (stand_of (come_to stand (table x) t b) t) (come_to stand (table x) t b) t (there x t).next)
        (tries_by program inputs limits (sync.Barrier b) x t (there x t)))
        (sym (stand-is x t))
        (subst
        (λ later. AlikeTurn (points x) x.state (at_barrier (stand_of later t) later t (there x t).next)
        (tries_by program inputs limits (sync.Barrier b) x t (there x t)))
        (sym (come-is (there x t).stand x t b))
        (subst
        (λ stand. AlikeTurn (points x) x.state (at_barrier stand (table z) t (there x t).next)
        (tries_by program inputs limits (sync.Barrier b) x t (there x t)))
        (sym (stand-is z t))
        (stands-alike (there z t).stand x z t (come-rest (there x t).stand x t b) l)))
      where
        z : Run
        z = comes_to program inputs limits (there x t).stand x t b

    -- ---- looks

    -- each of these threads is there
    abbrev Within : ℕ → List ℕ → Type 0
    Within n [] = ⊤
    Within n (t ∷ ts) = (t < n) × Within n ts

    numbers-within : (a k n : ℕ) → a + k ≤ n → Within n (numbers a k)
    numbers-within a zero n l = tt
    numbers-within a (suc k) n l = (omega arith, numbers-within (suc a) k n (omega arith))

    append-within : (n : ℕ) (xs ys : List ℕ) → Within n xs → Within n ys → Within n (xs ++ ys)
    append-within n [] ys first second = second
    append-within n (x ∷ xs) ys first second = (first.0, append-within n xs ys first.1 second)

    ring-within : (token : Option ℕ) (n : ℕ) → ((t : ℕ) → token ≡ Some t → t < n) → Within n (ring token n)
    ring-within None n inside = numbers-within 0 n n (omega arith)
    ring-within (Some t) n inside =
        let l = inside t refl in
        append-within n (numbers (suc t) (n - suc t)) (numbers 0 (suc t)) (numbers-within (suc t) (n - suc t) n (omega arith))
        (numbers-within 0 (suc t) n (omega arith))

    abbrev looks : Run → Option ℕ → Look
    looks x None = NoThread
    looks x (Some t) = To t (there x t).next

    look-is : (x : Run) (ts : List ℕ) → Within (length x.threads) ts → look (table x) ts ≡ looks x (first_up program inputs limits x ts)
    look-is x [] within = refl
    look-is x (t ∷ ts) within =
        (λ i. look_at t (next-is x t within.0 i) (look-is x ts within.1 i)) ∙ go (has_finished program inputs limits x t)
      where
        go : (b : Bool)
            → cond b (looks x (first_up program inputs limits x ts)) (To t (there x t).next)
            ≡ looks x (cond b (first_up program inputs limits x ts) (Some t))
        go true = refl
        go false = refl

    up-within : (x : Run) (ts : List ℕ) (u : ℕ) → Within (length x.threads) ts → first_up program inputs limits x ts ≡ Some u
        → u < length x.threads
    up-within x [] u within e = absurd (cc e)
    up-within x (t ∷ ts) u within e = go (has_finished program inputs limits x t) e (up-within x ts u within.1)
      where
        go : (b : Bool) → cond b (first_up program inputs limits x ts) (Some t) ≡ Some u
            → (first_up program inputs limits x ts ≡ Some u → u < length x.threads) → u < length x.threads
        go true f again = again f
        go false f again = let same : t ≡ u = cc f in let l = within.0 in omega arith

    -- ---- a turn

    dead-alike : (x : Run) (o : Option ℕ) → AlikeTurn (points x) x.state (deadlocked (looks x o)) (dead_at program inputs limits x o)
    dead-alike x None = (refl, tt)
    dead-alike x (Some u) = (refl, tt)

    turn_of-alike : (x : Run) (o : Option ℕ) → ((t : ℕ) → o ≡ Some t → t < length x.threads)
        → AlikeTurn (points x) x.state (at_look (looks x o) (table x)) (turn_of program inputs limits x o)
    turn_of-alike x None inside = (refl, tt)
    turn_of-alike x (Some t) inside =
        subst
        (λ b. AlikeTurn (points x) x.state
        (cond b (deadlocked (look (table x) (numbers 0 (length (map seat_for x.threads)))))
        (tried (there x t).next.sync (table x) t (there x t).next))
        (turn_of program inputs limits x (Some t)))
        (sym (passed-is x t))
        (go (there x t).passed)
      where
        all : look (table x) (numbers 0 (length (map seat_for x.threads)))
            ≡ looks x (first_up program inputs limits x (numbers 0 (length x.threads)))
        all =
            ap (λ n. look (table x) (numbers 0 n)) (length-map x.threads seat_for)
            ∙ look-is x (numbers 0 (length x.threads)) (numbers-within 0 (length x.threads) (length x.threads) (omega arith))

        go : (b : Bool)
            → AlikeTurn (points x) x.state
            (cond b (deadlocked (look (table x) (numbers 0 (length (map seat_for x.threads)))))
            (tried (there x t).next.sync (table x) t (there x t).next))
            (cond b (dead_at program inputs limits x (first_up program inputs limits x (numbers 0 (length x.threads))))
            (tries_by program inputs limits (there x t).next.sync x t (there x t)))
        go true =
            subst
            (λ l. AlikeTurn (points x) x.state (deadlocked l)
            (dead_at program inputs limits x (first_up program inputs limits x (numbers 0 (length x.threads)))))
            (sym all) (dead-alike x (first_up program inputs limits x (numbers 0 (length x.threads))))
        go false = tries-alike (there x t).next.sync x t (inside t refl)

    turn-alike : (x : Run) → IsInside x → AlikeTurn (points x) x.state (turn (table x)) (one_turn program inputs limits x)
    turn-alike x inside =
        subst (λ l. AlikeTurn (points x) x.state (at_look l (table x)) (one_turn program inputs limits x))
        (sym (ap (λ n. look (table x) (ring x.token n)) (length-map x.threads seat_for) ∙ look-is x (ring x.token (length x.threads)) within))
        (turn_of-alike x (first_up program inputs limits x (ring x.token (length x.threads)))
        (λ t e. up-within x (ring x.token (length x.threads)) t within e))
      where
        within : Within (length x.threads) (ring x.token (length x.threads))
        within = ring-within x.token (length x.threads) inside

    -- ---- turns

    abbrev SameMove : List Point → State → Turn → Move Run Subthread End → Type 0
    SameMove ps state answer m =
        (on_turn_by (tree_machine program inputs limits) (record { table = given_table; points = ps; state = state }) answer
        ≡ move_for program limits m)
        × Stays m

    repeated-alike : (n : ℕ) (x : Run) → IsInside x
        → SameMove (points x) x.state (repeated turn turns_left (Ended Finished) n (table x))
        (repeated (one_turn program inputs limits) (left_turns program inputs limits) (Ends Finished) n x)
    unfolding repeated
    repeated-alike zero x inside = (refl, tt)
    repeated-alike (suc n) x inside = go (turn (table x)) (one_turn program inputs limits x) (turn-alike x inside) (λ y. repeated-alike n y)
      where
        go : (a : Again Table Turn) (b : Answer) → AlikeTurn (points x) x.state a b
            → ((y : Run) → IsInside y
            → SameMove (points y) y.state (repeated turn turns_left (Ended Finished) n (table y))
            (repeated (one_turn program inputs limits) (left_turns program inputs limits) (Ends Finished) n y))
            → SameMove (points x) x.state (go_on turn turns_left (Ended Finished) (repeated turn turns_left (Ended Finished) n) a)
            (go_on (one_turn program inputs limits) (left_turns program inputs limits) (Ends Finished)
            (repeated (one_turn program inputs limits) (left_turns program inputs limits) (Ends Finished) n) b)
        go (More later) (More y) alike again =
            subst (λ l. SameMove (points x) x.state (repeated turn turns_left (Ended Finished) n l)
            (repeated (one_turn program inputs limits) (left_turns program inputs limits) (Ends Finished) n y)) (sym alike.0)
            (subst (λ state. SameMove (points x) state (repeated turn turns_left (Ended Finished) n (table y))
            (repeated (one_turn program inputs limits) (left_turns program inputs limits) (Ends Finished) n y)) alike.2
            (subst (λ ps. SameMove ps y.state (repeated turn turns_left (Ended Finished) n (table y))
            (repeated (one_turn program inputs limits) (left_turns program inputs limits) (Ends Finished) n y)) alike.1
            (again y alike.3)))
        go (Done answer) (Done m) alike again = alike
        go (More later) (Done m) alike again = absurd alike
        go (Done answer) (More y) alike again = absurd alike

  left-is : (x : Run) → turns_left (table x) ≡ left_turns program inputs limits x
  left-is x =
      (λ i. suc (length-map x.threads seat_for i) * count-map seat_for (λ s. is_away s.stand) (λ th. is_away th.stand) (λ th. refl) x.threads i
      + count-map seat_for (λ s. not s.passed) (λ th. not th.passed) (λ th. refl) x.threads i)

  move-alike : (x : Run) → IsInside x → SameMove (table x) (points x) x.state (next_issue (table x)) (plain_move program inputs limits x)
  unfolding until_done
  move-alike x inside =
      subst
      (λ n. SameMove (table x) (points x) x.state (repeated turn turns_left (Ended Finished) (suc n) (table x))
      (plain_move program inputs limits x))
      (sym (left-is x)) (repeated-alike (table x) (suc (left_turns program inputs limits x)) x inside)

  pub move-is : (x : Run) → IsInside x
      → move program inputs limits (plain_for program limits x) ≡ move_for program limits (plain_move program inputs limits x)
  move-is x inside = (move-alike x inside).0

  -- ---- the run

  pub opening-inside : IsInside (plain_opening program inputs limits)
  opening-inside t e = absurd (cc e)

  pub after-is : (n : ℕ) (x : Run) → IsInside x
      → (plain_for program limits (state_after (plain_move program inputs limits) n x)
      ≡ state_after (move program inputs limits) n (plain_for program limits x))
      × IsInside (state_after (plain_move program inputs limits) n x)
  unfolding state_after
  after-is zero x inside = (refl, inside)
  after-is (suc n) x inside = go (plain_move program inputs limits x) (move-alike x inside) (λ y. after-is n y)
    where
      go : (m : Move Run Subthread End) → SameMove (table x) (points x) x.state (next_issue (table x)) m
          → ((y : Run) → IsInside y
          → (plain_for program limits (state_after (plain_move program inputs limits) n y)
          ≡ state_after (move program inputs limits) n (plain_for program limits y))
          × IsInside (state_after (plain_move program inputs limits) n y))
          → (plain_for program limits (state_from (plain_move program inputs limits) x m (state_after (plain_move program inputs limits) n))
          ≡ state_from (move program inputs limits) (plain_for program limits x) (move program inputs limits (plain_for program limits x))
          (state_after (move program inputs limits) n))
          × IsInside (state_from (plain_move program inputs limits) x m (state_after (plain_move program inputs limits) n))
      go (Goes s y) same again =
          let rest = again y same.1 in (
            rest.0
                ∙ ap (λ m. state_from (move program inputs limits) (plain_for program limits x) m (state_after (move program inputs limits) n))
                (sym same.0),
            rest.1,
          )
      go (Ends e) same again = (
        ap (λ m. state_from (move program inputs limits) (plain_for program limits x) m (state_after (move program inputs limits) n))
            (sym same.0),
        inside,
      )

  pub steps-are : (n : ℕ) (x : Run) → IsInside x
      → steps (plain_move program inputs limits) n x ≡ steps (move program inputs limits) n (plain_for program limits x)
  unfolding steps
  steps-are zero x inside = refl
  steps-are (suc n) x inside = go (plain_move program inputs limits x) (move-alike x inside) (λ y. steps-are n y)
    where
      go : (m : Move Run Subthread End) → SameMove (table x) (points x) x.state (next_issue (table x)) m
          → ((y : Run) → IsInside y
          → steps (plain_move program inputs limits) n y ≡ steps (move program inputs limits) n (plain_for program limits y))
          → steps_from (plain_move program inputs limits) m (steps (plain_move program inputs limits) n)
          ≡ steps_from (move program inputs limits) (move program inputs limits (plain_for program limits x))
          (steps (move program inputs limits) n)
      go (Goes s y) same again =
          ap (λ rest. s ∷ rest) (again y same.1)
          ∙ ap (λ m. steps_from (move program inputs limits) m (steps (move program inputs limits) n)) (sym same.0)
      go (Ends e) same again = ap (λ m. steps_from (move program inputs limits) m (steps (move program inputs limits) n)) (sym same.0)

  pub order-is : plain_order program inputs limits ≡ order program inputs limits
  order-is = steps-are (suc limits.subthreads) (plain_opening program inputs limits) opening-inside

  pub before-is : (p : ℕ) → plain_for program limits (plain_before program inputs limits p) ≡ before program inputs limits p
  before-is p = (after-is p (plain_opening program inputs limits) opening-inside).0

  end-for : (m : Move Run Subthread End) → ending_of m ≡ ending_of (move_for program limits m)
  end-for (Goes s y) = refl
  end-for (Ends e) = refl

  pub ending-is : (x : Run) → IsInside x
      → ending_of (plain_move program inputs limits x) ≡ ending_of (move program inputs limits (plain_for program limits x))
  ending-is x inside = end-for (plain_move program inputs limits x) ∙ ap ending_of (sym (move-is x inside))

  pub end-is : plain_end program inputs limits ≡ end program inputs limits
  end-is =
      let last = after-is (suc limits.subthreads) (plain_opening program inputs limits) opening-inside in
      ending-is (plain_before program inputs limits (suc limits.subthreads)) last.1
      ∙ ap (λ x. ending_of (move program inputs limits x)) last.0

pub run-move : RunMoveLaw
run-move program inputs limits x inside = move-is program inputs limits x inside

pub run-end : RunEndLaw
run-end program inputs limits = (
  end-is program inputs limits,
  ap (λ (x : Plain). map (cell_value x.state) (numbers 0 (cells_in (records_of program.heads))))
      (before-is program inputs limits (suc limits.subthreads)),
)

pub run-inside : RunInsideLaw
run-inside program inputs limits = (
  opening-inside program inputs limits,
  λ x y s inside is. subst (Stays program inputs limits) is (move-alike program inputs limits x inside).1,
)
