-- What a turn that issues, or ends, says of a run of which all is known, and of a run on code that is in step with it.
--
-- Passes lead on to the issue or the end that is to come (`found`), and no next synchronisation is needed (`none-needed`). A run on the
-- tree then moves on (`goes`, `ends`), and its tables stay such (`tables-after`). One on code that is in step with it stays so once its
-- thread stands where the body of the subthread leads, whatever the data (`leads-on`).
use Rattle.std.proofs.Common.{◌≡◌, inl, inr, ℕ, suc, ◌<◌, ◌≤◌, List, [], ◌∷◌, ◌++◌, length, Option, Some, None, unwrap_or, refl, sym, ap, ◌∙◌, subst, arith}
use Rattle.std.specs.Prelude.{slice_get, slice_set}
use Rattle.std.proofs.lemmas.Bool.{cases_lt, cases_eq}
use Rattle.gp_base.specs.declared.limits.Limits.{Limits}
use Rattle.gp_base.specs.declared.feed.Inputs.{Inputs}
use Rattle.gp_base.specs.declared.ending.End.{End}
use Rattle.gp_base.specs.declared.ending.End.TheVariants.{Finished}
use Rattle.task_ast.specs.declared.sync.SyncOp.{SyncOp}
use Rattle.task_ast.specs.declared.sync.SyncOp.TheVariants as sync
use Rattle.task_ast.specs.declared.sync.Next.{Next}
use Rattle.task_ast.specs.meaning.Tree.{Program}
use Rattle.task_ast.specs.meaning.Layout.{layout}
use Rattle.task_ast.specs.Reached.{Reached, by_pass}
use Rattle.task_ast.specs.meaning.Repeat.{Done, Move, Goes, Ends, go_on, state_after, state_from}
use Rattle.task_ast.specs.Shaped.{IsAccepted}
use Rattle.task_ast.specs.meaning.State.{State, RegistersOf, number_at}
use Rattle.task_ast.specs.Table.{Table, next_of, learning}
use Rattle.task_ast.specs.meaning.Turn.{child_of}
use Rattle.task_ast.specs.Turn.{Turn, Issue, Needs, Ended, turn, turns_left, next_issue}
use Rattle.task_ast.specs.Under.{KeepsToLocks}
use Rattle.task_ast.specs.laws.Ends.{IsWhole}
use Rattle.task_ast.specs.laws.Following.{Follows, InStep}
use Rattle.task_ast.specs.laws.Standing.{PassesTo, at_once, by_turn}
use Rattle.task_ast.specs.laws.Threads.{SameThreads, HasBegun, with_child}
use Rattle.task_ast.specs.meaning.Plain.{Subthread}
use Rattle.task_ast.specs.Plain.{PlainOf, Plain, Machine, tree_machine, points_with, point_by, settled_by, from_by, on_turn_by, move}
use Rattle.task_ast.proofs.IssuedTables.{get_last, length_push, get_set_here, get_set_other, length_set, points_get, learnt_here, learnt_other, learnt_length}
use Rattle.task_ast.proofs.LessTurns.{inside_of}
use Rattle.task_ast.proofs.PlainRuns.{tables_from}
use Rattle.task_ast.proofs.PlainSteps.{subthread_of, plain_of}
use Rattle.task_ast.proofs.SeatLimits.{needed_law}
use Rattle.task_ast.proofs.Standings.{passed_same, passed_issue}
use Rattle.task_ast.proofs.TurnLaws.{issue_law}
use Rattle.task_ast.proofs.Turns.{next_issue_step}
use Rattle.lock_checker.specs.Soundness.{LocksStand}
use Rattle.lock_checker.proofs.LocksHeld.{move_keeps}

-- ---- turns

-- what a turn does after passes is what comes next
pub found : {start table : Table} {what : Turn} → PassesTo start table → turn table ≡ Done what → next_issue start ≡ what
found {table = table} passed e = passed_issue passed ∙ (next_issue_step table ∙ ap (go_on turn turns_left (Ended Finished) next_issue) e)

-- passes lead to tables that turns lead to
passed-reached : {start table : Table} → Reached start → PassesTo start table → Reached table
passed-reached reached at_once = reached
passed-reached reached (by_turn passed e) = by_pass (passed-reached reached passed) e

some-same : {X : Type 0} {a b : X} → Some a ≡ Some b → a ≡ b
some-same {a = a} e = ap (λ o. unwrap_or o a) e

none-some : {X : Type 0} {x : X} → None ≡ Some x → ⊥
none-some e = cc e

-- where all is known, nothing is needed
pub none-needed : {start table : Table} → Reached start → IsWhole start → PassesTo start table → (t : ℕ) → turn table ≡ Done (Needs t) → ⊥
none-needed {table = table} reached whole passed t e =
    let needed = needed_law table (passed-reached reached passed) t e in
    let same = passed_same passed in
    let known = whole.known t (let l = needed.0 in let n = same.threads in omega arith) in
    none-some (sym needed.1 ∙ (same.next t ∙ known.1))

-- what an issue after passes says of the table before them
pub record Issues (start : Table) (t : ℕ) (begins : Next) (child : Option ℕ) (there : Table) : Type 0 where
  pub next : next_issue start ≡ Issue t begins child there
  pub table : Table
  pub same : SameThreads start table
  pub begun : HasBegun table t begins child there

pub issues : {start table : Table} {t : ℕ} {begins : Next} {child : Option ℕ} {there : Table} → PassesTo start table
    → turn table ≡ Done (Issue t begins child there) → Issues start t begins child there
issues {table = table} {t = t} {begins = begins} {child = child} {there = there} passed e =
    record { next = found passed e; table = table; same = passed_same passed; begun = issue_law table t begins child there e }

-- ---- moves on the tree

state-next : {A S E : Type 0} (move : A → Move A S E) (a b : A) (s : S) → move a ≡ Goes s b → state_after move 1 a ≡ b
unfolding state_after
state-next move a b s e = ap (λ m. state_from move a m (λ c. c)) e

module _ (program : Program) (inputs : Inputs) (limits : Limits) (x : Plain) where
  -- the end
  pub ends : (ending : End) → next_issue x.table ≡ Ended ending → move program inputs limits x ≡ Ends ending
  ends ending e = ap (on_turn_by (tree_machine program inputs limits) x) e

  module _ (t : ℕ) (begins : Next) (child : Option ℕ) (there : Table) (issued : Issues x.table t begins child there) where
    -- the subthread that begins, and the run after it
    abbrev pub subthread : Subthread
    subthread = subthread_of (tree_machine program inputs limits) t begins child there x

    abbrev pub later : Plain
    later = plain_of (tree_machine program inputs limits) t begins child there x

    pub goes : move program inputs limits x ≡ Goes subthread later
    goes = ap (on_turn_by (tree_machine program inputs limits) x) issued.next

    pub keeps-locks : IsAccepted program → LocksStand program inputs limits x
        → KeepsToLocks (layout program.heads).under subthread × LocksStand program inputs limits later
    keeps-locks accepted stands = move_keeps program inputs limits accepted x subthread later stands goes

    pub tables-after : Reached x.table → IsWhole x.table → Reached later.table × IsWhole later.table
    tables-after reached whole =
        subst (λ (y : Plain). Reached y.table × IsWhole y.table) (state-next (move program inputs limits) x later subthread goes)
        (tables_from (tree_machine program inputs limits) 1 x reached whole)

    pub same-limit : later.table.limit ≡ x.table.limit
    same-limit = issued.begun.limit ∙ issued.same.limit

    pub one-more : later.table.issued ≡ suc x.table.issued
    one-more = issued.begun.issued ∙ ap suc issued.same.issued

-- ---- moves on code

-- as many points as there were, and the child's
pub grown-count : {P : Type 0} (machine : Machine P) (op : SyncOp) (n k : ℕ) (points : List P) → length points ≡ k
    → length (points_with machine op n points) ≡ with_child (child_of op k) k
grown-count machine (sync.Fork task arguments) n k points e = length_push points _ ∙ ap suc e
grown-count machine _ n k points e = e

module _ {P Q : Type 0} (Rests : SyncOp → P → Q → Type 0) (m : Machine P) (n : Machine Q) (follows : Follows Rests m n) where
  -- a settle sets its variable to the same value in both
  pub settled-rests : (op : SyncOp) (t : ℕ) (left right : State) (p : P) (q : Q) → left ≡ right → Rests op p q
      → Rests op (settled_by m op t left p) (settled_by n op t right q)
  settled-rests (sync.Settle register control) t left right p q e rests =
      subst (λ (state : State). Rests (sync.Settle register control) (m.sets control (number_at (left (RegistersOf t)) register) p)
      (n.sets control (number_at (state (RegistersOf t)) register) q)) e
      (follows.sets register control (number_at (left (RegistersOf t)) register) p q rests)
  settled-rests sync.Start t left right p q e rests = rests
  settled-rests (sync.Lock c) t left right p q e rests = rests
  settled-rests (sync.Unlock c) t left right p q e rests = rests
  settled-rests (sync.Fork task arguments) t left right p q e rests = rests
  settled-rests (sync.Join h) t left right p q e rests = rests
  settled-rests (sync.Barrier b) t left right p q e rests = rests
  settled-rests sync.End t left right p q e rests = rests
  settled-rests sync.BadIndex t left right p q e rests = rests
  settled-rests sync.Spent t left right p q e rests = rests

  -- a new thread starts at rest
  pub new-rests : (op : SyncOp) (ps : List P) (qs : List Q) (k u : ℕ) (p : P) (q : Q) → length ps ≡ k → length qs ≡ k → k ≤ u
      → u < with_child (child_of op k) k
      → Rests sync.Start (unwrap_or (slice_get (points_with m op (length ps) ps) u) p)
      (unwrap_or (slice_get (points_with n op (length qs) qs) u) q)
  new-rests (sync.Fork task arguments) ps qs k u p q e f l less =
      let mine : u ≡ length ps = omega arith in
      let theirs : u ≡ length qs = omega arith in
      subst (λ r. Rests sync.Start r (unwrap_or (slice_get (points_with n (sync.Fork task arguments) (length qs) qs) u) q))
      (sym (ap (λ o. unwrap_or o p) (ap (slice_get (ps ++ m.starts task (length ps) arguments ∷ [])) mine ∙ get_last ps _)))
      (subst (λ r. Rests sync.Start (m.starts task (length ps) arguments) r)
      (sym (ap (λ o. unwrap_or o q) (ap (slice_get (qs ++ n.starts task (length qs) arguments ∷ [])) theirs ∙ get_last qs _)))
      (subst (λ c. Rests sync.Start (m.starts task (length ps) arguments) (n.starts task c arguments)) (e ∙ sym f)
      (follows.starts task (length ps) arguments)))
  new-rests _ ps qs k u p q e f l less = absurd (omega arith)

  module _ (x : PlainOf P) (y : PlainOf Q) (both : InStep Rests (λ left right. left ≡ right) m n x y) (t : ℕ) (begins : Next)
      (child : Option ℕ) (there : Table) (issued : Issues x.table t begins child there) where
    -- the thread that begins rests alike in both
    pub begins-rest : Rests begins.sync (from_by m x begins.sync t) (from_by n y begins.sync t)
    begins-rest =
        settled-rests begins.sync t x.state y.state (point_by m x t) (point_by n y t) both.states
        (both.rests t begins (sym (issued.same.next t) ∙ issued.begun.known))

    -- the thread is there, and there is a point for each thread
    t-before : t < length x.table.seats
    t-before = let l = issued.begun.inside in let e = issued.same.threads in omega arith

    pub threads-after : length there.seats ≡ with_child (child_of begins.sync (length x.table.seats)) (length x.table.seats)
    threads-after =
        issued.begun.threads
        ∙ (ap (λ child. with_child child (length issued.table.seats)) issued.begun.child_is
        ∙ ap (λ k. with_child (child_of begins.sync k) k) issued.same.threads)

    grows : (op : SyncOp) (k : ℕ) → k ≤ with_child (child_of op k) k
    grows (sync.Fork task arguments) k = omega arith
    grows _ k = omega arith

    pub t-after : t < length there.seats
    t-after = let l = t-before in let e = threads-after in let g = grows begins.sync (length x.table.seats) in omega arith

    others-count : length y.points ≡ length x.table.seats
    others-count = both.others ∙ ap (λ (table : Table). length table.seats) (sym both.table)

    pub points-count : length (points_with n begins.sync (length y.points) y.points) ≡ length there.seats
    points-count = grown-count n begins.sync (length y.points) (length x.table.seats) y.points others-count ∙ sym threads-after

    mine-count : length (points_with m begins.sync (length x.points) x.points) ≡ length there.seats
    mine-count = grown-count m begins.sync (length x.points) (length x.table.seats) x.points both.points ∙ sym threads-after

    -- Once the thread stands in both where it rests alike, with a next synchronisation, each thread does.
    module _ (next : Next) (point : P) (place : Q) (rested : Rests next.sync point place) (state : State) where
      abbrev left-run : PlainOf P
      left-run =
          record {
            table = learning there t next;
            points = slice_set (points_with m begins.sync (length x.points) x.points) t point;
            state = state;
          }

      abbrev right-run : PlainOf Q
      right-run =
          record {
            table = learning there t next;
            points = slice_set (points_with n begins.sync (length y.points) y.points) t place;
            state = state;
          }

      here-rests : (other : Next) → next_of (learning there t next) t ≡ Some other
          → Rests other.sync (point_by m left-run t) (point_by n right-run t)
      here-rests other e =
          subst (λ (other : Next). Rests other.sync (point_by m left-run t) (point_by n right-run t))
          (some-same (sym (learnt_here there t next t-after) ∙ e))
          (subst (λ p. Rests next.sync p (point_by n right-run t))
          (sym (ap (λ o. unwrap_or o (m.starts 0 t [])) (get_set_here (points_with m begins.sync (length x.points) x.points) t point
          (let l = t-after in let c = mine-count in omega arith))))
          (subst (λ q. Rests next.sync point q)
          (sym (ap (λ o. unwrap_or o (n.starts 0 t [])) (get_set_here (points_with n begins.sync (length y.points) y.points) t place
          (let l = t-after in let c = points-count in omega arith))))
          rested))

      left-other : (u : ℕ) → (u ≡ t → ⊥)
          → point_by m left-run u ≡ unwrap_or (slice_get (points_with m begins.sync (length x.points) x.points) u) (m.starts 0 u [])
      left-other u ne =
          ap (λ o. unwrap_or o (m.starts 0 u [])) (get_set_other (points_with m begins.sync (length x.points) x.points) t u point ne)

      right-other : (u : ℕ) → (u ≡ t → ⊥)
          → point_by n right-run u ≡ unwrap_or (slice_get (points_with n begins.sync (length y.points) y.points) u) (n.starts 0 u [])
      right-other u ne =
          ap (λ o. unwrap_or o (n.starts 0 u [])) (get_set_other (points_with n begins.sync (length y.points) y.points) t u place ne)

      old-rests : (u : ℕ) (other : Next) → (u ≡ t → ⊥) → u < length x.table.seats → next_of there u ≡ Some other
          → Rests other.sync (point_by m left-run u) (point_by n right-run u)
      old-rests u other ne l e =
          let same = (issued.begun.others u ne (let k = issued.same.threads in omega arith)).0 in
          subst (λ p. Rests other.sync p (point_by n right-run u))
          (sym (left-other u ne ∙ ap (λ o. unwrap_or o (m.starts 0 u [])) (points_get m begins.sync (length x.points) x.points u
          (let c = both.points in omega arith))))
          (subst (λ q. Rests other.sync (point_by m x u) q)
          (sym (right-other u ne ∙ ap (λ o. unwrap_or o (n.starts 0 u [])) (points_get n begins.sync (length y.points) y.points u
          (let c = others-count in omega arith))))
          (both.rests u other (sym (issued.same.next u) ∙ (sym same ∙ e))))

      started-rests : (u : ℕ) (other : Next) → (u ≡ t → ⊥) → length x.table.seats ≤ u → u < length there.seats
          → next_of there u ≡ Some other
          → Rests other.sync (point_by m left-run u) (point_by n right-run u)
      started-rests u other ne l less e =
          let new = issued.begun.further u (let k = issued.same.threads in omega arith) less in
          subst (λ (other : Next). Rests other.sync (point_by m left-run u) (point_by n right-run u)) (some-same (sym new.1 ∙ e))
          (subst (λ p. Rests sync.Start p (point_by n right-run u)) (sym (left-other u ne))
          (subst
          (λ q. Rests sync.Start (unwrap_or (slice_get (points_with m begins.sync (length x.points) x.points) u) (m.starts 0 u [])) q)
          (sym (right-other u ne))
          (new-rests begins.sync x.points y.points (length x.table.seats) u _ _ both.points others-count l
          (let k = threads-after in omega arith))))

      each-rests : (u : ℕ) (other : Next) → next_of (learning there t next) u ≡ Some other
          → Rests other.sync (point_by m left-run u) (point_by n right-run u)
      each-rests u other e = elim (cases_eq u t) [
        | inl here ↦
            subst (λ u. Rests other.sync (point_by m left-run u) (point_by n right-run u)) (sym here)
            (here-rests other (ap (next_of (learning there t next)) (sym here) ∙ e))
        | inr ne ↦
            (let known = sym (learnt_other there t u next ne) ∙ e in
            elim (cases_lt u (length x.table.seats)) [
              | inl l ↦ old-rests u other ne l known
              | inr l ↦ started-rests u other ne l (inside_of there.seats u other known) known
            ])
      ]

      pub leads-on : InStep Rests (λ left right. left ≡ right) m n left-run right-run
      leads-on =
          record {
            table = refl;
            states = refl;
            points = length_set (points_with m begins.sync (length x.points) x.points) t point
                ∙ (mine-count ∙ sym (learnt_length there t next));
            others = length_set (points_with n begins.sync (length y.points) y.points) t place
                ∙ (points-count ∙ sym (learnt_length there t next));
            rests = each-rests;
          }
