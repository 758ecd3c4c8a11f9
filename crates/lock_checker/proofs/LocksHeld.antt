-- Each move of an accepted program keeps what threads hold, and names record cells under held locks alone. Before each
-- synchronisation the statements that are left fit what the thread holds (WalkLemmas). A move makes one thread take or
-- give back a lock, or leaves the locks as they are (StepStops), and walks to the thread's next synchronisation
-- (BodyWalks); the other threads stay, and a new one holds nothing.
use Rattle.std.proofs.Common.{◌≡◌, ◌⊎◌, inl, inr, ℕ, zero, suc, ◌<◌, ◌≤◌, List, [], ◌∷◌, ◌++◌, length, Contains, Option, Some, None, is_none, map, unwrap_or, true, true≢false, refl, sym, ap, ◌∙◌, subst, arith}
use Rattle.std.specs.Prelude.{slice_get, ℤ}
use Rattle.std.proofs.lemmas.Bool.{cases_lt, cases_eq}
use Rattle.std.proofs.lemmas.List.{length-replicate}
use Rattle.gp_base.specs.declared.limits.Limits.{Limits}
use Rattle.gp_base.specs.declared.feed.Inputs.{Inputs}
use Rattle.gp_base.specs.declared.ending.End.{End}
use Rattle.task_ast.specs.declared.check_kind.CheckKind.TheVariants.{UnknownName}
use Rattle.task_ast.specs.declared.env.Env.{Env}
use Rattle.task_ast.specs.declared.sync.SyncOp.{SyncOp}
use Rattle.task_ast.specs.declared.sync.SyncOp.TheVariants as sync
use Rattle.task_ast.specs.declared.sync.Next.{Next}
use Rattle.task_ast.specs.meaning.Tree.{statements, TaskText, Program, Stmt}
use Rattle.task_ast.specs.meaning.Names.{head_name, locks_of, cells_in, task_named}
use Rattle.task_ast.specs.meaning.Visit.{visit, fails_if, first_fault}
use Rattle.task_ast.specs.meaning.Declarations.{main, head_visits, task_visits, main_visit}
use Rattle.task_ast.specs.meaning.Check.{bodies_visits}
use Rattle.task_ast.specs.Shaped.{IsAccepted}
use Rattle.task_ast.specs.meaning.Body.{Body, Stop, spent}
use Rattle.task_ast.specs.meaning.State.{RegistersOf, number_at}
use Rattle.task_ast.specs.meaning.Control.{Setting, Point, with_number, step, env_at, beginning, first_actions}
use Rattle.task_ast.specs.laws.Keeps.{AllName}
use Rattle.task_ast.specs.meaning.Layout.{layout}
use Rattle.task_ast.specs.Layout.{IsLaidOut}
use Rattle.task_ast.specs.meaning.Under.{is_under}
use Rattle.task_ast.specs.Under.{KeepsToLocks}
use Rattle.task_ast.specs.meaning.Repeat.{Move, Goes, Ends, state_from, state_after}
use Rattle.task_ast.specs.meaning.Table.{is_end, owned_from}
use Rattle.task_ast.specs.Table.{next_of, is_known_end, owner_in}
use Rattle.task_ast.specs.meaning.Turn.{child_of, owners_after}
use Rattle.task_ast.specs.laws.Threads.{MayBegin, with_child}
use Rattle.task_ast.specs.meaning.Plain.{Subthread, no_task, main_number}
use Rattle.task_ast.specs.Plain.{Plain, Machine, settled_by, from_by, tree_machine, move, opening, order, setting}
use Rattle.task_ast.specs.Position.{before, IsStep, body_by, point_in}
use Rattle.task_ast.proofs.Layouts.{laid_out, accepted_sizes}
use Rattle.task_ast.proofs.LessTurns.{inside_of}
use Rattle.task_ast.proofs.PlainSteps.{begins_of, is_step, points_kept}
use Rattle.task_ast.proofs.Repeats.{step_there}
use Rattle.lock_checker.specs.WalkLaw.{Holding, held_past, Comes, begins, past, by_settle}
use Rattle.lock_checker.specs.Soundness.{Each, IsOwned, Apart, HasCell, ThreadHolds, IsAhead, at_start, at_stop, at_limit, LocksStand}
use Rattle.lock_checker.proofs.HoldingLemmas.{none_parts}
use Rattle.lock_checker.proofs.WalkLemmas.{walk_law}
use Rattle.lock_checker.proofs.LockOwners.{Owners, first_free, each_then, owners_length, owned_has}
use Rattle.lock_checker.proofs.StepStops.{IsOther, Stops, locking, unlocking, forking, ending, otherwise, failing, stops_from, end_left, first_names, after_stop, task_there}
use Rattle.lock_checker.proofs.BodyWalks.{Goes as BodyGoes, body_goes, names_append}

-- an accepted program has the task `main`
main_there : (program : Program) → IsAccepted program → (task : TaskText) × (task_named program main ≡ Some task)
main_there program accepted = go (task_named program main) refl visited
  where
    visited : first_fault (main_visit program ∷ []) ≡ None
    visited = (none_parts (main_visit program ∷ []) (bodies_visits program program.tasks)
        (none_parts (head_visits program [] program.heads ++ task_visits (map head_name program.heads) program.tasks)
        (main_visit program ∷ bodies_visits program program.tasks) accepted.faultless).1).0

    go : (o : Option TaskText) → task_named program main ≡ o → first_fault (visit 1 (fails_if (is_none o) UnknownName) ∷ []) ≡ None
        → (task : TaskText) × (task_named program main ≡ Some task)
    go None is none = absurd (cc none)
    go (Some task) is none = (task, is)

-- the task that a fork names
abbrev forked_number : SyncOp → ℕ
forked_number (sync.Fork task arguments) = task
forked_number _ = 0

-- a fork is of a task of the program
forked_task : (s : Setting) (env : Env) (left : List Stmt) (op : SyncOp) → Stops s env left op → (k : ℕ) (arguments : List ℤ)
    → op ≡ sync.Fork k arguments
    → (task : TaskText) × (slice_get s.program.tasks k ≡ Some task)
forked_task s env left op (locking is) k arguments e = absurd (cc e)
forked_task s env left op (unlocking is) k arguments e = absurd (cc e)
forked_task s env left op (forking {t = t} task is) k arguments e =
    (task, subst (λ n. slice_get s.program.tasks n ≡ Some task) (ap forked_number e) (task_there s.program t task is))
forked_task s env left op ending k arguments e = absurd (cc e)
forked_task s env left op (otherwise other keeps) k arguments e = absurd (subst IsOther e other)
forked_task s env left op failing k arguments e = absurd (cc e)

-- a thread is new where a fork made it
new_thread : (op : SyncOp) (n u : ℕ) → u < with_child (child_of op n) n → n ≤ u
    → (k : ℕ) × (arguments : List ℤ) × (op ≡ sync.Fork k arguments) × (n ≡ u)
new_thread (sync.Fork task arguments) n u l m = (task, arguments, refl, omega arith)
new_thread sync.Start n u l m = absurd (omega arith)
new_thread (sync.Lock k) n u l m = absurd (omega arith)
new_thread (sync.Unlock k) n u l m = absurd (omega arith)
new_thread (sync.Join h) n u l m = absurd (omega arith)
new_thread (sync.Barrier b) n u l m = absurd (omega arith)
new_thread (sync.Settle register control) n u l m = absurd (omega arith)
new_thread sync.End n u l m = absurd (omega arith)
new_thread sync.BadIndex n u l m = absurd (omega arith)
new_thread sync.Spent n u l m = absurd (omega arith)

grows : (child : Option ℕ) (n : ℕ) → n ≤ with_child child n
grows None n = omega arith
grows (Some c) n = omega arith

-- a known end is the end
known_end : (o : Option Next) → is_known_end o ≡ true → (next : Next) × (o ≡ Some next) × (next.sync ≡ sync.End)
known_end None e = absurd (true≢false (sym e))
known_end (Some next) e = (next, refl, end_is next.sync e)
  where
    end_is : (op : SyncOp) → is_end op ≡ true → op ≡ sync.End
    end_is sync.End e = refl
    end_is sync.Start e = absurd (true≢false (sym e))
    end_is (sync.Lock l) e = absurd (true≢false (sym e))
    end_is (sync.Unlock l) e = absurd (true≢false (sym e))
    end_is (sync.Fork task arguments) e = absurd (true≢false (sym e))
    end_is (sync.Join h) e = absurd (true≢false (sym e))
    end_is (sync.Barrier b) e = absurd (true≢false (sym e))
    end_is (sync.Settle register control) e = absurd (true≢false (sym e))
    end_is sync.BadIndex e = absurd (true≢false (sym e))
    end_is sync.Spent e = absurd (true≢false (sym e))

some_next : {a b : Next} → Some a ≡ Some b → a ≡ b
some_next {a = a} e = ap (λ o. unwrap_or o a) e

module _ (program : Program) (inputs : Inputs) (limits : Limits) (accepted : IsAccepted program) where
  abbrev s : Setting
  s = setting program inputs limits

  abbrev machine : Machine Point
  machine = tree_machine program inputs limits

  laid : IsLaidOut program.heads
  laid = laid_out program.heads (accepted_sizes program accepted)

  pub stands_first : LocksStand program inputs limits (opening program inputs limits)
  stands_first =
      record {
        points = refl;
        owners = length-replicate (cells_in (locks_of program.heads)) None;
        owned = λ lock t e. absurd (first_free _ lock t e);
        threads = threads;
        ahead = ahead;
      }
    where
      main_is : (task : TaskText) × (task_named program main ≡ Some task)
      main_is = main_there program accepted

      there : slice_get program.tasks (main_number program) ≡ Some main_is.0
      there = task_there program main main_is.0 main_is.1

      threads : (t : ℕ) → t < 1
          → ThreadHolds s (opening program inputs limits).table.owners t (point_in program inputs limits (opening program inputs limits) t)
      threads zero l =
          record {
            number = main_number program;
            task = main_is.0;
            is_task = there;
            start = point_in program inputs limits (opening program inputs limits) 0;
            starts = ap (λ o. statements (unwrap_or o no_task).body) there;
            held = [];
            comes = begins;
            owned = tt;
            all = λ lock e. absurd (first_free _ lock 0 e);
            apart = tt;
          }
      threads (suc t) l = absurd (omega arith)

      ahead : (t : ℕ) (next : Next) → t < 1 → next_of (opening program inputs limits).table t ≡ Some next
          → IsAhead s (point_in program inputs limits (opening program inputs limits) t) next
      ahead zero next l e = at_start (ap (λ o. (unwrap_or o spent).sync) (sym e))
      ahead (suc t) next l e = absurd (omega arith)

  -- one move further
  module _ (x : Plain) (sub : Subthread) (y : Plain) (stands : LocksStand program inputs limits x)
      (go_on : IsStep (tree_machine program inputs limits) x sub y)
      (points : length y.points ≡ length y.table.seats) where
    abbrev t : ℕ
    t = sub.thread

    abbrev op : SyncOp
    op = sub.begins.sync

    abbrev old : Point
    old = point_in program inputs limits x sub.thread

    abbrev from : Point
    from = from_by (tree_machine program inputs limits) x sub.begins.sync sub.thread

    abbrev b : Body Point
    b = body_by (tree_machine program inputs limits) x sub

    inside : sub.thread < length x.table.seats
    inside = inside_of x.table.seats sub.thread sub.begins go_on.begins

    was : ThreadHolds (setting program inputs limits) x.table.owners sub.thread (point_in program inputs limits x sub.thread)
    was = stands.threads sub.thread inside

    -- the thread after its synchronisation
    record Began (owners : Owners) : Type 0 where
      held : List Holding
      comes : Comes s was.start (beginning sub.begins.sync sub.child from) held
      owned : Each (IsOwned owners sub.thread) held
      all : (l : ℕ) → owner_in owners l ≡ Some sub.thread → HasCell held l
      apart : Apart held
      others : (u l : ℕ) → (u ≡ sub.thread → ⊥) → owner_in x.table.owners l ≡ Some u → owner_in owners l ≡ Some u
      back : (u l : ℕ) → (u ≡ sub.thread → ⊥) → owner_in owners l ≡ Some u → owner_in x.table.owners l ≡ Some u
      forks : (k : ℕ) (arguments : List ℤ) → sub.begins.sync ≡ sync.Fork k arguments
          → (task : TaskText) × (slice_get program.tasks k ≡ Some task)

    began_after : Began (owners_after sub.begins.sync sub.thread x.table.owners)
    began_after = go (stands.ahead sub.thread sub.begins inside go_on.begins)
      where
        went : step s old ≡ Stop sub.begins → (op : SyncOp) → sub.begins.sync ≡ op
            → Comes s was.start (beginning op sub.child old) (held_past op old.left (env_at s old) was.held)
        went e op is =
            subst (λ op. Comes s was.start (beginning op sub.child old) (held_past op old.left (env_at s old) was.held)) is
            (past was.comes e (λ bad. subst (MayBegin x.table) bad go_on.may) sub.child)

        Came : SyncOp → Type 0
        Came op =
            Comes s was.start (beginning op sub.child (settled_by (tree_machine program inputs limits) op sub.thread x.state old))
            (held_past op old.left (env_at s old) was.held)

        -- a settle has set its variable, and nothing else changes the point before the synchronisation
        comes_from : step s old ≡ Stop sub.begins → (op : SyncOp) → sub.begins.sync ≡ op → Came op
        comes_from e (sync.Settle register control) is =
            subst (λ op. Comes s was.start (beginning op sub.child
            (record old { names = with_number old.names control (number_at (x.state (RegistersOf sub.thread)) register) }))
            (held_past op old.left (env_at s old) was.held)) is
            (by_settle was.comes e is (number_at (x.state (RegistersOf sub.thread)) register) sub.child)
        comes_from e sync.Start is = went e sync.Start is
        comes_from e (sync.Lock l) is = went e (sync.Lock l) is
        comes_from e (sync.Unlock l) is = went e (sync.Unlock l) is
        comes_from e (sync.Fork task arguments) is = went e (sync.Fork task arguments) is
        comes_from e (sync.Join h) is = went e (sync.Join h) is
        comes_from e (sync.Barrier b) is = went e (sync.Barrier b) is
        comes_from e sync.End is = went e sync.End is
        comes_from e sync.BadIndex is = went e sync.BadIndex is
        comes_from e sync.Spent is = went e sync.Spent is

        go : IsAhead s old sub.begins → Began (owners_after sub.begins.sync sub.thread x.table.owners)
        go (at_limit e) = absurd (subst (λ n. MayBegin x.table n.sync) e go_on.may)
        go (at_start e) =
            record {
              held = was.held;
              comes =
                  subst (λ o. Comes s was.start (beginning o sub.child
                  (settled_by (tree_machine program inputs limits) o sub.thread x.state old)) was.held) (sym e) was.comes;
              owned = subst (λ o. Each (IsOwned (owners_after o sub.thread x.table.owners) sub.thread) was.held) (sym e) was.owned;
              all = λ l own. was.all l (ap (λ o. owner_in (owners_after o sub.thread x.table.owners) l) (sym e) ∙ own);
              apart = was.apart;
              others = λ u l ne own. ap (λ o. owner_in (owners_after o sub.thread x.table.owners) l) e ∙ own;
              back = λ u l ne own. ap (λ o. owner_in (owners_after o sub.thread x.table.owners) l) (sym e) ∙ own;
              forks = λ k arguments is. absurd (let same = sym e ∙ is in cc same);
            }
        go (at_stop e) =
            let walk = walk_law s was.number was.task was.start old was.held accepted was.is_task was.starts was.comes in
            let stop = stops_from s old.left old sub.begins e in
            let left =
            after_stop s x.table sub.thread stands.owners
            (env_at s old) was.held walk.1 was.owned was.all was.apart old.left sub.begins.sync stop go_on.may walk.0 in
            record {
              held = held_past sub.begins.sync old.left (env_at s old) was.held;
              comes = comes_from e sub.begins.sync refl;
              owned = left.mine;
              all = left.all;
              apart = left.apart;
              others = left.others;
              back = left.back;
              forks = λ k arguments is. forked_task s (env_at s old) old.left sub.begins.sync stop k arguments is;
            }

    began : Began y.table.owners
    began = subst Began (sym go_on.owners) began_after

    has : Each (λ h. Contains (owned_from 0 y.table.owners sub.thread) h.cell) began.held
    has = each_then (IsOwned y.table.owners sub.thread) (λ h. Contains (owned_from 0 y.table.owners sub.thread) h.cell)
        (λ h own. subst (Contains (owned_from 0 y.table.owners sub.thread)) (omega arith)
        (owned_has y.table.owners 0 sub.thread h.cell own)) began.held began.owned

    goes : BodyGoes s accepted laid was.number was.task was.is_task was.start was.starts began.held
        (owned_from 0 y.table.owners sub.thread) has b
    goes =
        body_goes s accepted laid was.number was.task was.is_task was.start was.starts began.held
        (owned_from 0 y.table.owners sub.thread) has limits.turns (beginning sub.begins.sync sub.child from) began.comes

    pub keeps : KeepsToLocks (layout program.heads).under sub
    keeps =
        subst (λ locks. AllName (is_under (layout program.heads).under locks) sub.actions) (sym go_on.held)
        (subst (AllName (is_under (layout program.heads).under (owned_from 0 y.table.owners sub.thread))) (sym go_on.actions)
        (names_append (is_under (layout program.heads).under (owned_from 0 y.table.owners sub.thread))
        (first_actions s sub.begins.sync from) b.actions
        (first_names s (is_under (layout program.heads).under (owned_from 0 y.table.owners sub.thread)) sub.begins.sync from) goes.names))

    threads : (u : ℕ) → u < length y.table.seats → ThreadHolds s y.table.owners u (point_in program inputs limits y u)
    threads u u_in = elim (cases_eq u sub.thread) [
      | inl same ↦
          subst (λ v. ThreadHolds s y.table.owners v (point_in program inputs limits y v)) (sym same)
          (subst (ThreadHolds s y.table.owners sub.thread) (sym go_on.point) (record {
            number = was.number;
            task = was.task;
            is_task = was.is_task;
            start = was.start;
            starts = was.starts;
            held = began.held;
            comes = goes.comes;
            owned = began.owned;
            all = began.all;
            apart = began.apart;
          }))
      | inr ne ↦ elim (cases_lt u (length x.table.seats)) [
        | inl l ↦ other ne l
        | inr l ↦ new l
      ]
    ]
      where
        other : (u ≡ sub.thread → ⊥) → u < length x.table.seats → ThreadHolds s y.table.owners u (point_in program inputs limits y u)
        other ne l =
            let it = stands.threads u l in
            subst (ThreadHolds s y.table.owners u) (sym (go_on.others u ne l).1) (record {
              number = it.number;
              task = it.task;
              is_task = it.is_task;
              start = it.start;
              starts = it.starts;
              held = it.held;
              comes = it.comes;
              owned =
                  each_then (IsOwned x.table.owners u) (IsOwned y.table.owners u) (λ h own. began.others u h.cell ne own) it.held it.owned;
              all = λ lock own. it.all lock (began.back u lock ne own);
              apart = it.apart;
            })

        new : length x.table.seats ≤ u → ThreadHolds s y.table.owners u (point_in program inputs limits y u)
        new l =
            let fork =
            new_thread sub.begins.sync (length x.table.seats) u
            (subst (λ n. u < n) (go_on.threads ∙ ap (λ c. with_child c (length x.table.seats)) go_on.child) u_in) l in
            let task = began.forks fork.0 fork.1 fork.2 in
            subst (λ v. ThreadHolds s y.table.owners v (point_in program inputs limits y v)) fork.3 (record {
              number = fork.0;
              task = task.0;
              is_task = task.1;
              start = point_in program inputs limits y (length x.table.seats);
              starts = ap (λ q. q.left) (go_on.forked fork.0 fork.1 fork.2).1 ∙ ap (λ o. statements (unwrap_or o no_task).body) task.1;
              held = [];
              comes = begins;
              owned = tt;
              all =
                  λ lock own. absurd (let i = inside in
                  let k = stands.owned lock (length x.table.seats)
                  (began.back (length x.table.seats) lock (λ same. omega arith) own) in omega arith);
              apart = tt;
            })

    ahead : (u : ℕ) (next : Next) → u < length y.table.seats → next_of y.table u ≡ Some next
        → IsAhead s (point_in program inputs limits y u) next
    ahead u next u_in e = elim (cases_eq u sub.thread) [
      | inl same ↦ subst (λ v. IsAhead s (point_in program inputs limits y v) next) (sym same)
          (subst (λ q. IsAhead s q next) (sym go_on.point)
          (stopped (some_next (sym go_on.next ∙ (ap (next_of y.table) (sym same) ∙ e))) goes.stops))
      | inr ne ↦ elim (cases_lt u (length x.table.seats)) [
        | inl l ↦ subst (λ q. IsAhead s q next) (sym (go_on.others u ne l).1) (stands.ahead u next l (sym (go_on.others u ne l).0 ∙ e))
        | inr l ↦
            (let fork = new_thread sub.begins.sync (length x.table.seats) u
            (subst (λ n. u < n) (go_on.threads ∙ ap (λ c. with_child c (length x.table.seats)) go_on.child) u_in) l in
            at_start (ap (λ o. (unwrap_or o spent).sync)
            (sym e ∙ (ap (next_of y.table) (sym fork.3) ∙ (go_on.forked fork.0 fork.1 fork.2).0))))
      ]
    ]
      where
        stopped : b.next ≡ next → (b.next ≡ spent) ⊎ (step s b.at ≡ Stop b.next) → IsAhead s b.at next
        stopped is (inl limit) = at_limit (sym is ∙ limit)
        stopped is (inr stop) = at_stop (stop ∙ ap Stop is)

    pub stands_next : LocksStand program inputs limits y
    stands_next =
        record {
          points = points;
          owners = ap length go_on.owners ∙ owners_length sub.begins.sync sub.thread x.table.owners ∙ stands.owners;
          owned = λ lock u own. elim (cases_eq u sub.thread) [
            | inl same ↦ (let i = inside in let g = grown in omega arith)
            | inr ne ↦ (let k = stands.owned lock u (began.back u lock ne own) in let g = grown in omega arith)
          ];
          threads = threads;
          ahead = ahead;
        }
      where
        grown : length x.table.seats ≤ length y.table.seats
        grown = subst (λ n. length x.table.seats ≤ n) (sym go_on.threads) (grows sub.child (length x.table.seats))

  pub move_keeps : (x : Plain) (sub : Subthread) (y : Plain) → LocksStand program inputs limits x
      → move program inputs limits x ≡ Goes sub y → KeepsToLocks (layout program.heads).under sub × LocksStand program inputs limits y
  move_keeps x sub y stands moves =
      let begun = begins_of machine x sub y moves in
      let go_on = is_step machine x stands.points sub y begun in
      let points = points_kept machine x stands.points sub y begun in
      (keeps x sub y stands go_on points, stands_next x sub y stands go_on points)

  after_stands : (n : ℕ) (x : Plain) → LocksStand program inputs limits x
      → LocksStand program inputs limits (state_after (move program inputs limits) n x)
  unfolding state_after
  after_stands zero x stands = stands
  after_stands (suc n) x stands = go (move program inputs limits x) refl (λ y. after_stands n y)
    where
      go : (m : Move Plain Subthread End) → move program inputs limits x ≡ m
          → ((y : Plain) → LocksStand program inputs limits y
          → LocksStand program inputs limits (state_after (move program inputs limits) n y))
          → LocksStand program inputs limits (state_from (move program inputs limits) x m (state_after (move program inputs limits) n))
      go (Goes sub y) is again = again y (move_keeps x sub y stands is).1
      go (Ends e) is again = stands

  pub before_stands : (p : ℕ) → LocksStand program inputs limits (before program inputs limits p)
  before_stands p = after_stands p (opening program inputs limits) stands_first

  pub sound : (p : ℕ) (sub : Subthread) → slice_get (order program inputs limits) p ≡ Some sub
      → KeepsToLocks (layout program.heads).under sub
  sound p sub e =
      let there = step_there (move program inputs limits) (suc limits.subthreads) p (opening program inputs limits) sub e in
      (move_keeps (before program inputs limits p) sub there.next (before_stands p) there.moves).0

  pub ended_owns : (x : Plain) → LocksStand program inputs limits x → (t : ℕ) → is_known_end (next_of x.table t) ≡ true → (lock : ℕ)
      → owner_in x.table.owners lock ≡ Some t → ⊥
  ended_owns x stands t e lock own = go (stands.ahead t next.0 inside next.1)
    where
      next : (next : Next) × (next_of x.table t ≡ Some next) × (next.sync ≡ sync.End)
      next = known_end (next_of x.table t) e

      inside : t < length x.table.seats
      inside = inside_of x.table.seats t next.0 next.1

      it : ThreadHolds (setting program inputs limits) x.table.owners t (point_in program inputs limits x t)
      it = stands.threads t inside

      go : IsAhead s (point_in program inputs limits x t) next.0 → ⊥
      go (at_start is) = let same = sym is ∙ next.2 in cc same
      go (at_limit is) = let same = ap (λ n. n.sync) (sym is) ∙ next.2 in cc same
      go (at_stop is) =
          let walk =
          walk_law s it.number it.task it.start (point_in program inputs limits x t) it.held accepted it.is_task it.starts it.comes in
          let none =
          walk.2 (end_left s (stops_from s (point_in program inputs limits x t).left (point_in program inputs limits x t) next.0 is)
          next.2) in
          subst (λ held. HasCell held lock) none (it.all lock own)
