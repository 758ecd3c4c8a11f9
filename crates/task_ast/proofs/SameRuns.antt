-- Machines that follow each other give one run. Two machines follow each other where their points rest alike at each
-- synchronisation. Then a move of both goes on alike or ends alike (MovesAlike), and so do any number of them. What is
-- read of the subthreads, and how the states are alike, is left open (Kept): with the same states it is one run, and
-- with other records the same control, where settles find the same values.
use Rattle.std.proofs.Common.{◌≡◌, inl, inr, ℕ, zero, suc, ◌+◌, ◌-◌, ◌<◌, ◌≤◌, List, [], ◌∷◌, ◌++◌, map, length, Option, Some, unwrap_or, refl, sym, ap, ◌∙◌, subst, arith, option_and_then}
use Rattle.std.specs.Prelude.{ℤ, slice_get, ⊤}
use Rattle.std.proofs.lemmas.Bool.{cases_lt, cases_eq}
use Rattle.gp_base.specs.declared.limits.Limits.{Limits}
use Rattle.gp_base.specs.declared.feed.Inputs.{Inputs}
use Rattle.gp_base.specs.declared.ending.End.{End}
use Rattle.task_ast.specs.declared.sync.SyncOp.{SyncOp}
use Rattle.task_ast.specs.declared.sync.SyncOp.TheVariants as sync
use Rattle.task_ast.specs.declared.sync.Next.{Next}
use Rattle.task_ast.specs.meaning.Tree.{Program}
use Rattle.task_ast.specs.meaning.Action.{Action}
use Rattle.task_ast.specs.meaning.State.{State, RegistersOf, number_at}
use Rattle.task_ast.specs.meaning.Effect.{effect, after}
use Rattle.task_ast.specs.meaning.Repeat.{Move, Goes, Ends, steps, steps_from, state_after, state_from}
use Rattle.task_ast.specs.Repeat.{step_of}
use Rattle.task_ast.specs.Table.{Seat, Table, new_seat, next_of, owned, learning}
use Rattle.task_ast.specs.meaning.Turn.{child_of}
use Rattle.task_ast.specs.Turn.{Turn, Issue, Needs, Ended, next_issue}
use Rattle.task_ast.specs.laws.Threads.{with_child}
use Rattle.task_ast.specs.meaning.Plain.{Subthread, main_number, ending_of}
use Rattle.task_ast.specs.Plain.{PlainOf, Machine, point_by, settled_by, from_by, on_turn_by, move_by, opening_by, order_by, before_by, last_by, tree_machine}
use Rattle.task_ast.specs.Position.{body_by, IsStep, SettlesAlike, plan_of, IsSameControl}
use Rattle.task_ast.specs.meaning.Control.{Point}
use Rattle.task_ast.specs.laws.Following.{Follows, Agrees, InStep, IsSameRun}
use Rattle.task_ast.proofs.Repeats.{step_at, stays_after}
use Rattle.task_ast.proofs.PlainRuns.{end_law}
use Rattle.task_ast.proofs.PlainSteps.{subthread_of, plain_of, Begins, begins_of, is_step, points_kept}

-- what is read of subthreads doesn't see where two states differ, and they stay as wanted
pub record Kept {V : Type 0} (Data : State → State → Type 0) (view : Subthread → V) : Type 0 where
  pub states : (t : ℕ) (begins : SyncOp) (child : Option ℕ) (actions : List Action) (left right : State) → Data left right
      → Data (after (effect t begins child actions left) left) (after (effect t begins child actions right) right)
  pub views : (t : ℕ) (begins : Next) (child : Option ℕ) (held : List ℕ) (actions : List Action) (left right : State) → Data left right
      → view (record {
        thread = t;
        begins = begins;
        child = child;
        held = held;
        actions = actions;
        lines = (effect t begins.sync child actions left).prints;
      })
      ≡ view (record {
        thread = t;
        begins = begins;
        child = child;
        held = held;
        actions = actions;
        lines = (effect t begins.sync child actions right).prints;
      })

some_same : {X : Type 0} {a b : X} → Some a ≡ Some b → a ≡ b
some_same {a = a} e = ap (λ o. unwrap_or o a) e

-- a thread whose next synchronisation is known is there
inside : {next : Next} (seats : List Seat) (t : ℕ) → option_and_then (λ s. s.next) (slice_get seats t) ≡ Some next → t < length seats
inside [] t e = absurd (cc e)
inside (seat ∷ seats) zero e = omega arith
inside (seat ∷ seats) (suc t) e = let h = inside seats t e in omega arith

-- a thread that is new is the child of a fork
record IsNew (op : SyncOp) (n t : ℕ) : Type 0 where
  task : ℕ
  arguments : List ℤ
  forks : op ≡ sync.Fork task arguments
  last : n ≡ t

new_is : (op : SyncOp) (n t : ℕ) → n ≤ t → t < with_child (child_of op n) n → IsNew op n t
new_is (sync.Fork task arguments) n t l k = record { task = task; arguments = arguments; forks = refl; last = omega arith }
new_is sync.Start n t l k = absurd (omega arith)
new_is (sync.Lock c) n t l k = absurd (omega arith)
new_is (sync.Unlock c) n t l k = absurd (omega arith)
new_is (sync.Join h) n t l k = absurd (omega arith)
new_is (sync.Settle register control) n t l k = absurd (omega arith)
new_is (sync.Barrier b) n t l k = absurd (omega arith)
new_is sync.End n t l k = absurd (omega arith)
new_is sync.BadIndex n t l k = absurd (omega arith)
new_is sync.Spent n t l k = absurd (omega arith)

-- a settle finds the same value in both states
abbrev SameValue : SyncOp → ℕ → State → State → Type 0
SameValue (sync.Settle register control) t left right =
    number_at (left (RegistersOf t)) register ≡ number_at (right (RegistersOf t)) register
SameValue _ t left right = ⊤

same_value : (op : SyncOp) (t : ℕ) (left right : State) → left ≡ right → SameValue op t left right
same_value (sync.Settle register control) t left right e = ap (λ (state : State). number_at (state (RegistersOf t)) register) e
same_value sync.Start t left right e = tt
same_value (sync.Lock c) t left right e = tt
same_value (sync.Unlock c) t left right e = tt
same_value (sync.Fork task arguments) t left right e = tt
same_value (sync.Join h) t left right e = tt
same_value (sync.Barrier b) t left right e = tt
same_value sync.End t left right e = tt
same_value sync.BadIndex t left right e = tt
same_value sync.Spent t left right e = tt

module _ {P Q V : Type 0} (Rests : SyncOp → P → Q → Type 0) (m : Machine P) (n : Machine Q) (follows : Follows Rests m n)
    (Data : State → State → Type 0) (view : Subthread → V) (kept : Kept Data view) where
  -- both go on alike, or end alike
  data MovesAlike : Move (PlainOf P) Subthread End → Move (PlainOf Q) Subthread End → Type 0 where
    both_go : {s r : Subthread} {x : PlainOf P} {y : PlainOf Q} → view s ≡ view r → InStep Rests Data m n x y
        → MovesAlike (Goes s x) (Goes r y)
    both_end : {e : End} → MovesAlike (Ends e) (Ends e)

  -- each thread rests alike after two steps that leave one table
  rests_after : (x : PlainOf P) (y : PlainOf Q) (s r : Subthread) (x' : PlainOf P) (y' : PlainOf Q) → InStep Rests Data m n x y
      → IsStep m x s x' → IsStep n y r y' → s.thread ≡ r.thread → s.begins.sync ≡ r.begins.sync
      → Rests (body_by m x s).next.sync (body_by m x s).at (body_by n y r).at
      → (t : ℕ) (next : Next) → next_of x'.table t ≡ Some next → Rests next.sync (point_by m x' t) (point_by n y' t)
  rests_after x y s r x' y' both step other same begins body t next e = elim (cases_eq t s.thread) [
    | inl here ↦
        subst (λ t. Rests next.sync (point_by m x' t) (point_by n y' t)) (sym here)
        (subst (λ next. Rests next.sync (point_by m x' s.thread) (point_by n y' s.thread))
        (some_same (sym step.next ∙ (ap (next_of x'.table) (sym here) ∙ e)))
        (subst (λ p. Rests (body_by m x s).next.sync p (point_by n y' s.thread)) (sym step.point)
        (subst (λ q. Rests (body_by m x s).next.sync (body_by m x s).at q) (sym (ap (point_by n y') same ∙ other.point)) body)))
    | inr ne ↦ elim (cases_lt t (length x.table.seats)) [
      | inl l ↦
          (let mine = step.others t ne l in
          let theirs = other.others t (λ e. ne (e ∙ sym same)) (subst (λ table. t < length table.seats) both.table l) in
          subst (λ p. Rests next.sync p (point_by n y' t)) (sym mine.1)
          (subst (λ q. Rests next.sync (point_by m x t) q) (sym theirs.1) (both.rests t next (sym mine.0 ∙ e))))
      | inr l ↦
          (let new = new_is s.begins.sync (length x.table.seats) t l
          (subst (λ k. t < k) (step.threads ∙ ap (λ child. with_child child (length x.table.seats)) step.child)
          (inside x'.table.seats t e)) in
          let mine = step.forked new.task new.arguments new.forks in
          let seats = ap (λ table. length table.seats) both.table in
          let theirs = other.forked new.task new.arguments (sym begins ∙ new.forks) in
          subst (λ t. Rests next.sync (point_by m x' t) (point_by n y' t)) new.last
          (subst (λ next. Rests next.sync (point_by m x' (length x.table.seats)) (point_by n y' (length x.table.seats)))
          (some_same (sym mine.0 ∙ (ap (next_of x'.table) new.last ∙ e)))
          (subst (λ p. Rests sync.Start p (point_by n y' (length x.table.seats))) (sym mine.1)
          (subst (λ q. Rests sync.Start (m.starts new.task (length x.table.seats) new.arguments) q)
          (sym (ap (point_by n y') seats ∙ theirs.1 ∙ ap (λ k. n.starts new.task k new.arguments) (sym seats)))
          (follows.starts new.task (length x.table.seats) new.arguments)))))
    ]
  ]

  -- the points from which a thread begins rest alike
  settled : (op : SyncOp) (t : ℕ) (left right : State) (p : P) (q : Q) → SameValue op t left right → Rests op p q
      → Rests op (settled_by m op t left p) (settled_by n op t right q)
  settled (sync.Settle register control) t left right p q e rests =
      subst (λ v. Rests (sync.Settle register control) (m.sets control (number_at (left (RegistersOf t)) register) p) (n.sets control v q))
      e
      (follows.sets register control (number_at (left (RegistersOf t)) register) p q rests)
  settled sync.Start t left right p q e rests = rests
  settled (sync.Lock c) t left right p q e rests = rests
  settled (sync.Unlock c) t left right p q e rests = rests
  settled (sync.Fork task arguments) t left right p q e rests = rests
  settled (sync.Join h) t left right p q e rests = rests
  settled (sync.Barrier b) t left right p q e rests = rests
  settled sync.End t left right p q e rests = rests
  settled sync.BadIndex t left right p q e rests = rests
  settled sync.Spent t left right p q e rests = rests

  -- the next issue of the one is a settle only where both states have one value for it
  abbrev Alike : PlainOf P → PlainOf Q → Type 0
  Alike x y =
      (t : ℕ) (begins : Next) (child : Option ℕ) (table : Table) → next_issue x.table ≡ Issue t begins child table
      → SameValue begins.sync t x.state y.state

  -- an issue of both
  module _ (x : PlainOf P) (y : PlainOf Q) (both : InStep Rests Data m n x y) (t : ℕ) (begins : Next) (child : Option ℕ) (table : Table)
      (found : SameValue begins.sync t x.state y.state)
      (mine : Begins m x (subthread_of m t begins child table x) (plain_of m t begins child table x))
      (theirs : Begins n y (subthread_of n t begins child table y) (plain_of n t begins child table y)) where
    rested : Rests begins.sync (from_by m x begins.sync t) (from_by n y begins.sync t)
    rested = settled begins.sync t x.state y.state (point_by m x t) (point_by n y t) found (both.rests t begins mine.known)

    agrees : Agrees (Rests (body_by m x (subthread_of m t begins child table x)).next.sync)
        (body_by m x (subthread_of m t begins child table x)) (body_by n y (subthread_of n t begins child table y))
    agrees = follows.bodies begins.sync child (from_by m x begins.sync t) (from_by n y begins.sync t) rested

    same_actions : (subthread_of m t begins child table x).actions ≡ (subthread_of n t begins child table y).actions
    same_actions =
        ap (λ actions. actions ++ (body_by m x (subthread_of m t begins child table x)).actions)
        (follows.first begins.sync (from_by m x begins.sync t) (from_by n y begins.sync t) rested)
        ∙ ap (λ actions. n.first begins.sync (from_by n y begins.sync t) ++ actions) agrees.actions

    issued_alike : MovesAlike (Goes (subthread_of m t begins child table x) (plain_of m t begins child table x))
        (Goes (subthread_of n t begins child table y) (plain_of n t begins child table y))
    issued_alike =
        both_go
        (ap (λ actions. view (record {
          thread = t;
          begins = begins;
          child = child;
          held = owned table t;
          actions = actions;
          lines = (effect t begins.sync child actions x.state).prints;
        })) same_actions
        ∙ kept.views t begins child (owned table t) (subthread_of n t begins child table y).actions x.state y.state both.states)
        (record {
          table = ap (learning table t) agrees.next;
          states =
              subst (λ actions. Data (plain_of m t begins child table x).state (after (effect t begins.sync child actions y.state) y.state))
              same_actions
              (kept.states t begins.sync child (subthread_of m t begins child table x).actions x.state y.state both.states);
          points = points_kept m x both.points (subthread_of m t begins child table x) (plain_of m t begins child table x) mine;
          others = points_kept n y both.others (subthread_of n t begins child table y) (plain_of n t begins child table y) theirs;
          rests =
              rests_after x y (subthread_of m t begins child table x) (subthread_of n t begins child table y)
              (plain_of m t begins child table x) (plain_of n t begins child table y) both
              (is_step m x both.points (subthread_of m t begins child table x) (plain_of m t begins child table x) mine)
              (is_step n y both.others (subthread_of n t begins child table y) (plain_of n t begins child table y) theirs)
              refl refl agrees.at;
        })

  moves_alike : (x : PlainOf P) (y : PlainOf Q) → InStep Rests Data m n x y → Alike x y → MovesAlike (move_by m x) (move_by n y)
  moves_alike x y both alike =
      subst (λ table. MovesAlike (move_by m x) (on_turn_by n y (next_issue table))) both.table
      (go (next_issue x.table) refl)
    where
      go : (what : Turn) → next_issue x.table ≡ what → MovesAlike (on_turn_by m x what) (on_turn_by n y what)
      go (Issue t begins child table) is =
          issued_alike x y both t begins child table (alike t begins child table is)
          (begins_of m x (subthread_of m t begins child table x) (plain_of m t begins child table x) (ap (on_turn_by m x) is))
          (begins_of n y (subthread_of n t begins child table y) (plain_of n t begins child table y)
          (ap (λ table. on_turn_by n y (next_issue table)) (sym both.table) ∙ ap (on_turn_by n y) is))
      go (Needs t) is = both_end
      go (Ended ending) is = both_end

  -- so many steps
  pub runs_alike : (k : ℕ) (x : PlainOf P) (y : PlainOf Q) → InStep Rests Data m n x y
      → ((j : ℕ) → j < k → InStep Rests Data m n (state_after (move_by m) j x) (state_after (move_by n) j y)
      → Alike (state_after (move_by m) j x) (state_after (move_by n) j y))
      → (map view (steps (move_by m) k x) ≡ map view (steps (move_by n) k y))
      × InStep Rests Data m n (state_after (move_by m) k x) (state_after (move_by n) k y)
  unfolding steps state_after
  runs_alike zero x y both alike = (refl, both)
  runs_alike (suc k) x y both alike =
      go (move_by m x) (move_by n y) (moves_alike x y both (alike 0 (omega arith) both))
      (λ j l. alike (suc j) (omega (arith, l))) (runs_alike k)
    where
      Later : Move (PlainOf P) Subthread End → Move (PlainOf Q) Subthread End → Type 0
      Later a b =
          (j : ℕ) → j < k → InStep Rests Data m n (state_from (move_by m) x a (state_after (move_by m) j))
          (state_from (move_by n) y b (state_after (move_by n) j))
          → Alike (state_from (move_by m) x a (state_after (move_by m) j)) (state_from (move_by n) y b (state_after (move_by n) j))

      go : (a : Move (PlainOf P) Subthread End) (b : Move (PlainOf Q) Subthread End) → MovesAlike a b → Later a b
          → ((x' : PlainOf P) (y' : PlainOf Q) → InStep Rests Data m n x' y'
          → ((j : ℕ) → j < k → InStep Rests Data m n (state_after (move_by m) j x') (state_after (move_by n) j y')
          → Alike (state_after (move_by m) j x') (state_after (move_by n) j y'))
          → (map view (steps (move_by m) k x') ≡ map view (steps (move_by n) k y'))
          × InStep Rests Data m n (state_after (move_by m) k x') (state_after (move_by n) k y'))
          → (map view (steps_from (move_by m) a (steps (move_by m) k)) ≡ map view (steps_from (move_by n) b (steps (move_by n) k)))
          × InStep Rests Data m n (state_from (move_by m) x a (state_after (move_by m) k))
          (state_from (move_by n) y b (state_after (move_by n) k))
      go a b (both_go {s = s} {r = r} {x = x'} {y = y'} same further) later again =
          let rest = again x' y' further later in
          (ap (λ v. v ∷ map view (steps (move_by m) k x')) same ∙ ap (λ vs. view r ∷ vs) rest.0, rest.1)
      go a b both_end later again = (refl, both)

  -- and one end
  pub ends_alike : (x : PlainOf P) (y : PlainOf Q) → InStep Rests Data m n x y → Alike x y
      → ending_of (move_by m x) ≡ ending_of (move_by n y)
  ends_alike x y both alike = go (move_by m x) (move_by n y) (moves_alike x y both alike)
    where
      go : (a : Move (PlainOf P) Subthread End) (b : Move (PlainOf Q) Subthread End) → MovesAlike a b → ending_of a ≡ ending_of b
      go a b (both_go same further) = refl
      go a b both_end = refl

module _ {P Q : Type 0} (Rests : SyncOp → P → Q → Type 0) (m : Machine P) (n : Machine Q) (follows : Follows Rests m n)
    (program : Program) (limits : Limits) where
  -- thread 0 of both rests at the start of `main`
  pub opening_alike : (Data : State → State → Type 0) (inputs other : Inputs)
      → Data (opening_by m program inputs limits).state (opening_by n program other limits).state
      → InStep Rests Data m n (opening_by m program inputs limits) (opening_by n program other limits)
  opening_alike Data inputs other same = record { table = refl; states = same; points = refl; others = refl; rests = rests }
    where
      rests : (t : ℕ) (next : Next) → option_and_then (λ s. s.next) (slice_get (new_seat ∷ []) t) ≡ Some next
          → Rests next.sync (point_by m (opening_by m program inputs limits) t) (point_by n (opening_by n program other limits) t)
      rests zero next e =
          subst (λ next. Rests next.sync (m.starts (main_number program) 0 []) (n.starts (main_number program) 0 [])) (some_same e)
          (follows.starts (main_number program) 0 [])
      rests (suc t) next e = absurd (cc e)

  map_id : (xs : List Subthread) → map (λ s. s) xs ≡ xs
  map_id [] = refl
  map_id (x ∷ xs) = ap (λ ys. x ∷ ys) (map_id xs)

  kept_equal : Kept (λ left right. left ≡ right) (λ s. s)
  kept_equal =
      record {
        states = λ t begins child actions left right e. ap (λ state. after (effect t begins child actions state) state) e;
        views = λ t begins child held actions left right e.
            ap (λ state. record {
              thread = t;
              begins = begins;
              child = child;
              held = held;
              actions = actions;
              lines = (effect t begins.sync child actions state).prints;
            }) e;
      }

  -- machines that follow each other give one run
  pub same_run : (inputs : Inputs) → IsSameRun Rests m n program inputs limits
  same_run inputs =
      record {
        order =
            sym (map_id (order_by m program inputs limits)) ∙ (whole (suc limits.subthreads)).0 ∙ map_id (order_by n program inputs limits);
        end =
            ends_alike Rests m n follows (λ left right. left ≡ right) (λ s. s) kept_equal (last_by m program inputs limits)
            (last_by n program inputs limits) (whole (suc limits.subthreads)).1
            (λ t begins child table is. same_value begins.sync t _ _ (whole (suc limits.subthreads)).1.states);
        last = (whole (suc limits.subthreads)).1.states;
        positions = λ p. (whole p).1;
      }
    where
      whole : (k : ℕ) → (map (λ s. s) (steps (move_by m) k (opening_by m program inputs limits))
          ≡ map (λ s. s) (steps (move_by n) k (opening_by n program inputs limits)))
          × InStep Rests (λ left right. left ≡ right) m n (state_after (move_by m) k (opening_by m program inputs limits))
          (state_after (move_by n) k (opening_by n program inputs limits))
      whole k =
          runs_alike Rests m n follows (λ left right. left ≡ right) (λ s. s) kept_equal k (opening_by m program inputs limits)
          (opening_by n program inputs limits)
          (opening_alike (λ left right. left ≡ right) inputs inputs refl)
          (λ j l both t begins child table is. same_value begins.sync t _ _ both.states)

-- ---- inputs with equal feeds

self_follows : {P : Type 0} (machine : Machine P) → Follows (λ op p q. p ≡ q) machine machine
self_follows machine =
    record {
      first = λ op p q e. ap (machine.first op) e;
      bodies = λ op child p q e. record {
        actions = ap (λ p. (machine.bodies (machine.begins op child p)).actions) e;
        next = ap (λ p. (machine.bodies (machine.begins op child p)).next) e;
        at = ap (λ p. (machine.bodies (machine.begins op child p)).at) e;
      };
      starts = λ task thread arguments. refl;
      sets = λ register control v p q e. ap (machine.sets control v) e;
    }

kept_plans : Kept (λ left right. ⊤) plan_of
kept_plans =
    record { states = λ t begins child actions left right e. tt; views = λ t begins child held actions left right e. refl }

-- what is issued after so many steps stands at that position
issue_at : {P : Type 0} (machine : Machine P) (program : Program) (inputs : Inputs) (limits : Limits) (p t : ℕ) (begins : Next)
    (child : Option ℕ) (table : Table)
    → next_issue (before_by machine program inputs limits p).table ≡ Issue t begins child table
    → slice_get (order_by machine program inputs limits) p
    ≡ Some (subthread_of machine t begins child table (before_by machine program inputs limits p))
issue_at machine program inputs limits p t begins child table is = elim (cases_lt p (suc limits.subthreads)) [
  | inl l ↦ step_at (move_by machine) p (suc limits.subthreads) (opening_by machine program inputs limits) l
      ∙ ap (λ what. step_of (move_by machine) (on_turn_by machine (before_by machine program inputs limits p) what)) is
  | inr l ↦
      (let ended = end_law machine program inputs limits in
      let there : before_by machine program inputs limits p ≡ last_by machine program inputs limits =
      ap (before_by machine program inputs limits) (let e : p ≡ (p - suc limits.subthreads) + suc limits.subthreads = omega arith in e)
      ∙ stays_after (move_by machine) (suc limits.subthreads) (p - suc limits.subthreads) (opening_by machine program inputs limits) ended.0
      (ap (on_turn_by machine (last_by machine program inputs limits)) ended.1) in
      absurd (issue_ended (sym is ∙ ap (λ x. next_issue x.table) there ∙ ended.1)))
]
  where
    issue_ended : {ending : End} → Issue t begins child table ≡ Ended ending → ⊥
    issue_ended e = cc e

-- the records reach the machine by settles alone
same_machine : (program : Program) (inputs : Inputs) (limits : Limits) (records : List ℤ)
    → SettlesAlike program inputs (record { records = records; feeds = inputs.feeds }) limits
    → IsSameControl program inputs (record { records = records; feeds = inputs.feeds }) limits
same_machine program inputs limits records alike =
    record {
      order = (whole (suc limits.subthreads)).0;
      end = ends_alike (λ op p q. p ≡ q) machine machine (self_follows machine) (λ left right. ⊤) plan_of kept_plans
          (last_by machine program inputs limits) (last_by machine program (record { records = records; feeds = inputs.feeds }) limits)
          (whole (suc limits.subthreads)).1 (values (suc limits.subthreads));
      tables = λ p. (whole p).1.table;
      points = λ p t next e. (whole p).1.rests t next e;
    }
  where
    machine : Machine Point
    machine = tree_machine program inputs limits

    values : (p t : ℕ) (begins : Next) (child : Option ℕ) (table : Table)
        → next_issue (before_by (tree_machine program inputs limits) program inputs limits p).table ≡ Issue t begins child table
        → SameValue begins.sync t (before_by (tree_machine program inputs limits) program inputs limits p).state
        (before_by (tree_machine program inputs limits) program (record { records = records; feeds = inputs.feeds }) limits p).state
    values p t begins child table is = go begins.sync refl
      where
        go : (op : SyncOp) → begins.sync ≡ op
            → SameValue op t (before_by (tree_machine program inputs limits) program inputs limits p).state
            (before_by (tree_machine program inputs limits) program (record { records = records; feeds = inputs.feeds }) limits p).state
        go (sync.Settle register control) e =
            alike p (subthread_of (tree_machine program inputs limits) t begins child table
            (before_by (tree_machine program inputs limits) program inputs limits p)) register control
            (issue_at (tree_machine program inputs limits) program inputs limits p t begins child table is) e
        go sync.Start e = tt
        go (sync.Lock c) e = tt
        go (sync.Unlock c) e = tt
        go (sync.Fork task arguments) e = tt
        go (sync.Join h) e = tt
        go (sync.Barrier b) e = tt
        go sync.End e = tt
        go sync.BadIndex e = tt
        go sync.Spent e = tt

    whole : (k : ℕ)
        → (map plan_of (steps (move_by (tree_machine program inputs limits)) k
        (opening_by (tree_machine program inputs limits) program inputs limits))
        ≡ map plan_of (steps (move_by (tree_machine program inputs limits)) k
        (opening_by (tree_machine program inputs limits) program (record { records = records; feeds = inputs.feeds }) limits)))
        × InStep (λ op p q. p ≡ q) (λ left right. ⊤) (tree_machine program inputs limits) (tree_machine program inputs limits)
        (state_after (move_by (tree_machine program inputs limits)) k
        (opening_by (tree_machine program inputs limits) program inputs limits))
        (state_after (move_by (tree_machine program inputs limits)) k
        (opening_by (tree_machine program inputs limits) program (record { records = records; feeds = inputs.feeds }) limits))
    whole k =
        runs_alike (λ op p q. p ≡ q) (tree_machine program inputs limits) (tree_machine program inputs limits)
        (self_follows (tree_machine program inputs limits)) (λ left right. ⊤) plan_of kept_plans k
        (opening_by (tree_machine program inputs limits) program inputs limits)
        (opening_by (tree_machine program inputs limits) program (record { records = records; feeds = inputs.feeds }) limits)
        (opening_alike (λ op p q. p ≡ q) (tree_machine program inputs limits) (tree_machine program inputs limits)
        (self_follows (tree_machine program inputs limits)) program limits (λ left right. ⊤) inputs
        (record { records = records; feeds = inputs.feeds }) tt)
        (λ j l both. values j)

pub same_control : (program : Program) (inputs other : Inputs) (limits : Limits) → inputs.feeds ≡ other.feeds
    → SettlesAlike program inputs other limits → IsSameControl program inputs other limits
same_control program inputs other limits e =
    subst
    (λ feeds. SettlesAlike program inputs (record { records = other.records; feeds = feeds }) limits
    → IsSameControl program inputs (record { records = other.records; feeds = feeds }) limits)
    e (same_machine program inputs limits other.records)
