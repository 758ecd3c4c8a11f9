-- What a subthread leaves: its thread keeps as many registers as it had, the child of a fork has the registers of its task, and the
-- cells that are written stand under the locks that it holds.
use Rattle.std.proofs.Common.{◌≡◌, ℕ, zero, suc, Bool, true, false, List, [], ◌∷◌, ◌++◌, length, map, Option, Some, None, refl, sym, ap, ◌∙◌, subst, option_map, option_and_then, unwrap_or}
use Rattle.std.specs.Prelude.{⊤, ℤ, pos, negsuc, cond, position, replicate, All, IsTrue}
use Rattle.std.specs.Ordering.{nat_cmp, eq_by_cmp, is_eq}
use Rattle.std.specs.FinMap.{find}
use Rattle.std.specs.Cmp.{nat_cmp_total, tied_itself}
use Rattle.std.proofs.lemmas.List.{length-set, length-replicate}
use Rattle.std.proofs.lemmas.List.Elements.{All-nil, All-cons, All-head, All-tail}
use Rattle.gp_base.specs.declared.limits.Limits.{Limits}
use Rattle.gp_base.specs.declared.feed.Inputs.{Inputs}
use Rattle.task_ast.specs.declared.env.Env.{Env}
use Rattle.task_ast.specs.declared.sync.SyncOp.{SyncOp}
use Rattle.task_ast.specs.declared.sync.SyncOp.TheVariants as sync
use Rattle.task_ast.specs.declared.sync.Next.{Next}
use Rattle.task_ast.specs.declared.tree.Param.{Param}
use Rattle.task_ast.specs.declared.tree.Param.TheVariants as param
use Rattle.task_ast.specs.meaning.Tree.{Name, Expr, Stmt, At, What, SetCtl, While, If, Lock, Unlock, Fork, Join, Barrier, Settle, SetReg, Read, Write, Print, When, Block, Nothing, Then, TaskText, Program}
use Rattle.task_ast.specs.meaning.Names.{is_name, barriers_of, registers_of, task_named, task_number, slot}
use Rattle.task_ast.specs.meaning.Value.{value, branch}
use Rattle.task_ast.specs.meaning.Action.{of_registers, Action, Set, Load, Store, Say, Choose, Child, Give, Bring, Arm, NoAction, OneAction}
use Rattle.task_ast.specs.meaning.Body.{Step, Silent, Iteration, Act, Stop, Body, follow, stretch, body}
use Rattle.task_ast.specs.meaning.Control.{Setting, Point, known, action, arm, lock_number, record_number, all_of, control_arguments, data_arguments, fork_arguments, fork_named, step_at, step_from, step, size, begin_actions, env_at, tree_body}
use Rattle.task_ast.specs.meaning.State.{State, RegistersOf, cell_value}
use Rattle.task_ast.specs.meaning.Effect.{Doing, cell_now, done, arm_done, all_done, joined_ret, effect}
use Rattle.task_ast.specs.meaning.Turn.{child_of}
use Rattle.task_ast.specs.meaning.Under.{is_under}
use Rattle.task_ast.specs.Under.{KeepsToLocks}
use Rattle.task_ast.specs.meaning.Plain.{Subthread, task_at, no_task}
use Rattle.task_ast.specs.Plain.{Plain, tree_machine, from_by, setting}
use Rattle.task_ast.specs.Position.{IsStep, point_in}
use Rattle.task_ast.proofs.Keeping.{names_write, writes_within}
use Rattle.task_ast.proofs.LessTurns.{inside_of}
use Rattle.lock_checker.specs.Soundness.{LocksStand, IsAhead, at_start, at_stop, at_limit}
use Rattle.lock_checker.proofs.StepStops.{IsOther, Stops, locking, unlocking, forking, ending, otherwise, failing, stops_from, task_there}
use Rattle.retirement_log.specs.meaning.Log.{numbered, child_left}
use Rattle.gp_resume.specs.meaning.Fitting.{StandsUnder, child_size}

-- ---- registers

picked_keeps : (P : Doing → Type 0) (v : ℤ) (a b : Doing) → P a → P b → P (branch v a b)
picked_keeps P (pos zero) a b first second = second
picked_keeps P (pos (suc n)) a b first second = first
picked_keeps P (negsuc n) a b first second = first

module _ (cells : ℕ → ℤ) (joined : ℤ) where
  mutual
    done_registers : (a : Action) (d : Doing) → length (done cells joined a d).registers ≡ length d.registers
    done_registers (Set k t) d = length-set d.registers k (t d.registers)
    done_registers (Load c k) d = length-set d.registers k (cell_now cells joined d c)
    done_registers (Store c t) d = refl
    done_registers (Say ts) d = refl
    done_registers (Choose t a b) d =
        picked_keeps (λ e. length e.registers ≡ length d.registers) (t d.registers)
        (arm_done cells joined a d) (arm_done cells joined b d)
        (arm_registers a d) (arm_registers b d)
    done_registers (Child count) d = refl
    done_registers (Give k t) d = refl
    done_registers (Bring k) d = length-set d.registers k joined

    arm_registers : (x : Arm) (d : Doing) → length (arm_done cells joined x d).registers ≡ length d.registers
    arm_registers NoAction d = refl
    arm_registers (OneAction a x) d = arm_registers x (done cells joined a d) ∙ done_registers a d

  -- actions leave as many registers as there were
  pub all_registers : (actions : List Action) (d : Doing) → length (all_done cells joined actions d).registers ≡ length d.registers
  all_registers [] d = refl
  all_registers (a ∷ actions) d = all_registers actions (done cells joined a d) ∙ done_registers a d

-- ---- the registers of a child

abbrev mutual
  -- the action makes no child
  pub BearsNone : Action → Type 0
  BearsNone (Child count) = ⊥
  BearsNone (Choose t a b) = ArmBearsNone a × ArmBearsNone b
  BearsNone _ = ⊤

  pub ArmBearsNone : Arm → Type 0
  ArmBearsNone NoAction = ⊤
  ArmBearsNone (OneAction a x) = BearsNone a × ArmBearsNone x

abbrev pub AllBearNone : List Action → Type 0
AllBearNone [] = ⊤
AllBearNone (a ∷ actions) = BearsNone a × AllBearNone actions

-- the first of the actions makes a child with so many registers, and the others make none
pub record BearsOne (count : ℕ) (actions : List Action) : Type 0 where
  pub gifts : List Action
  pub are : actions ≡ Child count ∷ gifts
  pub none : AllBearNone gifts

none_append : (first rest : List Action) → AllBearNone first → AllBearNone rest → AllBearNone (first ++ rest)
none_append [] rest none more = more
none_append (a ∷ first) rest none more = (none.0, none_append first rest none.1 more)

module _ (cells : ℕ → ℤ) (joined : ℤ) where
  mutual
    done_child : (a : Action) (d : Doing) → BearsNone a → length (done cells joined a d).child ≡ length d.child
    done_child (Set k t) d none = refl
    done_child (Load c k) d none = refl
    done_child (Store c t) d none = refl
    done_child (Say ts) d none = refl
    done_child (Choose t a b) d none =
        picked_keeps (λ e. length e.child ≡ length d.child) (t d.registers)
        (arm_done cells joined a d) (arm_done cells joined b d)
        (arm_child a d none.0) (arm_child b d none.1)
    done_child (Child count) d none = absurd none
    done_child (Give k t) d none = length-set d.child k (t d.registers)
    done_child (Bring k) d none = refl

    arm_child : (x : Arm) (d : Doing) → ArmBearsNone x → length (arm_done cells joined x d).child ≡ length d.child
    arm_child NoAction d none = refl
    arm_child (OneAction a x) d none = arm_child x (done cells joined a d) none.1 ∙ done_child a d none.0

  all_child : (actions : List Action) (d : Doing) → AllBearNone actions → length (all_done cells joined actions d).child ≡ length d.child
  all_child [] d none = refl
  all_child (a ∷ actions) d none = all_child actions (done cells joined a d) none.1 ∙ done_child a d none.0

  -- the child has so many registers
  child_has : (count : ℕ) (first rest : List Action) (d : Doing) → BearsOne count first → AllBearNone rest
      → length (all_done cells joined (first ++ rest) d).child ≡ count
  child_has count first rest d bears none =
      ap (λ actions. length (all_done cells joined (actions ++ rest) d).child) bears.are
      ∙ (all_child (bears.gifts ++ rest) (record d { child = replicate count (pos 0) }) (none_append bears.gifts rest bears.none none)
      ∙ length-replicate count (pos 0))

-- ---- a body makes no child

-- what an option gives through a function comes from what it holds
mapped : {A B : Type 0} (P : B → Type 0) (o : Option A) (f : A → B) (b : B) → ((a : A) → o ≡ Some a → P (f a))
    → option_map f o ≡ Some b → P b
mapped P None f b holds is = absurd (cc is)
mapped P (Some a) f b holds is = subst P (ap (λ o. unwrap_or o b) is) (holds a refl)

chained : {A B : Type 0} (P : B → Type 0) (o : Option A) (f : A → Option B) (b : B) → ((a : A) → o ≡ Some a → f a ≡ Some b → P b)
    → option_and_then f o ≡ Some b → P b
chained P None f b holds is = absurd (cc is)
chained P (Some a) f b holds is = holds a refl is

abbrev StepBearsNone : Step Point → Type 0
StepBearsNone (Act a q) = BearsNone a
StepBearsNone _ = ⊤

known_bears : {A : Type 0} (line : ℕ) (o : Option A) (go : A → Step Point) → ((v : A) → o ≡ Some v → StepBearsNone (go v))
    → StepBearsNone (known line o go)
known_bears line None go bears = tt
known_bears line (Some v) go bears = bears v refl

branch_bears : (v : ℤ) (x y : Step Point) → StepBearsNone x → StepBearsNone y → StepBearsNone (branch v x y)
branch_bears (pos zero) x y first second = second
branch_bears (pos (suc n)) x y first second = first
branch_bears (negsuc n) x y first second = first

module _ (s : Setting) where
  module _ (registers : List Name) (env : Env) where
    mutual
      action_bears : (w : What) (a : Action) → action s registers w env ≡ Some a → BearsNone a
      action_bears (SetReg x e) a is = mapped BearsNone (of_registers registers e env) (Set (slot registers x)) a (λ t known. tt) is
      action_bears (Read r i x) a is =
          mapped BearsNone (record_number s r i env) (λ c. Load c (slot registers x)) a (λ c known. tt) is
      action_bears (Write r i e) a is =
          chained BearsNone (record_number s r i env) (λ c. option_map (Store c) (of_registers registers e env)) a
          (λ c known there. mapped BearsNone (of_registers registers e env) (Store c) a (λ t known. tt) there) is
      action_bears (Print es) a is = mapped BearsNone (all_of (map (λ e. of_registers registers e env) es)) Say a (λ ts known. tt) is
      action_bears (When e x y) a is =
          chained BearsNone (of_registers registers e env) _ a
          (λ t known there. chained BearsNone (arm s registers x env) _ a
          (λ first known_first further. mapped BearsNone (arm s registers y env) (Choose t first) a
          (λ second known_second. (arm_bears x first known_first, arm_bears y second known_second)) further) there) is
      action_bears (SetCtl x e) a is = absurd (cc is)
      action_bears (While e b) a is = absurd (cc is)
      action_bears (If e b c) a is = absurd (cc is)
      action_bears (Lock x i) a is = absurd (cc is)
      action_bears (Unlock x i) a is = absurd (cc is)
      action_bears (Fork t es x) a is = absurd (cc is)
      action_bears (Join e x) a is = absurd (cc is)
      action_bears (Barrier b) a is = absurd (cc is)
      action_bears (Settle x c) a is = absurd (cc is)

      arm_bears : (b : Block) (x : Arm) → arm s registers b env ≡ Some x → ArmBearsNone x
      arm_bears Nothing x is = subst ArmBearsNone (ap (λ o. unwrap_or o x) is) tt
      arm_bears (Then (At line w) b) x is =
          chained ArmBearsNone (action s registers w env) _ x
          (λ a known there. mapped ArmBearsNone (arm s registers b env) (OneAction a) x
          (λ rest known_rest. (action_bears w a known, arm_bears b rest known_rest)) there) is

  step_bears_at : (line : ℕ) (w : What) (rest : List Stmt) (p : Point) → StepBearsNone (step_at s line w rest p)
  step_bears_at line (SetCtl x e) rest p = known_bears line (value e (env_at s p)) _ (λ v known. tt)
  step_bears_at line (While e b) rest p = known_bears line (value e (env_at s p)) _ (λ v known. branch_bears v _ _ tt tt)
  step_bears_at line (If e a b) rest p = known_bears line (value e (env_at s p)) _ (λ v known. branch_bears v _ _ tt tt)
  step_bears_at line (Lock a i) rest p = known_bears line (lock_number s a i (env_at s p)) _ (λ l known. tt)
  step_bears_at line (Unlock a i) rest p = known_bears line (lock_number s a i (env_at s p)) _ (λ l known. tt)
  step_bears_at line (Fork t es x) rest p = known_bears line (fork_named s t es p) _ (λ arguments known. tt)
  step_bears_at line (Join e x) rest p = known_bears line (value e (env_at s p)) _ (λ h known. tt)
  step_bears_at line (Barrier b) rest p =
      known_bears line (position (λ other. is_name b other.0) (barriers_of s.program.heads)) _ (λ n known. tt)
  step_bears_at line (Settle x c) rest p = tt
  step_bears_at line (SetReg x e) rest p =
      known_bears line (action s (registers_of p.task) (SetReg x e) (env_at s p)) _
      (λ a known. action_bears (registers_of p.task) (env_at s p) (SetReg x e) a known)
  step_bears_at line (Read r i x) rest p =
      known_bears line (action s (registers_of p.task) (Read r i x) (env_at s p)) _
      (λ a known. action_bears (registers_of p.task) (env_at s p) (Read r i x) a known)
  step_bears_at line (Write r i e) rest p =
      known_bears line (action s (registers_of p.task) (Write r i e) (env_at s p)) _
      (λ a known. action_bears (registers_of p.task) (env_at s p) (Write r i e) a known)
  step_bears_at line (Print es) rest p =
      known_bears line (action s (registers_of p.task) (Print es) (env_at s p)) _
      (λ a known. action_bears (registers_of p.task) (env_at s p) (Print es) a known)
  step_bears_at line (When e x y) rest p =
      known_bears line (action s (registers_of p.task) (When e x y) (env_at s p)) _
      (λ a known. action_bears (registers_of p.task) (env_at s p) (When e x y) a known)

  step_bears : (left : List Stmt) (p : Point) → StepBearsNone (step_from s left p)
  step_bears [] p = tt
  step_bears (At line w ∷ rest) p = step_bears_at line w rest p

  abbrev TurnBears : Option (Point → Body Point) → Type 0
  TurnBears None = ⊤
  TurnBears (Some turned) = (q : Point) → AllBearNone (turned q).actions

  follow_bears : (turned : Option (Point → Body Point)) (p : Point) (st : Step Point) (go : Point → Body Point)
      → TurnBears turned → StepBearsNone st
      → ((q : Point) → AllBearNone (go q).actions) → AllBearNone (follow p st go turned).actions
  follow_bears turned p (Silent q) go turn bears on = on q
  follow_bears turned p (Act a q) go turn bears on = (bears, on q)
  follow_bears None p (Iteration q) go turn bears on = tt
  follow_bears (Some turned) p (Iteration q) go turn bears on = turn q
  follow_bears turned p (Stop next) go turn bears on = tt

  stretch_bears : (turned : Option (Point → Body Point)) (n : ℕ) (p : Point) → TurnBears turned
      → AllBearNone (stretch (step s) size turned n p).actions
  unfolding stretch
  stretch_bears turned zero p turn = tt
  stretch_bears turned (suc n) p turn =
      follow_bears turned p (step s p) (stretch (step s) size turned n) turn (step_bears p.left p) (λ q. stretch_bears turned n q turn)

  pub body_bears : (turns : ℕ) (p : Point) → AllBearNone (tree_body s turns p).actions
  unfolding body
  body_bears zero p = stretch_bears None (suc (size p)) p tt
  body_bears (suc turns) p = stretch_bears (Some (body (step s) size turns)) (suc (size p)) p (body_bears turns)

  -- ---- a fork makes one

  -- the actions of data arguments make no child
  gifts_bear : (given registers : List Name) (params : List Param) (es : List Expr) (env : Env) (actions : List Action)
      → data_arguments s given registers params es env ≡ Some actions → AllBearNone actions
  gifts_bear given registers (param.Ctl x ∷ params) (e ∷ es) env actions is = gifts_bear given registers params es env actions is
  gifts_bear given registers (param.Reg x ∷ params) (e ∷ es) env actions is =
      chained AllBearNone (of_registers registers e env) _ actions
      (λ t known there. mapped AllBearNone (data_arguments s given registers params es env)
      (λ rest. Give (slot given x) t ∷ rest) actions
      (λ rest known_rest. (tt, gifts_bear given registers params es env rest known_rest)) there) is
  gifts_bear given registers [] es env actions is = subst AllBearNone (ap (λ o. unwrap_or o []) is) tt
  gifts_bear given registers (param.Ctl x ∷ params) [] env actions is = subst AllBearNone (ap (λ o. unwrap_or o []) is) tt
  gifts_bear given registers (param.Reg x ∷ params) [] env actions is = subst AllBearNone (ap (λ o. unwrap_or o []) is) tt

  -- the arguments of a fork of a task make a child with its registers
  arguments_bear : (task : TaskText) (es : List Expr) (p : Point) (arguments : List ℤ × List Action)
      → fork_arguments s task es p ≡ Some arguments → BearsOne (length (registers_of task)) arguments.1
  arguments_bear task es p arguments is =
      chained Bears (control_arguments task.params es (env_at s p)) _ arguments
      (λ values known there. mapped Bears
      (data_arguments s (registers_of task) (registers_of p.task) task.params es (env_at s p)) _ arguments
      (λ gifts given. record {
        gifts = gifts;
        are = refl;
        none = gifts_bear (registers_of task) (registers_of p.task) task.params es (env_at s p) gifts given;
      }) there) is
    where
      Bears : List ℤ × List Action → Type 0
      Bears made = BearsOne (length (registers_of task)) made.1

  -- a fork of the task of this name makes a child with the registers of the task of its number
  fork_bears : (t : Name) (es : List Expr) (p : Point) (arguments : List ℤ × List Action) → fork_named s t es p ≡ Some arguments
      → BearsOne (length (registers_of (task_at s.program (unwrap_or (task_number s.program t) 0)))) arguments.1
  fork_bears t es p arguments is =
      chained (λ made. BearsOne (length (registers_of (task_at s.program (unwrap_or (task_number s.program t) 0)))) made.1)
      (task_named s.program t) (λ task. fork_arguments s task es p) arguments
      (λ task named there. subst (λ same. BearsOne (length (registers_of same)) arguments.1)
      (sym (ap (λ o. unwrap_or o no_task) (task_there s.program t task named))) (arguments_bear task es p arguments there)) is

  abbrev sync_in : Step Point → SyncOp
  sync_in (Stop next) = next.sync
  sync_in _ = sync.End

  abbrev task_in : SyncOp → ℕ
  task_in (sync.Fork k arguments) = k
  task_in _ = 0

  -- so a thread that stops before a fork begins with actions that make the child
  stop_bears : {env : Env} {left : List Stmt} {op : SyncOp} → Stops s env left op → (p : Point) (next : Next) (k : ℕ) (values : List ℤ)
      → step_from s left p ≡ Stop next → op ≡ sync.Fork k values → next.sync ≡ sync.Fork k values
      → BearsOne (length (registers_of (task_at s.program k))) (begin_actions s left p)
  stop_bears (locking known) p next k values is fork same = absurd (cc fork)
  stop_bears (unlocking known) p next k values is fork same = absurd (cc fork)
  stop_bears (forking {line = line} {t = t} {es = es} task named) p next k values is fork same = go (fork_named s t es p) refl is
    where
      number : ℕ
      number = unwrap_or (task_number s.program t) 0

      go : (o : Option (List ℤ × List Action)) → fork_named s t es p ≡ o
          → known line o (λ arguments. Stop (record { sync = sync.Fork number arguments.0; line = line })) ≡ Stop next
          → BearsOne (length (registers_of (task_at s.program k))) (unwrap_or (option_map (λ arguments. arguments.1) o) [])
      go None there is = absurd (let bad : sync.BadIndex ≡ sync.Fork k values = ap sync_in is ∙ same in cc bad)
      go (Some arguments) there is =
          subst (λ n. BearsOne (length (registers_of (task_at s.program n))) arguments.1) (ap task_in (ap sync_in is ∙ same))
          (fork_bears t es p arguments there)
  stop_bears ending p next k values is fork same = absurd (cc fork)
  stop_bears (otherwise other keeps) p next k values is fork same = absurd (subst IsOther fork other)
  stop_bears failing p next k values is fork same = absurd (cc fork)

module _ (program : Program) (inputs : Inputs) (limits : Limits) (x : Plain) (stands : LocksStand program inputs limits x)
    (s : Subthread) (y : Plain) (step_is : IsStep (tree_machine program inputs limits) x s y) where
  abbrev start : Doing
  start = record { registers = x.state (RegistersOf s.thread); child = []; written = []; lines = [] }

  abbrev made : List Action → Doing
  made actions = all_done (cell_value x.state) (joined_ret s.begins.sync x.state) actions start

  -- what the subthread leaves to a child of this number, if there is one
  abbrev left_for : Option ℕ → List ℤ
  left_for child = child_left (option_map (λ c. (c, (made s.actions).child)) child)

  -- where the thread stands
  abbrev point : Point
  point = point_in program inputs limits x s.thread

  -- what comes next there is the synchronisation that it begins with
  ahead_bears : (k : ℕ) (values : List ℤ) → s.begins.sync ≡ sync.Fork k values → IsAhead (setting program inputs limits) point s.begins
      → BearsOne (length (registers_of (task_at program k))) (begin_actions (setting program inputs limits) point.left point)
  ahead_bears k values fork (at_start e) = absurd (let same = sym e ∙ fork in cc same)
  ahead_bears k values fork (at_limit e) = absurd (let same = ap (λ (n : Next). n.sync) (sym e) ∙ fork in cc same)
  ahead_bears k values fork (at_stop e) =
      stop_bears (setting program inputs limits) (stops_from (setting program inputs limits) point.left point s.begins e)
      point s.begins k values e fork fork

  fork_child : (k : ℕ) (values : List ℤ) → s.begins.sync ≡ sync.Fork k values
      → length (made s.actions).child ≡ length (registers_of (task_at program k))
  fork_child k values fork =
      ap (λ actions. length (made actions).child) step_is.actions
      ∙ child_has (cell_value x.state) (joined_ret s.begins.sync x.state) (length (registers_of (task_at program k))) _ _ start first
      (body_bears (setting program inputs limits) limits.turns _)
    where
      -- the actions of a synchronisation at the point from which it goes on
      firsts : SyncOp → List Action
      firsts op = (tree_machine program inputs limits).first op (from_by (tree_machine program inputs limits) x op s.thread)

      ahead : IsAhead (setting program inputs limits) point s.begins
      ahead = stands.ahead s.thread s.begins (inside_of x.table.seats s.thread s.begins step_is.begins) step_is.begins

      first : BearsOne (length (registers_of (task_at program k))) (firsts s.begins.sync)
      first = subst (λ op. BearsOne (length (registers_of (task_at program k))) (firsts op)) (sym fork) (ahead_bears k values fork ahead)

  child_by : (op : SyncOp) → s.begins.sync ≡ op → length (left_for (child_of op (length x.table.seats))) ≡ child_size program op
  child_by (sync.Fork k values) is = fork_child k values is
  child_by sync.Start is = refl
  child_by (sync.Lock l) is = refl
  child_by (sync.Unlock l) is = refl
  child_by (sync.Join h) is = refl
  child_by (sync.Barrier b) is = refl
  child_by (sync.Settle register control) is = refl
  child_by sync.End is = refl
  child_by sync.BadIndex is = refl
  child_by sync.Spent is = refl

  -- a subthread leaves a child the registers of its task, and leaves none where it forks none
  pub child_is : length (child_left (effect s.thread s.begins.sync s.child s.actions x.state).child) ≡ child_size program s.begins.sync
  child_is =
      ap (λ (child : Option ℕ). length (left_for child)) step_is.child ∙ child_by s.begins.sync refl

-- ---- cells

module _ (test : ℕ → Bool) where
  -- the cell that is written passes the test
  abbrev Passes : ℕ × ℤ → Type 0
  Passes write = IsTrue (test write.0)

  -- each cell passes where each that is found does
  all_found : (writes : List (ℕ × ℤ)) → ((c : ℕ) → (find nat_cmp c writes ≡ None → ⊥) → test c ≡ true) → All Passes writes
  all_found [] passes = All-nil Passes
  all_found (w ∷ writes) passes =
      All-cons Passes w writes (passes w.0 here) (all_found writes (λ c some. passes c (later c some (eq_by_cmp nat_cmp c w.0))))
    where
      first : eq_by_cmp nat_cmp w.0 w.0 ≡ true
      first = ap is_eq (tied_itself nat_cmp_total w.0)

      here : find nat_cmp w.0 (w ∷ writes) ≡ None → ⊥
      here e = let some : Some w.1 ≡ None = sym (ap (λ b. cond b (Some w.1) (find nat_cmp w.0 writes)) first) ∙ e in cc some

      later : (c : ℕ) → (find nat_cmp c writes ≡ None → ⊥) → (b : Bool) → cond b (Some w.1) (find nat_cmp c writes) ≡ None → ⊥
      later c some true e = cc e
      later c some false e = some e

module _ (under : List (List ℕ)) (s : Subthread) where
  -- the cell stands under a lock that the subthread holds
  abbrev Stands : ℤ × ℤ → Type 0
  Stands cell = StandsUnder under s.held cell.0

  all_stand : (writes : List (ℕ × ℤ)) → All (Passes (is_under under s.held)) writes → All Stands (map numbered writes)
  all_stand [] all = All-nil Stands
  all_stand (w ∷ writes) all =
      All-cons Stands (numbered w) (map numbered writes) (w.0, refl, All-head (Passes (is_under under s.held)) w writes all)
      (all_stand writes (All-tail (Passes (is_under under s.held)) w writes all))

  -- so does each cell that it writes, where it keeps to its locks
  pub cells_under_held : (state : State) → KeepsToLocks under s
      → All Stands (map numbered (effect s.thread s.begins.sync s.child s.actions state).writes)
  cells_under_held state keeps =
      let writes : List (ℕ × ℤ) = (effect s.thread s.begins.sync s.child s.actions state).writes in
      let named = names_write (is_under under s.held) s.actions keeps in
      all_stand writes (all_found (is_under under s.held) writes
      (writes_within (is_under under s.held) s.thread s.begins.sync s.child s.actions state named))
