-- One control step of a thread on the tree. For example, `main` of this text of two lines makes these steps from i = 0:
--     task tell(n) { print n; }
--     task main() { var i; while i < 1 { i = i + 1; } fork tell(i + 1); print i; join 1; }
-- at `while` an Iteration, as i < 1 is 1: its block and the `while` again are left then; at `i = i + 1;` a Silent step,
-- to i = 1; at `while` a Silent step past it, as i < 1 is 0; at `fork` a Stop on line 2, before the fork of task 0 with
-- the argument 2. After the fork, at `print` an Act, which says the constant 1; at `join` a Stop on line 2, before the
-- join of thread 1. After the join no statement is left: a Stop on line 0, before the end.
use Rattle.std.specs.Prelude.{ℕ, suc, ℤ, pos, ◌+◌, cond, List, [], ◌∷◌, ◌++◌, map, Option, Some, None, unwrap_or, option_map, option_and_then, position, length}
use Rattle.gp_base.specs.declared.feed.Feed.{Feed}
use Rattle.task_ast.specs.declared.env.Env.{Env}
use Rattle.task_ast.specs.declared.sync.SyncOp.{SyncOp}
use Rattle.task_ast.specs.declared.sync.SyncOp.TheVariants as sync
use Rattle.task_ast.specs.declared.tree.Atom.{Atom}
use Rattle.task_ast.specs.declared.tree.Atom.TheVariants as atom
use Rattle.task_ast.specs.declared.tree.Param.{Param}
use Rattle.task_ast.specs.declared.tree.Param.TheVariants as param
use Rattle.task_ast.specs.meaning.Tree.{Name, Expr, Stmt, At, What, SetCtl, While, If, Lock, Unlock, Fork, Join, Barrier, Settle, SetReg, Read, Write, Print, When, Block, Nothing, Then, statements, TaskText, Program}
use Rattle.task_ast.specs.meaning.Names.{is_name, slot, locks_of, records_of, barriers_of, cell_number, registers_of, task_named, task_number}
use Rattle.task_ast.specs.meaning.Value.{value_at, value, branch}
use Rattle.task_ast.specs.meaning.Action.{of_registers, Action, Set, Load, Store, Say, Choose, Child, Give, Bring, Arm, NoAction, OneAction}
use Rattle.task_ast.specs.meaning.Table.{with_nth}
use Rattle.task_ast.specs.meaning.Body.{Step, Silent, Iteration, Act, Stop, Body, body}

-- what no thread changes
pub record Setting : Type 0 where
  pub program : Program
  pub feeds : List (Name × Feed)

-- where a thread stands: its task, the statements left, its control variables, its number
pub record Point : Type 0 where
  pub task : TaskText
  pub left : List Stmt
  pub names : List (Name × ℤ)
  pub me : ℕ

-- the same names in the same order, and the first x with this value
abbrev pub with_value : List (Name × ℤ) → Name → ℤ → List (Name × ℤ)
with_value [] x v = []
with_value (n ∷ names) x v = cond (is_name x n.0) ((n.0, v) ∷ names) (n ∷ with_value names x v)

-- the same names in the same order, and the one at this place with this value
abbrev pub with_number : List (Name × ℤ) → ℕ → ℤ → List (Name × ℤ)
with_number names k v = with_nth names k (λ n. (n.0, v))

-- the number that an atom stands for
abbrev pub index_of : Atom → Env → ℤ
index_of (atom.Num v) env = v
index_of (atom.Var x) env = value_at env.names x

-- the values of all, or none where one has none
abbrev pub all_of : {A : Type 0} → List (Option A) → Option (List A)
all_of [] = Some []
all_of (None ∷ xs) = None
all_of (Some x ∷ xs) = option_map (λ all. x ∷ all) (all_of xs)

-- the point that goes on with these statements
abbrev pub going : Point → List Stmt → Point
going p left = record p { left = left }

-- a stop before the synchronisation of a line
abbrev pub stop : SyncOp → ℕ → Step Point
stop op line = Stop (record { sync = op; line = line })

-- goes on with a value, or stops at an index fault
abbrev pub known : {A : Type 0} → ℕ → Option A → (A → Step Point) → Step Point
known line None go = stop sync.BadIndex line
known line (Some v) go = go v

-- the values of a fork's control arguments
abbrev pub control_arguments : List Param → List Expr → Env → Option (List ℤ)
control_arguments (param.Ctl x ∷ params) (e ∷ es) env =
    option_and_then (λ v. option_map (λ values. v ∷ values) (control_arguments params es env)) (value e env)
control_arguments (param.Reg x ∷ params) (e ∷ es) env = control_arguments params es env
control_arguments _ _ env = Some []

module _ (s : Setting) where
  -- what a control expression is read under
  abbrev pub env_at : Point → Env
  env_at p = record { names = p.names; regs = []; me = p.me; feeds = s.feeds }

  -- the number of a lock cell, or none outside its array
  abbrev pub lock_number : Name → Atom → Env → Option ℕ
  lock_number a i env = cell_number (locks_of s.program.heads) a (index_of i env)

  -- the number of a record cell, or none outside its record
  abbrev pub record_number : Name → Atom → Env → Option ℕ
  record_number r i env = cell_number (records_of s.program.heads) r (index_of i env)

  abbrev mutual
    -- a data statement's action, where the registers of its task have these names
    pub action : List Name → What → Env → Option Action
    action registers (SetReg x e) env = option_map (Set (slot registers x)) (of_registers registers e env)
    action registers (Read r i x) env = option_map (λ c. Load c (slot registers x)) (record_number r i env)
    action registers (Write r i e) env = option_and_then (λ c. option_map (Store c) (of_registers registers e env)) (record_number r i env)
    action registers (Print es) env = option_map Say (all_of (map (λ e. of_registers registers e env) es))
    action registers (When e a b) env =
        option_and_then (λ t. option_and_then (λ x. option_map (Choose t x) (arm registers b env)) (arm registers a env))
        (of_registers registers e env)
    action registers _ env = None

    -- the actions of a block of data statements
    pub arm : List Name → Block → Env → Option Arm
    arm registers Nothing env = Some NoAction
    arm registers (Then st b) env = option_and_then (λ x. option_map (OneAction x) (arm registers b env)) (action_of registers st env)

    -- the action of a data statement
    pub action_of : List Name → Stmt → Env → Option Action
    action_of registers (At line w) env = action registers w env

  -- the actions of a fork's data arguments; the registers of the new task have the names in `given`
  abbrev pub data_arguments : (given registers : List Name) → List Param → List Expr → Env → Option (List Action)
  data_arguments given registers (param.Ctl x ∷ params) (e ∷ es) env = data_arguments given registers params es env
  data_arguments given registers (param.Reg x ∷ params) (e ∷ es) env =
      option_and_then (λ t. option_map (λ actions. Give (slot given x) t ∷ actions)
      (data_arguments given registers params es env)) (of_registers registers e env)
  data_arguments given registers _ _ env = Some []

  -- the arguments of a fork of this task: the control values, and the actions that make the child's registers
  abbrev pub fork_arguments : TaskText → List Expr → Point → Option (List ℤ × List Action)
  fork_arguments task es p =
      option_and_then (λ values. option_map (λ actions. (values, Child (length (registers_of task)) ∷ actions))
      (data_arguments (registers_of task) (registers_of p.task) task.params es (env_at p)))
      (control_arguments task.params es (env_at p))

  -- the arguments of a fork of the task of this name
  abbrev pub fork_named : Name → List Expr → Point → Option (List ℤ × List Action)
  fork_named t es p = option_and_then (λ task. fork_arguments task es p) (task_named s.program t)

  -- the step at a statement that has these statements after it
  abbrev pub step_at : (line : ℕ) → What → List Stmt → Point → Step Point
  step_at line (SetCtl x e) rest p =
      known line (value e (env_at p)) (λ v. Silent (record p { left = rest; names = with_value p.names x v }))
  step_at line (While e b) rest p =
      known line (value e (env_at p)) (λ v. branch v (Iteration (going p (statements b ++ (At line (While e b) ∷ rest))))
      (Silent (going p rest)))
  step_at line (If e a b) rest p =
      known line (value e (env_at p)) (λ v. branch v (Silent (going p (statements a ++ rest))) (Silent (going p (statements b ++ rest))))
  step_at line (Lock a i) rest p = known line (lock_number a i (env_at p)) (λ l. stop (sync.Lock l) line)
  step_at line (Unlock a i) rest p = known line (lock_number a i (env_at p)) (λ l. stop (sync.Unlock l) line)
  step_at line (Fork t es x) rest p =
      known line (fork_named t es p) (λ arguments. stop (sync.Fork (unwrap_or (task_number s.program t) 0) arguments.0) line)
  step_at line (Join e x) rest p = known line (value e (env_at p)) (λ h. stop (sync.Join h) line)
  step_at line (Barrier b) rest p =
      known line (position (λ other. is_name b other.0) (barriers_of s.program.heads)) (λ n. stop (sync.Barrier n) line)
  step_at line (Settle x c) rest p = stop (sync.Settle (slot (registers_of p.task) x) (slot (map (λ n. n.0) p.names) c)) line
  step_at line w rest p = known line (action (registers_of p.task) w (env_at p)) (λ a. Act a (going p rest))

  -- the step at the first of these statements; after the last one the task ends
  abbrev pub step_from : List Stmt → Point → Step Point
  step_from [] p = stop sync.End 0
  step_from (At line w ∷ rest) p = step_at line w rest p

  -- the control step
  abbrev pub step : Point → Step Point
  step p = step_from p.left p

  -- the actions of the synchronisation at a point, with which the next subthread begins
  abbrev pub begin_actions : List Stmt → Point → List Action
  begin_actions (At line (Fork t es x) ∷ rest) p = unwrap_or (option_map (λ arguments. arguments.1) (fork_named t es p)) []
  begin_actions (At line (Join e (Some x)) ∷ rest) p = Bring (slot (registers_of p.task) x) ∷ []
  begin_actions _ p = []

-- after the synchronisation at a point; a fork's variable then holds the child's number
abbrev pub behind : Option ℕ → Point → List Stmt → Point
behind child p [] = p
behind (Some c) p (At line (Fork t es (Some x)) ∷ rest) = record p { left = rest; names = with_value p.names x (pos c) }
behind child p (s ∷ rest) = going p rest

-- the point at which a subthread begins
abbrev pub beginning : SyncOp → Option ℕ → Point → Point
beginning sync.Start child p = p
beginning _ child p = behind child p p.left

-- the actions with which a subthread begins
abbrev pub first_actions : Setting → SyncOp → Point → List Action
first_actions s sync.Start p = []
first_actions s _ p = begin_actions s p.left p

abbrev mutual
  -- how many statements a statement has, itself and those of an `if`
  pub weight : Stmt → ℕ
  weight (At line w) = suc (inner w)

  -- how many statements stand inside a statement
  pub inner : What → ℕ
  inner (If e a b) = weight_of a + weight_of b
  inner _ = 0

  -- how many statements a block has
  pub weight_of : Block → ℕ
  weight_of Nothing = 0
  weight_of (Then s b) = weight s + weight_of b

-- how many statements a list has
abbrev pub weights : List Stmt → ℕ
weights [] = 0
weights (s ∷ left) = weight s + weights left

-- without a loop turn there are at most so many steps
abbrev pub size : Point → ℕ
size p = weights p.left

-- the body from a point of the tree
abbrev pub tree_body : Setting → ℕ → Point → Body Point
tree_body s turns p = body (step s) size turns p
