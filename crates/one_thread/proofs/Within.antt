-- The actions of a body name cells of the records alone. A cell of an array is below the number of all cells, so that a
-- step that acts names only cells of the records (ActsWithin). That goes on through the steps of a body, and holds of
-- the actions with which a subthread begins.
use Rattle.std.proofs.Common.{◌≡◌, ℕ, zero, suc, ◌+◌, ◌<◌, ℤ, pos, negsuc, Bool, true, false, cond, List, [], ◌∷◌, ◌++◌, Option, Some, None, refl, subst, arith, option_map, option_and_then, nat_lt, unwrap_or, length}
use Rattle.std.proofs.lemmas.Bool.{lt-ltb, ltb-true}
use Rattle.task_ast.specs.meaning.Value.{branch}
use Rattle.task_ast.specs.declared.env.Env.{Env}
use Rattle.task_ast.specs.declared.tree.Param.{Param}
use Rattle.task_ast.specs.declared.tree.Param.TheVariants as param
use Rattle.task_ast.specs.declared.sync.Next.{Next}
use Rattle.task_ast.specs.declared.sync.SyncOp.{SyncOp}
use Rattle.task_ast.specs.declared.sync.SyncOp.TheVariants as sync
use Rattle.task_ast.specs.meaning.Tree.{Name, Expr, Stmt, At, What, SetCtl, While, If, Lock, Unlock, Fork, Join, Barrier, Settle, SetReg, Read, Write, Print, When, Block, Nothing, Then, TaskText}
use Rattle.task_ast.specs.meaning.Names.{is_name, place, cell_number, cells_in, records_of, registers_of, task_named, slot}
use Rattle.task_ast.specs.meaning.Action.{OfRegisters, Action, Store, Say, Choose, Child, Give, Arm, OneAction, of_registers}
use Rattle.task_ast.specs.meaning.Body.{Step, Silent, Iteration, Act, Stop, Body, follow, stretch, body}
use Rattle.task_ast.specs.meaning.Control.{Setting, Point, known, going, env_at, action, arm, action_of, record_number, data_arguments, control_arguments, fork_arguments, begin_actions, first_actions, step, step_at, step_from, size, tree_body}
use Rattle.task_ast.specs.laws.Keeps.{NamesOnly, ArmNamesOnly, AllName}
use Rattle.task_ast.proofs.Arms.{some_is}

place-below : (size : ℕ) (i : ℤ) (c : ℕ) → place size i ≡ Some c → c < size
place-below size (pos n) c is = go (nat_lt n size) refl is
  where
    go : (b : Bool) → nat_lt n size ≡ b → cond b (Some n) None ≡ Some c → c < size
    go true less is = let n_is : n ≡ c = some_is is in let within = ltb-true n size less in omega arith
    go false less is = absurd (cc is)
place-below size (negsuc n) c is = absurd (cc is)

-- a cell's number is below the number of cells
pub cell-below : (arrays : List (Name × ℕ)) (x : Name) (i : ℤ) (c : ℕ) → cell_number arrays x i ≡ Some c → c < cells_in arrays
cell-below [] x i c is = absurd (cc is)
cell-below (a ∷ arrays) x i c is = go (is_name x a.0) is (λ d at. cell-below arrays x i d at)
  where
    later : (o : Option ℕ) → ((d : ℕ) → o ≡ Some d → d < cells_in arrays) → option_map (λ n. a.1 + n) o ≡ Some c → c < a.1 + cells_in arrays
    later None below is = absurd (cc is)
    later (Some d) below is = let sum : a.1 + d ≡ c = some_is is in let less = below d refl in omega arith

    go : (b : Bool) → cond b (place a.1 i) (option_map (λ n. a.1 + n) (cell_number arrays x i)) ≡ Some c
        → ((d : ℕ) → cell_number arrays x i ≡ Some d → d < cells_in arrays) → c < a.1 + cells_in arrays
    go true is below = let less = place-below a.1 i c is in omega arith
    go false is below = later (cell_number arrays x i) below is

module _ (test : ℕ → Bool) where
  mapped : {X : Type 0} (f : X → Action) (o : Option X) (a : Action) → ((x : X) → o ≡ Some x → NamesOnly test (f x))
      → option_map f o ≡ Some a → NamesOnly test a
  mapped f None a each is = absurd (cc is)
  mapped f (Some x) a each is = subst (NamesOnly test) (some_is is) (each x refl)

  chained : {X : Type 0} (f : X → Option Action) (o : Option X) (a : Action) → ((x : X) → o ≡ Some x → f x ≡ Some a → NamesOnly test a)
      → option_and_then f o ≡ Some a → NamesOnly test a
  chained f None a each is = absurd (cc is)
  chained f (Some x) a each is = each x refl is

  armed : (o : Option Action) (r : Option Arm) (a : Arm) → ((x : Action) → o ≡ Some x → NamesOnly test x)
      → ((x : Arm) → r ≡ Some x → ArmNamesOnly test x) → option_and_then (λ x. option_map (OneAction x) r) o ≡ Some a → ArmNamesOnly test a
  armed None r a first rest is = absurd (cc is)
  armed (Some x) None a first rest is = absurd (cc is)
  armed (Some x) (Some y) a first rest is = subst (ArmNamesOnly test) (some_is is) (first x refl, rest y refl)

-- whether it is a record cell of the program
abbrev pub is_cell : Setting → ℕ → Bool
is_cell s c = nat_lt c (cells_in (records_of s.program.heads))

-- where the step is an action, each cell that it names passes the test
data ActsWithin (test : ℕ → Bool) : Step Point → Type 0 where
  silently : {q : Point} → ActsWithin test (Silent q)
  turning : {q : Point} → ActsWithin test (Iteration q)
  acting : {a : Action} {q : Point} → NamesOnly test a → ActsWithin test (Act a q)
  stopping : {next : Next} → ActsWithin test (Stop next)

module _ (s : Setting) where
  mutual
    action_within : (registers : List Name) (w : What) (env : Env) (a : Action) → action s registers w env ≡ Some a
        → NamesOnly (is_cell s) a
    action_within registers (SetReg x e) env a is = mapped (is_cell s) _ (of_registers registers e env) a (λ t at. tt) is
    action_within registers (Read r i x) env a is =
        mapped (is_cell s) _ (record_number s r i env) a (λ c at. lt-ltb c _ (cell-below _ r _ c at)) is
    action_within registers (Write r i e) env a is =
        chained (is_cell s) _ (record_number s r i env) a
        (λ c at more. mapped (is_cell s) (Store c) (of_registers registers e env) a (λ t there. lt-ltb c _ (cell-below _ r _ c at)) more) is
    action_within registers (Print es) env a is = mapped (is_cell s) Say _ a (λ ts at. tt) is
    action_within registers (When e x y) env a is =
        chained (is_cell s) _ (of_registers registers e env) a
        (λ t at more. chained (is_cell s) _ (arm s registers x env) a
        (λ first at_first last. mapped (is_cell s) (Choose t first) (arm s registers y env) a
        (λ second at_second. (arm_within registers x env first at_first, arm_within registers y env second at_second)) last) more)
        is
    action_within registers (SetCtl x e) env a is = absurd (cc is)
    action_within registers (While e b) env a is = absurd (cc is)
    action_within registers (If e x y) env a is = absurd (cc is)
    action_within registers (Lock l i) env a is = absurd (cc is)
    action_within registers (Unlock l i) env a is = absurd (cc is)
    action_within registers (Fork t es x) env a is = absurd (cc is)
    action_within registers (Join e x) env a is = absurd (cc is)
    action_within registers (Barrier b) env a is = absurd (cc is)
    action_within registers (Settle x c) env a is = absurd (cc is)

    arm_within : (registers : List Name) (b : Block) (env : Env) (a : Arm) → arm s registers b env ≡ Some a → ArmNamesOnly (is_cell s) a
    arm_within registers Nothing env a is = subst (ArmNamesOnly (is_cell s)) (some_is is) tt
    arm_within registers (Then st b) env a is =
        armed (is_cell s) (action_of s registers st env) (arm s registers b env) a (λ x at. stmt_within registers st env x at)
        (λ x at. arm_within registers b env x at) is

    stmt_within : (registers : List Name) (st : Stmt) (env : Env) (a : Action) → action_of s registers st env ≡ Some a
        → NamesOnly (is_cell s) a
    stmt_within registers (At line w) env a is = action_within registers w env a is

  known_within : {A : Type 0} (line : ℕ) (o : Option A) (go : A → Step Point) → ((v : A) → o ≡ Some v → ActsWithin (is_cell s) (go v))
      → ActsWithin (is_cell s) (known line o go)
  known_within line None go each = stopping
  known_within line (Some v) go each = each v refl

  branch_within : (v : ℤ) (first second : Step Point) → ActsWithin (is_cell s) first → ActsWithin (is_cell s) second
      → ActsWithin (is_cell s) (branch v first second)
  branch_within (pos zero) first second f s = s
  branch_within (pos (suc n)) first second f s = f
  branch_within (negsuc n) first second f s = f

  acts : (line : ℕ) (w : What) (rest : List Stmt) (p : Point)
      → ActsWithin (is_cell s) (known line (action s (registers_of p.task) w (env_at s p)) (λ a. Act a (going p rest)))
  acts line w rest p =
      known_within line (action s (registers_of p.task) w (env_at s p)) _
      (λ a at. acting (action_within (registers_of p.task) w (env_at s p) a at))

  step_within : (line : ℕ) (w : What) (rest : List Stmt) (p : Point) → ActsWithin (is_cell s) (step_at s line w rest p)
  step_within line (SetCtl x e) rest p = known_within line _ _ (λ v at. silently)
  step_within line (While e b) rest p = known_within line _ _ (λ v at. branch_within v _ _ turning silently)
  step_within line (If e a b) rest p = known_within line _ _ (λ v at. branch_within v _ _ silently silently)
  step_within line (Lock a i) rest p = known_within line _ _ (λ v at. stopping)
  step_within line (Unlock a i) rest p = known_within line _ _ (λ v at. stopping)
  step_within line (Fork t es x) rest p = known_within line _ _ (λ v at. stopping)
  step_within line (Join e x) rest p = known_within line _ _ (λ v at. stopping)
  step_within line (Barrier b) rest p = known_within line _ _ (λ v at. stopping)
  step_within line (Settle x c) rest p = stopping
  step_within line (SetReg x e) rest p = acts line (SetReg x e) rest p
  step_within line (Read r i x) rest p = acts line (Read r i x) rest p
  step_within line (Write r i e) rest p = acts line (Write r i e) rest p
  step_within line (Print es) rest p = acts line (Print es) rest p
  step_within line (When e a b) rest p = acts line (When e a b) rest p

  from_within : (l : List Stmt) (p : Point) → ActsWithin (is_cell s) (step_from s l p)
  from_within [] p = stopping
  from_within (At line w ∷ rest) p = step_within line w rest p

  follow_within : (p : Point) (st : Step Point) (go : Point → Body Point) (turned : Option (Point → Body Point)) → ActsWithin (is_cell s) st
      → ((q : Point) → AllName (is_cell s) (go q).actions)
      → ((f : Point → Body Point) → turned ≡ Some f → (q : Point) → AllName (is_cell s) (f q).actions)
      → AllName (is_cell s) (follow p st go turned).actions
  follow_within p (Silent q) go turned here on again = on q
  follow_within p (Act a q) go turned (acting here) on again = (here, on q)
  follow_within p (Iteration q) go None here on again = tt
  follow_within p (Iteration q) go (Some f) here on again = again f refl q
  follow_within p (Stop next) go turned here on again = tt

  stretch_within : (turned : Option (Point → Body Point))
      → ((f : Point → Body Point) → turned ≡ Some f → (q : Point) → AllName (is_cell s) (f q).actions) → (n : ℕ) (p : Point)
      → AllName (is_cell s) (stretch (step s) size turned n p).actions
  unfolding stretch
  stretch_within turned again zero p = tt
  stretch_within turned again (suc n) p =
      follow_within p (step s p) (stretch (step s) size turned n) turned (from_within p.left p) (λ q. stretch_within turned again n q) again

  -- the actions of a body
  pub body_within : (turns : ℕ) (p : Point) → AllName (is_cell s) (tree_body s turns p).actions
  unfolding body
  body_within zero p = stretch_within None (λ f is. absurd (cc is)) (suc (size p)) p
  body_within (suc turns) p =
      stretch_within (Some (body (step s) size turns))
      (λ f is q. subst (λ (g : Point → Body Point). AllName (is_cell s) (g q).actions) (some_is is) (body_within turns q))
      (suc (size p)) p

  gave : (k : ℕ) (o : Option OfRegisters) (r : Option (List Action)) (actions : List Action)
      → option_and_then (λ t. option_map (λ more. Give k t ∷ more) r) o ≡ Some actions
      → ((more : List Action) → r ≡ Some more → AllName (is_cell s) more) → AllName (is_cell s) actions
  gave k None r actions is each = absurd (cc is)
  gave k (Some t) None actions is each = absurd (cc is)
  gave k (Some t) (Some more) actions is each = subst (AllName (is_cell s)) (some_is is) (tt, each more refl)

  datas_within : (given registers : List Name) (params : List Param) (es : List Expr) (env : Env) (actions : List Action)
      → data_arguments s given registers params es env ≡ Some actions → AllName (is_cell s) actions
  datas_within given registers [] es env actions is = subst (AllName (is_cell s)) (some_is is) tt
  datas_within given registers (param.Ctl x ∷ params) [] env actions is = subst (AllName (is_cell s)) (some_is is) tt
  datas_within given registers (param.Reg x ∷ params) [] env actions is = subst (AllName (is_cell s)) (some_is is) tt
  datas_within given registers (param.Ctl x ∷ params) (e ∷ es) env actions is = datas_within given registers params es env actions is
  datas_within given registers (param.Reg x ∷ params) (e ∷ es) env actions is =
      gave (slot given x) (of_registers registers e env) (data_arguments s given registers params es env) actions is
      (λ more at. datas_within given registers params es env more at)

  none_within : AllName (is_cell s) []
  none_within = tt

  fork_within : (task : TaskText) (es : List Expr) (p : Point) (c : Option (List ℤ)) (o : Option (List Action))
      → ((actions : List Action) → o ≡ Some actions → AllName (is_cell s) actions)
      → AllName (is_cell s) (unwrap_or (option_map (λ (arguments : List ℤ × List Action). arguments.1)
      (option_and_then (λ (values : List ℤ). option_map (λ actions. (values, Child (length (registers_of task)) ∷ actions)) o) c))
      [])
  fork_within task es p None o each = tt
  fork_within task es p (Some values) None each = tt
  fork_within task es p (Some values) (Some actions) each = (tt, each actions refl)

  task_within : (es : List Expr) (p : Point) (o : Option TaskText)
      → AllName (is_cell s) (unwrap_or (option_map (λ (arguments : List ℤ × List Action). arguments.1)
      (option_and_then (λ task. fork_arguments s task es p) o)) [])
  task_within es p None = tt
  task_within es p (Some task) =
      fork_within task es p (control_arguments task.params es (env_at s p))
      (data_arguments s (registers_of task) (registers_of p.task) task.params es (env_at s p))
      (λ actions at. datas_within (registers_of task) (registers_of p.task) task.params es (env_at s p) actions at)

  begin_within : (l : List Stmt) (p : Point) → AllName (is_cell s) (begin_actions s l p)
  begin_within [] p = tt
  begin_within (At line (Fork t es x) ∷ rest) p = task_within es p (task_named s.program t)
  begin_within (At line (Join e (Some x)) ∷ rest) p = (tt, tt)
  begin_within (At line (Join e None) ∷ rest) p = tt
  begin_within (At line (SetCtl x e) ∷ rest) p = tt
  begin_within (At line (While e b) ∷ rest) p = tt
  begin_within (At line (If e a b) ∷ rest) p = tt
  begin_within (At line (Lock a i) ∷ rest) p = tt
  begin_within (At line (Unlock a i) ∷ rest) p = tt
  begin_within (At line (Barrier b) ∷ rest) p = tt
  begin_within (At line (Settle x c) ∷ rest) p = tt
  begin_within (At line (SetReg x e) ∷ rest) p = tt
  begin_within (At line (Read r i x) ∷ rest) p = tt
  begin_within (At line (Write r i e) ∷ rest) p = tt
  begin_within (At line (Print es) ∷ rest) p = tt
  begin_within (At line (When e a b) ∷ rest) p = tt

  -- the actions with which a subthread begins
  pub first_within : (op : SyncOp) (p : Point) → AllName (is_cell s) (first_actions s op p)
  first_within sync.Start p = tt
  first_within (sync.Lock l) p = begin_within p.left p
  first_within (sync.Unlock l) p = begin_within p.left p
  first_within (sync.Fork k values) p = begin_within p.left p
  first_within (sync.Join h) p = begin_within p.left p
  first_within (sync.Barrier b) p = begin_within p.left p
  first_within (sync.Settle register control) p = begin_within p.left p
  first_within sync.End p = begin_within p.left p
  first_within sync.BadIndex p = begin_within p.left p
  first_within sync.Spent p = begin_within p.left p

pub all-append : (test : ℕ → Bool) (first second : List Action) → AllName test first → AllName test second → AllName test (first ++ second)
all-append test [] second f s = s
all-append test (a ∷ first) second f s = (f.0, all-append test first second f.1 s)
