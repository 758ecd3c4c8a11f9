-- The same values on the tree and in code. The tree finds things by name, the code by number, and a number is the place
-- of a name in a list: so it is for variables, feeds and the cells of arrays. Expressions, data statements and the
-- arguments of forks follow by recursion.
use Rattle.std.proofs.Common.{◌≡◌, ℕ, suc, ◌+◌, Bool, true, false, cond, List, [], ◌∷◌, map, length, Option, Some, None, unwrap_or, option_map, option_and_then, refl, sym, ap, ◌∙◌, arith}
use Rattle.std.specs.Prelude.{ℤ, pos, negsuc, position, slice_get, zip}
use Rattle.std.proofs.lemmas.Bool.{le-ltb}
use Rattle.gp_base.specs.meaning.Feeds.{rows_in}
use Rattle.gp_base.specs.declared.feed.Feed.{Feed}
use Rattle.task_ast.specs.declared.env.Env.{Env}
use Rattle.task_ast.specs.declared.tree.Atom.{Atom}
use Rattle.task_ast.specs.declared.tree.Atom.TheVariants as atom
use Rattle.task_ast.specs.declared.tree.Param.{Param}
use Rattle.task_ast.specs.declared.tree.Param.TheVariants as param
use Rattle.task_ast.specs.meaning.Tree as tree
use Rattle.task_ast.specs.meaning.Tree.{Name, Expr, Links, What, Stmt, Block, TaskText, Program}
use Rattle.task_ast.specs.meaning.Names.{is_name, named, slot, place, cell_number, records_of, feeds_of, registers_of}
use Rattle.task_ast.specs.Names.{seconds}
use Rattle.task_ast.specs.Layout.{base_of}
use Rattle.task_ast.specs.meaning.State.{number_at}
use Rattle.task_ast.specs.meaning.Value.{value, value_on, value_at, operate_on, cell_in}
use Rattle.task_ast.specs.meaning.Action.{OfRegisters, of_registers, Action, Set, Load, Store, Say, Choose, Child, Give, OneAction}
use Rattle.task_ast.specs.meaning.Control.{Setting, index_of, all_of, action, arm, action_of, control_arguments, data_arguments}
use Rattle.task_ast.proofs.Terms.{position-cons, register_value}
use Rattle.lock_checker.specs.Cells.{cells_of}
use Rattle.task_code.specs.Instructions.{Calc}
use Rattle.task_code.specs.Reading.{CalcEnv, calc_value, calc_value_on, calc_of_registers, index_at, cell_of, deed_action, deeds_arm, gift_action}
use Rattle.task_code.specs.Reading as code
use Rattle.task_code.specs.Lowering.{Scope, register_calc, rows_calc, cell_calc, calc, operands_of, index, deed, deed_in, control_calcs, gifts, forking}
use Rattle.task_code.specs.Lowering as lowering

-- ---- names and numbers

-- a control variable by its name has the value of its number
pub value_by_number : (names : List (Name × ℤ)) (x : Name) → value_at names x ≡ number_at (seconds names) (slot (map (λ n. n.0) names) x)
value_by_number [] x = refl
value_by_number (n ∷ names) x = go (is_name x n.0) refl (value_by_number names x)
  where
    later : (o : Option ℕ)
        → number_at (seconds names) (unwrap_or o (length (map (λ n. n.0) names)))
        ≡ number_at (n.1 ∷ seconds names) (unwrap_or (option_map suc o) (suc (length (map (λ n. n.0) names))))
    later None = refl
    later (Some k) = refl

    go : (b : Bool) → is_name x n.0 ≡ b → value_at names x ≡ number_at (seconds names) (slot (map (λ n. n.0) names) x)
        → unwrap_or (cond (is_name x n.0) (Some n.1) (named x names)) (pos 0)
        ≡ number_at (n.1 ∷ seconds names) (slot (n.0 ∷ map (λ n. n.0) names) x)
    go true e rest = rw (position-cons (is_name x) n.0 (map (λ n. n.0) names), e) refl
    go false e rest = rw (position-cons (is_name x) n.0 (map (λ n. n.0) names), e)
        (rest ∙ later (position (is_name x) (map (λ n. n.0) names)))

-- a feed by its name is that of its number
pub feed_by_number : (names : List Name) (feeds : List Feed) (f : Name)
    → named f (zip names feeds) ≡ option_and_then (slice_get feeds) (position (is_name f) names)
feed_by_number [] feeds f = refl
feed_by_number (n ∷ names) [] f = sym (none (position (is_name f) (n ∷ names)))
  where
    none : (o : Option ℕ) → option_and_then {U = Feed} (slice_get []) o ≡ None
    none None = refl
    none (Some k) = refl
feed_by_number (n ∷ names) (feed ∷ feeds) f = go (is_name f n) refl (feed_by_number names feeds f)
  where
    later : (o : Option ℕ) → option_and_then (slice_get feeds) o ≡ option_and_then (slice_get (feed ∷ feeds)) (option_map suc o)
    later None = refl
    later (Some k) = refl

    go : (b : Bool) → is_name f n ≡ b → named f (zip names feeds) ≡ option_and_then (slice_get feeds) (position (is_name f) names)
        → cond (is_name f n) (Some feed) (named f (zip names feeds))
        ≡ option_and_then (slice_get (feed ∷ feeds)) (position (is_name f) (n ∷ names))
    go true e rest = rw (position-cons (is_name f) n names, e) refl
    go false e rest = rw (position-cons (is_name f) n names, e) (rest ∙ later (position (is_name f) names))

no_place : (i : ℤ) → place 0 i ≡ None
no_place (pos n) = rw (le-ltb n 0 (omega arith)) refl
no_place (negsuc n) = refl

-- an array has cells where it has a first one
data Alike : Option ℕ → Option ℕ → Type 0 where
  both : {base size : ℕ} → Alike (Some base) (Some size)
  neither : Alike None None

-- a cell by its array's name is that of the array's cells
pub cell_by_number : (arrays : List (Name × ℕ)) (x : Name) (i : ℤ) → cell_number arrays x i ≡ cell_of (cells_of arrays x) i
cell_by_number [] x i = sym (ap (option_map _) (no_place i))
cell_by_number (array ∷ arrays) x i = go (is_name x array.0) refl (cell_by_number arrays x i) (alike arrays)
  where
    at_once : (o : Option ℕ) → o ≡ option_map (λ n. 0 + n) o
    at_once None = refl
    at_once (Some n) = ap Some (omega arith)

    shifted : (m k : ℕ) (o : Option ℕ) → option_map (λ n. m + n) (option_map (λ n. k + n) o) ≡ option_map (λ n. m + k + n) o
    shifted m k None = refl
    shifted m k (Some n) = ap Some (omega arith)

    alike_on : (b : Bool) (m : ℕ) {o p : Option ℕ} → Alike o p → Alike (cond b (Some 0) (option_map (λ n. m + n) o)) (cond b (Some m) p)
    alike_on true m is = both
    alike_on false m both = both
    alike_on false m neither = neither

    alike : (arrays : List (Name × ℕ)) → Alike (base_of arrays x) (named x arrays)
    alike [] = neither
    alike (a ∷ arrays) = alike_on (is_name x a.0) a.1 (alike arrays)

    later : {o p : Option ℕ} → Alike o p
        → option_map (λ n. array.1 + n) (cell_of (record { first = unwrap_or o 0; size = unwrap_or p 0 }) i)
        ≡ cell_of (record { first = unwrap_or (option_map (λ n. array.1 + n) o) 0; size = unwrap_or p 0 }) i
    later (both {base} {size}) = shifted array.1 base (place size i)
    later neither = rw (no_place i) refl

    go : (b : Bool) → is_name x array.0 ≡ b → cell_number arrays x i ≡ cell_of (cells_of arrays x) i
        → Alike (base_of arrays x) (named x arrays)
        → cond (is_name x array.0) (place array.1 i) (option_map (λ n. array.1 + n) (cell_number arrays x i))
        ≡ cell_of (cells_of (array ∷ arrays) x) i
    go true e rest is = rw e (at_once (place array.1 i))
    go false e rest is = rw e (ap (option_map (λ n. array.1 + n)) rest ∙ later is)

-- ---- expressions

no_cell : (row field : Option ℤ) → cell_in None row field ≡ None
no_cell None field = refl
no_cell (Some r) None = refl
no_cell (Some r) (Some f) = refl

pub all_of-cons : {A : Type 0} (o : Option A) (os : List (Option A))
    → all_of (o ∷ os) ≡ option_and_then (λ v. option_map (λ all. v ∷ all) (all_of os)) o
all_of-cons None os = refl
all_of-cons (Some v) os = refl

module _ (program : Program) (feeds : List Feed) (controls registers : List Name) (names : List (Name × ℤ)) (ctl : List ℤ) (me number : ℕ)
    (names_are : map (λ n. n.0) names ≡ controls) (values_are : ctl ≡ seconds names) (number_is : number ≡ me) where
  abbrev s : Setting
  s = record { program = program; feeds = zip (feeds_of program.heads) feeds }

  abbrev sc : Scope
  sc = record { program = program; controls = controls; registers = registers }

  abbrev env : Env
  env = record { names = names; regs = []; me = me; feeds = zip (feeds_of program.heads) feeds }

  abbrev there : CalcEnv
  there = record { ctl = ctl; registers = []; me = number; feeds = feeds }

  at_slot : (x : Name) → value_at names x ≡ number_at ctl (slot controls x)
  at_slot x =
      value_by_number names x ∙ ap (λ l. number_at (seconds names) (slot l x)) names_are
      ∙ ap (λ values. number_at values (slot controls x)) (sym values_are)

  -- data variables that have the values of these registers
  abbrev Reads : List (Name × ℤ) → List ℤ → Type 0
  Reads regs values = (x : Name) → value_at regs x ≡ unwrap_or (option_map (number_at values) (position (is_name x) registers)) (pos 0)

  no_registers : Reads [] []
  no_registers x = go (position (is_name x) registers)
    where
      go : (o : Option ℕ) → pos 0 ≡ unwrap_or (option_map (number_at []) o) (pos 0)
      go None = refl
      go (Some k) = refl

  module _ (values : List ℤ) where
    abbrev at : CalcEnv
    at = record there { registers = values }

    register_at : (o : Option ℕ) → Some (unwrap_or (option_map (number_at values) o) (pos 0)) ≡ calc_value (register_calc o) at
    register_at None = refl
    register_at (Some k) = refl

    rows_value : (o : Option ℕ)
        → Some (pos (unwrap_or (option_map rows_in (option_and_then (slice_get feeds) o)) 0)) ≡ calc_value (rows_calc o) at
    rows_value None = refl
    rows_value (Some k) = refl

    cell_value : (o : Option ℕ) (row field : Calc)
        → cell_in (option_and_then (slice_get feeds) o) (calc_value row there) (calc_value field there)
        ≡ calc_value (cell_calc o row field) at
    cell_value None row field = no_cell (calc_value row there) (calc_value field there)
    cell_value (Some k) row field = refl

  mutual
    same_with : (e : Expr) (regs : List (Name × ℤ)) (values : List ℤ) → Reads regs values
        → value e (record env { regs = regs }) ≡ calc_value (calc sc e) (record there { registers = values })
    same_with (tree.Num v) regs values reads = refl
    same_with (tree.Ctl x) regs values reads = ap Some (at_slot x)
    same_with (tree.Reg x) regs values reads = ap Some (reads x) ∙ register_at values (position (is_name x) registers)
    same_with tree.Me regs values reads = ap (λ n. Some (pos n)) (sym number_is)
    same_with (tree.Rows f) regs values reads =
        ap (λ o. Some (pos (unwrap_or (option_map rows_in o) 0))) (feed_by_number (feeds_of program.heads) feeds f)
        ∙ rows_value values (position (is_name f) (feeds_of program.heads))
    same_with (tree.Cell f row field) regs values reads =
        ap (λ o. cell_in o (value row env) (value field env)) (feed_by_number (feeds_of program.heads) feeds f)
        ∙ ap (λ v. cell_in (option_and_then (slice_get feeds) (position (is_name f) (feeds_of program.heads))) v (value field env))
        (same_with row [] [] no_registers)
        ∙ ap (cell_in (option_and_then (slice_get feeds) (position (is_name f) (feeds_of program.heads))) (calc_value (calc sc row) there))
        (same_with field [] [] no_registers)
        ∙ cell_value values (position (is_name f) (feeds_of program.heads)) (calc sc row) (calc sc field)
    same_with (tree.Neg e) regs values reads = ap (option_map _) (same_with e regs values reads)
    same_with (tree.Not e) regs values reads = ap (option_map _) (same_with e regs values reads)
    same_with (tree.Chain e links) regs values reads =
        ap (value_on links (record env { regs = regs })) (same_with e regs values reads)
        ∙ same_with_on links regs values reads (calc_value (calc sc e) (record there { registers = values }))

    same_with_on : (links : Links) (regs : List (Name × ℤ)) (values : List ℤ) → Reads regs values → (so_far : Option ℤ)
        → value_on links (record env { regs = regs }) so_far ≡ calc_value_on (operands_of sc links) (record there { registers = values }) so_far
    same_with_on tree.NoLinks regs values reads so_far = refl
    same_with_on (tree.Link op e links) regs values reads so_far =
        ap (λ v. value_on links (record env { regs = regs }) (operate_on op so_far v)) (same_with e regs values reads)
        ∙ same_with_on links regs values reads (operate_on op so_far (calc_value (calc sc e) (record there { registers = values })))

  pub same_value : (e : Expr) → value e env ≡ calc_value (calc sc e) there
  same_value e = same_with e [] [] no_registers

  pub same_function : (e : Expr) → of_registers registers e env ≡ calc_of_registers (calc sc e) there
  same_function e =
      λ i. option_map
      (λ _ values. unwrap_or (same_with e (zip registers values) values (λ x. register_value registers values x) i) (pos 0))
      (same_value e i)

  pub same_index : (i : Atom) → index_of i env ≡ index_at (index sc i) ctl
  same_index (atom.Num v) = refl
  same_index (atom.Var x) = at_slot x

  -- a cell of an array
  pub same_cell : (arrays : List (Name × ℕ)) (x : Name) (i : Atom)
      → cell_number arrays x (index_of i env) ≡ cell_of (cells_of arrays x) (index_at (index sc i) ctl)
  same_cell arrays x i = ap (cell_number arrays x) (same_index i) ∙ cell_by_number arrays x (index_at (index sc i) ctl)

  -- ---- data statements

  same_all : (es : List Expr) → map (λ e. of_registers registers e env) es ≡ map (λ c. calc_of_registers c there) (map (calc sc) es)
  same_all [] = refl
  same_all (e ∷ es) =
      ap (λ t. t ∷ map (λ e. of_registers registers e env) es) (same_function e) ∙ ap (λ l. calc_of_registers (calc sc e) there ∷ l) (same_all es)

  mutual
    pub same_action : (w : What) → action s registers w env ≡ deed_action (deed sc w) there
    same_action (tree.SetReg x e) = ap (option_map (Set (slot registers x))) (same_function e)
    same_action (tree.Read r i x) = ap (option_map (λ n. Load n (slot registers x))) (same_cell (records_of program.heads) r i)
    same_action (tree.Write r i e) =
        ap (option_and_then (λ n. option_map (Store n) (of_registers registers e env))) (same_cell (records_of program.heads) r i)
        ∙ ap (λ t. option_and_then (λ n. option_map (Store n) t)
        (cell_of (cells_of (records_of program.heads) r) (index_at (index sc i) ctl))) (same_function e)
    same_action (tree.Print es) = ap (λ ts. option_map Say (all_of ts)) (same_all es)
    same_action (tree.When e a b) =
        ap (option_and_then (λ t. option_and_then (λ x. option_map (Choose t x) (arm s registers b env)) (arm s registers a env)))
        (same_function e)
        ∙ ap (λ first. option_and_then (λ t. option_and_then (λ x. option_map (Choose t x) (arm s registers b env)) first)
        (calc_of_registers (calc sc e) there)) (same_arm a)
        ∙ ap (λ second. option_and_then (λ t. option_and_then (λ x. option_map (Choose t x) second) (deeds_arm (lowering.arm sc a) there))
        (calc_of_registers (calc sc e) there)) (same_arm b)
    same_action (tree.SetCtl x e) = refl
    same_action (tree.While e b) = refl
    same_action (tree.If e a b) = refl
    same_action (tree.Lock a i) = refl
    same_action (tree.Unlock a i) = refl
    same_action (tree.Fork t es x) = refl
    same_action (tree.Join e x) = refl
    same_action (tree.Barrier b) = refl
    same_action (tree.Settle x c) = refl

    same_arm : (b : Block) → arm s registers b env ≡ deeds_arm (lowering.arm sc b) there
    same_arm tree.Nothing = refl
    same_arm (tree.Then st b) =
        ap (option_and_then (λ x. option_map (OneAction x) (arm s registers b env))) (same_deed st)
        ∙ ap (λ rest. option_and_then (λ x. option_map (OneAction x) rest) (deed_action (deed_in sc st) there)) (same_arm b)

    same_deed : (st : Stmt) → action_of s registers st env ≡ deed_action (deed_in sc st) there
    same_deed (tree.At line w) = same_action w

  -- ---- forks

  same_controls : (params : List Param) (es : List Expr)
      → control_arguments params es env ≡ all_of (map (λ c. calc_value c there) (control_calcs sc params es))
  same_controls [] es = refl
  same_controls (param.Ctl x ∷ params) [] = refl
  same_controls (param.Reg x ∷ params) [] = refl
  same_controls (param.Ctl x ∷ params) (e ∷ es) =
      ap (option_and_then (λ v. option_map (λ values. v ∷ values) (control_arguments params es env))) (same_value e)
      ∙ ap (λ rest. option_and_then (λ v. option_map (λ values. v ∷ values) rest) (calc_value (calc sc e) there)) (same_controls params es)
      ∙ sym (all_of-cons (calc_value (calc sc e) there) (map (λ c. calc_value c there) (control_calcs sc params es)))
  same_controls (param.Reg x ∷ params) (e ∷ es) = same_controls params es

  one_gift : (k : ℕ) (o : Option OfRegisters) (rest : Option (List Action)) (os : List (Option Action)) → rest ≡ all_of os
      → option_and_then (λ t. option_map (λ actions. Give k t ∷ actions) rest) o ≡ all_of (option_map (Give k) o ∷ os)
  one_gift k None rest os is = refl
  one_gift k (Some t) rest os is = ap (option_map (λ actions. Give k t ∷ actions)) is

  same_gifts : (given : List Name) (params : List Param) (es : List Expr)
      → data_arguments s given registers params es env ≡ all_of (map (λ g. gift_action g there) (gifts sc given params es))
  same_gifts given [] es = refl
  same_gifts given (param.Ctl x ∷ params) [] = refl
  same_gifts given (param.Reg x ∷ params) [] = refl
  same_gifts given (param.Ctl x ∷ params) (e ∷ es) = same_gifts given params es
  same_gifts given (param.Reg x ∷ params) (e ∷ es) =
      ap (option_and_then (λ t. option_map (λ actions. Give (slot given x) t ∷ actions) (data_arguments s given registers params es env)))
      (same_function e)
      ∙ one_gift (slot given x) (calc_of_registers (calc sc e) there) (data_arguments s given registers params es env)
      (map (λ g. gift_action g there) (gifts sc given params es)) (same_gifts given params es)

  -- the arguments of a fork of a task that may be there
  pub same_fork : (o : Option TaskText) (k : ℕ) (es : List Expr) (into : Option ℕ)
      → option_and_then (λ task. option_and_then
      (λ values. option_map (λ actions. (values, Child (length (registers_of task)) ∷ actions))
      (data_arguments s (registers_of task) registers task.params es env)) (control_arguments task.params es env)) o
      ≡ code.fork_arguments (forking sc o k es into) there
  same_fork None k es into = refl
  same_fork (Some task) k es into =
      ap (option_and_then (λ values. option_map (λ actions. (values, Child (length (registers_of task)) ∷ actions))
      (data_arguments s (registers_of task) registers task.params es env))) (same_controls task.params es)
      ∙ ap (λ given. option_and_then (λ values. option_map (λ actions. (values, Child (length (registers_of task)) ∷ actions)) given)
      (all_of (map (λ c. calc_value c there) (control_calcs sc task.params es)))) (same_gifts (registers_of task) task.params es)
