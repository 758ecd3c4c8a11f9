-- In the code of an accepted program each variable exists. A list of visits without a fault has none in each of its
-- parts, and a rule that does not fail says that the names at the statement are known. A name among others has a slot
-- below their number; so, from expressions to statements to tasks, each variable of the code exists.
use Rattle.std.proofs.Common.{◌≡◌, ℕ, zero, suc, ◌<◌, Bool, true, false, ◌||◌, not, cond, List, [], ◌∷◌, ◌++◌, map, length, Option, Some, None, unwrap_or, option_map, refl, sym, ap, ◌∙◌, subst, arith, position}
use Rattle.std.specs.Prelude.{⊤, slice_get, is_none}
use Rattle.std.specs.Option.{option_map_or}
use Rattle.std.specs.List.{list_any}
use Rattle.std.proofs.lemmas.Bool.{true≢false}
use Rattle.std.proofs.lemmas.List.Folds.{list_any-append}
use Rattle.task_ast.specs.declared.check_kind.CheckKind.{CheckKind}
use Rattle.task_ast.specs.declared.check_kind.CheckKind.TheVariants.{UnknownName}
use Rattle.task_ast.specs.declared.tree.Atom.{Atom}
use Rattle.task_ast.specs.declared.tree.Atom.TheVariants as atom
use Rattle.task_ast.specs.declared.tree.Param.{Param}
use Rattle.task_ast.specs.declared.tree.Param.TheVariants as param
use Rattle.task_ast.specs.meaning.Tree as tree
use Rattle.task_ast.specs.meaning.Tree.{Name, Expr, Links, What, Stmt, Block, TaskText, Program}
use Rattle.task_ast.specs.meaning.Names.{is_name, is_among, slot, ret, datas, declared_in, controls_of, registers_of, head_name, barriers_of, feeds_of, task_named, task_number}
use Rattle.task_ast.specs.meaning.Visit.{Visit, visit, fails_if, fault_at, first_fault}
use Rattle.task_ast.specs.meaning.Held.{Pair, held_after}
use Rattle.task_ast.specs.meaning.Declarations.{Scope, is_control, is_register, is_feed, is_lock, is_atom, has_unknown, head_visits, task_visits, main_visit, some_member, is_undeclared}
use Rattle.task_ast.specs.meaning.Plain.{no_task, task_at}
use Rattle.task_ast.specs.meaning.Check.{array_over, fails_at, fails_after, visits_of, visits_inside, visits_in, body_visits, bodies_visits, check_fault}
use Rattle.task_ast.proofs.Registers.{or_false}
use Rattle.task_ast.proofs.Terms.{position-cons}
use Rattle.lock_checker.proofs.TableLemmas.{is_name-itself}
use Rattle.lock_checker.proofs.VisitLemmas.{or_later, first_fault-append}
use Rattle.task_code.proofs.VariableLines.{datas-append}
use Rattle.task_code.specs.Instructions.{Calc, Fork, Instr, At}
use Rattle.task_code.specs.Lowering as lowering
use Rattle.task_code.specs.Lowering.{register_calc, rows_calc, cell_calc, barrier_code, calc, operands_of, calcs, index, deed, arm, deed_in, control_calcs, gifts, forking, what_code, block_code, stmt_code, scope_of, task_code}
use Rattle.task_code.specs.Existing.{shape_of, IntoExists, CalcExists, OperandsExist, CalcsExist, GiftsExist, IndexExists, DeedExists, DeedsExist, DoesExists, VariablesExist}

-- ---- what no fault says

none_both : (a b : Option (CheckKind × ℕ)) → or_later a b ≡ None → (a ≡ None) × (b ≡ None)
none_both None b e = (refl, e)
none_both (Some f) b e = absurd (cc e)

split : (first second : List Visit) → first_fault (first ++ second) ≡ None → (first_fault first ≡ None) × (first_fault second ≡ None)
split first second e = none_both (first_fault first) (first_fault second) (sym (first_fault-append first second) ∙ e)

here : (line : ℕ) (fails : List CheckKind) (later : Option (CheckKind × ℕ)) → fault_at line fails later ≡ None
    → (fails ≡ []) × (later ≡ None)
here line [] later e = (refl, e)
here line (k ∷ fails) later e = absurd (cc e)

known : (b : Bool) (more : List CheckKind) → fails_if b UnknownName ++ more ≡ [] → b ≡ false
known true more e = absurd (cc e)
known false more e = refl

-- the first part of a list that is empty
known_left : (first second : List CheckKind) → first ++ second ≡ [] → first ≡ []
known_left [] second e = refl
known_left (k ∷ first) second e = absurd (cc e)

yes : (b : Bool) → not b ≡ false → b ≡ true
yes true e = refl
yes false e = absurd (true≢false e)

-- ---- names

slot_within : (names : List Name) (x : Name) → is_among x names ≡ true → slot names x < length names
slot_within [] x e = absurd (true≢false (sym e))
slot_within (n ∷ names) x e = go (is_name x n) refl (slot_within names x)
  where
    later : (o : Option ℕ) → unwrap_or o (length names) < length names
        → unwrap_or (option_map suc o) (suc (length names)) < suc (length names)
    later None l = absurd (omega arith)
    later (Some k) l = omega arith

    go : (b : Bool) → is_name x n ≡ b → (is_among x names ≡ true → slot names x < length names) → slot (n ∷ names) x < length (n ∷ names)
    go true is rest = rw (position-cons (is_name x) n names, is) (omega arith)
    go false is rest =
        rw (position-cons (is_name x) n names, is)
        (later (position (is_name x) names) (rest (ap (λ b. b || is_among x names) (sym is) ∙ e)))

position_within : (names : List Name) (x : Name) (k : ℕ) → position (is_name x) names ≡ Some k → k < length names
position_within [] x k e = absurd (cc e)
position_within (n ∷ names) x k e =
    go (is_name x n) (position (is_name x) names) (position_within names x) (sym (position-cons (is_name x) n names) ∙ e)
  where
    go : (b : Bool) (o : Option ℕ) → ((j : ℕ) → o ≡ Some j → j < length names) → cond b (Some 0) (option_map suc o) ≡ Some k
        → k < length (n ∷ names)
    go true o later at = let zero_is : 0 ≡ k = cc at in omega arith
    go false None later at = absurd (cc at)
    go false (Some j) later at = let next : suc j ≡ k = cc at in let within = later j refl in omega arith

module _ (program : Program) (task : TaskText) where
  abbrev s : Scope
  s = record { program = program; task = task }

  abbrev sc : lowering.Scope
  sc = scope_of program task

  control_within : (x : Name) → is_control s x ≡ true → slot (controls_of task) x < length (controls_of task)
  control_within x e = slot_within (controls_of task) x e

  register_within : (x : Name) → is_register s x ≡ true → slot (registers_of task) x < length (registers_of task)
  register_within x e = slot_within (registers_of task) x e

  -- ---- expressions

  register_exists : (o : Option ℕ) → ((k : ℕ) → o ≡ Some k → k < length (registers_of task)) → CalcExists (shape_of task) (register_calc o)
  register_exists None within = tt
  register_exists (Some k) within = within k refl

  rows_exists : (o : Option ℕ) → CalcExists (shape_of task) (rows_calc o)
  rows_exists None = tt
  rows_exists (Some k) = tt

  cell_exists : (o : Option ℕ) (row field : Calc) → CalcExists (shape_of task) row → CalcExists (shape_of task) field
      → CalcExists (shape_of task) (cell_calc o row field)
  cell_exists None row field r f = tt
  cell_exists (Some k) row field r f = (r, f)

  mutual
    calc_exists : (e : Expr) → has_unknown s e ≡ false → CalcExists (shape_of task) (calc sc e)
    calc_exists (tree.Num v) h = tt
    calc_exists (tree.Ctl x) h = control_within x (yes (is_control s x) h)
    calc_exists (tree.Reg x) h = register_exists (position (is_name x) (registers_of task)) (position_within (registers_of task) x)
    calc_exists tree.Me h = tt
    calc_exists (tree.Rows f) h = rows_exists (position (is_name f) (feeds_of program.heads))
    calc_exists (tree.Cell f row field) h =
        let parts =
        or_false (has_unknown s row) (has_unknown s field)
        (or_false (not (is_feed s f)) (has_unknown s row || has_unknown s field) h).1 in
        cell_exists (position (is_name f) (feeds_of program.heads)) (calc sc row) (calc sc field) (calc_exists row parts.0)
        (calc_exists field parts.1)
    calc_exists (tree.Neg e) h = calc_exists e h
    calc_exists (tree.Not e) h = calc_exists e h
    calc_exists (tree.Chain e links) h =
        let parts = or_false (has_unknown s e) (some_member (is_undeclared s) links) h in
        (calc_exists e parts.0, operands_exist links parts.1)

    operands_exist : (links : Links) → some_member (is_undeclared s) links ≡ false → OperandsExist (shape_of task) (operands_of sc links)
    operands_exist tree.NoLinks h = tt
    operands_exist (tree.Link op e links) h =
        let parts = or_false (has_unknown s e) (some_member (is_undeclared s) links) h in
        (calc_exists e parts.0, operands_exist links parts.1)

  calcs_exist : (es : List Expr) → list_any (has_unknown s) es ≡ false → CalcsExist (shape_of task) (calcs sc es)
  calcs_exist [] h = tt
  calcs_exist (e ∷ es) h =
      let parts = or_false (has_unknown s e) (list_any (has_unknown s) es) h in
      (calc_exists e parts.0, calcs_exist es parts.1)

  index_exists : (i : Atom) → is_atom s i ≡ true → IndexExists (shape_of task) (index sc i)
  index_exists (atom.Num v) h = tt
  index_exists (atom.Var x) h = control_within x h

  control_into : (x : Option Name) → option_map_or (λ y. not (is_control s y)) x false ≡ false
      → IntoExists (length (controls_of task)) (option_map (slot (controls_of task)) x)
  control_into None h = tt
  control_into (Some x) h = control_within x (yes (is_control s x) h)

  register_into : (x : Option Name) → option_map_or (λ y. not (is_register s y)) x false ≡ false
      → IntoExists (length (registers_of task)) (option_map (slot (registers_of task)) x)
  register_into None h = tt
  register_into (Some x) h = register_within x (yes (is_register s x) h)

  -- ---- forks

  controls_exist : (params : List Param) (es : List Expr) → list_any (has_unknown s) es ≡ false
      → CalcsExist (shape_of task) (control_calcs sc params es)
  controls_exist [] es h = tt
  controls_exist (param.Ctl x ∷ params) [] h = tt
  controls_exist (param.Reg x ∷ params) [] h = tt
  controls_exist (param.Ctl x ∷ params) (e ∷ es) h =
      let parts = or_false (has_unknown s e) (list_any (has_unknown s) es) h in
      (calc_exists e parts.0, controls_exist params es parts.1)
  controls_exist (param.Reg x ∷ params) (e ∷ es) h = controls_exist params es (or_false (has_unknown s e) (list_any (has_unknown s) es) h).1

  or_true : (a b : Bool) → b ≡ true → (a || b) ≡ true
  or_true true b e = refl
  or_true false b e = e

  gifts_exist : (given : List Name) (params : List Param) (es : List Expr)
      → ((x : Name) → is_among x (datas params) ≡ true → is_among x given ≡ true) → list_any (has_unknown s) es ≡ false
      → GiftsExist (shape_of task) (length given) (gifts sc given params es)
  gifts_exist given [] es among h = tt
  gifts_exist given (param.Ctl x ∷ params) [] among h = tt
  gifts_exist given (param.Reg x ∷ params) [] among h = tt
  gifts_exist given (param.Ctl x ∷ params) (e ∷ es) among h =
      gifts_exist given params es among (or_false (has_unknown s e) (list_any (has_unknown s) es) h).1
  gifts_exist given (param.Reg x ∷ params) (e ∷ es) among h =
      let parts = or_false (has_unknown s e) (list_any (has_unknown s) es) h in (
        slot_within given x (among x (ap (λ b. b || is_among x (datas params)) (is_name-itself x))),
        calc_exists e parts.0,
        gifts_exist given params es (λ y there. among y (or_true (is_name y x) (is_among y (datas params)) there)) parts.1,
      )

  among_registers : (t : TaskText) (x : Name) → is_among x (datas t.params) ≡ true → is_among x (registers_of t) ≡ true
  among_registers t x there =
      or_true (is_name x ret) (is_among x (datas (t.params ++ declared_in t.vars)))
      (ap (is_among x) (datas-append t.params (declared_in t.vars))
      ∙ list_any-append (is_name x) (datas t.params) (datas (declared_in t.vars))
      ∙ ap (λ b. b || is_among x (datas (declared_in t.vars))) there)

  fork_exists : (o : Option TaskText) (k : ℕ) (es : List Expr) (into : Option ℕ) → list_any (has_unknown s) es ≡ false
      → IntoExists (length (controls_of task)) into
      → DoesExists (shape_of task) (Fork (forking sc o k es into))
  fork_exists None k es into h there = ((tt, tt), tt, there)
  fork_exists (Some t) k es into h there =
      (controls_exist t.params es h, gifts_exist (registers_of t) t.params es (among_registers t) h, there)

  barrier_exists : (o : Option ℕ) → DoesExists (shape_of task) (barrier_code o)
  barrier_exists None = (omega arith, tt)
  barrier_exists (Some b) = tt

  -- ---- statements

  abbrev Exist : List Instr → Type 0
  Exist [] = ⊤
  Exist (At line d ∷ code) = DoesExists (shape_of task) d × Exist code

  exist_append : (a b : List Instr) → Exist a → Exist b → Exist (a ++ b)
  exist_append [] b first second = second
  exist_append (At line d ∷ a) b first second = (first.0, exist_append a b first.1 second)

  abbrev Faultless : List Visit → Type 0
  Faultless visits = first_fault visits ≡ None

  -- of the visits of a statement: no rule fails at it, and none inside it
  parts_of : (line : ℕ) (w : What) (held : List Pair) → Faultless (visits_of s (tree.At line w) held)
      → (fails_at s w held ≡ []) × Faultless (visits_inside s w held)
  parts_of line w held none =
      let outer = split (visit line (fails_at s w held) ∷ visits_inside s w held) (visit line (fails_after s w held) ∷ []) none in
      here line (fails_at s w held) (first_fault (visits_inside s w held)) outer.0

  data_first : (a b : Bool) → (a || b) ≡ false → a ≡ false
  data_first a b h = (or_false a b h).0

  mutual
    deed_exists : (w : What) (held : List Pair) → fails_at s w held ≡ [] → Faultless (visits_inside s w held)
        → DeedExists (shape_of task) (deed sc w)
    deed_exists (tree.SetReg x e) held fails inside =
        let parts = or_false (not (is_register s x)) (has_unknown s e) (known _ _ fails) in
        (register_within x (yes _ parts.0), calc_exists e parts.1)
    deed_exists (tree.Read r i x) held fails inside =
        let parts =
        or_false (not (is_atom s i)) (not (is_register s x))
        (or_false (is_none (array_over s r)) (not (is_atom s i) || not (is_register s x)) (known _ _ fails)).1 in
        (index_exists i (yes _ parts.0), register_within x (yes _ parts.1))
    deed_exists (tree.Write r i e) held fails inside =
        let parts =
        or_false (not (is_atom s i)) (has_unknown s e)
        (or_false (is_none (array_over s r)) (not (is_atom s i) || has_unknown s e) (known _ _ (known_left _ _ fails))).1 in
        (index_exists i (yes _ parts.0), calc_exists e parts.1)
    deed_exists (tree.Print es) held fails inside = calcs_exist es (known _ _ fails)
    deed_exists (tree.When e a b) held fails inside =
        let arms = split (visits_in s a held) (visits_in s b held) inside in
        (calc_exists e (known _ _ fails), arm_exists a held arms.0, arm_exists b held arms.1)
    deed_exists (tree.SetCtl x e) held fails inside = (omega arith, tt)
    deed_exists (tree.While e b) held fails inside = (omega arith, tt)
    deed_exists (tree.If e a b) held fails inside = (omega arith, tt)
    deed_exists (tree.Lock a i) held fails inside = (omega arith, tt)
    deed_exists (tree.Unlock a i) held fails inside = (omega arith, tt)
    deed_exists (tree.Fork t es x) held fails inside = (omega arith, tt)
    deed_exists (tree.Join e x) held fails inside = (omega arith, tt)
    deed_exists (tree.Barrier b) held fails inside = (omega arith, tt)
    deed_exists (tree.Settle x c) held fails inside = (omega arith, tt)

    arm_exists : (b : Block) (held : List Pair) → Faultless (visits_in s b held) → DeedsExist (shape_of task) (arm sc b)
    arm_exists tree.Nothing held none = tt
    arm_exists (tree.Then st b) held none =
        let parts = split (visits_of s st held) (visits_in s b (held_after st held)) none in
        (deed_in_exists st held parts.0, arm_exists b (held_after st held) parts.1)

    deed_in_exists : (st : Stmt) (held : List Pair) → Faultless (visits_of s st held) → DeedExists (shape_of task) (deed_in sc st)
    deed_in_exists (tree.At line w) held none = let parts = parts_of line w held none in deed_exists w held parts.0 parts.1

  mutual
    what_exists : (line : ℕ) (w : What) (held : List Pair) → fails_at s w held ≡ [] → Faultless (visits_inside s w held)
        → Exist (what_code sc line w)
    what_exists line (tree.SetCtl x e) held fails inside =
        let parts = or_false (not (is_control s x)) (has_unknown s e) (known _ _ (known_left _ _ fails)) in
        ((control_within x (yes _ parts.0), calc_exists e parts.1), tt)
    what_exists line (tree.While e b) held fails inside =
        (tt, exist_append (block_code sc b) _ (block_exists b held inside) (calc_exists e (known _ _ fails), tt))
    what_exists line (tree.If e a b) held fails inside =
        let sides = split (visits_in s a held) (visits_in s b held) inside in
        (calc_exists e (known _ _ fails), exist_append (block_code sc a) _ (block_exists a held sides.0) (tt, block_exists b held sides.1))
    what_exists line (tree.Lock a i) held fails inside =
        (index_exists i (yes _ (or_false (not (is_lock s a)) (not (is_atom s i)) (known _ _ fails)).1), tt)
    what_exists line (tree.Unlock a i) held fails inside =
        (index_exists i (yes _ (or_false (not (is_lock s a)) (not (is_atom s i)) (known _ _ fails)).1), tt)
    what_exists line (tree.Fork t es x) held fails inside =
        let parts = or_false (list_any (has_unknown s) es) (option_map_or (λ y. not (is_control s y)) x false)
        (or_false (is_none (task_named program t)) (list_any (has_unknown s) es || option_map_or (λ y. not (is_control s y)) x false)
        (known _ _ (known_left _ _ (known_left _ _ fails)))).1 in (
          fork_exists (task_named program t) (unwrap_or (task_number program t) 0) es (option_map (slot (controls_of task)) x) parts.0
              (control_into x parts.1),
          tt,
        )
    what_exists line (tree.Join e x) held fails inside =
        let parts = or_false (has_unknown s e) (option_map_or (λ y. not (is_register s y)) x false) (known _ _ fails) in
        ((calc_exists e parts.0, register_into x parts.1), tt)
    what_exists line (tree.Barrier b) held fails inside =
        (barrier_exists (position (λ other. is_name b other.0) (barriers_of program.heads)), tt)
    what_exists line (tree.Settle x c) held fails inside =
        let parts = or_false (not (is_register s x)) (not (is_control s c)) (known _ _ fails) in
        ((register_within x (yes _ parts.0), control_within c (yes _ parts.1)), tt)
    what_exists line (tree.SetReg x e) held fails inside = (deed_exists (tree.SetReg x e) held fails inside, tt)
    what_exists line (tree.Read r i x) held fails inside = (deed_exists (tree.Read r i x) held fails inside, tt)
    what_exists line (tree.Write r i e) held fails inside = (deed_exists (tree.Write r i e) held fails inside, tt)
    what_exists line (tree.Print es) held fails inside = (deed_exists (tree.Print es) held fails inside, tt)
    what_exists line (tree.When e a b) held fails inside = (deed_exists (tree.When e a b) held fails inside, tt)

    block_exists : (b : Block) (held : List Pair) → Faultless (visits_in s b held) → Exist (block_code sc b)
    block_exists tree.Nothing held none = tt
    block_exists (tree.Then st b) held none =
        let parts = split (visits_of s st held) (visits_in s b (held_after st held)) none in
        exist_append (stmt_code sc st) (block_code sc b) (stmt_exists st held parts.0) (block_exists b (held_after st held) parts.1)

    stmt_exists : (st : Stmt) (held : List Pair) → Faultless (visits_of s st held) → Exist (stmt_code sc st)
    stmt_exists (tree.At line w) held none = let parts = parts_of line w held none in what_exists line w held parts.0 parts.1

  exist_at : (code : List Instr) → Exist code → VariablesExist (shape_of task) code
  exist_at [] all pc line does e = absurd (cc e)
  exist_at (At l d ∷ code) all zero line does e = let same : d ≡ does = cc e in subst (DoesExists (shape_of task)) same all.0
  exist_at (At l d ∷ code) all (suc pc) line does e = exist_at code all.1 pc line does e

  task_exists : Faultless (body_visits program task) → VariablesExist (shape_of task) (task_code program task)
  task_exists none = exist_at (task_code program task) (block_exists task.body [] (split (visits_in s task.body []) _ none).0)

-- ---- the tasks of an accepted program

bodies_faultless : (program : Program) → check_fault program ≡ None → first_fault (bodies_visits program program.tasks) ≡ None
bodies_faultless program none =
    let heads = head_visits program [] program.heads in
    let tasks = task_visits (map head_name program.heads) program.tasks in
    (here 1 _ _ (split (heads ++ tasks) (main_visit program ∷ bodies_visits program program.tasks) none).1).1

task_faultless : (program : Program) (tasks : List TaskText) (k : ℕ) (task : TaskText) → first_fault (bodies_visits program tasks) ≡ None
    → slice_get tasks k ≡ Some task → first_fault (body_visits program task) ≡ None
task_faultless program [] k task none is = absurd (cc is)
task_faultless program (t ∷ tasks) zero task none is =
    let same : t ≡ task = cc is in
    ap (λ t. first_fault (body_visits program t)) (sym same) ∙ (split (body_visits program t) (bodies_visits program tasks) none).0
task_faultless program (t ∷ tasks) (suc k) task none is =
    task_faultless program tasks k task (split (body_visits program t) (bodies_visits program tasks) none).1 is

-- each variable in the code of each task exists
pub all_exist : (program : Program) → check_fault program ≡ None → (k : ℕ)
    → VariablesExist (shape_of (task_at program k)) (task_code program (task_at program k))
all_exist program none k = go (slice_get program.tasks k) refl
  where
    go : (o : Option TaskText) → slice_get program.tasks k ≡ o
        → VariablesExist (shape_of (unwrap_or o no_task)) (task_code program (unwrap_or o no_task))
    go None is = λ pc line does e. absurd (cc e)
    go (Some task) is = task_exists program task (task_faultless program program.tasks k task (bodies_faultless program none) is)
