-- A fork's task and its arguments. The task of a name is found at its position. Control arguments are values, one after
-- another; data arguments are actions, and the loop over them keeps that those that are left do on what was reached
-- what all of them do from the beginning (AheadOf). Where the task or an argument is missing, the step of the plain run
-- finds none either.
use Rattle.std.specs.declared.alloc.AllocError.{AllocError}
use Rattle.std.proofs.Common.{Result, Ok, Err, IfOk, ◌≡◌, ℕ, suc, ◌+◌, ◌<◌, ℤ, Bool, true, false, cond, List, [], ◌∷◌, ◌++◌, map, length, get_or, drop, Option, Some, None, refl, sym, ap, ◌∙◌, subst, option_map, option_and_then, position, unwrap_or, append-nil, nat_lt, ◌≤◌, ◌&&◌}
use Rattle.std.specs.Prelude.{is_some, is_none, slice_get, slice_set, find, replicate, pos}
use Rattle.one_thread.specs.declared.data.Data.{Data}
use Rattle.one_thread.specs.inner.Working.{worked, all_worked}
use Rattle.std.proofs.lemmas.Bool.{false≢true, ltb-true, ltb-false}
use Rattle.task_ast.specs.declared.env.Env.{Env}
use Rattle.task_ast.specs.declared.sync.SyncOp.TheVariants as sync
use Rattle.task_ast.specs.declared.tree.Expr.{Expr as CodeExpr}
use Rattle.task_ast.specs.declared.tree.Param.{Param}
use Rattle.task_ast.specs.declared.tree.Param.TheVariants as param
use Rattle.task_ast.specs.declared.tree.TaskText.{TaskText as CodeTask}
use Rattle.task_ast.specs.declared.tree.Program.{Program as CodeProgram}
use Rattle.task_ast.specs.meaning.Tree.{Name, Expr, TaskText}
use Rattle.task_ast.specs.meaning.Names.{is_name, is_task, task_named, task_number, registers_of, slot}
use Rattle.task_ast.specs.meaning.Action.{OfRegisters, Action, Give, Child, of_registers}
use Rattle.task_ast.specs.meaning.Body.{Step}
use Rattle.task_ast.specs.meaning.Control.{Setting, Point, known, stop, control_arguments, data_arguments, fork_arguments, fork_named}
use Rattle.task_ast.specs.View.{plain_expr, plain_exprs, plain_task, plain_program}
use Rattle.task_ast.proofs.Terms.{position-cons}
use Rattle.one_thread.specs.declared.walk.Walk.{Walk}
use Rattle.one_thread.specs.declared.walk.Went.TheVariants as went
use Rattle.one_thread.specs.Walking.{setting_of, point_of, Stepped, Gives}
use Rattle.std.proofs.Math.ListN.{drop_of_length-le}
use Rattle.task_ast.proofs.Arms.{from-here}
use Rattle.one_thread.proofs.Fitting.{and_then_some}
use Rattle.one_thread.proofs.Steps.{env_is, stays}

position-map : {A B : Type 0} (p : B → Bool) (f : A → B) (xs : List A) → position p (map f xs) ≡ position (λ x. p (f x)) xs
position-map p f [] = refl
position-map p f (x ∷ xs) =
    position-cons p (f x) (map f xs) ∙ ap (λ o. cond (p (f x)) (Some 0) (option_map suc o)) (position-map p f xs)
    ∙ sym (position-cons (λ x. p (f x)) x xs)

some_zero : (b : Bool) (o : Option ℕ) (k : ℕ) → b ≡ true → cond b (Some 0) (option_map suc o) ≡ Some k → 0 ≡ k
some_zero true o k e is = cc is
some_zero false o k e is = absurd (false≢true e)

some_later : (b : Bool) (o : Option ℕ) (k : ℕ) → b ≡ false → cond b (Some 0) (option_map suc o) ≡ Some k
    → (j : ℕ) × (o ≡ Some j) × (suc j ≡ k)
some_later true o k e is = absurd (false≢true (sym e))
some_later false None k e is = absurd (cc is)
some_later false (Some j) k e is = (j, refl, cc is)

none_later : (b : Bool) (o : Option ℕ) → cond b (Some 0) (option_map suc o) ≡ None → (b ≡ false) × (o ≡ None)
none_later true o is = absurd (cc is)
none_later false None is = (refl, refl)
none_later false (Some j) is = absurd (cc is)

found_by : {A B : Type 0} (p : B → Bool) (f : A → B) (xs : List A) (k : ℕ) (x : A) → position (λ x. p (f x)) xs ≡ Some k
    → slice_get xs k ≡ Some x → find p (map f xs) ≡ Some (f x)
found_by p f [] k x is at = absurd (cc at)
found_by p f (y ∷ ys) k x is at =
    go (p (f y)) refl (sym (position-cons (λ x. p (f x)) y ys) ∙ is) (λ j here there. found_by p f ys j x here there)
  where
    go : (b : Bool) → p (f y) ≡ b → cond (p (f y)) (Some 0) (option_map suc (position (λ x. p (f x)) ys)) ≡ Some k
        → ((j : ℕ) → position (λ x. p (f x)) ys ≡ Some j → slice_get ys j ≡ Some x → find p (map f ys) ≡ Some (f x))
        → cond (p (f y)) (Some (f y)) (find p (map f ys)) ≡ Some (f x)
    go true e first again =
        let zero_is : 0 ≡ k = some_zero (p (f y)) (position (λ x. p (f x)) ys) k e first in
        ap (λ b. cond b (Some (f y)) (find p (map f ys))) e
        ∙ ap (option_map f) (subst (λ n. slice_get (y ∷ ys) n ≡ Some x) (sym zero_is) at)
    go false e first again =
        let later = some_later (p (f y)) (position (λ x. p (f x)) ys) k e first in
        ap (λ b. cond b (Some (f y)) (find p (map f ys))) e
        ∙ again later.0 later.1 (subst (λ n. slice_get (y ∷ ys) n ≡ Some x) (sym later.2) at)

missing_by : {A B : Type 0} (p : B → Bool) (f : A → B) (xs : List A) → position (λ x. p (f x)) xs ≡ None → find p (map f xs) ≡ None
missing_by p f [] is = refl
missing_by p f (y ∷ ys) is =
    let later = none_later (p (f y)) (position (λ x. p (f x)) ys) (sym (position-cons (λ x. p (f x)) y ys) ∙ is) in
    ap (λ b. cond b (Some (f y)) (find p (map f ys))) later.0 ∙ missing_by p f ys later.1

-- the task of a name
pub number-is : (x : Name) (program : CodeProgram) (o : Option ℕ) → o ≡ position (λ task. is_name x task.name) program.tasks
    → task_number (plain_program program) x ≡ o
number-is x program o is = position-map (is_task x) plain_task program.tasks ∙ sym is

pub named-is : (x : Name) (program : CodeProgram) (k : ℕ) (task : CodeTask) → Some k ≡ position (λ task. is_name x task.name) program.tasks
    → slice_get program.tasks k ≡ Some task
    → task_named (plain_program program) x ≡ Some (plain_task task)
named-is x program k task is at = found_by (is_task x) plain_task program.tasks k task (sym is) at

pub unnamed-is : (x : Name) (program : CodeProgram) → None ≡ position (λ task. is_name x task.name) program.tasks
    → task_named (plain_program program) x ≡ None
unnamed-is x program is = missing_by (is_task x) plain_task program.tasks (sym is)

-- control arguments, one after another
abbrev pub controls_from : List Param → List CodeExpr → Env → ℕ → List ℤ → Option (List ℤ)
controls_from params es env i values = option_map (λ vs. values ++ vs) (control_arguments (drop i params) (plain_exprs (drop i es)) env)

pub no_more_controls : (params : List Param) (es : List Expr) (env : Env) → es ≡ [] → control_arguments params es env ≡ Some []
no_more_controls params es env none = ap (λ l. control_arguments params l env) none ∙ go params
  where
    go : (params : List Param) → control_arguments params [] env ≡ Some []
    go [] = refl
    go (param.Ctl x ∷ params) = refl
    go (param.Reg x ∷ params) = refl

-- arguments past the last
pub controls-end : (params : List Param) (es : List CodeExpr) (env : Env) (k : ℕ) (values : List ℤ) → false ≡ nat_lt k (length es)
    → Some values ≡ controls_from params es env k values
controls-end params es env k values past =
    ap Some (sym (append-nil values)) ∙ ap (option_map (λ vs. values ++ vs))
    (sym (no_more_controls (drop k params) (plain_exprs (drop k es)) env
    (ap plain_exprs (drop_of_length-le es (ltb-false k (length es) (sym past))))))

module _ (s : Setting) (given registers : List Name) (env : Env) where
  abbrev pub datas_from : List Param → List CodeExpr → ℕ → Bool
  datas_from params es k = is_some (data_arguments s given registers (drop k params) (plain_exprs (drop k es)) env)

  no_more_datas : (params : List Param) (es : List Expr) → es ≡ [] → true ≡ is_some (data_arguments s given registers params es env)
  no_more_datas params es none = go params ∙ ap (λ l. is_some (data_arguments s given registers params l env)) (sym none)
    where
      go : (params : List Param) → true ≡ is_some (data_arguments s given registers params [] env)
      go [] = refl
      go (param.Ctl x ∷ params) = refl
      go (param.Reg x ∷ params) = refl

  pub datas-end : (params : List Param) (es : List CodeExpr) (k : ℕ) → false ≡ nat_lt k (length es) → true ≡ datas_from params es k
  datas-end params es k past =
      no_more_datas (drop k params) (plain_exprs (drop k es)) (ap plain_exprs (drop_of_length-le es (ltb-false k (length es) (sym past))))

  pub datas-over : (params : List Param) (es : List CodeExpr) (k : ℕ) → length params ≤ k → true ≡ datas_from params es k
  datas-over params es k past =
      ap (λ (l : List Param). is_some (data_arguments s given registers l (plain_exprs (drop k es)) env))
      (sym (drop_of_length-le params past))

  datas_here : (params : List Param) (es : List CodeExpr) (k : ℕ) (p : Param) (e : CodeExpr) → k < length params → p ≡ get_or params k p
      → true ≡ nat_lt k (length es) → e ≡ get_or es k e
      → datas_from params es k ≡ is_some (data_arguments s given registers (p ∷ drop (k + 1) params)
      (plain_expr e ∷ plain_exprs (drop (k + 1) es)) env)
  datas_here params es k p e p_in p_is e_in e_is =
      from-here (λ (l : List Param). is_some (data_arguments s given registers l (plain_exprs (drop k es)) env)) params k p p_in p_is
      ∙ from-here (λ (l : List CodeExpr). is_some (data_arguments s given registers (p ∷ drop (k + 1) params) (plain_exprs l) env)) es k e
      (ltb-true k (length es) (sym e_in)) e_is

  -- a data argument
  pub data-argument : (params : List Param) (es : List CodeExpr) (k : ℕ) (p : Param) (e : CodeExpr) (x : Name) (b : Bool)
      → k < length params → p ≡ get_or params k p → true ≡ nat_lt k (length es) → e ≡ get_or es k e
      → p ≡ param.Reg x → b ≡ is_some (of_registers registers (plain_expr e) env) → datas_from params es k ≡ b && datas_from params es (k + 1)
  data-argument params es k p e x b p_in p_is e_in e_is variable has =
      datas_here params es k p e p_in p_is e_in e_is
      ∙ ap (λ q. is_some (data_arguments s given registers (q ∷ drop (k + 1) params) (plain_expr e ∷ plain_exprs (drop (k + 1) es)) env))
      variable
      ∙ and_then_some _ (of_registers registers (plain_expr e) env)
      (data_arguments s given registers (drop (k + 1) params) (plain_exprs (drop (k + 1) es)) env)
      ∙ ap (λ b. b && datas_from params es (k + 1)) (sym has)

  -- a control argument
  pub data-past : (params : List Param) (es : List CodeExpr) (k : ℕ) (p : Param) (e : CodeExpr) (x : Name) → k < length params
      → p ≡ get_or params k p → true ≡ nat_lt k (length es) → e ≡ get_or es k e
      → p ≡ param.Ctl x → datas_from params es k ≡ datas_from params es (k + 1)
  data-past params es k p e x p_in p_is e_in e_is variable =
      datas_here params es k p e p_in p_is e_in e_is
      ∙ ap (λ q. is_some (data_arguments s given registers (q ∷ drop (k + 1) params) (plain_expr e ∷ plain_exprs (drop (k + 1) es)) env))
      variable

-- the step at a fork
abbrev forks : Walk → ℕ → Name → Option (List ℤ × List Action) → Step Point
forks walk line t o = known line o (λ arguments. stop (sync.Fork (unwrap_or (task_number (setting_of walk).program t) 0) arguments.0) line)

none_forks : (walk : Walk) (line : ℕ) (t : Name) (o : Option (List ℤ × List Action)) → walk.env.regs ≡ [] → o ≡ None
    → Stepped (forks walk line t o) (went.Stopped (record { sync = sync.BadIndex; line = line })) walk walk
none_forks walk line t o clean is =
    subst (λ o. Stepped (forks walk line t o) (went.Stopped (record { sync = sync.BadIndex; line = line })) walk walk) (sym is)
    (refl, stays walk clean, refl)

abbrev arguments_with : Walk → TaskText → List Expr → Env → Option (List ℤ × List Action)
arguments_with walk task es env =
    option_and_then (λ values. option_map (λ actions. (values, Child (length (registers_of task)) ∷ actions))
    (data_arguments (setting_of walk) (registers_of task) (registers_of (point_of walk).task) task.params es env))
    (control_arguments task.params es env)

args_of : (walk : Walk) (t : Name) (es : List Expr) (task : TaskText) → walk.env.regs ≡ []
    → task_named (setting_of walk).program t ≡ Some task
    → fork_named (setting_of walk) t es (point_of walk) ≡ arguments_with walk task es walk.env
args_of walk t es task clean named =
    ap (option_and_then (λ task. fork_arguments (setting_of walk) task es (point_of walk))) named
    ∙ ap (arguments_with walk task es) (env_is walk clean)

pub no-task : (walk : Walk) (line : ℕ) (t : Name) (es : List Expr) → walk.env.regs ≡ [] → task_named (setting_of walk).program t ≡ None
    → Stepped (forks walk line t (fork_named (setting_of walk) t es (point_of walk)))
    (went.Stopped (record { sync = sync.BadIndex; line = line })) walk walk
no-task walk line t es clean none =
    none_forks walk line t _ clean (ap (option_and_then (λ task. fork_arguments (setting_of walk) task es (point_of walk))) none)

data_some : {A : Type 0} (o : Option (List Action)) (f : List Action → A) → true ≡ is_some o
    → (actions : List Action) × (option_map f o ≡ Some (f actions))
data_some None f is = absurd (false≢true (sym is))
data_some (Some x) f is = (x, refl)

-- the values of a fork's control arguments, where its data arguments have values too
abbrev pub valued : Option (List Action) → Option (List ℤ) → Option (List ℤ)
valued actions controls = option_and_then (λ values. option_map (λ does. values) actions) controls

pub valued-not : (actions : Option (List Action)) (controls : Option (List ℤ)) → false ≡ is_some actions → None ≡ valued actions controls
valued-not None None fits = refl
valued-not None (Some values) fits = refl
valued-not (Some does) controls fits = absurd (false≢true fits)

valued-all : (actions : Option (List Action)) (controls : Option (List ℤ)) → true ≡ is_some actions → controls ≡ valued actions controls
valued-all None controls fits = absurd (false≢true (sym fits))
valued-all (Some does) None fits = refl
valued-all (Some does) (Some values) fits = refl

pub valued-ok : (r : Result (Option (List ℤ)) AllocError) (controls : Option (List ℤ))
    (actions : Setting → List Name → List Name → Option (List Action)) → IfOk r (λ values. values ≡ controls)
    → ((s : Setting) (given registers : List Name) → true ≡ is_some (actions s given registers))
    → IfOk r (λ values. (s : Setting) (given registers : List Name) → values ≡ valued (actions s given registers) controls)
valued-ok (Ok values) controls actions is fits = λ s given registers.
    is ∙ valued-all (actions s given registers) controls (fits s given registers)
valued-ok (Err fault) controls actions is fits = is

pub valued-some : (actions : Option (List Action)) (controls : Option (List ℤ)) (values : List ℤ) → Some values ≡ valued actions controls
    → (Some values ≡ controls) × (true ≡ is_some actions)
valued-some None None values is = absurd (cc is)
valued-some None (Some others) values is = absurd (cc is)
valued-some (Some does) None values is = absurd (cc is)
valued-some (Some does) (Some others) values is = (is, refl)

valued-none : (actions : Option (List Action)) (controls : Option (List ℤ)) (first : Action) → None ≡ valued actions controls
    → option_and_then {U = List ℤ × List Action} (λ values. option_map (λ does. (values, first ∷ does)) actions) controls ≡ None
valued-none None None first is = refl
valued-none None (Some values) first is = refl
valued-none (Some does) None first is = refl
valued-none (Some does) (Some values) first is = absurd (cc is)

-- where an argument of a fork has no value
pub fork-unvalued : (walk : Walk) (t : Name) (es : List Expr) (task : TaskText) → walk.env.regs ≡ []
    → task_named (setting_of walk).program t ≡ Some task
    → None ≡ valued (data_arguments (setting_of walk) (registers_of task) (registers_of (point_of walk).task) task.params es walk.env)
    (control_arguments task.params es walk.env)
    → fork_named (setting_of walk) t es (point_of walk) ≡ None
fork-unvalued walk t es task clean named none =
    args_of walk t es task clean named
    ∙ valued-none (data_arguments (setting_of walk) (registers_of task) (registers_of (point_of walk).task) task.params es walk.env)
    (control_arguments task.params es walk.env) (Child (length (registers_of task))) none

pub no-values : (walk : Walk) (line : ℕ) (t : Name) (es : List Expr) (task : TaskText) → walk.env.regs ≡ []
    → task_named (setting_of walk).program t ≡ Some task
    → None ≡ valued (data_arguments (setting_of walk) (registers_of task) (registers_of (point_of walk).task) task.params es walk.env)
    (control_arguments task.params es walk.env)
    → Stepped (forks walk line t (fork_named (setting_of walk) t es (point_of walk)))
    (went.Stopped (record { sync = sync.BadIndex; line = line })) walk walk
no-values walk line t es task clean named none =
    none_forks walk line t _ clean (fork-unvalued walk t es task clean named none)

pub forked : (walk : Walk) (line : ℕ) (t : Name) (es : List Expr) (task : TaskText) (k : ℕ) (values : List ℤ) → walk.env.regs ≡ []
    → task_named (setting_of walk).program t ≡ Some task → task_number (setting_of walk).program t ≡ Some k
    → Some values ≡ control_arguments task.params es walk.env
    → true ≡ is_some (data_arguments (setting_of walk) (registers_of task) (registers_of (point_of walk).task) task.params es walk.env)
    → Stepped (forks walk line t (fork_named (setting_of walk) t es (point_of walk)))
    (went.Stopped (record { sync = sync.Fork k values; line = line })) walk walk
forked walk line t es task k values clean named number some fits =
    let has = data_some _ (λ actions. (values, Child (length (registers_of task)) ∷ actions)) fits in
    subst (λ o. Stepped (forks walk line t o) (went.Stopped (record { sync = sync.Fork k values; line = line })) walk walk)
    (sym (args_of walk t es task clean named ∙ ap (option_and_then _) (sym some) ∙ has.1))
    (ap (λ o. record { sync = sync.Fork (unwrap_or o 0) values; line = line }) (sym number), stays walk clean, refl)

-- where a fork's task or arguments are not resolved, and where they are
pub fork-untasked : (walk : Walk) (t : Name) (es : List Expr) → task_named (setting_of walk).program t ≡ None
    → fork_named (setting_of walk) t es (point_of walk) ≡ None
fork-untasked walk t es none = ap (option_and_then (λ task. fork_arguments (setting_of walk) task es (point_of walk))) none

pub gives-none : (walk : Walk) (o : Option (List ℤ × List Action)) → o ≡ None → Gives o walk walk
gives-none walk o none =
    record {
      does = λ joined. ap (λ o. all_worked joined (unwrap_or (option_map (λ arguments. arguments.1) o) []) walk.data) (sym none);
      left = refl;
      env = refl;
      program = refl;
      task = refl;
      registers = refl;
    }

some_data : (o : Option (List Action)) → true ≡ is_some o → (actions : List Action) × (o ≡ Some actions)
some_data None is = absurd (false≢true (sym is))
some_data (Some actions) is = (actions, refl)

gives-all : (walk : Walk) (t : Name) (es : List Expr) (task : TaskText) (values : List ℤ) (given names : List Name) (child : List ℤ)
    (new : Data) → walk.env.regs ≡ [] → task_named (setting_of walk).program t ≡ Some task
    → Some values ≡ control_arguments task.params es walk.env
    → true ≡ is_some (data_arguments (setting_of walk) (registers_of task) (registers_of (point_of walk).task) task.params es walk.env)
    → given ≡ registers_of task → names ≡ registers_of (point_of walk).task → child ≡ replicate (length given) (pos 0)
    → ((joined : ℤ) (s : Setting) (actions : List Action) → data_arguments s given names task.params es walk.env ≡ Some actions
    → new ≡ all_worked joined actions (record walk.data { child = child }))
    → Gives (fork_named (setting_of walk) t es (point_of walk)) walk (record walk { «data» = new })
gives-all walk t es task values given names child new clean named some fits given_is names_is child_is works =
    let data_is =
    some_data (data_arguments (setting_of walk) (registers_of task) (registers_of (point_of walk).task) task.params es walk.env) fits in
    let resolved : fork_named (setting_of walk) t es (point_of walk) ≡ Some (values, Child (length (registers_of task)) ∷ data_is.0) =
    args_of walk t es task clean named ∙ ap (option_and_then _) (sym some)
    ∙ ap (option_map (λ actions. (values, Child (length (registers_of task)) ∷ actions))) data_is.1 in
    record {
      does = λ joined.
          works joined (setting_of walk) data_is.0
          (ap (λ g. data_arguments (setting_of walk) g names task.params es walk.env) given_is
          ∙ ap (λ n. data_arguments (setting_of walk) (registers_of task) n task.params es walk.env) names_is ∙ data_is.1)
          ∙ ap (λ c. all_worked joined data_is.0 (record walk.data { child = c }))
          (child_is ∙ ap (λ g. replicate (length g) (pos 0)) given_is)
          ∙ ap (λ o. all_worked joined (unwrap_or (option_map (λ arguments. arguments.1) o) []) walk.data) (sym resolved);
      left = refl;
      env = refl;
      program = refl;
      task = refl;
      registers = refl;
    }

-- where the values of its arguments are told
module _ (walk : Walk) (t : Name) (es : List Expr) (task : TaskText) (values : Option (List ℤ)) (clean : walk.env.regs ≡ [])
    (named : task_named (setting_of walk).program t ≡ Some task)
    (is : values
    ≡ valued (data_arguments (setting_of walk) (registers_of task) (registers_of (point_of walk).task) task.params es walk.env)
    (control_arguments task.params es walk.env)) where
  pub gives-unvalued : true ≡ is_none values → Gives (fork_named (setting_of walk) t es (point_of walk)) walk walk
  gives-unvalued none = gives-none walk _ (fork-unvalued walk t es task clean named (no_value values none ∙ is))
    where
      no_value : (o : Option (List ℤ)) → true ≡ is_none o → None ≡ o
      no_value None none = refl
      no_value (Some v) none = absurd (false≢true (sym none))

  pub gives-valued : (given names : List Name) (child : List ℤ) (new : Data) → false ≡ is_none values
      → given ≡ registers_of task → names ≡ registers_of (point_of walk).task → child ≡ replicate (length given) (pos 0)
      → ((joined : ℤ) (s : Setting) (actions : List Action) → data_arguments s given names task.params es walk.env ≡ Some actions
      → new ≡ all_worked joined actions (record walk.data { child = child }))
      → Gives (fork_named (setting_of walk) t es (point_of walk)) walk (record walk { «data» = new })
  gives-valued given names child new some given_is names_is child_is works =
      let value = a_value values some in
      let both =
      valued-some (data_arguments (setting_of walk) (registers_of task) (registers_of (point_of walk).task) task.params es walk.env)
      (control_arguments task.params es walk.env) value.0 (value.1 ∙ is) in
      gives-all walk t es task value.0 given names child new clean named both.0 both.1 given_is names_is child_is works
    where
      a_value : (o : Option (List ℤ)) → false ≡ is_none o → (v : List ℤ) × (Some v ≡ o)
      a_value None some = absurd (false≢true some)
      a_value (Some v) some = (v, refl)

-- the data arguments that are left do on what was reached what all of them do from the beginning
abbrev pub AheadOf : (joined : ℤ) → (whole left : Option (List Action)) → (now start : Data) → Type 0
AheadOf joined whole left now start =
    (actions : List Action) → whole ≡ Some actions
    → (rest : List Action) × (left ≡ Some rest) × (all_worked joined rest now ≡ all_worked joined actions start)

pub ahead-none : (joined : ℤ) (whole : Option (List Action)) (start : Data) → AheadOf joined whole whole start start
ahead-none joined whole start actions is = (actions, is, refl)

ahead_same : (joined : ℤ) (whole left other : Option (List Action)) (now start : Data) → left ≡ other → AheadOf joined whole left now start
    → AheadOf joined whole other now start
ahead_same joined whole left other now start same ahead actions is =
    let so_far = ahead actions is in
    (so_far.0, sym same ∙ so_far.1, so_far.2)

pub ahead-done : (joined : ℤ) (whole left : Option (List Action)) (now start : Data) → left ≡ Some [] → AheadOf joined whole left now start
    → (actions : List Action) → whole ≡ Some actions → now ≡ all_worked joined actions start
ahead-done joined whole left now start none ahead actions is =
    let so_far = ahead actions is in
    let empty : [] ≡ so_far.0 = cc (sym none ∙ so_far.1) in
    ap (λ l. all_worked joined l now) empty ∙ so_far.2

given_on : (joined : ℤ) (k : ℕ) (o : Option OfRegisters) (r : Option (List Action)) (now new goal : Data) (rest : List Action)
    → ((t : OfRegisters) → o ≡ Some t → new ≡ worked joined (Give k t) now)
    → option_and_then (λ t. option_map (λ actions. Give k t ∷ actions) r) o ≡ Some rest → all_worked joined rest now ≡ goal
    → (later : List Action) × (r ≡ Some later) × (all_worked joined later new ≡ goal)
given_on joined k None r now new goal rest gives is same = absurd (cc is)
given_on joined k (Some t) None now new goal rest gives is same = absurd (cc is)
given_on joined k (Some t) (Some later) now new goal rest gives is same =
    let all : Give k t ∷ later ≡ rest = cc is in
    (later, refl, ap (all_worked joined later) (gives t refl) ∙ ap (λ l. all_worked joined l now) all ∙ same)

module _ (joined : ℤ) (s : Setting) (given registers : List Name) (env : Env) (whole : Option (List Action)) (start : Data) where
  abbrev pub rest_from : List Param → List CodeExpr → ℕ → Option (List Action)
  rest_from params es k = data_arguments s given registers (drop k params) (plain_exprs (drop k es)) env

  rest_here : (params : List Param) (es : List CodeExpr) (k : ℕ) (p : Param) (e : CodeExpr) → k < length params → p ≡ get_or params k p
      → true ≡ nat_lt k (length es) → e ≡ get_or es k e
      → rest_from params es k ≡ data_arguments s given registers (p ∷ drop (k + 1) params)
      (plain_expr e ∷ plain_exprs (drop (k + 1) es)) env
  rest_here params es k p e p_in p_is e_in e_is =
      from-here (λ (l : List Param). data_arguments s given registers l (plain_exprs (drop k es)) env) params k p p_in p_is
      ∙ from-here (λ (l : List CodeExpr). data_arguments s given registers (p ∷ drop (k + 1) params) (plain_exprs l) env) es k e
      (ltb-true k (length es) (sym e_in)) e_is

  -- a data argument is given
  pub give-one : (params : List Param) (es : List CodeExpr) (k : ℕ) (p : Param) (e : CodeExpr) (x : Name) (now new : Data)
      → k < length params → p ≡ get_or params k p → true ≡ nat_lt k (length es) → e ≡ get_or es k e
      → p ≡ param.Reg x
      → ((t : OfRegisters) → of_registers registers (plain_expr e) env ≡ Some t → new ≡ worked joined (Give (slot given x) t) now)
      → AheadOf joined whole (rest_from params es k) now start → AheadOf joined whole (rest_from params es (k + 1)) new start
  give-one params es k p e x now new p_in p_is e_in e_is variable gives ahead actions is =
      let so_far = ahead actions is in
      given_on joined (slot given x) (of_registers registers (plain_expr e) env) (rest_from params es (k + 1)) now new
      (all_worked joined actions start) so_far.0 gives
      (sym (rest_here params es k p e p_in p_is e_in e_is
      ∙ ap (λ q. data_arguments s given registers (q ∷ drop (k + 1) params) (plain_expr e ∷ plain_exprs (drop (k + 1) es)) env)
      variable) ∙ so_far.1) so_far.2

  -- a control argument is passed over
  pub give-past : (params : List Param) (es : List CodeExpr) (k : ℕ) (p : Param) (e : CodeExpr) (x : Name) (now : Data) → k < length params
      → p ≡ get_or params k p → true ≡ nat_lt k (length es) → e ≡ get_or es k e
      → p ≡ param.Ctl x → AheadOf joined whole (rest_from params es k) now start
      → AheadOf joined whole (rest_from params es (k + 1)) now start
  give-past params es k p e x now p_in p_is e_in e_is variable ahead =
      ahead_same joined whole _ _ now start (rest_here params es k p e p_in p_is e_in e_is
      ∙ ap (λ q. data_arguments s given registers (q ∷ drop (k + 1) params) (plain_expr e ∷ plain_exprs (drop (k + 1) es)) env)
      variable) ahead

  rest_none : (params : List Param) → data_arguments s given registers params [] env ≡ Some []
  rest_none [] = refl
  rest_none (param.Ctl x ∷ params) = refl
  rest_none (param.Reg x ∷ params) = refl

  pub rest-end : (params : List Param) (es : List CodeExpr) (k : ℕ) → false ≡ nat_lt k (length es) → rest_from params es k ≡ Some []
  rest-end params es k past =
      ap (λ (l : List CodeExpr). data_arguments s given registers (drop k params) (plain_exprs l) env)
      (drop_of_length-le es (ltb-false k (length es) (sym past))) ∙ rest_none (drop k params)

  pub rest-over : (params : List Param) (es : List CodeExpr) (k : ℕ) → length params ≤ k → rest_from params es k ≡ Some []
  rest-over params es k past =
      ap (λ (l : List Param). data_arguments s given registers l (plain_exprs (drop k es)) env) (drop_of_length-le params past)

-- the value of a data argument, as it is given
pub given-value : (joined : ℤ) (k : ℕ) (o : Option OfRegisters) (v : ℤ) (now new : Data) → Some v ≡ option_map (λ t. t now.registers) o
    → new ≡ record now { child = slice_set now.child k v } → (t : OfRegisters) → o ≡ Some t → new ≡ worked joined (Give k t) now
given-value joined k o v now new is set t term_is =
    let same : v ≡ t now.registers = cc (is ∙ ap (option_map (λ t. t now.registers)) term_is) in
    set ∙ ap (λ v. record now { child = slice_set now.child k v }) same

pub no-value : (joined : ℤ) (k : ℕ) (o : Option OfRegisters) (now : Data) → None ≡ option_map (λ t. t now.registers) o → (t : OfRegisters)
    → o ≡ Some t → now ≡ worked joined (Give k t) now
no-value joined k o now is t term_is = absurd (cc (is ∙ ap (option_map (λ t. t now.registers)) term_is))
