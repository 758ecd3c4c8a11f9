-- What code that names only low cells names when it runs. The numbers that code names as written bound the cells that
-- it names when it runs: first for a data statement, then for a step, which stays in its task, and so for a body. So a
-- task without bundles fits where its code names none, and one with the bundle of the first lock where it names the
-- first cell alone.
use Rattle.std.proofs.Common.{◌≡◌, ℕ, zero, suc, ◌+◌, ◌-◌, ◌<◌, ◌≤◌, Bool, true, false, ◌||◌, nat_eq, cond, List, [], ◌∷◌, ◌++◌, length, map, get_or, Option, Some, None, IfSome, refl, sym, ap, ◌∙◌, subst, arith, option_map, option_and_then, unwrap_or}
use Rattle.std.specs.Prelude.{ℤ, pos, negsuc, nat_lt, slice_get, slice_set, All}
use Rattle.std.specs.List.{list_any}
use Rattle.std.specs.List.Sorted.{IsStrictlyIncreasing}
use Rattle.std.proofs.lemmas.Bool.{ltb-true}
use Rattle.gp_base.specs.declared.feed.Feed.{Feed}
use Rattle.task_ast.specs.declared.sync.SyncOp.{SyncOp}
use Rattle.task_ast.specs.declared.sync.SyncOp.TheVariants as sync
use Rattle.task_ast.specs.meaning.Names.{place}
use Rattle.task_ast.specs.meaning.Action.{OfRegisters, Action, Arm, Set, Load, Store, Say, Choose, Child, Give, Bring, NoAction, OneAction}
use Rattle.task_ast.specs.meaning.Body.{Step, Silent, Iteration, Act, Stop, Body, follow, stretch, body}
use Rattle.task_ast.specs.meaning.Control.{all_of}
use Rattle.task_ast.specs.laws.Keeps.{NamesOnly, ArmNamesOnly, AllName}
use Rattle.lock_checker.specs.declared.cells.CellRange.{CellRange}
use Rattle.task_code.specs.Instructions.{Deed, SetReg, Read, Write, Print, When, Deeds, NoDeeds, Also, Does, Assign, GoOn, Unless, Again, Lock, Unlock, Fork, Join, Barrier, Settle, Do, Instr, At, Calc}
use Rattle.task_code.specs.Reading.{CalcEnv, Place, begin_actions, calc_of_registers, calc_value, cell_of, code_begins, code_body, code_first, code_size, code_step, deed_action, deeds_arm, either, env_of, fork_arguments, gift_action, given_value, goto, halt, index_at, instr_at, instrs_of, next_place, step_does, step_instr, behind, with_child}
use Rattle.task_code.specs.Flat.{code_of}
use Rattle.subthread.specs.declared.task.Work.{Work}
use Rattle.subthread.specs.declared.task.Task.{Task}
use Rattle.task_ast.specs.SyncOps.{IsNumbered}
use Rattle.subthread.specs.Tasks.{actions_from, place_of, under_of, Fits}
use Rattle.subthread.specs.meaning.Flaws.{Spares}
use Rattle.task_ast.specs.meaning.Under.{under_lock, is_under}
use Rattle.record_store.specs.declared.given.Bundle.{Bundle}
use Rattle.record_store.specs.Lent.{lock_in}
use Rattle.running_tests.specs.Named.{IsBelow, DeedBelow, ArmBelow, DoesBelow, AllBelow, NamesBelow}

module _ (most : ℕ) (test : ℕ → Bool) (passes : (c : ℕ) → c < most → test c ≡ true) where
  some_is : {A : Type 0} {x y : A} → Some x ≡ Some y → x ≡ y
  some_is is = cc

  cell_low : (cells : CellRange) (index : ℤ) (n : ℕ) → IsBelow most cells → cell_of cells index ≡ Some n → test n ≡ true
  cell_low cells (negsuc k) n low is = absurd (cc is)
  cell_low cells (pos k) n low is = go (nat_lt k cells.size) refl is
    where
      go : (b : Bool) → nat_lt k cells.size ≡ b → option_map (λ m. cells.first + m) (cond b (Some k) None) ≡ Some n → test n ≡ true
      go true less some = let same = some_is some in let below = ltb-true k cells.size less in passes n (omega (arith, low))
      go false less some = absurd (cc some)

  -- ---- a data statement

  set_only : (o : Option OfRegisters) (k : ℕ) (a : Action) → option_map (Set k) o ≡ Some a → NamesOnly test a
  set_only None k a is = absurd (cc is)
  set_only (Some t) k a is = subst (NamesOnly test) (some_is is) tt

  say_only : (o : Option (List OfRegisters)) (a : Action) → option_map Say o ≡ Some a → NamesOnly test a
  say_only None a is = absurd (cc is)
  say_only (Some ts) a is = subst (NamesOnly test) (some_is is) tt

  read_only : (o : Option ℕ) (k : ℕ) (a : Action) → ((n : ℕ) → o ≡ Some n → test n ≡ true) → option_map (λ n. Load n k) o ≡ Some a
      → NamesOnly test a
  read_only None k a low is = absurd (cc is)
  read_only (Some n) k a low is = subst (NamesOnly test) (some_is is) (low n refl)

  write_only : (o : Option ℕ) (t : Option OfRegisters) (a : Action) → ((n : ℕ) → o ≡ Some n → test n ≡ true)
      → option_and_then (λ n. option_map (Store n) t) o ≡ Some a → NamesOnly test a
  write_only None t a low is = absurd (cc is)
  write_only (Some n) None a low is = absurd (cc is)
  write_only (Some n) (Some t) a low is = subst (NamesOnly test) (some_is is) (low n refl)

  when_only : (t : Option OfRegisters) (x y : Option Arm) (a : Action) → ((arm : Arm) → x ≡ Some arm → ArmNamesOnly test arm)
      → ((arm : Arm) → y ≡ Some arm → ArmNamesOnly test arm)
      → option_and_then (λ t. option_and_then (λ x. option_map (Choose t x) y) x) t ≡ Some a → NamesOnly test a
  when_only None x y a first second is = absurd (cc is)
  when_only (Some t) None y a first second is = absurd (cc is)
  when_only (Some t) (Some x) None a first second is = absurd (cc is)
  when_only (Some t) (Some x) (Some y) a first second is = subst (NamesOnly test) (some_is is) (first x refl, second y refl)

  also_only : (o : Option Action) (r : Option Arm) (arm : Arm) → ((a : Action) → o ≡ Some a → NamesOnly test a)
      → ((rest : Arm) → r ≡ Some rest → ArmNamesOnly test rest)
      → option_and_then (λ x. option_map (OneAction x) r) o ≡ Some arm → ArmNamesOnly test arm
  also_only None r arm first rest is = absurd (cc is)
  also_only (Some a) None arm first rest is = absurd (cc is)
  also_only (Some a) (Some more) arm first rest is = subst (ArmNamesOnly test) (some_is is) (first a refl, rest more refl)

  mutual
    deed_names : (d : Deed) (env : CalcEnv) (a : Action) → DeedBelow most d → deed_action d env ≡ Some a → NamesOnly test a
    deed_names (SetReg k c) env a low is = set_only (calc_of_registers c env) k a is
    deed_names (Read cells i k) env a low is =
        read_only (cell_of cells (index_at i env.ctl)) k a (λ n some. cell_low cells (index_at i env.ctl) n low some) is
    deed_names (Write cells i c) env a low is =
        write_only (cell_of cells (index_at i env.ctl)) (calc_of_registers c env) a (λ n some. cell_low cells (index_at i env.ctl) n low some) is
    deed_names (Print cs) env a low is = say_only (all_of (map (λ c. calc_of_registers c env) cs)) a is
    deed_names (When c x y) env a low is =
        when_only (calc_of_registers c env) (deeds_arm x env) (deeds_arm y env) a (λ arm some. arm_names x env arm low.0 some)
        (λ arm some. arm_names y env arm low.1 some) is

    arm_names : (ds : Deeds) (env : CalcEnv) (arm : Arm) → ArmBelow most ds → deeds_arm ds env ≡ Some arm → ArmNamesOnly test arm
    arm_names NoDeeds env arm low is = subst (ArmNamesOnly test) (some_is is) tt
    arm_names (Also d more) env arm low is =
        also_only (deed_action d env) (deeds_arm more env) arm (λ a some. deed_names d env a low.0 some)
        (λ rest some. arm_names more env rest low.1 some) is

  -- ---- a step

  -- what the step names passes, and it stays in the task
  abbrev Passes : (task : ℕ) → Step Place → Type 0
  Passes k (Silent r) = r.at.task ≡ k
  Passes k (Act a r) = NamesOnly test a × (r.at.task ≡ k)
  Passes k (Iteration r) = r.at.task ≡ k
  Passes k (Stop next) = Unit {0}

  value_passes : {A : Type 0} (k line : ℕ) (o : Option A) (f : A → Step Place) → ((v : A) → o ≡ Some v → Passes k (f v))
      → Passes k (given_value line o f)
  value_passes k line None f all = tt
  value_passes k line (Some v) f all = all v refl

  either_passes : (k : ℕ) (v : ℤ) (x y : Step Place) → Passes k x → Passes k y → Passes k (either v x y)
  either_passes k (pos zero) x y first second = second
  either_passes k (pos (suc n)) x y first second = first
  either_passes k (negsuc n) x y first second = first

  does_passes : (feeds : List Feed) (line : ℕ) (d : Does) (q : Place) → DoesBelow most d → Passes q.at.task (step_does feeds line d q)
  does_passes feeds line (Assign k c) q low =
      value_passes q.at.task line (calc_value c (env_of feeds q))
      (λ v. Silent (record (next_place q) { ctl = slice_set q.ctl k v })) (λ v is. refl)
  does_passes feeds line (GoOn n) q low = refl
  does_passes feeds line (Unless c n) q low =
      value_passes q.at.task line (calc_value c (env_of feeds q))
      (λ v. either v (Silent (next_place q)) (Silent (goto q (q.at.pc + 1 + n))))
      (λ v is. either_passes q.at.task v (Silent (next_place q)) (Silent (goto q (q.at.pc + 1 + n))) refl refl)
  does_passes feeds line (Again c n) q low =
      value_passes q.at.task line (calc_value c (env_of feeds q)) (λ v. either v (Iteration (goto q (q.at.pc - n))) (Silent (next_place q)))
      (λ v is. either_passes q.at.task v (Iteration (goto q (q.at.pc - n))) (Silent (next_place q)) refl refl)
  does_passes feeds line (Lock cells i) q low =
      value_passes q.at.task line (cell_of cells (index_at i q.ctl)) (λ l. halt (sync.Lock l) line) (λ l is. tt)
  does_passes feeds line (Unlock cells i) q low =
      value_passes q.at.task line (cell_of cells (index_at i q.ctl)) (λ l. halt (sync.Unlock l) line) (λ l is. tt)
  does_passes feeds line (Fork f) q low =
      value_passes q.at.task line (fork_arguments f (env_of feeds q))
      (λ arguments. halt (sync.Fork f.task arguments.0) line) (λ arguments is. tt)
  does_passes feeds line (Join c into) q low =
      value_passes q.at.task line (calc_value c (env_of feeds q)) (λ h. halt (sync.Join h) line) (λ h is. tt)
  does_passes feeds line (Barrier b) q low = tt
  does_passes feeds line (Settle k c) q low = tt
  does_passes feeds line (Do d) q low =
      value_passes q.at.task line (deed_action d (env_of feeds q)) (λ a. Act a (next_place q))
      (λ a is. (deed_names d (env_of feeds q) a low is, refl))

  at_passes : (feeds : List Feed) (instrs : List Instr) (pc : ℕ) (q : Place) → AllBelow most instrs
      → Passes q.at.task (step_instr feeds (slice_get instrs pc) q)
  at_passes feeds [] pc q low = tt
  at_passes feeds (At line d ∷ instrs) zero q low = does_passes feeds line d q low.0
  at_passes feeds (At line d ∷ instrs) (suc pc) q low = at_passes feeds instrs pc q low.1

  -- ---- a body

  module _ (tasks : List (List Instr)) (feeds : List Feed) (k : ℕ) (low : AllBelow most (instrs_of tasks k)) where
    abbrev step : Place → Step Place
    step q = code_step tasks feeds q

    abbrev size : Place → ℕ
    size q = code_size tasks q

    step_passes : (q : Place) → q.at.task ≡ k → Passes k (step q)
    step_passes q here =
        subst (λ t. Passes t (step q)) here (at_passes feeds (instrs_of tasks q.at.task) q.at.pc q
        (subst (λ t. AllBelow most (instrs_of tasks t)) (sym here) low))

    abbrev Pass : (Place → Body Place) → Type 0
    Pass go = (q : Place) → q.at.task ≡ k → AllName test (go q).actions

    abbrev TurnedPass : Option (Place → Body Place) → Type 0
    TurnedPass None = Unit {0}
    TurnedPass (Some go) = Pass go

    follow_passes : (p : Place) (st : Step Place) (go : Place → Body Place) (turned : Option (Place → Body Place)) → Passes k st → Pass go
        → TurnedPass turned → AllName test (follow p st go turned).actions
    follow_passes p (Silent q) go turned passes all more = all q passes
    follow_passes p (Act a q) go turned passes all more = (passes.0, all q passes.1)
    follow_passes p (Iteration q) go None passes all more = tt
    follow_passes p (Iteration q) go (Some f) passes all more = more q passes
    follow_passes p (Stop next) go turned passes all more = tt

    stretch_passes : (turned : Option (Place → Body Place)) → TurnedPass turned → (n : ℕ) → Pass (stretch step size turned n)
    unfolding stretch
    stretch_passes turned more zero p here = tt
    stretch_passes turned more (suc n) p here =
        follow_passes p (step p) (stretch step size turned n) turned (step_passes p here)
        (λ q there. stretch_passes turned more n q there) more

    body_passes : (turns : ℕ) → Pass (body step size turns)
    unfolding body
    body_passes zero p here = stretch_passes None tt (suc (size p)) p here
    body_passes (suc turns) p here =
        stretch_passes (Some (body step size turns)) (λ q there. body_passes turns q there) (suc (size p)) p here

  -- ---- the beginning, which names no cells

  gifts_pass : (gifts : List (ℕ × Calc)) (env : CalcEnv) → AllName test (unwrap_or (all_of (map (λ g. gift_action g env) gifts)) [])
  gifts_pass [] env = tt
  gifts_pass (g ∷ gifts) env = go (calc_of_registers g.1 env) (all_of (map (λ g. gift_action g env) gifts)) (gifts_pass gifts env)
    where
      more : (t : OfRegisters) (r : Option (List Action)) → AllName test (unwrap_or r [])
          → AllName test (unwrap_or (option_map (λ all. Give g.0 t ∷ all) r) [])
      more t None none = tt
      more t (Some actions) none = (tt, none)

      go : (t : Option OfRegisters) (r : Option (List Action)) → AllName test (unwrap_or (all_of (map (λ g. gift_action g env) gifts)) [])
          → AllName test (unwrap_or (all_of (option_map (Give g.0) t ∷ map (λ g. gift_action g env) gifts)) [])
      go None r none = tt
      go (Some t) r none = more t (all_of (map (λ g. gift_action g env) gifts)) none

  arguments_pass : (o : Option (List ℤ)) (r : Option (List Action)) (count : ℕ) → AllName test (unwrap_or r [])
      → AllName test (unwrap_or (option_map (λ (a : List ℤ × List Action). a.1)
      (option_and_then (λ values. option_map (λ actions. (values, Child count ∷ actions)) r) o)) [])
  arguments_pass None r count none = tt
  arguments_pass (Some values) None count none = tt
  arguments_pass (Some values) (Some actions) count none = (tt, none)

  begin_passes : (feeds : List Feed) (o : Option Instr) (q : Place) → AllName test (begin_actions feeds o q)
  begin_passes feeds None q = tt
  begin_passes feeds (Some (At line (Fork f))) q =
      arguments_pass (all_of (map (λ c. calc_value c (env_of feeds q)) f.controls))
      (all_of (map (λ g. gift_action g (env_of feeds q)) f.gifts)) f.registers (gifts_pass f.gifts (env_of feeds q))
  begin_passes feeds (Some (At line (Join c (Some k)))) q = (tt, tt)
  begin_passes feeds (Some (At line (Join c None))) q = tt
  begin_passes feeds (Some (At line (Assign k c))) q = tt
  begin_passes feeds (Some (At line (GoOn m))) q = tt
  begin_passes feeds (Some (At line (Unless c m))) q = tt
  begin_passes feeds (Some (At line (Again c m))) q = tt
  begin_passes feeds (Some (At line (Lock cells i))) q = tt
  begin_passes feeds (Some (At line (Unlock cells i))) q = tt
  begin_passes feeds (Some (At line (Barrier b))) q = tt
  begin_passes feeds (Some (At line (Settle k c))) q = tt
  begin_passes feeds (Some (At line (Do d))) q = tt

  first_passes : (tasks : List (List Instr)) (feeds : List Feed) (op : SyncOp) (q : Place) → AllName test (code_first tasks feeds op q)
  first_passes tasks feeds sync.Start q = tt
  first_passes tasks feeds (sync.Lock l) q = begin_passes feeds (instr_at tasks q q.at.pc) q
  first_passes tasks feeds (sync.Unlock l) q = begin_passes feeds (instr_at tasks q q.at.pc) q
  first_passes tasks feeds (sync.Fork task arguments) q = begin_passes feeds (instr_at tasks q q.at.pc) q
  first_passes tasks feeds (sync.Join h) q = begin_passes feeds (instr_at tasks q q.at.pc) q
  first_passes tasks feeds (sync.Barrier b) q = begin_passes feeds (instr_at tasks q q.at.pc) q
  first_passes tasks feeds (sync.Settle register control) q = begin_passes feeds (instr_at tasks q q.at.pc) q
  first_passes tasks feeds sync.End q = begin_passes feeds (instr_at tasks q q.at.pc) q
  first_passes tasks feeds sync.BadIndex q = begin_passes feeds (instr_at tasks q q.at.pc) q
  first_passes tasks feeds sync.Spent q = begin_passes feeds (instr_at tasks q q.at.pc) q

  child_stays : (child into : Option ℕ) (q : Place) → (with_child child into q).at.task ≡ q.at.task
  child_stays None into q = refl
  child_stays (Some c) None q = refl
  child_stays (Some c) (Some k) q = refl

  behind_stays : (tasks : List (List Instr)) (o : Option Instr) (child : Option ℕ) (q : Place)
      → (behind tasks o child q).at.task ≡ q.at.task
  behind_stays tasks None child q = refl
  behind_stays tasks (Some (At line (Fork f))) child q = child_stays child f.into (next_place q)
  behind_stays tasks (Some (At line (Join c into))) child q = refl
  behind_stays tasks (Some (At line (Assign k c))) child q = refl
  behind_stays tasks (Some (At line (GoOn m))) child q = refl
  behind_stays tasks (Some (At line (Unless c m))) child q = refl
  behind_stays tasks (Some (At line (Again c m))) child q = refl
  behind_stays tasks (Some (At line (Lock cells i))) child q = refl
  behind_stays tasks (Some (At line (Unlock cells i))) child q = refl
  behind_stays tasks (Some (At line (Barrier b))) child q = refl
  behind_stays tasks (Some (At line (Settle k c))) child q = refl
  behind_stays tasks (Some (At line (Do d))) child q = refl

  begins_there : (tasks : List (List Instr)) (op : SyncOp) (child : Option ℕ) (q : Place)
      → (code_begins tasks op child q).at.task ≡ q.at.task
  begins_there tasks sync.Start child q = refl
  begins_there tasks (sync.Lock l) child q = behind_stays tasks (instr_at tasks q q.at.pc) child q
  begins_there tasks (sync.Unlock l) child q = behind_stays tasks (instr_at tasks q q.at.pc) child q
  begins_there tasks (sync.Fork task arguments) child q = behind_stays tasks (instr_at tasks q q.at.pc) child q
  begins_there tasks (sync.Join h) child q = behind_stays tasks (instr_at tasks q q.at.pc) child q
  begins_there tasks (sync.Barrier b) child q = behind_stays tasks (instr_at tasks q q.at.pc) child q
  begins_there tasks (sync.Settle register control) child q = behind_stays tasks (instr_at tasks q q.at.pc) child q
  begins_there tasks sync.End child q = behind_stays tasks (instr_at tasks q q.at.pc) child q
  begins_there tasks sync.BadIndex child q = behind_stays tasks (instr_at tasks q q.at.pc) child q
  begins_there tasks sync.Spent child q = behind_stays tasks (instr_at tasks q q.at.pc) child q

  both_pass : (first second : List Action) → AllName test first → AllName test second → AllName test (first ++ second)
  both_pass [] second none all = all
  both_pass (a ∷ first) second some all = (some.0, both_pass first second some.1 all)

  -- a subthread of the task names only cells that pass
  pub names_only : (work : Work) (begins : SyncOp) (child : Option ℕ) (q : Place)
      → AllBelow most (instrs_of (code_of work.code).tasks q.at.task) → AllName test (actions_from work begins child q)
  names_only work begins child q low =
      let tasks = (code_of work.code).tasks in
      both_pass (code_first tasks work.feeds begins q) (code_body tasks work.feeds work.turns (code_begins tasks begins child q)).actions
      (first_passes tasks work.feeds begins q)
      (body_passes tasks work.feeds q.at.task low work.turns (code_begins tasks begins child q) (begins_there tasks begins child q))

-- a task without bundles
pub without_cells : (work : Work) (task : Task) → task.given.bundles ≡ [] → IsNumbered task.begins.sync → NamesBelow 0 work task.at.task
    → Fits work task
without_cells work task none numbered low = record {
  rising = subst (λ (bundles : List Bundle). IsStrictlyIncreasing (map lock_in bundles)) (sym none) (λ k less. absurd (omega arith));
  sizes =
      subst (λ (bundles : List Bundle). All (λ (b : Bundle). length b.cells ≡ length (under_lock (under_of work) b.lock)) bundles)
      (sym none) (λ k d less. absurd (omega arith));
  numbered = numbered;
  within =
      names_only 0 (is_under (under_of work) (map lock_in task.given.bundles))
      (λ c less. absurd (omega arith)) work task.begins.sync task.child (place_of task) low.1;
  spared = subst (λ recheck. IfSome recheck Spares) (sym low.0) tt;
}

-- a task with the bundle of the first lock, under which stands the first cell alone
pub one_cell : (work : Work) (task : Task) (b : Bundle) → task.given.bundles ≡ b ∷ [] → b.lock ≡ 0 → length b.cells ≡ 1
    → under_lock (under_of work) 0 ≡ 0 ∷ []
    → IsNumbered task.begins.sync → NamesBelow 1 work task.at.task → Fits work task
one_cell work task b one first size alone numbered low = record {
  rising = subst (λ (bundles : List Bundle). IsStrictlyIncreasing (map lock_in bundles)) (sym one) (λ k less. absurd (omega arith));
  sizes =
      subst (λ (bundles : List Bundle). All (λ (b : Bundle). length b.cells ≡ length (under_lock (under_of work) b.lock)) bundles)
      (sym one) only;
  numbered = numbered;
  within = names_only 1 (is_under (under_of work) (map lock_in task.given.bundles))
      (λ c less. subst (λ (bundles : List Bundle). is_under (under_of work) (map lock_in bundles) c ≡ true) (sym one)
      (there c (omega (arith, less)))) work task.begins.sync task.child (place_of task) low.1;
  spared = subst (λ recheck. IfSome recheck Spares) (sym low.0) tt;
}
  where
    cells_are : under_lock (under_of work) b.lock ≡ 0 ∷ []
    cells_are = ap (under_lock (under_of work)) first ∙ alone

    only : All (λ (b : Bundle). length b.cells ≡ length (under_lock (under_of work) b.lock)) (b ∷ [])
    only zero d less = size ∙ sym (ap length cells_are)
    only (suc k) d less = absurd (omega arith)

    there : (c : ℕ) → c ≡ 0 → is_under (under_of work) (b.lock ∷ []) c ≡ true
    there c zero_is =
        subst (λ n. is_under (under_of work) (b.lock ∷ []) n ≡ true) (sym zero_is)
        (ap (λ cells. list_any (nat_eq 0) cells || false) cells_are)

-- a list of one member
pub one_is : (xs : List ℕ) (x : ℕ) → length xs ≡ 1 → x ≡ get_or xs 0 x → x ≡ 0 → xs ≡ 0 ∷ []
one_is [] x one is none = absurd (omega (arith, one))
one_is (y ∷ []) x one is none = ap (λ n. n ∷ []) (sym is ∙ none)
one_is (y ∷ z ∷ xs) x one is none = absurd (omega (arith, one))
