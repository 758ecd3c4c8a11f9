-- Tasks one after the other.
use Rattle.std.proofs.Common.{◌≡◌, ℕ, ◌+◌, ◌<◌, List, [], ◌∷◌, ◌++◌, Option, None, false, ap, ◌∙◌, sym, length, get_or, take, drop, map, append_assoc, arith}
use Rattle.gp_base.specs.declared.limits.TheConstants.{MOST_VARIABLES}
use Rattle.std.specs.Prelude.{nat_lt}
use Rattle.std.proofs.lemmas.Bool.Decides.{nat_tests}
use Rattle.std.proofs.lemmas.List.{at_drop_more, take_more, map-append}
use Rattle.task_ast.specs.declared.check_kind.CheckKind.{CheckKind}
use Rattle.task_ast.specs.declared.check_kind.CheckKind.TheVariants.{DoubleName, TooMany}
use Rattle.task_ast.specs.declared.tree.Param.{Param}
use Rattle.task_ast.specs.declared.tree.TaskText.{TaskText}
use Rattle.task_ast.specs.declared.tree.VarLine.{VarLine}
use Rattle.task_ast.specs.meaning.Tree.{Name}
use Rattle.task_ast.specs.meaning.Declarations.{task_visit, task_visits, vars_visits, has_double, are_many}
use Rattle.task_ast.specs.View.{plain_task}
use Rattle.task_ast.specs.meaning.Visit.{Visit, visit, fails_if, fault_at, first_fault}
use Rattle.lock_checker.specs.declared.fault.CheckFault.{CheckFault}
use Rattle.lock_checker.specs.Accepted.{Told}
use Rattle.lock_checker.specs.inner.TaskNames.{name_of, names_of}
use Rattle.lock_checker.proofs.VisitLemmas.{found_after, told_before}

module _ (tasks : List TaskText) (i : ℕ) (t : TaskText) (within : i < length tasks) (is : t ≡ get_or tasks i t) (before : List Name) where
  -- the names up to the next task
  pub names_more : before ++ names_of (take (i + 1) tasks) ≡ (before ++ names_of (take i tasks)) ++ t.name ∷ []
  names_more =
      ap (λ l. before ++ names_of l) (take_more tasks i t within)
      ∙ ap (λ (y : TaskText). before ++ names_of (take i tasks ++ y ∷ [])) (sym is)
      ∙ ap (λ l. before ++ l) (map-append name_of (take i tasks) (t ∷ []))
      ∙ sym (append_assoc before (names_of (take i tasks)) (t.name ∷ []))

  abbrev here : List Visit
  here = task_visit before (plain_task t) ∷ vars_visits t.params t.vars

  abbrev after : List Visit
  after = task_visits (before ++ t.name ∷ []) (map plain_task (drop (i + 1) tasks))

  abbrev left : List Visit
  left = task_visits before (map plain_task (drop i tasks))

  tasks_from : left ≡ here ++ after
  tasks_from =
      at_drop_more (λ l. task_visits before (map plain_task l)) tasks i t within
      ∙ ap (λ (y : TaskText). (task_visit before (plain_task y) ∷ vars_visits y.params y.vars)
      ++ task_visits (before ++ y.name ∷ []) (map plain_task (drop (i + 1) tasks))) (sym is)

  -- where the task has no fault, the later ones tell the rest
  pub tasks_later : first_fault (task_visit before (plain_task t) ∷ vars_visits t.params t.vars) ≡ None
      → first_fault (task_visits (before ++ t.name ∷ []) (map plain_task (drop (i + 1) tasks)))
      ≡ first_fault (task_visits before (map plain_task (drop i tasks)))
  tasks_later none = found_after left here after tasks_from none

  -- where it has one
  pub task_told : (fault : CheckFault) (all : Option (CheckKind × ℕ))
      → first_fault (task_visits before (map plain_task (drop i tasks))) ≡ all
      → Told fault (first_fault (task_visit before (plain_task t) ∷ vars_visits t.params t.vars)) → Told fault all
  task_told fault all is_all told = told_before fault left here after all tasks_from is_all told

few_are_not_many : (n : ℕ) → n < MOST_VARIABLES → nat_lt MOST_VARIABLES (n + 1) ≡ false
few_are_not_many n few = grind (arith, nat_tests)

module _ (lines : List VarLine) (i : ℕ) (v : VarLine) (within : i < length lines) (is : v ≡ get_or lines i v) (before : List Param) where
  vars_from : vars_visits before (drop i lines)
      ≡ visit v.line (fails_if (has_double before v.names) DoubleName ++ fails_if (are_many (before ++ v.names)) TooMany)
      ∷ vars_visits (before ++ v.names) (drop (i + 1) lines)
  vars_from =
      at_drop_more (vars_visits before) lines i v within
      ∙ ap (λ (y : VarLine). visit y.line (fails_if (has_double before y.names) DoubleName
      ++ fails_if (are_many (before ++ y.names)) TooMany) ∷ vars_visits (before ++ y.names) (drop (i + 1) lines)) (sym is)

  -- a line without a double that leaves few variables has no fault
  pub lines_later : has_double before v.names ≡ false → length (before ++ v.names) < MOST_VARIABLES
      → first_fault (vars_visits (before ++ v.names) (drop (i + 1) lines)) ≡ first_fault (vars_visits before (drop i lines))
  lines_later single few =
      sym (ap first_fault vars_from
      ∙ ap (λ b. fault_at v.line (fails_if b DoubleName ++ fails_if (are_many (before ++ v.names)) TooMany)
      (first_fault (vars_visits (before ++ v.names) (drop (i + 1) lines)))) single
      ∙ ap (λ b. fault_at v.line (fails_if b TooMany) (first_fault (vars_visits (before ++ v.names) (drop (i + 1) lines))))
      (few_are_not_many (length (before ++ v.names)) few))
