-- Bodies of tasks one after the other.
use Rattle.std.proofs.Common.{◌≡◌, ℕ, ◌+◌, ◌<◌, List, ◌++◌, Option, None, ap, ◌∙◌, sym, length, get_or, drop, map}
use Rattle.std.proofs.lemmas.List.{at_drop_more}
use Rattle.task_ast.specs.declared.check_kind.CheckKind.{CheckKind}
use Rattle.task_ast.specs.declared.tree.TaskText.{TaskText}
use Rattle.task_ast.specs.meaning.Tree.{Program}
use Rattle.task_ast.specs.meaning.Check.{body_visits, bodies_visits}
use Rattle.task_ast.specs.View.{plain_task}
use Rattle.task_ast.specs.meaning.Visit.{Visit, first_fault}
use Rattle.lock_checker.specs.declared.fault.CheckFault.{CheckFault}
use Rattle.lock_checker.specs.Accepted.{Told}
use Rattle.lock_checker.proofs.VisitLemmas.{found_after, told_before}

module _ (program : Program) (tasks : List TaskText) (i : ℕ) (t : TaskText) (within : i < length tasks) (is : t ≡ get_or tasks i t) where
  abbrev left : List Visit
  left = bodies_visits program (map plain_task (drop i tasks))

  abbrev after : List Visit
  after = bodies_visits program (map plain_task (drop (i + 1) tasks))

  bodies_from : left ≡ body_visits program (plain_task t) ++ after
  bodies_from =
      at_drop_more (λ l. bodies_visits program (map plain_task l)) tasks i t within
      ∙ ap (λ (y : TaskText). body_visits program (plain_task y) ++ after) (sym is)

  -- where the body has no fault, the later ones tell the rest
  pub bodies_later : first_fault (body_visits program (plain_task t)) ≡ None
      → first_fault (bodies_visits program (map plain_task (drop (i + 1) tasks)))
      ≡ first_fault (bodies_visits program (map plain_task (drop i tasks)))
  bodies_later none = found_after left (body_visits program (plain_task t)) after bodies_from none

  -- where it has one
  pub body_told : (fault : CheckFault) (all : Option (CheckKind × ℕ))
      → first_fault (bodies_visits program (map plain_task (drop i tasks))) ≡ all
      → Told fault (first_fault (body_visits program (plain_task t))) → Told fault all
  body_told fault all is_all told = told_before fault left (body_visits program (plain_task t)) after all bodies_from is_all told
