use Rattle.std.proofs.Common.{◌≡◌, ◌++◌, ◌<◌, length, take, drop}
use Rattle.gp_base.specs.declared.limits.TheConstants.{MOST_VARIABLES}
use Rattle.task_ast.specs.meaning.Names.{declared_in}
use Rattle.task_ast.specs.meaning.Declarations.{vars_visits}
use Rattle.task_ast.specs.meaning.Visit.{first_fault}
use Rattle.lock_checker.specs.inner.TaskVariables.{AreVariables}
use Rattle.lock_checker.proofs.tasks.check_lines.Given as goal

-- the var lines left tell the rest
abbrev pub invariant-loop-line : goal.invariant-loop-line
invariant-loop-line l = record {
  variables : AreVariables l.variables (l.params ++ declared_in (take l.line-index l.lines));
  count : l.count ≡ length (l.params ++ declared_in (take l.line-index l.lines));
  few : l.count < MOST_VARIABLES;
  told : first_fault (vars_visits (l.params ++ declared_in (take l.line-index l.lines)) (drop l.line-index l.lines))
      ≡ first_fault (vars_visits l.params l.lines);
}
