use Rattle.std.proofs.Common.{◌≡◌, ◌≤◌, [], take, drop}
use Rattle.gp_base.specs.declared.limits.TheConstants.{MOST_CELLS}
use Rattle.task_ast.specs.meaning.Declarations.{head_visits}
use Rattle.task_ast.specs.View.{plain_program}
use Rattle.task_ast.specs.meaning.Visit.{first_fault}
use Rattle.lock_checker.specs.inner.Heads.{AreHeads}
use Rattle.lock_checker.proofs.program.check_heads.Given as goal

-- the heads left tell the rest
abbrev pub invariant-loop-head : goal.invariant-loop-head
invariant-loop-head l = record {
  heads : AreHeads l.heads (take l.head-index l.program.heads);
  locks : l.heads.lock_cells ≤ MOST_CELLS;
  records : l.heads.record_cells ≤ MOST_CELLS;
  told : first_fault (head_visits (plain_program l.program) (take l.head-index l.program.heads) (drop l.head-index l.program.heads))
      ≡ first_fault (head_visits (plain_program l.program) [] l.program.heads);
}
