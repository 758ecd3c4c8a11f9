use Rattle.std.proofs.Common.{◌≡◌, drop}
use Rattle.task_ast.specs.meaning.Visit.{first_fault}
use Rattle.task_ast.specs.meaning.Check.{visits_in}
use Rattle.task_ast.specs.meaning.Held.{held_at_end}
use Rattle.task_ast.specs.View.{plain_block}
use Rattle.lock_checker.specs.inner.Scopes.{scope_of}
use Rattle.lock_checker.specs.inner.Pairs.{pairs_of, pairs_in, Leads, HaveSame}
use Rattle.lock_checker.proofs.walk.+walk.Given as goal

-- what is left of the block tells the rest
abbrev pub invariant-check_block-loop-s : goal.invariant-check_block-loop-s
invariant-check_block-loop-s l = record {
  told : first_fault (visits_in (scope_of l.scope) (plain_block (drop l.s-index l.block)) (pairs_in l.held))
      ≡ first_fault (visits_in (scope_of l.scope) (plain_block l.block) (pairs_in l.initial.held));
  leads : Leads (pairs_in l.initial.held) (pairs_of l.changes.items) (pairs_in l.held);
  ends : HaveSame (held_at_end (plain_block (drop l.s-index l.block)) (pairs_in l.held))
      (held_at_end (plain_block l.block) (pairs_in l.initial.held));
}
