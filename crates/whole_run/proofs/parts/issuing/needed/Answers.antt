use Rattle.std.proofs.Common.{refl, sym, ◌∙◌}
use Rattle.whole_run.proofs.IssuesKept.{needs_so, turns_so}
use Rattle.whole_run.proofs.RingIssues.{turn_needs}
use Rattle.whole_run.proofs.parts.issuing.needed.Goals as goal

pub returns : goal.returns
returns c =
    let turned = turn_needs c.args.parts.now.ring.table c.in_ok-thread.thread (sym c.needs.ensures ∙ c.in_ok-thread.was) in (
      refl,
      needs_so _ _ _ _ _ _ _ _ _ _ c.requires.kept c.in_ok-thread.thread turned,
      turns_so _ _ _ _ _ _ _ _ _ _ c.requires.kept _ turned,
    )
