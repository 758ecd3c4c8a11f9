use Rattle.std.proofs.Common.{sym, ◌∙◌}
use Rattle.task_parser.specs.inner.Classes.{among}
use Rattle.task_parser.specs.inner.ProgramReaders.{head_starts, read_head}
use Rattle.task_parser.proofs.ReadPrograms.{head_shortens}
use Rattle.task_parser.proofs.Loop.{pushed_item}
use Rattle.task_parser.proofs.heads.heads.Goals as goal

pub loop-source-smaller : goal.loop-source-smaller
loop-source-smaller c = head_shortens c.args.source.text.now c.loop-source.rest.now _ c.in_ok-next.after.now c.in_ok-next.ensures

pub loop-source-preserved : goal.loop-source-preserved
loop-source-preserved c =
    rw c.in_ok-push.ensures.ok
    (pushed_item (among head_starts) (read_head c.args.source.text.now) c.loop-source.heads c.in_ok-next.next c.loop-source.rest.now
    c.in_ok-next.after.now _ (head_shortens c.args.source.text.now)
    (sym c.begins_head.ensures ∙ c.loop-source-test.true) c.in_ok-next.ensures c.loop-source.invariant)
