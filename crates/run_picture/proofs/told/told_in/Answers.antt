use Rattle.std.proofs.Common.{ap, ◌∙◌}
use Rattle.run_picture.specs.meaning.Attempts.{told_by, told_from}
use Rattle.run_picture.specs.declared.told.Told.TheVariants.{Unrun}
use Rattle.run_picture.specs.inner.Tellings.{found}
use Rattle.run_picture.proofs.Takes.{unnoted, told-next, told-last}
use Rattle.run_picture.proofs.told.told_in.Goals as goal

pub loop-line-init : goal.loop-line-init
loop-line-init c = λ position attempt.
    ap (λ before. told_from position attempt before c.args.lines.now) (unnoted c.new.result Unrun position attempt c.new.ensures.empty)

pub loop-line-preserved : goal.loop-line-preserved
loop-line-preserved c = λ position attempt.
    let before = found c.loop-line.tellings position attempt in
    told-next position attempt before (found c.note.new.self position attempt)
    (told_from position attempt Unrun c.args.lines.now) c.loop-line.line-index c.args.lines.now c.line-item.result
    c.loop-line-test.true (c.loop-line.invariant position attempt)
    (c.in_ok-note.ensures position attempt ∙ ap (told_by position attempt before) c.line-item.is)

pub returns : goal.returns
returns c = λ position attempt.
    told-last position attempt (found c.loop-line.tellings position attempt)
    (told_from position attempt Unrun c.args.lines.now) c.loop-line.line-index c.args.lines.now c.loop-line-test.false
    (c.loop-line.invariant position attempt)
