use Rattle.std.proofs.Common.{subst, sym}
use Rattle.subthread.specs.Tasks.{effect_of}
use Rattle.whole_run.specs.Notes.{NotesTaken}
use Rattle.whole_run.specs.inner.Kept.{batch_in}
use Rattle.whole_run.proofs.parts.taking.accept.Goals as goal

pub returns-in-Ok-clause-noted : goal.returns-in-Ok-clause-noted
returns-in-Ok-clause-noted g c =
    subst (λ fresh. NotesTaken fresh (g.N.Notes.tells c.args.notes.now) (g.N.Notes.tells c.note_where.new.notes) c.args.done.task.pos
    (effect_of (batch_in c.args.plan.now).work c.args.done))
    (sym c.take.ensures.fresh) c.in-Ok.ensures.noted
