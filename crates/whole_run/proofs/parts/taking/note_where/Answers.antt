use Rattle.std.proofs.Common.{subst}
use Rattle.std.specs.Result.{OnOk}
use Rattle.subthread.specs.Tasks.{effect_of}
use Rattle.whole_run.specs.Notes.{NotesTaken}
use Rattle.whole_run.proofs.parts.taking.note_where.Goals as goal

pub returns-then-is_present-clause-noted : goal.returns-then-is_present-clause-noted
returns-then-is_present-clause-noted g c =
    subst (λ fresh. OnOk c.took.result (NotesTaken fresh (g.N.Notes.tells c.args.notes.now) (g.N.Notes.tells c.took.new.self)
    c.args.done.now.task.pos (effect_of c.args.work.now c.args.done.now)))
    c.if-is_present.ensures c.took.ensures.noted

pub returns-clause-noted : goal.returns-clause-noted
returns-clause-noted g c =
    subst (λ fresh. NotesTaken fresh (g.N.Notes.tells c.args.notes.now) (g.N.Notes.tells c.args.notes.now)
    c.args.done.now.task.pos (effect_of c.args.work.now c.args.done.now))
    c.if-is_present.ensures (λ start written left told is. is)
