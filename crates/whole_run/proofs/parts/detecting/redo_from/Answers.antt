use Rattle.whole_run.specs.inner.Kept.{batch_in}
use Rattle.whole_run.proofs.Detected.{struck-below, struck-room, struck-there, attempts-few, restarts-few, histories-fit, home-is-back, all-known, kept-restarted}
use Rattle.whole_run.proofs.parts.detecting.redo_from.Goals as goal

pub restart-requires-clause-there : goal.restart-requires-clause-there
restart-requires-clause-there c =
    struck-there (batch_in c.args.plan.now) c.args.parts.now c.requires.kept c.args.struck c.requires.is_struck

pub restart-requires-clause-issued : goal.restart-requires-clause-issued
restart-requires-clause-issued c =
    struck-below (batch_in c.args.plan.now) c.args.parts.now c.requires.kept c.args.struck c.requires.is_struck

pub restart-requires-clause-known : goal.restart-requires-clause-known
restart-requires-clause-known c =
    all-known (batch_in c.args.plan.now) c.args.parts.now c.requires.kept c.args.struck c.requires.is_struck c.requires.selective
    c.requires.scouted

pub restart-requires-clause-home : goal.restart-requires-clause-home
restart-requires-clause-home c =
    home-is-back (batch_in c.args.plan.now) c.args.parts.now c.requires.kept c.args.struck c.requires.is_struck c.requires.selective
    c.requires.home

pub restart-requires-clause-attempts : goal.restart-requires-clause-attempts
restart-requires-clause-attempts c =
    attempts-few (batch_in c.args.plan.now) c.args.parts.now c.requires.kept c.args.struck c.requires.is_struck c.args.plan.now.faults.few

pub restart-requires-clause-histories : goal.restart-requires-clause-histories
restart-requires-clause-histories c =
    histories-fit (batch_in c.args.plan.now) c.args.parts.now c.requires.kept c.args.struck c.requires.is_struck c.requires.selective

pub restart-requires-clause-room : goal.restart-requires-clause-room
restart-requires-clause-room c =
    struck-room (batch_in c.args.plan.now) c.args.parts.now c.requires.kept c.args.struck c.requires.is_struck c.args.redo.spare
    c.requires.rooms.positions

pub note-requires-clause-few : goal.note-requires-clause-few
note-requires-clause-few c =
    restarts-few (batch_in c.args.plan.now) c.args.parts.now c.requires.kept c.args.struck c.requires.is_struck c.args.plan.now.faults.few

pub returns-clause-kept : goal.returns-clause-kept
returns-clause-kept c =
    kept-restarted (batch_in c.args.plan.now) c.args.parts.now c.requires.kept c.args.struck c.requires.is_struck c.requires.selective
    c.requires.scouted c.requires.home c.restart.new.rol.entries c.restart.new.store c.note.new.events.items c.note.new.restarts.items
    c.attempt_of-attempt.result c.restart.new.redo.items c.attempt_of-attempt.ensures c.restart.ensures.redo c.restart.ensures.entries
    c.restart.ensures.state c.restart.ensures.shape c.restart.ensures.away c.note.ensures.events
    (rw c.into_seq.ensures at c.note.ensures.restarts)
