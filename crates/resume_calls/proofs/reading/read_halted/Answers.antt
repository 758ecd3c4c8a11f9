use Rattle.std.proofs.Common.{◌≡◌, Some, None, sym, subst}
use Rattle.command_line.specs.meaning.Words.{texts}
use Rattle.command_line.specs.meaning.ResumeWords.{resumed_by}
use Rattle.call_cases.specs.Refusals.{TouchesShelf}
use Rattle.call_cases.proofs.Answering.{usage_case, asked_case}
use Rattle.resume_calls.specs.meaning.ResumeCommands.{MayRead, asking}
use Rattle.resume_calls.specs.inner.Halting.{case_of}
use Rattle.resume_calls.proofs.OneAsked.{may_go_on}
use Rattle.resume_calls.proofs.reading.read_halted.Goals as goal

pub returns-in-Ok-None-clause-case : goal.returns-in-Ok-None-clause-case
returns-in-Ok-None-clause-case g c = λ reader.
    let none : resumed_by (texts c.args.words.now) ≡ None = sym (rw c.in-Ok-None.field-0-is at c.in-Ok-None.ensures.resumed) in
    usage_case asking (texts c.args.words.now) (g.H.Shelf.files c.args.shelf.now) none

pub returns-clause-shelf : goal.returns-clause-shelf
returns-clause-shelf g c =
    let some : resumed_by (texts c.args.words.now) ≡ Some c.in-Ok-Some.resumed =
    sym (rw c.in-Ok-Some.field-0-is at c.in-Ok-Some.ensures.resumed) in
    subst (λ resumed. TouchesShelf MayRead resumed (g.H.Shelf.failed c.args.shelf.now)
    (g.H.Shelf.failed c.read_resumed.new.shelf) c.read_resumed.result) (sym some) c.read_resumed.ensures.shelf

pub returns-clause-case : goal.returns-clause-case
returns-clause-case g c = λ reader.
    let some : resumed_by (texts c.args.words.now) ≡ Some c.in-Ok-Some.resumed =
    sym (rw c.in-Ok-Some.field-0-is at c.in-Ok-Some.ensures.resumed) in
    asked_case asking (texts c.args.words.now) (case_of reader)
    (g.H.Shelf.files c.args.shelf.now) c.in-Ok-Some.resumed c.read_resumed.result some (c.read_resumed.ensures.case reader)

pub returns-clause-may : goal.returns-clause-may
returns-clause-may g c =
    let some : resumed_by (texts c.args.words.now) ≡ Some c.in-Ok-Some.resumed =
    sym (rw c.in-Ok-Some.field-0-is at c.in-Ok-Some.ensures.resumed) in
    let read = c.read_resumed.ensures in
    may_go_on (texts c.args.words.now) c.in-Ok-Some.resumed c.read_resumed.result some read.run read.short read.resumed
