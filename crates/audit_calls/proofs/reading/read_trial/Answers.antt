use Rattle.std.proofs.Common.{◌≡◌, Some, None, sym, subst}
use Rattle.command_line.specs.meaning.Words.{texts}
use Rattle.command_line.specs.meaning.AuditWords.{audited_by}
use Rattle.call_cases.specs.Refusals.{TouchesShelf}
use Rattle.call_cases.proofs.Answering.{usage_case, asked_case}
use Rattle.audit_calls.specs.meaning.AuditCommands.{MayRead, asking}
use Rattle.audit_calls.specs.inner.Trials.{case_of}
use Rattle.audit_calls.proofs.reading.read_trial.Goals as goal

pub returns-in-Ok-None-clause-case : goal.returns-in-Ok-None-clause-case
returns-in-Ok-None-clause-case g c = λ judge.
    let none : audited_by (texts c.args.words.now) ≡ None = sym (rw c.in-Ok-None.field-0-is at c.in-Ok-None.ensures.audited) in
    usage_case asking (texts c.args.words.now) (g.H.Shelf.files c.args.shelf.now) none

pub returns-clause-shelf : goal.returns-clause-shelf
returns-clause-shelf g c =
    let some : audited_by (texts c.args.words.now) ≡ Some c.in-Ok-Some.audited =
    sym (rw c.in-Ok-Some.field-0-is at c.in-Ok-Some.ensures.audited) in
    subst (λ audited. TouchesShelf MayRead audited (g.H.Shelf.failed c.args.shelf.now)
    (g.H.Shelf.failed c.read_audited.new.shelf) c.read_audited.result) (sym some) c.read_audited.ensures.shelf

pub returns-clause-case : goal.returns-clause-case
returns-clause-case g c = λ judge.
    let some : audited_by (texts c.args.words.now) ≡ Some c.in-Ok-Some.audited =
    sym (rw c.in-Ok-Some.field-0-is at c.in-Ok-Some.ensures.audited) in
    asked_case asking (texts c.args.words.now) (case_of judge)
    (g.H.Shelf.files c.args.shelf.now) c.in-Ok-Some.audited c.read_audited.result some (c.read_audited.ensures.case judge)
