use Rattle.std.proofs.Common.{◌≡◌, None, Some, refl, sym}
use Rattle.call_cases.specs.declared.reading.Refusal.TheVariants.{Usage as RefusedUsage}
use Rattle.command_line.specs.meaning.Words.{texts}
use Rattle.call_cases.specs.meaning.Case.{IsCase}
use Rattle.call_cases.proofs.Answering.{usage_case}
use Rattle.explain_calls.specs.meaning.Commands.{asking, explained_by}
use Rattle.explain_calls.specs.Endings.{plainly}
use Rattle.explain_calls.proofs.OwnCases.{leaves, refused_or_short, refused_words, words_answer}
use Rattle.explain_calls.proofs.reading.read_explained.Goals as goal

pub returns-in-Ok-Some-clause-case : goal.returns-in-Ok-Some-clause-case
returns-in-Ok-Some-clause-case g c =
    let some : explained_by (texts c.args.words.now) ≡ Some c.in-Ok-Some.asked =
    sym (rw c.in-Ok-Some.field-0-is at c.in-Ok-Some.ensures.asked) in
    words_answer (texts c.args.words.now) (g.H.Shelf.files c.args.shelf.now) c.in-Ok-Some.asked (plainly c.read_run.result) some
    c.read_run.ensures.case

pub returns-in-Ok-None-clause-case : goal.returns-in-Ok-None-clause-case
returns-in-Ok-None-clause-case g c =
    let none : explained_by (texts c.args.words.now) ≡ None = sym (rw c.in-Ok-None.field-0-is at c.in-Ok-None.ensures.asked) in
    refused_or_short (g.H.Shelf.files c.args.shelf.now) (IsCase asking (texts c.args.words.now)) RefusedUsage c.untaken.result.refusal
    c.untaken.ensures.same (usage_case asking (texts c.args.words.now) (g.H.Shelf.files c.args.shelf.now) none)

pub returns-in-Ok-None-clause-no_command : goal.returns-in-Ok-None-clause-no_command
returns-in-Ok-None-clause-no_command g c = λ none. refused_words c.untaken.result.refusal c.untaken.ensures.same

pub returns-in-Ok-None-clause-shelf : goal.returns-in-Ok-None-clause-shelf
returns-in-Ok-None-clause-shelf g c =
    let none : explained_by (texts c.args.words.now) ≡ None = sym (rw c.in-Ok-None.field-0-is at c.in-Ok-None.ensures.asked) in
    let failed = g.H.Shelf.failed c.args.shelf.now in
    leaves (explained_by (texts c.args.words.now)) failed failed failed RefusedUsage c.untaken.result.refusal (none, refl) refl
    c.untaken.ensures.same
