use Rattle.std.proofs.Common.{◌≡◌, ◌∙◌, ◌+◌, ap, Some, string_bytes}
use Rattle.std.proofs.lemmas.Result.{IfOk-weaker}
use Rattle.command_line.specs.meaning.Words.{texts}
use Rattle.view_calls.specs.meaning.Commands.{traced_by, timeline_by}
use Rattle.view_calls.proofs.TraceWords.{word-at, behind-option}
use Rattle.view_calls.proofs.words.read_timeline.Goals as goal

pub returns-clause-viewed : goal.returns-clause-viewed
returns-clause-viewed c =
    let words = c.args.words.now in
    let at = c.trace_at-at.result in
    let file = c.in_ok-file.ensures ∙ c.as_bytes.ensures.value ∙ ap string_bytes c.index-words-at.is
    ∙ word-at words (at + 1) c.index-words-at.result c.if-words-at.false in
    IfOk-weaker c.read_traced-2.result (λ viewed. viewed ≡ traced_by (Some c.in_ok-file.file) (texts c.deref.result.now))
    (λ viewed. viewed ≡ timeline_by (texts words))
    (λ viewed is. is ∙ behind-option words at c.in_ok-file.file (texts c.deref.result.now) c.trace_at-at.ensures.at c.if-words-at.false file
    (ap texts c.deref.ensures.value ∙ c.in_ok-rest.ensures))
    c.read_traced-2.ensures.viewed
