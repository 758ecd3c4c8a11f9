use Rattle.std.proofs.Common.{◌≡◌, inr, sym, ◌∙◌}
use Rattle.std.proofs.lemmas.Result.{IfOk-weaker}
use Rattle.command_line.specs.meaning.Words.{texts, asked_waiting}
use Rattle.twice_calls.specs.meaning.Differences.{differed_line, traces, MayTellDiffered}
use Rattle.twice_calls.proofs.lines.seen_told.Goals as goal

pub returns : goal.returns
returns c =
    IfOk-weaker c.differed_line.result (λ line. line.items ≡ differed_line c.differed-2.result c.last.result)
    (λ line. MayTellDiffered (traces (asked_waiting (texts c.args.words.now))) line.items)
    (λ line is. inr (sym c.in_ok-is_traced.ensures ∙ c.if-branch.false, c.differed-2.result, c.last.result, is))
    c.differed_line.ensures
