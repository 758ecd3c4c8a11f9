use Rattle.std.proofs.Common.{◌≡◌, inr, subst, sym}
use Rattle.std.proofs.lemmas.Result.{IfOk-weaker}
use Rattle.twice_calls.specs.meaning.Differences.{damaged_line, MayTellStop}
use Rattle.twice_calls.proofs.lines.stop_told.Goals as goal

pub returns-in-Some : goal.returns-in-Some
returns-in-Some c =
    IfOk-weaker c.damaged_line.result (λ line. line.items ≡ damaged_line c.in-Some.position)
    (λ line. MayTellStop c.args.status line.items) (λ line is. inr (c.if-status-ne1.false, c.in-Some.position, inr is))
    c.damaged_line.ensures
