use Rattle.std.proofs.Common.{◌≡◌, inl, inr, refl}
use Rattle.std.proofs.lemmas.Result.{IfOk-weaker}
use Rattle.twice_calls.specs.meaning.Differences.{disagreed_line, MayTellStop}
use Rattle.twice_calls.proofs.lines.disagreement_told.Goals as goal

pub returns-in-Some : goal.returns-in-Some
returns-in-Some c =
    IfOk-weaker c.disagreed_line.result (λ line. line.items ≡ disagreed_line c.in-Some.position)
    (λ line. MayTellStop 1 line.items) (λ line is. inr (refl, c.in-Some.position, inl is))
    c.disagreed_line.ensures
