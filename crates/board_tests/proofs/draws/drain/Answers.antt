use Rattle.std.proofs.Common.{ℕ, ◌<◌, ◌-◌, length, List, sym, ap, ◌∙◌, subst}
use Rattle.desk_board.specs.Held.{about, hand}
use Rattle.desk_board.proofs.Draining.{past, fewer}
use Rattle.board_tests.proofs.draws.drain.Goals as goal

pub loop-desk-smaller : goal.loop-desk-smaller
loop-desk-smaller g c =
    let drew = c.in-Some.ensures in
    let jobs : List g.row.J.Denot = (about c.args.board.now).jobs in
    let before : List ℕ = (hand c.loop-desk.pass).drawn in
    subst (λ (xs : List ℕ). length jobs - past xs < length jobs - past before)
    (sym (ap (λ h. h.drawn) c.finish.ensures.hand ∙ ap (λ h. h.drawn) drew.hand)) (fewer jobs _ _ before drew.job.0 drew.rises)
