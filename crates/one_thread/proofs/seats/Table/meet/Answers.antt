use Rattle.std.proofs.Common.{◌∙◌, sym, rules, length, ◌<◌}
use Rattle.one_thread.specs.View.{seat_of}
use Rattle.one_thread.proofs.Looking.{seen}
use Rattle.one_thread.proofs.Turning.{HasCome, come-by, come-not, next-there, meets-goes, meets-waits, goes-on}
use Rattle.one_thread.proofs.seats.Table.meet.Goals as goal
use Rattle.one_thread.proofs.seats.Table.meet.Goals.{then-is_away, else-is_away}

pub returns-then-is_released-clause-turn : goal.returns-then-is_released-clause-turn
returns-then-is_released-clause-turn c =
    let at = seen c.args.self.now c.args.t c.index.result.now c.requires.exists c.index.ensures in
    let come : HasCome c.args.self.now c.if-is_away.self c.args.t c.args.barrier = elim c.if-is_away.branch [
      | then-is_away w ↦
          come-by c.args.self.now c.if-is_away.self c.args.t c.args.barrier (seat_of c.index.result.now) at
          (sym c.is_away.ensures ∙ w.if-is_away.true) (search rules)
      | else-is_away w ↦
          come-not c.args.self.now c.if-is_away.self c.args.t c.args.barrier (seat_of c.index.result.now) at
          (sym c.is_away.ensures ∙ w.if-is_away.false) w.self-is
    ] in
    let inside : c.args.t < length c.if-is_away.self.seats.items = search rules in
    goes-on c.issue.result c.args.self.now c.if-is_away.self c.issue.new.self c.args.t c.args.barrier c.issue.ensures.turn
    (λ next e. (
      meets-goes c.args.self.now c.if-is_away.self c.args.t c.args.barrier (seat_of c.index-2.result.now) next come
          (seen c.if-is_away.self c.args.t c.index-2.result.now inside c.index-2.ensures)
          (sym c.is_released.ensures ∙ c.if-is_released.true),
      next-there c.args.self.now c.if-is_away.self c.args.t c.args.barrier next come e,
    ))

pub returns-else-is_released-clause-turn : goal.returns-else-is_released-clause-turn
returns-else-is_released-clause-turn c next e =
    let at = seen c.args.self.now c.args.t c.index.result.now c.requires.exists c.index.ensures in
    let come : HasCome c.args.self.now c.if-is_away.self c.args.t c.args.barrier = elim c.if-is_away.branch [
      | then-is_away w ↦
          come-by c.args.self.now c.if-is_away.self c.args.t c.args.barrier (seat_of c.index.result.now) at
          (sym c.is_away.ensures ∙ w.if-is_away.true) (search rules)
      | else-is_away w ↦
          come-not c.args.self.now c.if-is_away.self c.args.t c.args.barrier (seat_of c.index.result.now) at
          (sym c.is_away.ensures ∙ w.if-is_away.false) w.self-is
    ] in
    let inside : c.args.t < length c.if-is_away.self.seats.items = search rules in
    meets-waits c.args.self.now c.if-is_away.self c.args.t c.args.barrier (seat_of c.index-2.result.now) next come
    (seen c.if-is_away.self c.args.t c.index-2.result.now inside c.index-2.ensures)
    (sym c.is_released.ensures ∙ c.if-is_released.false)
    ∙ c.pass.ensures.turn
