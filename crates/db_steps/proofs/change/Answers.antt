use Rattle.std.proofs.Common.{IsTrue}
use Rattle.sqlite.specs.State.{HasCleanDisk}
use Rattle.sqlite.specs.Held.{state}
use Rattle.sqlite.specs.Values.{bound}
use Rattle.db_steps.proofs.Keeps.{change_keeps}
use Rattle.db_steps.proofs.change.Goals as goal

pub returns-clause-step : goal.returns-clause-step
returns-clause-step g c =
    let old = c.args.tx.now.conn.now in
    let new = c.execute.new.self.conn.now in
    let keeps = λ (clean : HasCleanDisk (state g.S.Store new)) (inside : IsTrue old.in_transaction). change_keeps c.args.sql.now (bound c.args.params.now) (state g.S.Store old) (state g.S.Store new) inside c.execute.result (c.execute.ensures.runs clean inside) in
    record { survives = c.execute.ensures.survives; kept = λ clean inside. (keeps clean inside).0; inside = λ clean inside. (keeps clean inside).1 }
