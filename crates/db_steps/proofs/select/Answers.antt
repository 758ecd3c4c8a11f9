use Rattle.std.proofs.Common.{IsTrue}
use Rattle.sqlite.specs.State.{HasCleanDisk}
use Rattle.sqlite.specs.Held.{state}
use Rattle.sqlite.specs.Values.{bound}
use Rattle.db_steps.proofs.Keeps.{query_keeps, shows_rows}
use Rattle.db_steps.proofs.select.Goals as goal

pub returns-clause-step : goal.returns-clause-step
returns-clause-step g c =
    let old = c.args.tx.now.conn.now in
    let new = c.query_all.new.self.conn.now in
    let keeps = λ (clean : HasCleanDisk (state g.S.Store new)) (inside : IsTrue old.in_transaction). query_keeps c.args.sql.now (bound c.args.params.now) (state g.S.Store old) (state g.S.Store new) inside c.query_all.result (λ rows. rows.items) (c.query_all.ensures.ok clean) (c.query_all.ensures.err clean) in
    record { survives = c.query_all.ensures.survives; kept = λ clean inside. (keeps clean inside).0; inside = λ clean inside. (keeps clean inside).1 }

pub returns-clause-shown : goal.returns-clause-shown
returns-clause-shown g c clean =
    shows_rows g.S.Store c.args.sql.now (bound c.args.params.now) c.args.tx.now.conn.now c.query_all.new.self.conn.now (λ rows. rows.items) c.query_all.result
    (c.query_all.ensures.ok clean)
