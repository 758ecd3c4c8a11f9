use Rattle.std.proofs.Common.{◌≡◌, IsTrue, []}
use Rattle.sqlite.specs.State.{HasCleanDisk}
use Rattle.sqlite.specs.Held.{state}
use Rattle.db_steps.proofs.Keeps.{outline_keeps, at_params, same_seen}
use Rattle.db_steps.proofs.outline.Goals as goal

pub returns-clause-step : goal.returns-clause-step
returns-clause-step g c =
    let old = c.args.tx.now.conn.now in
    let new = c.prepare.new.self.conn.now in
    let keeps = λ (clean : HasCleanDisk (state g.S.Store new)) (inside : IsTrue old.in_transaction).
    outline_keeps c.args.sql.now [] (state g.S.Store old) (state g.S.Store new) inside (λ s. s.text ≡ c.args.sql.now) c.prepare.result (c.prepare.ensures.ok clean) (c.prepare.ensures.err clean) in
    record { survives = c.prepare.ensures.survives; kept = λ clean inside. (keeps clean inside).0; inside = λ clean inside. (keeps clean inside).1 }

pub returns-clause-unchanged : goal.returns-clause-unchanged
returns-clause-unchanged g c clean =
    same_seen (λ s. s.text ≡ c.args.sql.now) (state g.S.Store c.args.tx.now.conn.now) (state g.S.Store c.prepare.new.self.conn.now) c.prepare.result (c.prepare.ensures.ok clean)

pub returns-clause-refused : goal.returns-clause-refused
returns-clause-refused g c clean =
    at_params (state g.S.Store c.args.tx.now.conn.now) (state g.S.Store c.prepare.new.self.conn.now) c.args.sql.now c.prepare.result (c.prepare.ensures.err clean)
