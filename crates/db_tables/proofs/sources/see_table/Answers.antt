use Rattle.sqlite.specs.Held.{state}
use Rattle.db_tables.proofs.Causes.{no_table}
use Rattle.db_tables.proofs.sources.see_table.Goals as goal

pub returns-in-Err-SqlInputError-NoSuchTable-clause-cause : goal.returns-in-Err-SqlInputError-NoSuchTable-clause-cause
returns-in-Err-SqlInputError-NoSuchTable-clause-cause g c clean =
    let arm = c.in-Err-SqlInputError-NoSuchTable in
    let refused = rw (arm.field-0-is, arm.field-0-0-is) at (arm.ensures.refused clean) in
    no_table (state g.S.Store c.args.tx.now.conn.now) (state g.S.Store c.outline.new.tx.conn.now) c.args.whole.now refused
