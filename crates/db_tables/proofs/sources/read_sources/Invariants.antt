use Rattle.std.proofs.Common.{◌≡◌, true, take}
use Rattle.sqlite.specs.State.{HasCleanDisk}
use Rattle.sqlite.specs.Held.{state}
use Rattle.db_steps.specs.Steps.{IsStep}
use Rattle.db_tables.specs.Reading.{ReadEach}
use Rattle.db_tables.proofs.sources.read_sources.Given as goal

abbrev pub invariant-loop-at : goal.invariant-loop-at
invariant-loop-at g l =
    let first = l.fn.tx.conn.now in
    let now = l.tx.conn.now in
    (l.tx.conn.ghost_name ≡ l.fn.tx.conn.ghost_name) × IsStep g.S.Store first now true
    × (HasCleanDisk (state g.S.Store now) → ReadEach g.S.Store (take l.at l.sources) (state g.S.Store first).now (state g.S.Store now).now l.files)
