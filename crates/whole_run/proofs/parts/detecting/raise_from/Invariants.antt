use Rattle.std.proofs.Common.{◌≤◌, ◌+◌}
use Rattle.whole_run.proofs.Raising.{RaisedTo}
use Rattle.whole_run.proofs.parts.detecting.raise_from.Given as goal

abbrev pub invariant-loop-position : goal.invariant-loop-position
invariant-loop-position l =
    RaisedTo l.fn.cut l.fn.front l.position l.fn.rol.entries l.rol.entries l.redo.items × (l.fn.front ≤ l.position + l.redo.spare)
