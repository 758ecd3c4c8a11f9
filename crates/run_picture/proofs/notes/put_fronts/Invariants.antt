use Rattle.std.proofs.Common.{◌≡◌, ◌+◌, ◌++◌, drop}
use Rattle.run_picture.specs.meaning.Picture.{fronts}
use Rattle.run_picture.proofs.notes.put_fronts.Given as goal

-- the restarts so far, and those that are left, are all
abbrev pub invariant-loop-at : goal.invariant-loop-at
invariant-loop-at l =
    l.drawing.elements ++ fronts l.position (l.at + 1) (drop l.at l.restarts) ≡ l.fn.drawing.elements ++ fronts l.position 1 l.restarts
