use Rattle.std.proofs.Common.{◌≡◌, ◌+◌, ◌++◌, drop}
use Rattle.run_picture.specs.meaning.Picture.{notes}
use Rattle.run_picture.proofs.notes.put_notes.Given as goal

-- the notes so far, and those that are left, are all
abbrev pub invariant-loop-at : goal.invariant-loop-at
invariant-loop-at l = l.drawing.elements ++ notes (l.at + 1) (drop l.at l.restarts) ≡ l.fn.drawing.elements ++ notes 1 l.restarts
