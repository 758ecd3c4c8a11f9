use Rattle.std.proofs.Common.{◌≡◌, ◌≤◌, ◌+◌, ◌++◌, drop}
use Rattle.run_views.specs.Seen.{seen}
use Rattle.run_picture.specs.meaning.Attempts.{boxes}
use Rattle.run_picture.specs.inner.Tellings.{found}
use Rattle.run_picture.proofs.attempts.put_boxes.Given as goal

-- the boxes so far, and those that are left, are all
abbrev pub invariant-loop-at : goal.invariant-loop-at
invariant-loop-at l = record {
  same : l.drawing.elements
      ++ boxes l.column.heads.now (found l.column.tellings.now) l.column.position (seen l.column.step.now) l.column.values.now l.attempt
      (l.at + 1) (drop l.at l.restarts)
      ≡ l.fn.drawing.elements
      ++ boxes l.column.heads.now (found l.column.tellings.now) l.column.position (seen l.column.step.now) l.column.values.now 0 1 l.restarts;
  few : l.attempt ≤ l.at;
}
