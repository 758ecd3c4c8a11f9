use Rattle.std.proofs.Common.{◌≡◌, ◌≤◌, ◌+◌, ◌-◌}
use Rattle.run_picture.specs.meaning.Picture.{unrun_from}
use Rattle.run_picture.specs.inner.Tellings.{found}
use Rattle.run_picture.proofs.columns.unrun_from.Given as goal

-- those so far, and those that are left, are all
abbrev pub invariant-loop-at : goal.invariant-loop-at
invariant-loop-at l = record {
  counted : l.unrun + unrun_from (found l.tellings) (l.positions - l.at) (l.first + l.at) ≡ unrun_from (found l.tellings) l.positions l.first;
  few : l.unrun ≤ l.at;
}
