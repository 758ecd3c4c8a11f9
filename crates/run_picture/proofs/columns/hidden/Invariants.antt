use Rattle.std.proofs.Common.{◌≡◌, ◌+◌, ◌-◌}
use Rattle.run_picture.specs.meaning.Picture.{hidden}
use Rattle.run_picture.specs.inner.Drawn.{shows_in}
use Rattle.run_picture.proofs.columns.hidden.Given as goal

-- none so far has a column
abbrev pub invariant-loop-at : goal.invariant-loop-at
invariant-loop-at l =
    l.at + hidden (shows_in l.bands) l.restarts (l.positions - l.at) (l.first + l.at)
    ≡ hidden (shows_in l.bands) l.restarts l.positions l.first
