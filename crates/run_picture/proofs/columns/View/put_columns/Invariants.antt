use Rattle.std.proofs.Common.{◌≡◌, ◌++◌, true, drop, map}
use Rattle.run_views.specs.Seen.{seen}
use Rattle.run_picture.specs.meaning.Picture.{columns}
use Rattle.run_picture.specs.inner.Drawn.{shows_in, values_in}
use Rattle.run_picture.specs.inner.Tellings.{found}
use Rattle.run_picture.proofs.columns.View.put_columns.Given as goal

-- the columns so far, and those of the subthreads that are left, are all
abbrev pub invariant-loop-position : goal.invariant-loop-position
invariant-loop-position l =
    l.drawing.elements
    ++ columns (shows_in l.self.bands.now) l.self.heads.now (found l.self.tellings.now) (values_in l.self.known.now) l.self.restarts.now l.follows
    l.position (map seen (drop l.position l.self.order.now))
    ≡ l.fn.drawing.elements
    ++ columns (shows_in l.self.bands.now) l.self.heads.now (found l.self.tellings.now) (values_in l.self.known.now) l.self.restarts.now true 0
    (map seen l.self.order.now)
