use Rattle.std.proofs.Common.{◌≡◌, ◌++◌, drop, map}
use Rattle.run_picture.specs.meaning.Picture.{plain}
use Rattle.run_picture.specs.inner.Drawn.{parts_in}
use Rattle.run_picture.proofs.frame.put_frame.Given as goal

-- the parts so far, and those that are left, are all
abbrev pub invariant-loop-part : goal.invariant-loop-part
invariant-loop-part l =
    l.drawing.elements ++ map (λ part. plain part.0 part.1) (parts_in (drop l.part-index l.parts))
    ≡ l.fn.drawing.elements ++ map (λ part. plain part.0 part.1) (parts_in l.parts)
