use Rattle.std.proofs.Common.{◌≡◌, ◌++◌, drop}
use Rattle.run_picture.specs.meaning.Elements.{elements_text}
use Rattle.run_picture.specs.inner.Drawn.{place_in}
use Rattle.run_picture.proofs.elements.push_drawing.Given as goal

-- the elements so far, and those that are left, are all
abbrev pub invariant-loop-number : goal.invariant-loop-number
invariant-loop-number l =
    l.text.items ++ elements_text (place_in l.drawing) l.number (drop l.number l.drawing.elements)
    ≡ l.fn.text.items ++ elements_text (place_in l.drawing) 0 l.drawing.elements
