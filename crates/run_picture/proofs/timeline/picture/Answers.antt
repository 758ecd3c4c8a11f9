use Rattle.std.proofs.Common.{◌++◌, ap, ◌∙◌}
use Rattle.run_picture.specs.meaning.Elements.{opening}
use Rattle.run_picture.proofs.Pictures.{picture-made}
use Rattle.run_picture.proofs.timeline.picture.Goals as goal

pub returns : goal.returns
returns c =
    picture-made c.args.view.now c.args.frame.now c.args.end c.in_ok-drawing.drawing c.height-height.result c.push_opening.new.text.items
    c.push_drawing.new.text.items c.extend_from_slice.new.self.items c.from_vec.result c.in_ok-drawing.ensures
    (c.in_ok-push_opening.ensures ∙ ap (λ l. l ++ opening c.args.view.now.bands.now.width c.height-height.result) c.new-text.ensures.items)
    c.in_ok-push_drawing.ensures c.in_ok-extend_from_slice.ensures.items c.from_vec.ensures
