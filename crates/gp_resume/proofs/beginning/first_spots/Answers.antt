use Rattle.std.proofs.Common.{◌∙◌, ◌++◌, [], ◌∷◌, ap}
use Rattle.gp_resume.proofs.beginning.first_spots.Goals as goal

pub returns : goal.returns
returns c =
    record {
      spot = c.in_ok-spot.spot;
      alone = c.in_ok-push.ensures.items ∙ ap (λ items. items ++ c.in_ok-spot.spot ∷ []) c.new-spots.ensures.items;
      starts = c.in_ok-spot.ensures;
    }
