use Rattle.std.proofs.Common.{sym, ap, ◌∙◌}
use Rattle.std.specs.Arc.{arc_value}
use Rattle.desk_board.specs.Held.{about}
use Rattle.pipe_crew.proofs.pipe.PipeCrew.bring_back.Goals as goal

pub help-requires-clause-with : goal.help-requires-clause-with
help-requires-clause-with g c =
    ap (λ b. (about (arc_value b)).with) c.is_back.ensures.board ∙ c.requires.flight.with ∙ sym c.in_ok-follow.ensures.posts.0
    ∙ c.follow.new.self.same ∙ sym c.deref-work.ensures
