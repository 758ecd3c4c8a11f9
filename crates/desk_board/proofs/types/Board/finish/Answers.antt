use Rattle.std.proofs.Common.{◌≤◌, length, sym, refl, ap, ◌∙◌, subst}
use Rattle.std.specs.Prelude.{IfSome}
use Rattle.desk_board.specs.Held.{about}
use Rattle.desk_board.proofs.Steps.{finishes}
use Rattle.desk_board.proofs.Seats.{comes_back}
use Rattle.desk_board.proofs.BoardHands.{hand_laws}
use Rattle.desk_board.proofs.DeskLists.{times_from_Contains}
use Rattle.desk_board.proofs.types.Board.finish.Goals as goal

pub put_back-requires-clause-comes : goal.put_back-requires-clause-comes
put_back-requires-clause-comes g c κs within = comes_back (hand_laws g.J.Job.is_run) g.J.Job.fits _ _ _ _ _ c.args.desk.blank

pub put_back-requires-clause-allowed : goal.put_back-requires-clause-allowed
put_back-requires-clause-allowed g c κs within =
    finishes g.J.Job.fits g.J.Job.is_run _ _ _ _ _ _ _ (about c.args.self.now) c.requires.of.0.0.1 c.requires.run
    (times_from_Contains _ _ c.requires.held)

pub invariant_of-pass : goal.invariant_of-pass
invariant_of-pass g c = let did = c.put_back.ensures.told c.args.desk.number refl in record {
  bare = ap (λ m. m.1) did;
  plain = ap (λ m. m.0.book) did ∙ c.args.pass.now.plain;
  part = subst (λ m. 1 ≤ m.0.hand.share) (sym did) c.args.pass.now.part;
  told = ap (λ m. m.0.hand.ticket) did ∙ c.args.pass.now.told;
}

pub returns-clause-of : goal.returns-clause-of
returns-clause-of g c = let did = c.put_back.ensures.told c.args.desk.number refl in (
  (c.put_back.ensures.of, ap (λ m. m.0.about) did ∙ c.requires.of.0.0.1),
  subst (λ m. IfSome m.0.hand.ticket (λ t. length (about c.args.self.now).jobs ≤ t)) (sym did) c.requires.of.0.1,
)
