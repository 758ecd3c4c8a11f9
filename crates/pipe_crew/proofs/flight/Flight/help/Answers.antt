use Rattle.std.proofs.Common.{ap, ◌∙◌}
use Rattle.std.specs.Arc.{arc_value}
use Rattle.desk_board.specs.Held.{about}
use Rattle.pipe_crew.proofs.flight.Flight.help.Goals as goal

pub is_back-requires-clause-some : goal.is_back-requires-clause-some
is_back-requires-clause-some g c = rw (c.loop.invariant.taken, c.loop.invariant.board) c.requires.some

pub run_one-requires-clause-with : goal.run_one-requires-clause-with
run_one-requires-clause-with g c =
    ap (λ b. (about (arc_value b)).with) (c.is_back.ensures.board ∙ c.loop.invariant.board) ∙ c.requires.with

pub is_back-requires-clause-stands : goal.is_back-requires-clause-stands
is_back-requires-clause-stands g c = c.loop.invariant.stands

pub run_one-requires-clause-stands : goal.run_one-requires-clause-stands
run_one-requires-clause-stands g c = c.is_back.ensures.stands

pub returns-then-is_back-clause-stands : goal.returns-then-is_back-clause-stands
returns-then-is_back-clause-stands g c = c.is_back.ensures.stands

pub returns-then-is_back-clause-board : goal.returns-then-is_back-clause-board
returns-then-is_back-clause-board g c = c.is_back.ensures.board ∙ c.loop.invariant.board

pub returns-then-is_back-clause-share : goal.returns-then-is_back-clause-share
returns-then-is_back-clause-share g c = c.is_back.ensures.share ∙ c.loop.invariant.share

pub returns-then-is_back-clause-taken : goal.returns-then-is_back-clause-taken
returns-then-is_back-clause-taken g c = c.is_back.ensures.taken ∙ c.loop.invariant.taken

pub loop-preserved-then-not-run_one : goal.loop-preserved-then-not-run_one
loop-preserved-then-not-run_one g c =
    let was = c.loop.invariant in
    let looked = c.is_back.ensures in
    let ran = c.run_one.ensures in
    record {
      stands = ran.stands;
      taken = ran.taken ∙ looked.taken ∙ was.taken;
      board = ran.board ∙ looked.board ∙ was.board;
      share = ran.share ∙ looked.share ∙ was.share;
    }

pub loop-preserved : goal.loop-preserved
loop-preserved g c =
    let was = c.loop.invariant in
    let looked = c.is_back.ensures in
    let ran = c.run_one.ensures in
    record {
      stands = ran.stands;
      taken = ran.taken ∙ looked.taken ∙ was.taken;
      board = ran.board ∙ looked.board ∙ was.board;
      share = ran.share ∙ looked.share ∙ was.share;
    }
