use Rattle.std.proofs.Common.{◌≡◌, ◌∙◌, refl, sym}
use Rattle.whole_run.specs.Gives.{struck_now}
use Rattle.whole_run.specs.inner.Kept.{batch_in, view_of}
use Rattle.whole_run.proofs.InOrder.{in-row}
use Rattle.whole_run.proofs.Options.{some_none, some_is}
use Rattle.whole_run.proofs.Struck.{struck-same}
use Rattle.whole_run.proofs.parts.detecting.detect.Goals as goal
use Rattle.whole_run.proofs.parts.detecting.detect.Goals.{After-struck}

-- what is struck as far as the end is known
told : (c : After-struck) → struck_now (view_of (batch_in c.args.plan.now) c.args.parts.now) ≡ c.struck.result
told c =
    sym (struck-same (batch_in c.args.plan.now) c.args.parts.now c.requires.kept c.is_some-known.result c.is_some-known.ensures)
    ∙ sym c.struck.ensures

pub struck-requires : goal.struck-requires
struck-requires c = in-row _ c.args.parts.now.rol.entries c.requires.kept.window.entries_are.row

pub returns-in_default-clause-gives : goal.returns-in_default-clause-gives
returns-in_default-clause-gives c = (refl, told (goal.at.returns-in_default-clause-gives c).After-struck ∙ c.in_default.is)

pub redo_from-requires-clause-home : goal.redo_from-requires-clause-home
redo_from-requires-clause-home c =
    rw c.make_room.ensures.events (c.requires.home (some_is (told (goal.at.redo_from-requires-clause-home c).After-struck ∙ c.in-Some.is)))

pub redo_from-requires-clause-scouted : goal.redo_from-requires-clause-scouted
redo_from-requires-clause-scouted c =
    rw c.make_room.ensures.events
    (c.requires.scouted (some_is (told (goal.at.redo_from-requires-clause-scouted c).After-struck ∙ c.in-Some.is)))

pub redo_from-requires-clause-is_struck : goal.redo_from-requires-clause-is_struck
redo_from-requires-clause-is_struck c =
    rw c.make_room.ensures.events (told (goal.at.redo_from-requires-clause-is_struck c).After-struck ∙ c.in-Some.is)

pub roll_back-requires-clause-home : goal.roll_back-requires-clause-home
roll_back-requires-clause-home c =
    rw c.make_room.ensures.events (c.requires.home (some_is (told (goal.at.roll_back-requires-clause-home c).After-struck ∙ c.in-Some.is)))

pub roll_back-requires-clause-is_struck : goal.roll_back-requires-clause-is_struck
roll_back-requires-clause-is_struck c =
    rw c.make_room.ensures.events (told (goal.at.roll_back-requires-clause-is_struck c).After-struck ∙ c.in-Some.is)

pub returns-in-Selective-clause-gives : goal.returns-in-Selective-clause-gives
returns-in-Selective-clause-gives c = (
  rw c.make_room.ensures.events at c.redo_from.ensures.did,
  λ none. some_none (sym (told (goal.at.returns-in-Selective-clause-gives c).After-struck ∙ c.in-Some.is) ∙ none),
)

pub returns-in_ok-roll_back-in-Rollback-clause-gives : goal.returns-in_ok-roll_back-in-Rollback-clause-gives
returns-in_ok-roll_back-in-Rollback-clause-gives c = (
  rw c.make_room.ensures.events at c.in_ok-roll_back-in-Rollback.ensures.did,
  λ none. some_none (sym (told (goal.at.returns-in_ok-roll_back-in-Rollback-clause-gives c).After-struck ∙ c.in-Some.is) ∙ none),
)
