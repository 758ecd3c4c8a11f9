use Rattle.std.proofs.Common.{◌≡◌, Some, sym, ap, subst, ◌∙◌}
use Rattle.std.specs.Prelude.{slice_get}
use Rattle.desk_board.specs.Held.{about, hand, IsPassOf}
use Rattle.subthread.specs.Tasks.{Fits, Answers}
use Rattle.pipe_crew.proofs.Taken.{idle_again, share_kept}
use Rattle.pipe_crew.proofs.flight.Flight.run_one.Goals as goal

pub run_noted-run-requires : goal.run_noted-run-requires
run_noted-run-requires g c =
    subst (λ w. Fits w c.in-Some.task) (ap (λ b. (about b).with) c.deref.ensures ∙ c.requires.with) c.in-Some.ensures.job.1

pub finish-requires-clause-run : goal.finish-requires-clause-run
finish-requires-clause-run g c κs = (
  c.in-Some.task,
  subst (λ b. slice_get (about b).jobs c.in-Some.desk.number ≡ Some c.in-Some.task) (c.deref.ensures ∙ sym c.deref-2.ensures)
      c.in-Some.ensures.job.0,
  subst (λ w. Answers w c.in-Some.task c.run_noted-run.result)
      (sym (ap (λ b. (about b).with) c.deref-2.ensures ∙ c.requires.with)) c.run_noted-run.ensures,
)

pub returns-clause-stands : goal.returns-clause-stands
returns-clause-stands g c =
    let was = c.requires.stands in
    record {
      pass = subst (λ b. IsPassOf b c.finish.new.pass) c.deref-2.ensures c.finish.ensures.of;
      idle = idle_again c.in-Some.desk.number (hand c.args.self.now.pass) (hand c.draw.new.pass) (hand c.finish.new.pass)
          c.in-Some.ensures.hand c.finish.ensures.hand was.idle;
      clerk = was.clerk;
      taken = was.taken;
      within = was.within;
    }

pub returns-clause-share : goal.returns-clause-share
returns-clause-share g c =
    share_kept c.in-Some.desk.number (hand c.args.self.now.pass) (hand c.draw.new.pass) (hand c.finish.new.pass) c.in-Some.ensures.hand
    c.finish.ensures.hand
