use Rattle.std.proofs.Common.{◌≡◌, Some, sym, subst}
use Rattle.std.specs.Prelude.{slice_get}
use Rattle.gp_steal.specs.Held.{about, hand}
use Rattle.subthread.specs.Tasks.{Fits, Answers}
use Rattle.steal_crew.proofs.Holding.{held_now, idle_again}
use Rattle.steal_crew.proofs.working.Bench.try_desk.Goals as goal

pub run_noted-run-requires : goal.run_noted-run-requires
run_noted-run-requires g c = subst (λ w. Fits w c.in-Some.task) c.requires.idle.1 c.in-Some.ensures.job.1

pub finish-requires-clause-held : goal.finish-requires-clause-held
finish-requires-clause-held g c κs =
    held_now (hand c.args.pass.now) (hand c.claim.new.pass) c.args.desk c.in-Some.place.number c.in-Some.ensures.hand
    c.in-Some.ensures.desk.0

pub finish-requires-clause-run : goal.finish-requires-clause-run
finish-requires-clause-run g c κs = (
  c.in-Some.task,
  subst (λ k. slice_get (about c.args.self.now.board.now).jobs k ≡ Some c.in-Some.task) (sym c.in-Some.ensures.desk.0) c.in-Some.ensures.job.0,
  subst (λ w. Answers w c.in-Some.task c.run_noted-run.result) (sym c.requires.idle.1) c.run_noted-run.ensures,
)

pub returns-clause-idle : goal.returns-clause-idle
returns-clause-idle g c = (
  c.finish.ensures.of,
  c.requires.idle.1,
  idle_again c.args.desk c.in-Some.place.number (hand c.args.pass.now) (hand c.claim.new.pass) (hand c.finish.new.pass)
      c.in-Some.ensures.hand c.in-Some.ensures.desk.0 c.finish.ensures.hand c.requires.idle.2,
)
