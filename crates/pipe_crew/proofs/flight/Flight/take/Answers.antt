use Rattle.std.proofs.Common.{ℕ, ◌+◌, ◌<◌, All, List, sym, ap, subst, arith}
use Rattle.std.specs.Arc.{arc_value}
use Rattle.desk_board.specs.Held.{about, IsClerkOf}
use Rattle.desk_board.specs.Told.{IsRunAt}
use Rattle.desk_board.proofs.Collecting.{taken_more}
use Rattle.subthread.specs.Tasks.{Answers}
use Rattle.pipe_crew.proofs.Taken.{drop-more}
use Rattle.pipe_crew.proofs.flight.Flight.take.Goals as goal

pub returns-clause-stands : goal.returns-clause-stands
returns-clause-stands c =
    let was = c.requires.stands in
    let at : ℕ = c.args.self.now.taken in
    let some = c.requires.some in
    record {
      pass = was.pass;
      idle = was.idle;
      clerk = subst (λ b. IsClerkOf b c.collect-run.new.clerk) c.deref-2.ensures c.collect-run.ensures.of;
      taken =
          subst (λ (l : List ℕ). All (λ d. d < at + 1) l) (sym (ap (λ b. b.taken) c.collect-run.ensures.book)) (taken_more at _ was.taken);
      within = omega (arith, some);
    }

pub returns-clause-gives : goal.returns-clause-gives
returns-clause-gives c =
    let run =
    subst (λ b. IsRunAt Answers (about b) c.args.self.now.taken c.collect-run.result) c.deref-2.ensures c.collect-run.ensures.run in
    record {
      task = run.0;
      before_is = drop-more (about (arc_value c.args.self.now.board)).jobs c.args.self.now.taken run.0 run.1;
      answers = run.2;
    }
