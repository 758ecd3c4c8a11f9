use Rattle.std.proofs.Common.{Ok, Err, sym, ap, ◌∙◌, subst, arith}
use Rattle.std.proofs.lemmas.Result.{err_from_is_err_and}
use Rattle.subthread.specs.Tasks.{program_in}
use Rattle.gp_resume.specs.declared.course.Course.{Course}
use Rattle.gp_resume.specs.declared.course.ResumePlan.{ResumePlan}
use Rattle.gp_resume.specs.declared.log.Logged.{Logged}
use Rattle.gp_resume.specs.Resuming.{DrivesRest}
use Rattle.gp_resume.specs.inner.Going.{Replays}
use Rattle.gp_resume.proofs.Reports.{log-bytes, drives-unbegun, drives-to-end, drives-to-stop}
use Rattle.gp_resume.proofs.Stops.{stops-later, stops-told}
use Rattle.gp_resume.proofs.drive.resume_paced.Goals as goal
use Rattle.gp_resume.proofs.drive.resume_paced.Goals.{In_ok-course}

-- what is run
abbrev plan-of : (g : _) (c : In_ok-course g) → ResumePlan
plan-of g c = record {
  work = c.args.paced.work;
  inputs = c.of.result;
  limits = c.args.opening.limits;
  mean_steps = c.args.paced.mean_steps;
}

-- the course stands where the rows of the log leave the run
replays : (g : _) (c : In_ok-course g) → Replays (plan-of g c) c.args.log.now c.in_ok-course.logged c.in_ok-course.course
replays g c = c.in_ok-course.ensures.replays

pub returns-in_err-course : goal.returns-in_err-course
returns-in_err-course g c =
    let result = c.from_residual.result in
    let stopped = err_from_is_err_and result c.from_residual.ensures.1 in
    subst (DrivesRest (program_in c.args.paced.work.now) c.args.opening.inputs c.args.opening.limits c.args.log.now
    (g.O.Sink.written c.args.out.now) (g.O.Sink.written c.args.out.now) (g.O.Sink.faults c.args.out.now) (g.O.Sink.faults c.args.out.now)
    (g.C.Crew.posted c.args.crew.now)) (sym (stopped.1 ∙ ap Err stopped.2))
    (subst (λ inputs. DrivesRest (program_in c.args.paced.work.now) inputs c.args.opening.limits c.args.log.now
    (g.O.Sink.written c.args.out.now) (g.O.Sink.written c.args.out.now) (g.O.Sink.faults c.args.out.now) (g.O.Sink.faults c.args.out.now)
    (g.C.Crew.posted c.args.crew.now) (Err c.in_err-course.field-0.0)) c.of.ensures
    (drives-unbegun (Course × Logged) (program_in c.args.paced.work.now) c.of.result.value c.args.opening.limits c.args.log.now
    (g.O.Sink.written c.args.out.now) (g.O.Sink.faults c.args.out.now) (g.C.Crew.posted c.args.crew.now) c.requires.unposted.none_posted
    c.in_err-course.field-0.0 c.in_err-course.ensures.unwritten c.in_err-course.ensures.answer))

pub returns-in_err-end : goal.returns-in_err-end
returns-in_err-end g c =
    let at = (goal.at.returns-in_err-end g c).In_ok-course in
    let result = c.from_residual-in_err-end.result in
    let stopped = err_from_is_err_and result c.from_residual-in_err-end.ensures.1 in
    let is = stopped.1 ∙ ap Err stopped.2 in
    let told = stops-told c.go_on.result result c.in_err-end.field-0.0 c.in_err-end.was is c.go_on.ensures.told in
    let cause = stops-later c.go_on.result result c.in_err-end.field-0.0 c.in_err-end.was is (g.O.Sink.faults c.args.out.now) _ _ (omega arith)
    c.go_on.ensures.cause in
    subst (λ inputs. DrivesRest (program_in c.args.paced.work.now) inputs c.args.opening.limits c.args.log.now
    (g.O.Sink.written c.args.out.now) (g.O.Sink.written c.go_on.new.out) (g.O.Sink.faults c.args.out.now) (g.O.Sink.faults c.go_on.new.out)
    (g.C.Crew.posted c.go_on.new.crew) result) c.of.ensures
    (drives-to-stop (plan-of g at) c.args.log.now c.in_ok-course.logged c.in_ok-course.course (replays g at)
    (g.O.Sink.written c.args.out.now) (g.O.Sink.written c.go_on.new.out) (g.O.Sink.faults c.args.out.now) (g.O.Sink.faults c.go_on.new.out)
    (g.C.Crew.posted c.go_on.new.crew) result stopped.0 stopped.1 told cause c.go_on.ensures.partly c.go_on.ensures.some)

pub text_bytes-requires : goal.text_bytes-requires
text_bytes-requires g c =
    let at = (goal.at.text_bytes-requires g c).In_ok-course in
    record {
      natural = log-bytes (plan-of g at) c.args.log.now
          c.in_ok-course.logged c.in_ok-course.course (replays g at);
    }

pub report_of-requires : goal.report_of-requires
report_of-requires g c =
    let at = (goal.at.report_of-requires g c).In_ok-course in
    record { home = (c.in_ok-end.ensures.end _ (replays g at).stands.stands).home.home }

pub returns : goal.returns
returns g c =
    let at = (goal.at.returns g c).In_ok-course in
    subst (λ inputs. DrivesRest (program_in c.args.paced.work.now) inputs c.args.opening.limits c.args.log.now
    (g.O.Sink.written c.args.out.now) (g.O.Sink.written c.go_on.new.out) (g.O.Sink.faults c.args.out.now) (g.O.Sink.faults c.go_on.new.out)
    (g.C.Crew.posted c.go_on.new.crew) (Ok (c.text_bytes.result, c.report_of.result))) c.of.ensures
    (drives-to-end (plan-of g at) c.args.log.now c.in_ok-course.logged c.in_ok-course.course (replays g at)
    (g.O.Sink.written c.args.out.now) (g.O.Sink.written c.go_on.new.out) (g.O.Sink.faults c.args.out.now) (g.O.Sink.faults c.go_on.new.out)
    (g.C.Crew.posted c.go_on.new.crew) c.in_ok-end.end c.go_on.new.course c.in_ok-end.ensures.end c.in_ok-end.ensures.lines
    c.go_on.ensures.partly c.in_ok-end.ensures.posts c.go_on.ensures.some c.go_on.ensures.cause.later
    c.text_bytes.result c.report_of.result c.text_bytes.ensures c.report_of.ensures.end c.report_of.ensures.records
    c.report_of.ensures.subthreads c.report_of.ensures.unused c.report_of.ensures.events c.report_of.ensures.restarts)
