use Rattle.std.proofs.Common.{◌∙◌, map, ap}
use Rattle.task_ast.specs.meaning.Control.{all_of}
use Rattle.task_code.specs.Reading.{calc_of_registers}
use Rattle.task_code.specs.View.{plain_calcs}
use Rattle.subthread.specs.inner.Running.{env_in, doing_of}
use Rattle.subthread.proofs.Arms.{said, unsaid}
use Rattle.subthread.proofs.deeds.print.Goals as goal

pub returns-in_ok-push : goal.returns-in_ok-push
returns-in_ok-push c = record {
  holds = c.requires;
  performs = λ a is.
      let env = env_in c.args.ground.now c.args.ctl.now in
      let line = rw (c.in-Some.is, c.as_slice.ensures) at c.in_ok-line.ensures in
      ap (λ l. record (doing_of c.args.doing.now) { lines = l }) c.in_ok-push.ensures.ok
      ∙ said c.args.ground.now (all_of (map (λ x. calc_of_registers x env) (plain_calcs c.args.cs.now)))
      (doing_of c.args.doing.now) c.in-Some.line line a is;
}

pub returns-in_default : goal.returns-in_default
returns-in_default c = record {
  holds = c.requires;
  performs = λ a is.
      let env = env_in c.args.ground.now c.args.ctl.now in
      let line = rw (c.in_default.is, c.as_slice.ensures) at c.in_ok-line.ensures in
      unsaid c.args.ground.now (all_of (map (λ x. calc_of_registers x env) (plain_calcs c.args.cs.now))) (doing_of c.args.doing.now)
      (doing_of c.args.doing.now) line a is;
}
