use Rattle.std.proofs.Common.{◌≡◌, ◌∙◌, ◌++◌, ◌+◌, drop, ap, rules, arith}
use Rattle.std.specs.Prelude.{[], ◌∷◌}
use Rattle.task_ast.specs.meaning.Names.{controls}
use Rattle.task_ast.specs.meaning.Plain.{given}
use Rattle.task_ast.specs.meaning.State.{number_at}
use Rattle.one_thread.proofs.TaskVariables.{control-more, control-past}
use Rattle.one_thread.proofs.variables.add_controls.Goals as goal
use Rattle.one_thread.proofs.variables.add_controls.Goals.{in-Ctl+in_ok-copied-in-Ctl+in_ok-push-in-Ctl, in-Reg}

pub loop-param-preserved : goal.loop-param-preserved
loop-param-preserved c =
    elim c.match-param.branch [
      | in-Ctl+in_ok-copied-in-Ctl+in_ok-push-in-Ctl w ↦
          let pushed : c.match-param.names ≡ c.loop-param.names ++ (w.in-Ctl.name, number_at c.args.values.now c.loop-param.count) ∷ [] =
          search rules in
          record {
            same =
                ap (λ k. c.match-param.names ++ given (controls (drop (c.loop-param.param-index + 1) c.args.params.now))
                (drop k c.args.values.now)) w.count-is
                ∙ control-more c.args.params.now c.loop-param.param-index c.param-item.result w.in-Ctl.name c.args.values.now
                c.loop-param.count c.loop-param.names c.match-param.names c.loop-param-test.true c.param-item.is w.in-Ctl.is pushed
                ∙ c.loop-param.invariant.same;
            few = omega arith;
          }
      | in-Reg w ↦
          record {
            same =
                ap (λ k. c.match-param.names ++ given (controls (drop (c.loop-param.param-index + 1) c.args.params.now))
                (drop k c.args.values.now)) w.count-is
                ∙ ap (λ l. l ++ given (controls (drop (c.loop-param.param-index + 1) c.args.params.now))
                (drop c.loop-param.count c.args.values.now)) w.names-is
                ∙ control-past c.args.params.now c.loop-param.param-index c.param-item.result _
                (drop c.loop-param.count c.args.values.now) c.loop-param.names c.loop-param-test.true c.param-item.is w.in-Reg.is
                ∙ c.loop-param.invariant.same;
            few = omega arith;
          }
    ]
