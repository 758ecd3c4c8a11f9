use Rattle.std.proofs.Common.{◌∙◌, sym}
use Rattle.one_thread.proofs.Forks.{datas-end, datas-over, data-argument, data-past}
use Rattle.one_thread.proofs.walk.data_fits.Goals as goal
use Rattle.one_thread.proofs.walk.data_fits.Goals.{in-Reg+else-not-has_value, in-Ctl}

pub returns-in_default : goal.returns-in_default
returns-in_default c = λ s given registers.
    datas-end s given registers c.args.env.now c.args.params.now c.args.es.now c.loop-k.k c.in_default.ensures.lookup.0
    ∙ c.loop-k.invariant s given registers

pub returns-then-not-has_value : goal.returns-then-not-has_value
returns-then-not-has_value c = λ s given registers.
    sym (data-argument s given registers c.args.env.now c.args.params.now c.args.es.now c.loop-k.k c.index-params-k.result c.in-Some.e.now
    c.in-Reg.field-0 _ c.loop-k-test.true c.index-params-k.is c.in-Some.ensures.lookup.0 c.in-Some.ensures.lookup.1 c.in-Reg.is
    (c.if-not-has_value.ensures registers))
    ∙ c.loop-k.invariant s given registers

pub returns : goal.returns
returns c =
    λ s given registers. datas-over s given registers c.args.env.now c.args.params.now c.args.es.now c.loop-k.k c.loop-k-test.false
    ∙ c.loop-k.invariant s given registers

pub loop-k-preserved : goal.loop-k-preserved
loop-k-preserved c =
    elim c.match-param.branch [
      | in-Reg+else-not-has_value w ↦ λ s given registers.
          sym (data-argument s given registers c.args.env.now c.args.params.now c.args.es.now c.loop-k.k c.index-params-k.result
          c.in-Some.e.now w.in-Reg.field-0 _ c.loop-k-test.true c.index-params-k.is c.in-Some.ensures.lookup.0
          c.in-Some.ensures.lookup.1 w.in-Reg.is (w.if-not-has_value.ensures registers))
          ∙ c.loop-k.invariant s given registers
      | in-Ctl w ↦ λ s given registers.
          sym (data-past s given registers c.args.env.now c.args.params.now c.args.es.now c.loop-k.k c.index-params-k.result c.in-Some.e.now
          w.in-Ctl.field-0 c.loop-k-test.true c.index-params-k.is c.in-Some.ensures.lookup.0 c.in-Some.ensures.lookup.1 w.in-Ctl.is)
          ∙ c.loop-k.invariant s given registers
    ]
