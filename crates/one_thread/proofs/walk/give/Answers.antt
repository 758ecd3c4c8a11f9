use Rattle.std.proofs.Common.{◌∙◌, ◌+◌, ap, sym, subst, rules, SFits, w64}
use Rattle.std.proofs.lemmas.Int.{to_z-of_z}
use Rattle.std.specs.Prelude.{slice_set}
use Rattle.task_ast.specs.meaning.Names.{slot}
use Rattle.task_ast.specs.meaning.Control.{data_arguments}
use Rattle.task_ast.specs.meaning.Action.{of_registers}
use Rattle.task_ast.specs.View.{plain_expr, plain_exprs}
use Rattle.one_thread.proofs.Forks.{AheadOf, rest_from, ahead-done, rest-end, rest-over, give-one, give-past, given-value, no-value}
use Rattle.one_thread.proofs.walk.give.Goals as goal
use Rattle.one_thread.proofs.walk.give.Goals.{in-Reg+in-Some-of_data, in-Reg+in_default-of_data, in-Ctl}

pub returns-in_default : goal.returns-in_default
returns-in_default g c = λ joined s actions is.
    let whole = data_arguments s c.args.given.now c.args.names.now c.args.params.now (plain_exprs c.args.es.now) c.args.env.now in
    ahead-done joined whole _ c.loop-k.data c.args.data.now
    (rest-end joined s c.args.given.now c.args.names.now c.args.env.now whole c.args.data.now c.args.params.now c.args.es.now c.loop-k.k
    c.in_default.ensures.lookup.0) (c.loop-k.invariant joined s) actions is

pub returns : goal.returns
returns g c = λ joined s actions is.
    let whole = data_arguments s c.args.given.now c.args.names.now c.args.params.now (plain_exprs c.args.es.now) c.args.env.now in
    ahead-done joined whole _ c.loop-k.data c.args.data.now
    (rest-over joined s c.args.given.now c.args.names.now c.args.env.now whole c.args.data.now c.args.params.now c.args.es.now
    c.loop-k.k c.loop-k-test.false) (c.loop-k.invariant joined s) actions is

pub loop-k-preserved : goal.loop-k-preserved
loop-k-preserved g c =
    elim c.match-param.branch [
      | in-Reg+in-Some-of_data w ↦ λ joined s.
          let whole = data_arguments s c.args.given.now c.args.names.now c.args.params.now (plain_exprs c.args.es.now) c.args.env.now in
          let v = w.in-Some-of_data.v in
          let fits : SFits w64 v = search rules in
          let is = rw w.as_slice.ensures at w.in-Some-of_data.ensures in
          let set = rw (to_z-of_z w64 v fits) at w.set_number.ensures in
          let changed =
          w.data-is ∙ ap (λ l. record c.loop-k.data { child = l })
          (set ∙ ap (λ k. slice_set c.loop-k.data.child k v) w.register_number.ensures) in
          give-one joined s c.args.given.now c.args.names.now c.args.env.now whole c.args.data.now c.args.params.now c.args.es.now
          c.loop-k.k c.index-params-k.result c.in-Some.e.now w.in-Reg.x c.loop-k.data c.match-param.data
          c.loop-k-test.true c.index-params-k.is c.in-Some.ensures.lookup.0 c.in-Some.ensures.lookup.1 w.in-Reg.is
          (given-value joined (slot c.args.given.now w.in-Reg.x)
          (of_registers c.args.names.now (plain_expr c.in-Some.e.now) c.args.env.now) v c.loop-k.data c.match-param.data is changed)
          (c.loop-k.invariant joined s)
      | in-Reg+in_default-of_data w ↦ λ joined s.
          let whole = data_arguments s c.args.given.now c.args.names.now c.args.params.now (plain_exprs c.args.es.now) c.args.env.now in
          let is = rw w.as_slice.ensures at w.in_default-of_data.ensures in
          subst (λ d. AheadOf joined whole (rest_from joined s c.args.given.now c.args.names.now c.args.env.now whole c.args.data.now
          c.args.params.now c.args.es.now (c.loop-k.k + 1)) d c.args.data.now) (sym w.data-is)
          (give-one joined s c.args.given.now c.args.names.now c.args.env.now whole c.args.data.now c.args.params.now c.args.es.now
          c.loop-k.k c.index-params-k.result c.in-Some.e.now w.in-Reg.x c.loop-k.data c.loop-k.data
          c.loop-k-test.true c.index-params-k.is c.in-Some.ensures.lookup.0 c.in-Some.ensures.lookup.1 w.in-Reg.is
          (no-value joined (slot c.args.given.now w.in-Reg.x)
          (of_registers c.args.names.now (plain_expr c.in-Some.e.now) c.args.env.now) c.loop-k.data is) (c.loop-k.invariant joined s))
      | in-Ctl w ↦ λ joined s.
          let whole = data_arguments s c.args.given.now c.args.names.now c.args.params.now (plain_exprs c.args.es.now) c.args.env.now in
          subst (λ d. AheadOf joined whole (rest_from joined s c.args.given.now c.args.names.now c.args.env.now whole c.args.data.now
          c.args.params.now c.args.es.now (c.loop-k.k + 1)) d c.args.data.now) (sym w.data-is)
          (give-past joined s c.args.given.now c.args.names.now c.args.env.now whole c.args.data.now c.args.params.now c.args.es.now
          c.loop-k.k c.index-params-k.result c.in-Some.e.now w.in-Ctl.field-0 c.loop-k.data
          c.loop-k-test.true c.index-params-k.is c.in-Some.ensures.lookup.0 c.in-Some.ensures.lookup.1 w.in-Ctl.is
          (c.loop-k.invariant joined s))
    ]
