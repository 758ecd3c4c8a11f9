use Rattle.std.proofs.Common.{◌≡◌, ◌≤◌, map, unwrap_or, option_map, ap, sym, ◌∙◌, subst}
use Rattle.std.specs.Prelude.{IfOk, slice_get}
use Rattle.task_ast.specs.View.{plain_task}
use Rattle.task_code.specs.Existing.{shape_of, params_of}
use Rattle.task_code.specs.inner.Padded.{padded}
use Rattle.task_code.proofs.StartValues.{count_in, values_there, few_there, params_at}
use Rattle.task_code.proofs.code.Code.start_values.Goals as goal

pub padded-requires : goal.padded-requires
padded-requires c =
    let o = slice_get (map plain_task c.args.self.now.program.tasks) c.args.task in
    let params =
    params_at c.self.inside.parts c.args.self.now c.args.task c.unwrap_or-params.result _ c.copied.result c.self.invariant
    c.self.view_is c.get.ensures c.copied.ensures c.unwrap_or-params.ensures in
    subst (λ n. n ≤ c.controls_in.result) (sym params)
    (subst (λ n. unwrap_or (option_map params_of o) 0 ≤ n) (sym (c.controls_in.ensures ∙ ap count_in c.shape.ensures)) (few_there o))

pub returns : goal.returns
returns c =
    let o = slice_get (map plain_task c.args.self.now.program.tasks) c.args.task in
    let params =
    params_at c.self.inside.parts c.args.self.now c.args.task c.unwrap_or-params.result _ c.copied.result c.self.invariant
    c.self.view_is c.get.ensures c.copied.ensures c.unwrap_or-params.ensures in
    subst (λ all. IfOk c.padded.result (λ values. values ≡ all))
    (ap (λ n. padded n c.controls_in.result c.as_slice.result.now) params
    ∙ ap (λ n. padded (unwrap_or (option_map params_of o) 0) n c.as_slice.result.now) (c.controls_in.ensures ∙ ap count_in c.shape.ensures)
    ∙ ap (padded (unwrap_or (option_map params_of o) 0) (count_in (option_map shape_of o))) c.as_slice.ensures
    ∙ values_there o c.args.arguments.now)
    c.padded.ensures
