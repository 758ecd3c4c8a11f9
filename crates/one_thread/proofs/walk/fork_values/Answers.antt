use Rattle.std.proofs.Common.{◌≡◌, true, false, rules}
use Rattle.std.specs.Prelude.{is_some}
use Rattle.task_ast.specs.meaning.Control.{control_arguments, data_arguments}
use Rattle.task_ast.specs.View.{plain_exprs}
use Rattle.one_thread.proofs.Forks.{valued-not, valued-ok}
use Rattle.one_thread.proofs.walk.fork_values.Goals as goal

pub returns-then-not-data_fits : goal.returns-then-not-data_fits
returns-then-not-data_fits g c = λ s given registers.
    let fits : false ≡ is_some (data_arguments s given registers c.args.params.now (plain_exprs c.args.es.now) c.args.env.now) =
    search (rules, c.if-not-data_fits.ensures s given registers) in
    valued-not (data_arguments s given registers c.args.params.now (plain_exprs c.args.es.now) c.args.env.now)
    (control_arguments c.args.params.now (plain_exprs c.args.es.now) c.args.env.now) fits

pub returns : goal.returns
returns g c =
    valued-ok c.control_values.result (control_arguments c.args.params.now (plain_exprs c.args.es.now) c.args.env.now)
    (λ s given registers. data_arguments s given registers c.args.params.now (plain_exprs c.args.es.now) c.args.env.now)
    c.control_values.ensures
    (λ s given registers.
    let fits : true ≡ is_some (data_arguments s given registers c.args.params.now (plain_exprs c.args.es.now) c.args.env.now) =
    search (rules, c.if-not-data_fits.ensures s given registers) in
    fits)
