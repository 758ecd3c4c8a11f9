use Rattle.std.proofs.Common.{◌≡◌, true, false, length, pos, rules}
use Rattle.std.specs.Prelude.{is_none, replicate}
use Rattle.task_ast.specs.meaning.Names.{registers_of}
use Rattle.task_ast.specs.meaning.Control.{control_arguments, data_arguments}
use Rattle.task_ast.specs.View.{plain_exprs, plain_task}
use Rattle.one_thread.specs.Walking.{setting_of, point_of}
use Rattle.one_thread.proofs.Forks.{valued, fork-untasked, gives-none, gives-unvalued, gives-valued}
use Rattle.one_thread.proofs.walk.Walk.give_registers.Goals as goal

pub returns-in_default : goal.returns-in_default
returns-in_default g c =
    gives-none c.args.self.now _ (fork-untasked c.args.self.now c.args.t.now (plain_exprs c.args.es.now) c.in_default.ensures.none)

pub returns-then-is_none : goal.returns-then-is_none
returns-then-is_none g c =
    let walk = c.args.self.now in
    let task = plain_task c.in-Some.task.now in
    let none : true ≡ is_none c.in_ok-fork_values.field-0 = search rules in
    let is : c.in_ok-fork_values.field-0
    ≡ valued (data_arguments (setting_of walk) (registers_of task) (registers_of (point_of walk).task) task.params
    (plain_exprs c.args.es.now) walk.env) (control_arguments task.params (plain_exprs c.args.es.now) walk.env) =
    search (rules, c.in_ok-fork_values.ensures (setting_of walk) (registers_of task) (registers_of (point_of walk).task)) in
    gives-unvalued walk c.args.t.now (plain_exprs c.args.es.now) task c.in_ok-fork_values.field-0 c.requires.clean c.in-Some.ensures.task is
    none

pub returns : goal.returns
returns g c =
    let walk = c.args.self.now in
    let task = plain_task c.in-Some.task.now in
    let some : false ≡ is_none c.in_ok-fork_values.field-0 = search rules in
    let is : c.in_ok-fork_values.field-0
    ≡ valued (data_arguments (setting_of walk) (registers_of task) (registers_of (point_of walk).task) task.params
    (plain_exprs c.args.es.now) walk.env) (control_arguments task.params (plain_exprs c.args.es.now) walk.env) =
    search (rules, c.in_ok-fork_values.ensures (setting_of walk) (registers_of task) (registers_of (point_of walk).task)) in
    let zero : c.in_ok-self.field-0 ≡ replicate (length c.in_ok-given.given) (pos 0) = search rules in
    let works = rw (c.as_slice.ensures, c.as_slice-params.ensures) at c.give.ensures in
    gives-valued walk c.args.t.now (plain_exprs c.args.es.now) task c.in_ok-fork_values.field-0 c.requires.clean c.in-Some.ensures.task is
    c.in_ok-given.given walk.registers.now c.in_ok-self.field-0 c.give.new.data some c.in_ok-given.ensures c.requires.registers zero works
