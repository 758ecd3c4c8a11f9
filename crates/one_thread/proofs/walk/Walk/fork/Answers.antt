use Rattle.std.proofs.Common.{◌≡◌, Some, None, rules}
use Rattle.task_ast.specs.meaning.Names.{registers_of}
use Rattle.task_ast.specs.meaning.Control.{control_arguments, data_arguments}
use Rattle.task_ast.specs.View.{plain_exprs, plain_task}
use Rattle.one_thread.specs.Walking.{setting_of, point_of}
use Rattle.one_thread.proofs.Forks.{valued, valued-some, no-task, no-values, forked}
use Rattle.one_thread.proofs.walk.Walk.fork.Goals as goal

pub returns-in_default : goal.returns-in_default
returns-in_default c = λ into.
    let stops =
    no-task c.args.self.now c.args.line c.args.t.now (plain_exprs c.args.es.now) c.requires.clean c.in_default.ensures.none in
    search (rules, stops)

pub returns-in-Some-2 : goal.returns-in-Some-2
returns-in-Some-2 c = λ into.
    let walk = c.args.self.now in
    let task = plain_task c.in-Some.task.now in
    let is : Some c.in-Some-2.args
    ≡ valued (data_arguments (setting_of walk) (registers_of task) (registers_of (point_of walk).task) task.params
    (plain_exprs c.args.es.now) walk.env) (control_arguments task.params (plain_exprs c.args.es.now) walk.env) =
    search (rules, c.in-Some-2.is, c.in_ok-args.ensures (setting_of walk) (registers_of task) (registers_of (point_of walk).task)) in
    let both =
    valued-some (data_arguments (setting_of walk) (registers_of task) (registers_of (point_of walk).task) task.params
    (plain_exprs c.args.es.now) walk.env) (control_arguments task.params (plain_exprs c.args.es.now) walk.env) c.in-Some-2.args is in
    let stops =
    forked walk c.args.line c.args.t.now (plain_exprs c.args.es.now) task c.in-Some.k c.in-Some-2.args c.requires.clean
    c.in-Some.ensures.task c.in-Some.ensures.number both.0 both.1 in
    search (rules, stops)

pub returns-in-None : goal.returns-in-None
returns-in-None c = λ into.
    let walk = c.args.self.now in
    let task = plain_task c.in-Some.task.now in
    let is : None
    ≡ valued (data_arguments (setting_of walk) (registers_of task) (registers_of (point_of walk).task) task.params
    (plain_exprs c.args.es.now) walk.env) (control_arguments task.params (plain_exprs c.args.es.now) walk.env) =
    search (rules, c.in-None.is, c.in_ok-args.ensures (setting_of walk) (registers_of task) (registers_of (point_of walk).task)) in
    let stops = no-values walk c.args.line c.args.t.now (plain_exprs c.args.es.now) task c.requires.clean c.in-Some.ensures.task is in
    search (rules, stops)
