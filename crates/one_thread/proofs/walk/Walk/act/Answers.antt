use Rattle.std.proofs.Common.{rules, sym, ap, subst, List, Option}
use Rattle.task_ast.specs.meaning.Action.{Action}
use Rattle.task_ast.specs.meaning.Names.{registers_of}
use Rattle.task_ast.specs.meaning.Tree.{Name}
use Rattle.task_ast.specs.meaning.Control.{action, going, step_at}
use Rattle.task_ast.specs.View.{plain_what, plain_task}
use Rattle.one_thread.specs.inner.Remaining.{rest_of}
use Rattle.one_thread.specs.inner.Working.{setting_in, Works}
use Rattle.one_thread.specs.Walking.{setting_of, point_of, Stepped}
use Rattle.one_thread.proofs.Naming.{noted-works}
use Rattle.one_thread.proofs.Steps.{acted, unacted}
use Rattle.one_thread.proofs.walk.Walk.act.Goals as goal

pub returns-in_ok-perform : goal.returns-in_ok-perform
returns-in_ok-perform g c =
    let walk = c.args.self.now in
    let names = registers_of (plain_task walk.task.now) in
    let by : List Name → Option Action =
    λ registers. action (setting_in walk.program.now.program walk.env) registers (plain_what c.args.what.now) walk.env in
    let works =
    subst (λ r. Works (by r) (record walk.data { named = c.note.new.named }) c.perform.new.data) c.requires.registers
    c.in_ok-perform.ensures in
    acted walk _ c.args.line (plain_what c.args.what.now) c.requires.clean c.requires.data (sym (c.if-fits.ensures names))
    (noted-works (by names) walk.data c.perform.new.data c.note.new.named (c.in_ok-note.ensures names) works)
    (record { at = ap (λ l. going (point_of walk) l) c.pass.ensures; keeps = search (rules, c.requires.clean) })

pub returns-else-fits : goal.returns-else-fits
returns-else-fits g c =
    let walk = c.args.self.now in
    let names = registers_of (plain_task walk.task.now) in
    let stopped = unacted walk c.args.line (plain_what c.args.what.now) c.requires.clean c.requires.data (sym (c.if-fits.ensures names)) in
    subst (λ r. Stepped (step_at (setting_of walk) c.args.line (plain_what c.args.what.now) (rest_of walk.left) (point_of walk)) r walk
    walk) (sym c.fault.ensures) stopped
