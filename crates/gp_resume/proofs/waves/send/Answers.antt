use Rattle.std.proofs.Common.{◌++◌, ◌∷◌, [], ap, ◌∙◌}
use Rattle.crew.specs.Out.{pair_of}
use Rattle.gp_resume.proofs.Sendings.{send-numbered, send-rising, send-home, send-task, send-fits, send-flight}
use Rattle.gp_resume.proofs.waves.send.Goals as goal

pub task_begun-requires-clause-numbered : goal.task_begun-requires-clause-numbered
task_begun-requires-clause-numbered g c =
    let j = c.requires.joins in
    send-numbered c.args.plan.now c.requires.suits j.threads j.before j.flights j.flown c.args.course.now c.args.begun j.is j.joins

pub task_begun-requires-clause-home : goal.task_begun-requires-clause-home
task_begun-requires-clause-home g c =
    let j = c.requires.joins in
    send-home c.args.plan.now c.requires.suits j.threads j.before j.flights j.flown c.args.course.now c.args.begun j.is j.joins

pub task_begun-requires-clause-rising : goal.task_begun-requires-clause-rising
task_begun-requires-clause-rising g c =
    let j = c.requires.joins in
    send-rising c.args.plan.now c.requires.suits j.threads j.before j.flights j.flown c.args.course.now c.args.begun j.is j.joins

pub hand-requires-clause-fits : goal.hand-requires-clause-fits
hand-requires-clause-fits g c lifetimes within =
    let j = c.requires.joins in
    rw (c.requires.work, c.in_ok-task.ensures.task)
    (send-fits c.args.plan.now c.requires.suits j.threads j.before j.flights j.flown c.args.course.now c.args.begun j.is j.joins)

pub hand-requires-clause-fresh : goal.hand-requires-clause-fresh
hand-requires-clause-fresh g c lifetimes within = rw c.in_ok-task.ensures.task c.requires.fresh

pub returns-clause-posted : goal.returns-clause-posted
returns-clause-posted g c =
    c.in_ok-hand.ensures.posted ∙ ap (λ task. g.C.Crew.posted c.args.crew.now ++ pair_of task ∷ []) c.in_ok-task.ensures.task

pub returns-clause-flight : goal.returns-clause-flight
returns-clause-flight g c threads x fs f is joins =
    send-flight c.args.plan.now c.requires.suits threads x fs f c.args.course.now c.args.begun is joins _
    (λ i. record c.args.course.now { store = c.in_ok-task.ensures.store i })

pub returns-clause-out : goal.returns-clause-out
returns-clause-out g c threads x fs f is joins =
    c.in_ok-hand.ensures.out
    ∙ ap (λ task. g.C.Crew.out c.args.crew.now ++ task ∷ [])
    (c.in_ok-task.ensures.task
    ∙ send-task c.args.plan.now c.requires.suits threads x fs f c.args.course.now c.args.begun is joins)
