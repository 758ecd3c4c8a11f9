use Rattle.std.proofs.Common.{Contains, ◌∙◌, ◌++◌, ◌∷◌, [], sym, ap, subst}
use Rattle.std.proofs.lemmas.List.Elements.{All-contains}
use Rattle.gp_base.specs.declared.journal.Event.TheVariants as event
use Rattle.dependence.specs.Standing.{present}
use Rattle.whole_run.specs.declared.parts.Parts.{Parts}
use Rattle.whole_run.specs.View.{now}
use Rattle.whole_run.specs.Gives.{Did}
use Rattle.whole_run.specs.inner.Backed.{IsOpened}
use Rattle.whole_run.specs.inner.Kept.{batch_in, view_of}
use Rattle.whole_run.proofs.Posted.{view-then, may-then, runnable, numbered, found-home, found-rising, fits, pair, did, stands, kept-then}
use Rattle.whole_run.proofs.parts.posting.post.Goals as goal

pub bare_at-requires : goal.bare_at-requires
bare_at-requires g c =
    let batch = batch_in c.args.plan.now in
    let opened = c.in_ok-open_block.ensures in
    let may = may-then batch c.args.parts.now c.open_block.new.parts opened.same c.args.position c.requires.may in
    record { found = numbered batch c.open_block.new.parts opened.kept c.args.position may }

pub send-requires-clause-fits : goal.send-requires-clause-fits
send-requires-clause-fits g c lifetimes within =
    let batch = batch_in c.args.plan.now in
    let opened = c.in_ok-open_block.ensures in
    let may = may-then batch c.args.parts.now c.open_block.new.parts opened.same c.args.position c.requires.may in
    let task = c.in_ok-task.ensures in
    rw c.requires.work (fits batch c.open_block.new.parts opened.kept c.args.position may c.in_ok-task.task task)

pub send-requires-clause-fresh : goal.send-requires-clause-fresh
send-requires-clause-fresh g c lifetimes within =
    let batch = batch_in c.args.plan.now in
    let opened = c.in_ok-open_block.ensures in
    let may = may-then batch c.args.parts.now c.open_block.new.parts opened.same c.args.position c.requires.may in
    let task = c.in_ok-task.ensures in
    let same = pair batch c.open_block.new.parts opened.kept c.args.position may c.in_ok-task.task task
    ∙ ap (λ view. (c.args.position, present (now view) c.args.position))
    (view-then batch c.args.parts.now c.open_block.new.parts opened.same) in
    rw same
    (λ there. c.requires.may.by_locks.unposted
    (All-contains (Contains (now (view_of batch c.args.parts.now)).posted) (g.C.Crew.posted c.args.crew.now) _ c.requires.posted there))

pub send-requires-clause-home : goal.send-requires-clause-home
send-requires-clause-home g c lifetimes within =
    let batch = batch_in c.args.plan.now in
    let opened = c.in_ok-open_block.ensures in
    let may = may-then batch c.args.parts.now c.open_block.new.parts opened.same c.args.position c.requires.may in
    let task = c.in_ok-task.ensures in
    found-home batch c.open_block.new.parts opened.kept c.args.position may c.in_ok-task.task task

pub send-requires-clause-rising : goal.send-requires-clause-rising
send-requires-clause-rising g c lifetimes within =
    let batch = batch_in c.args.plan.now in
    let opened = c.in_ok-open_block.ensures in
    let may = may-then batch c.args.parts.now c.open_block.new.parts opened.same c.args.position c.requires.may in
    let task = c.in_ok-task.ensures in
    found-rising batch c.open_block.new.parts opened.kept c.args.position may c.in_ok-task.task task

pub set_out-requires : goal.set_out-requires
set_out-requires g c =
    let batch = batch_in c.args.plan.now in
    let opened = c.in_ok-open_block.ensures in
    let may = may-then batch c.args.parts.now c.open_block.new.parts opened.same c.args.position c.requires.may in
    runnable batch c.open_block.new.parts opened.kept c.args.position may

pub returns-clause-kept : goal.returns-clause-kept
returns-clause-kept g c =
    let batch = batch_in c.args.plan.now in
    let opened = c.in_ok-open_block.ensures in
    let may = may-then batch c.args.parts.now c.open_block.new.parts opened.same c.args.position c.requires.may in
    let task = c.in_ok-task.ensures in
    kept-then batch c.open_block.new.parts opened.kept c.args.position may c.in_ok-task.task task
    c.reserve.new.self.items c.push.new.self.items c.reserve.ensures.items c.push.ensures.items
    (subst (λ entries. IsOpened batch.recovery entries c.args.position c.open_block.new.parts.backup)
    (sym (ap (λ (parts : Parts). parts.rol.entries) opened.same)) opened.opened)
    c.set_out.new.self.entries c.send.new.store c.set_out.ensures.entries c.in_ok-send.ensures.lent

pub returns-clause-did : goal.returns-clause-did
returns-clause-did g c =
    let batch = batch_in c.args.plan.now in
    let opened = c.in_ok-open_block.ensures in
    let may = may-then batch c.args.parts.now c.open_block.new.parts opened.same c.args.position c.requires.may in
    let task = c.in_ok-task.ensures in
    subst (λ view. Did view (event.Post c.args.position (present (now view) c.args.position))
    (record { batch = batch; events = c.push.new.self.items; ended = c.open_block.new.parts.ended }))
    (view-then batch c.args.parts.now c.open_block.new.parts opened.same)
    (did batch c.open_block.new.parts opened.kept c.args.position may c.in_ok-task.task task
    c.reserve.new.self.items c.push.new.self.items c.reserve.ensures.items c.push.ensures.items)

pub returns-clause-out : goal.returns-clause-out
returns-clause-out g c =
    let batch = batch_in c.args.plan.now in
    let opened = c.in_ok-open_block.ensures in
    let may = may-then batch c.args.parts.now c.open_block.new.parts opened.same c.args.position c.requires.may in
    let task = c.in_ok-task.ensures in (
      _,
      c.in_ok-send.ensures.out,
      pair batch c.open_block.new.parts opened.kept c.args.position may c.in_ok-task.task task
          ∙ ap (λ view. (c.args.position, present (now view) c.args.position))
          (view-then batch c.args.parts.now c.open_block.new.parts opened.same),
      stands batch c.open_block.new.parts opened.kept c.args.position may c.in_ok-task.task task
          c.reserve.new.self.items c.push.new.self.items c.reserve.ensures.items c.push.ensures.items,
    )

pub returns-clause-posted : goal.returns-clause-posted
returns-clause-posted g c =
    let batch = batch_in c.args.plan.now in
    let opened = c.in_ok-open_block.ensures in
    let may = may-then batch c.args.parts.now c.open_block.new.parts opened.same c.args.position c.requires.may in
    let task = c.in_ok-task.ensures in
    let same = pair batch c.open_block.new.parts opened.kept c.args.position may c.in_ok-task.task task
    ∙ ap (λ view. (c.args.position, present (now view) c.args.position))
    (view-then batch c.args.parts.now c.open_block.new.parts opened.same) in
    c.in_ok-send.ensures.posted ∙ (λ i. g.C.Crew.posted c.args.crew.now ++ same i ∷ [])
