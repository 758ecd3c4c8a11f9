use Rattle.std.proofs.Common.{ℤ, sym, ap, subst, ◌∙◌, refl}
use Rattle.std.specs.Prelude.{All}
use Rattle.task_code.specs.Reading.{Place}
use Rattle.record_store.specs.Stored.{Stored, state_of, SameShape}
use Rattle.subthread.specs.Tasks.{under_of}
use Rattle.gp_resume.specs.meaning.Fitting.{StandsUnder}
use Rattle.gp_resume.specs.inner.RowsRead.{row_in}
use Rattle.gp_resume.proofs.Tasks.{rising, at-home, begun-thread, begun-child}
use Rattle.gp_resume.proofs.Replays.{stands-replayed}
use Rattle.gp_resume.proofs.replay.replay.Goals as goal

pub leave_row-requires-clause-layout : goal.leave_row-requires-clause-layout
leave_row-requires-clause-layout c = c.requires.fits.begins.home.under

pub leave_row-requires-clause-home : goal.leave_row-requires-clause-home
leave_row-requires-clause-home c =
    let b = c.requires.fits in
    at-home c.args.plan.now c.requires.suits b.before b.subthread b.after c.args.begun c.args.course.now b.begins

pub leave_row-requires-clause-rising : goal.leave_row-requires-clause-rising
leave_row-requires-clause-rising c =
    let b = c.requires.fits in
    rising c.args.plan.now c.requires.suits b.before b.subthread b.after c.args.begun c.args.course.now b.begins

pub leave_row-requires-clause-under : goal.leave_row-requires-clause-under
leave_row-requires-clause-under c =
    let b = c.requires.fits in
    subst (λ held. All (λ (cell : ℤ × ℤ). StandsUnder (under_of c.args.plan.now.work.now) held cell.0) c.args.row.cells)
    (sym b.begins.held) b.fits.cells_held

pub leave_row-requires-clause-cells : goal.leave_row-requires-clause-cells
leave_row-requires-clause-cells c = c.requires.fits.fits.cells_rise

pub leave_row-requires-clause-thread : goal.leave_row-requires-clause-thread
leave_row-requires-clause-thread c =
    let b = c.requires.fits in
    begun-thread c.args.plan.now c.requires.suits b.before b.subthread b.after c.args.begun c.args.course.now b.begins

pub leave_row-requires-clause-child : goal.leave_row-requires-clause-child
leave_row-requires-clause-child c =
    let b = c.requires.fits in
    begun-child c.args.plan.now c.requires.suits b.before b.subthread b.after c.args.begun c.args.course.now b.begins c.args.row.child

pub returns : goal.returns
returns c x s y before begins fits =
    let place : Place = record { at = c.in_ok-next.at; ctl = c.in_ok-next.ctl; me = c.args.begun.thread } in
    stands-replayed c.args.plan.now c.requires.suits x s y c.args.begun c.args.course.now begins (row_in c.args.row) place c.in_ok-next.next
    c.in_ok-next.ensures.next c.in_ok-next.ensures.place refl c.leave.new.self
    (ap state_of c.leave.ensures.store ∙ c.in_ok-leave_row.ensures.state)
    (subst (SameShape c.args.course.now.store) (sym c.leave.ensures.store) c.in_ok-leave_row.ensures.shape)
    (ap (λ (store : Stored). store.away) c.leave.ensures.store ∙ c.in_ok-leave_row.ensures.away)
    c.leave.ensures.table c.leave.ensures.spots c.leave.ensures.issued
