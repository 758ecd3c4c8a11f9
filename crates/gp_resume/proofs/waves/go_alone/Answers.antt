use Rattle.std.proofs.Common.{◌≡◌, [], ◌∷◌, Some, refl, sym, ◌∙◌, arith}
use Rattle.gp_base.proofs.Written.{prefix_none}
use Rattle.restart_log.specs.meaning.Lines.{printed}
use Rattle.gp_resume.specs.meaning.Resumed.{lines_of}
use Rattle.gp_resume.specs.inner.Going.{rest}
use Rattle.gp_resume.specs.inner.Waves.{AreRunsOf}
use Rattle.gp_resume.proofs.Fillings.{run-of-one}
use Rattle.gp_resume.proofs.WavesGone.{alone-may, alone-partly, alone-went}
use Rattle.std.proofs.lemmas.Result.{on_ok_weaker, err_from_is_err_and}
use Rattle.gp_resume.proofs.Stops.{memory-cause, memory-told}
use Rattle.gp_resume.proofs.waves.go_alone.Goals as goal
use Rattle.gp_resume.proofs.waves.go_alone.Goals.{In-Some, In-None}

-- it came back, and none is out
back : (g : _) (c : In-Some g)
    → (g.C.Crew.out c.next.new.self ≡ []) × AreRunsOf (g.C.Crew.work c.args.crew.now) (g.C.Crew.out c.args.crew.now) (Some c.in-Some.done ∷ [])
back g c =
    run-of-one (g.C.Crew.work c.args.crew.now) (g.C.Crew.out c.args.crew.now) (g.C.Crew.out c.next.new.self) c.in-Some.done c.requires.one
    (rw c.in-Some.is at c.in_ok-done.ensures.taken) (rw c.in-Some.is at c.in_ok-done.ensures.run)

-- it does come back
none-back : (g : _) (c : In-None g) → ⊥
none-back g c = let none = sym c.requires.one.1 ∙ (rw c.in-None.is at c.in_ok-done.ensures.idle).0 refl in cc none

pub returns-in_err-done-clause-partly : goal.returns-in_err-done-clause-partly
returns-in_err-done-clause-partly g c threads x before sent =
    prefix_none (g.O.Sink.written c.args.out.now) (printed (lines_of (rest c.args._plan.now x)))

pub returns-in-Some-clause-none_left : goal.returns-in-Some-clause-none_left
returns-in-Some-clause-none_left g c =
    let at = (goal.at.returns-in-Some-clause-none_left g c).In-Some in
    on_ok_weaker c.bring.result (λ wrote. (back g at).0) c.bring.ensures.lines

pub bring-requires : goal.bring-requires
bring-requires g c =
    let at = (goal.at.bring-requires g c).In-Some in
    let k = c.requires.sent in
    alone-may c.args._plan.now k.0 k.1.before k.1.posted_before (g.C.Crew.posted c.args.crew.now) (g.C.Crew.out c.args.crew.now)
    c.args.course.now k.1.sent c.requires.suits (g.C.Crew.work c.args.crew.now) c.in-Some.done c.requires.work (back g at).1
    (g.O.Sink.written c.args.out.now)

pub returns-in-Some-clause-went : goal.returns-in-Some-clause-went
returns-in-Some-clause-went g c =
    let at = (goal.at.returns-in-Some-clause-went g c).In-Some in
    on_ok_weaker c.bring.result
    (λ wrote threads x before sent. alone-went c.args._plan.now threads x before (g.C.Crew.posted c.args.crew.now)
    (g.C.Crew.out c.args.crew.now) c.args.course.now sent c.requires.suits (g.C.Crew.work c.args.crew.now) c.in-Some.done c.requires.work
    (back g at).1 (g.O.Sink.written c.args.out.now) (g.O.Sink.written c.bring.new.out) (g.C.Crew.posted c.next.new.self) c.bring.new.course
    c.next.ensures.posted c.bring.ensures.left wrote)
    c.bring.ensures.lines

pub returns-in-Some-clause-partly : goal.returns-in-Some-clause-partly
returns-in-Some-clause-partly g c threads x before sent =
    let at = (goal.at.returns-in-Some-clause-partly g c).In-Some in
    alone-partly c.args._plan.now threads x before (g.C.Crew.posted c.args.crew.now) (g.C.Crew.out c.args.crew.now) c.args.course.now sent
    c.requires.suits (g.C.Crew.work c.args.crew.now) c.in-Some.done c.requires.work (back g at).1 (g.O.Sink.written c.args.out.now)
    (g.O.Sink.written c.bring.new.out) c.bring.ensures.partly

pub returns-in-None-clause-went : goal.returns-in-None-clause-went
returns-in-None-clause-went g c = absurd (none-back g ((goal.at.returns-in-None-clause-went g c).In-None))

pub returns-in-None-clause-partly : goal.returns-in-None-clause-partly
returns-in-None-clause-partly g c threads x before sent = absurd (none-back g ((goal.at.returns-in-None-clause-partly g c).In-None))

pub returns-in_err-done-clause-cause : goal.returns-in_err-done-clause-cause
returns-in_err-done-clause-cause g c =
    memory-cause c.from_residual.result (err_from_is_err_and c.from_residual.result c.from_residual.ensures.1) _ _ (omega arith)

pub returns-in_err-done-clause-told : goal.returns-in_err-done-clause-told
returns-in_err-done-clause-told g c =
    memory-told c.from_residual.result (err_from_is_err_and c.from_residual.result c.from_residual.ensures.1)
