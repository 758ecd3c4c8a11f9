-- A wave: what went out has come home.
use Rattle.std.proofs.Common.{◌≡◌, ℕ, ◌+◌, arith, List, [], ◌∷◌, ◌++◌, Option, Some, refl, sym, ap, ◌∙◌, subst}
use Rattle.std.specs.Io.KnownBytes.{Appends}
use Rattle.std.proofs.lemmas.List.{length-map}
use Rattle.gp_base.specs.meaning.Sinks.{AppendsPrefix}
use Rattle.gp_base.proofs.Written.{prefix_first}
use Rattle.task_ast.specs.Plain.{Plain}
use Rattle.restart_log.specs.meaning.Lines.{printed}
use Rattle.subthread.specs.declared.task.Work.{Work}
use Rattle.subthread.specs.declared.task.Task.{Task}
use Rattle.subthread.specs.declared.task.Done.{Done}
use Rattle.gp_resume.specs.declared.course.ResumePlan.{ResumePlan}
use Rattle.gp_resume.specs.declared.course.Begun.{Begun}
use Rattle.gp_resume.specs.declared.course.Course.{Course}
use Rattle.gp_resume.specs.meaning.Resumed.{lines_of}
use Rattle.gp_resume.specs.inner.Course.{IsSuited}
use Rattle.gp_resume.specs.inner.Handed.{MayTake, IsLeft}
use Rattle.gp_resume.specs.inner.Flights.{Flown, Chain, Flight, StandsPast}
use Rattle.gp_resume.specs.inner.Going.{rest, firsts_from}
use Rattle.gp_resume.specs.inner.Waves.{tasks_of, subthreads, ArePlaced, AreRunsOf, Sent, IsComing, WentBy}
use Rattle.gp_resume.proofs.Chains.{chain-rest, chain-last, chain-issued}
use Rattle.gp_resume.proofs.Homings.{Coming, coming, coming-may, coming-then, coming-stops, homing-first, homing-last}
use Rattle.gp_resume.proofs.Onward.{issued-next, printed-lines}

chain-placed : (plan : ResumePlan) (x0 : Plain) (n : ℕ) (x : Plain) (fs : List Flown) (y : Plain) → n ≡ x.table.issued → Chain plan x fs y
    → ArePlaced n (tasks_of plan x0 fs)
chain-placed plan x0 n x [] y at chain = tt
chain-placed plan x0 n x (f ∷ fs) y at chain =
    let here = ap (λ (p : Plain). p.table.issued) chain.0 in
    let next = (issued-next plan f.before f.subthread f.after chain.1.moves chain.1.sound).0 in
    (chain.1.pos ∙ (here ∙ sym at), chain-placed plan x0 (n + 1) f.after fs y (omega arith) chain.2)

module _ (plan : ResumePlan) (threads : ℕ) (x : Plain) (before posted : List (ℕ × ℕ)) (out : List Task) (course : Course)
    (sent : Sent plan threads x before posted out course) where
  pub wave-placed : (f : Flown) (begun : Begun) → f.begun ≡ begun → f.before ≡ x → f.begun.pos ≡ f.before.table.issued
      → ArePlaced begun.pos out
  wave-placed f begun is at place =
      subst (ArePlaced begun.pos) (sym sent.out_are)
      (chain-placed plan x begun.pos x sent.flights sent.later
      (ap (λ (b : Begun). b.pos) (sym is) ∙ (place ∙ ap (λ (p : Plain). p.table.issued) at)) sent.flight.chain)

  wave-runs : (work : Work) (runs : List (Option Done)) → work ≡ plan.work.now → AreRunsOf work out runs
      → AreRunsOf plan.work.now (tasks_of plan x sent.flights) runs
  wave-runs work runs same are =
      subst (λ w. AreRunsOf w (tasks_of plan x sent.flights) runs) same (subst (λ tasks. AreRunsOf work tasks runs) sent.out_are are)

  pub wave-coming : (work : Work) (runs : List (Option Done)) → work ≡ plan.work.now → AreRunsOf work out runs
      → IsComing plan runs course
  wave-coming work runs same are =
      record {
        threads = threads;
        before = x;
        later = sent.later;
        flights = sent.flights;
        flight = sent.flight;
        runs_are = wave-runs work runs same are;
      }

  lines-part : printed (lines_of (rest plan x)) ≡ printed (lines_of (subthreads sent.flights)) ++ printed (lines_of (rest plan sent.later))
  lines-part =
      ap (λ run. printed (lines_of run)) (chain-rest plan x sent.flights sent.later sent.flight.chain)
      ∙ printed-lines (subthreads sent.flights) (rest plan sent.later)

  -- a part of the lines of those that were sent is one of the lines of the rest
  part-of-rest : (written written' : Option (List ℕ)) → AppendsPrefix written written' (printed (lines_of (subthreads sent.flights)))
      → AppendsPrefix written written' (printed (lines_of (rest plan x)))
  part-of-rest written written' part =
      subst (AppendsPrefix written written') (sym lines-part)
      (prefix_first written written' (printed (lines_of (subthreads sent.flights))) (printed (lines_of (rest plan sent.later))) part)

  -- once those that were sent are at home the run has gone on by them
  went-by : (written written' : Option (List ℕ)) (posted' : List (ℕ × ℕ)) (course' : Course) → posted' ≡ posted
      → StandsPast plan sent.later course' → Appends written written' (printed (lines_of (subthreads sent.flights)))
      → WentBy plan x written written' before posted' course'
  went-by written written' posted' course' kept stands wrote =
      let many = length-map sent.flights (λ (f : Flown). f.subthread) in
      record {
        later = sent.later;
        done = subthreads sent.flights;
        stands = stands;
        rest_is = chain-rest plan x sent.flights sent.later sent.flight.chain;
        last_is = chain-last plan x sent.flights sent.later sent.flight.chain;
        some = let s = sent.some in omega arith;
        issued = let i = chain-issued plan x sent.flights sent.later sent.flight.chain in omega arith;
        wrote = wrote;
        posts = kept ∙ (sent.posts ∙ ap (λ n. before ++ firsts_from x.table.issued n) (sym many));
      }

  -- what bring_home says for all is said for these
  pub wave-partly : (work : Work) (runs : List (Option Done)) → work ≡ plan.work.now → AreRunsOf work out runs
      → (written written' : Option (List ℕ))
      → ((threads : ℕ) (x : Plain) (y : Plain) (fs : List Flown) → Flight plan threads x y fs course
      → AreRunsOf plan.work.now (tasks_of plan x fs) runs → AppendsPrefix written written' (printed (lines_of (subthreads fs))))
      → AppendsPrefix written written' (printed (lines_of (rest plan x)))
  wave-partly work runs same are written written' partly =
      part-of-rest written written' (partly threads x sent.later sent.flights sent.flight (wave-runs work runs same are))

  pub wave-went : (work : Work) (runs : List (Option Done)) → work ≡ plan.work.now → AreRunsOf work out runs
      → (written written' : Option (List ℕ)) (posted' : List (ℕ × ℕ)) (course' : Course) → posted' ≡ posted
      → ((threads : ℕ) (x : Plain) (y : Plain) (fs : List Flown) → Flight plan threads x y fs course
      → AreRunsOf plan.work.now (tasks_of plan x fs) runs → StandsPast plan y course')
      → ((threads : ℕ) (x : Plain) (y : Plain) (fs : List Flown) → Flight plan threads x y fs course
      → AreRunsOf plan.work.now (tasks_of plan x fs) runs → Appends written written' (printed (lines_of (subthreads fs))))
      → WentBy plan x written written' before posted' course'
  wave-went work runs same are written written' posted' course' kept stands lines =
      went-by written written' posted' course' kept
      (stands threads x sent.later sent.flights sent.flight (wave-runs work runs same are))
      (lines threads x sent.later sent.flights sent.flight (wave-runs work runs same are))

  module _ (suits : IsSuited plan) (work : Work) (done : Done) (same : work ≡ plan.work.now) (are : AreRunsOf work out (Some done ∷ []))
      (written : Option (List ℕ)) where
    -- the run of the only one that was sent comes home
    alone-comes : Coming plan suits threads sent.later sent.flights written written done [] course
    alone-comes =
        coming plan suits threads sent.later sent.flights written written (Some done) (Some done ∷ []) [] done course refl refl
        (homing-first plan suits threads sent.later sent.flights written x course (Some done ∷ []) sent.flight
        (wave-runs work (Some done ∷ []) same are))

    pub alone-may : MayTake done course
    alone-may = coming-may plan suits threads sent.later sent.flights written written done [] course alone-comes

    pub alone-partly : (written' : Option (List ℕ)) → AppendsPrefix written written' (printed done.effect.prints)
        → AppendsPrefix written written' (printed (lines_of (rest plan x)))
    alone-partly written' part =
        part-of-rest written written'
        (coming-stops plan suits threads sent.later sent.flights written written done [] course alone-comes written' part)

    pub alone-went : (written' : Option (List ℕ)) (posted' : List (ℕ × ℕ)) (course' : Course) → posted' ≡ posted
        → IsLeft done course course' → Appends written written' (printed done.effect.prints)
        → WentBy plan x written written' before posted' course'
    alone-went written' posted' course' kept left wrote =
        let last = homing-last plan suits threads sent.later sent.flights written written' course'
        (coming-then plan suits threads sent.later sent.flights written written done [] course alone-comes written' course' left wrote) in
        went-by written written' posted' course' kept last.0 last.1
