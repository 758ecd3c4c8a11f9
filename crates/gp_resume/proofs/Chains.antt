-- Subthreads with which a run goes on, one after another.
use Rattle.std.proofs.Common.{◌≡◌, ◌+◌, ◌≤◌, List, [], ◌∷◌, ◌++◌, length, map, sym, ap, ◌∙◌, arith, length-append}
use Rattle.std.proofs.lemmas.List.{length-map}
use Rattle.task_ast.specs.meaning.Plain.{Subthread}
use Rattle.task_ast.specs.Plain.{Plain}
use Rattle.gp_resume.specs.declared.course.ResumePlan.{ResumePlan}
use Rattle.gp_resume.specs.inner.Flights.{Flown, Chain}
use Rattle.gp_resume.specs.inner.Going.{rest, last}
use Rattle.gp_resume.proofs.Onward.{issued-next, rest-goes, last-goes}

-- the subthreads of those that are out
abbrev pub subthreads : List Flown → List Subthread
subthreads fs = map (λ (f : Flown). f.subthread) fs

module _ (plan : ResumePlan) where
  pub chain-rest : (x : Plain) (fs : List Flown) (y : Plain) → Chain plan x fs y → rest plan x ≡ subthreads fs ++ rest plan y
  chain-rest x [] y chain = ap (rest plan) chain
  chain-rest x (f ∷ fs) y chain =
      ap (rest plan) (sym chain.0)
      ∙ (rest-goes plan f.before f.subthread f.after chain.1.moves chain.1.sound
      ∙ ap (λ run. f.subthread ∷ run) (chain-rest f.after fs y chain.2))

  pub chain-last : (x : Plain) (fs : List Flown) (y : Plain) → Chain plan x fs y → last plan x ≡ last plan y
  chain-last x [] y chain = ap (last plan) chain
  chain-last x (f ∷ fs) y chain =
      ap (last plan) (sym chain.0)
      ∙ (last-goes plan f.before f.subthread f.after chain.1.moves chain.1.sound ∙ chain-last f.after fs y chain.2)

  pub chain-issued : (x : Plain) (fs : List Flown) (y : Plain) → Chain plan x fs y → y.table.issued ≡ x.table.issued + length fs
  chain-issued x [] y chain = ap (λ (p : Plain). p.table.issued) (sym chain) ∙ omega arith
  chain-issued x (f ∷ fs) y chain =
      let one = (issued-next plan f.before f.subthread f.after chain.1.moves chain.1.sound).0 in
      let more = chain-issued f.after fs y chain.2 in
      let first = ap (λ (p : Plain). p.table.issued) chain.0 in
      omega arith

  -- so many are among those that are still to come
  pub chain-some : (x : Plain) (fs : List Flown) (y : Plain) → Chain plan x fs y → length fs ≤ length (rest plan x)
  chain-some x fs y chain =
      let whole = ap length (chain-rest x fs y chain) ∙ length-append (subthreads fs) (rest plan y) in
      let same = length-map fs (λ (f : Flown). f.subthread) in
      omega arith
