-- Verdicts on the lines of a run of one step.
use Rattle.std.proofs.Common.{true, List, [], ◌∷◌, refl}
use Rattle.std.proofs.lemmas.Bool.Decides.{not_from_Decides}
use Rattle.one_thread.specs.declared.run.Step.{Step}
use Rattle.task_ast.specs.declared.sync.SyncOp.TheVariants as sync
use Rattle.dependence.specs.meaning.Restarts.{Dependence}
use Rattle.dependence.proofs.Auditing.{lawful-decides, complete-decides}
use Rattle.gp_audit.specs.declared.line.TraceLine.{TraceLine}
use Rattle.gp_audit.specs.declared.line.TraceLine.TheVariants.{Issue, Post, Take, Retire}
use Rattle.gp_audit.specs.declared.verdict.Verdict.TheVariants.{Lawful as IsLawful, Unlawful, Incomplete}
use Rattle.gp_audit.specs.Steps.{dependence_by}
use Rattle.gp_audit.specs.ToldLines.{events_of, IsToldVerdict}

-- it reads, writes and prints nothing
one_step : List Step
one_step =
    record {
      thread = 0;
      begins = record { sync = sync.Start; line = 0 };
      held = [];
      foot = record { reads = []; writes = [] };
      prints = [];
    } ∷ []

abbrev dependence : Dependence
dependence = dependence_by one_step

abbrev run : List TraceLine
run = Issue 0 ∷ Post 0 0 ∷ Take 0 0 true ∷ Retire 0 ∷ []

whole : IsToldVerdict dependence [] run IsLawful
unfolding one_step
whole = (
  record { lawful = (lawful-decides dependence [] (events_of run)).0 refl; first = ([], refl) },
  (complete-decides dependence [] (events_of run)).0 refl,
)

abbrev early : List TraceLine
early = Issue 0 ∷ Post 0 0 ∷ Retire 0 ∷ []

early_retirement : IsToldVerdict dependence [] early (Unlawful 3)
unfolding one_step
early_retirement =
    record {
      before = Issue 0 ∷ Post 0 0 ∷ [];
      line = Retire 0;
      later = [];
      lines_are = refl;
      numbered = refl;
      lawful = record { lawful = (lawful-decides dependence [] (events_of (Issue 0 ∷ Post 0 0 ∷ []))).0 refl; first = ([], refl) };
      unlawful = λ all. not_from_Decides _ (lawful-decides dependence [] (events_of early)) refl all.lawful;
    }

abbrev three : List TraceLine
three = Issue 0 ∷ Post 0 0 ∷ Take 0 0 true ∷ []

first_three : IsToldVerdict dependence [] three Incomplete
unfolding one_step
first_three = (
  record { lawful = (lawful-decides dependence [] (events_of three)).0 refl; first = ([], refl) },
  not_from_Decides _ (complete-decides dependence [] (events_of three)) refl,
)

no_line : IsToldVerdict dependence [] [] Incomplete
unfolding one_step
no_line = (record { lawful = tt; first = ([], refl) }, not_from_Decides _ (complete-decides dependence [] []) refl)
