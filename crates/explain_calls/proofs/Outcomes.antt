-- The ways in which a call ends that writes a text and then a line.
use Rattle.std.proofs.Common.{◌≡◌, ◌⊎◌, ℕ, zero, suc, List, [], take, refl, subst, inl, inr}
use Rattle.gp_base.specs.declared.sink.SinkFault.TheVariants.{Failed}
use Rattle.gp_base.specs.declared.sink.SinkFault.TheVariants as sink
use Rattle.gp_base.proofs.Written.{prefix_whole}
use Rattle.call_cases.specs.meaning.Answers.{Change, TakesAll, TakesPart, IsStopLine}
use Rattle.call_cases.specs.Answers.{whole, line_failed, line_no_memory}
use Rattle.call_cases.specs.declared.lines.Tool.TheVariants.{GprsView}
use Rattle.call_cases.specs.meaning.Lines.{tool_line, out_of_memory_line, write_fault_line}
use Rattle.call_cases.specs.meaning.Headline.{TellsWriteFault}
use Rattle.explain_calls.specs.Endings.{TellEnds, told, untold}

-- the line that is due, or that of a stop
abbrev pub IsOwn : (line : List ℕ) → List ℕ → Type 0
IsOwn line l = (l ≡ line) ⊎ IsStopLine GprsView l

abbrev pub WriteFails : Change → Change → Type 0
WriteFails out err = TellsWriteFault GprsView out err

pub data Outcome (text : List ℕ) (due : ℕ) (line : List ℕ) (out err : Change) : ℕ → Type 0 where
  done : TakesAll out text → TakesAll err line → Outcome text due line out err due
  failed : TakesPart out text → (l : List ℕ) → IsOwn line l → TakesPart err l → WriteFails out err → Outcome text due line out err 8
  short : TakesPart out text → (l : List ℕ) → IsOwn line l → TakesPart err l → Outcome text due line out err 1

-- the lines of a stop
abbrev memory : List ℕ
memory = tool_line GprsView out_of_memory_line

abbrev write : List ℕ
write = tool_line GprsView write_fault_line

module _ (text : List ℕ) (due : ℕ) (line : List ℕ) (out err : Change) where
  all_part : TakesAll out text → TakesPart out text
  all_part all = prefix_whole out.written out.written' text all

  pub outcome : (status : ℕ) → TellEnds text due line out err status → Outcome text due line out err status
  outcome status (told all (whole taken)) = done all taken
  outcome status (told all (line_failed part fails)) = failed (all_part all) line (inl refl) part (inl fails)
  outcome status (told all (line_no_memory part)) = short (all_part all) line (inl refl) part
  outcome status (untold Failed part fails (whole taken)) =
      failed part write (inr (inr refl)) (prefix_whole err.written err.written' write taken) (inr (fails refl, taken))
  outcome status (untold Failed part fails (line_failed taken failing)) =
      failed part write (inr (inr refl)) taken (inl failing)
  outcome status (untold Failed part fails (line_no_memory taken)) = short part write (inr (inr refl)) taken
  outcome status (untold sink.OutOfMemory part fails (whole taken)) =
      short part memory (inr (inl refl)) (prefix_whole err.written err.written' memory taken)
  outcome status (untold sink.OutOfMemory part fails (line_failed taken failing)) =
      failed part memory (inr (inl refl)) taken (inl failing)
  outcome status (untold sink.OutOfMemory part fails (line_no_memory taken)) = short part memory (inr (inl refl)) taken

  pub outcome_part : (status : ℕ) → Outcome text due line out err status → TakesPart out text
  outcome_part status (done all taken) = all_part all
  outcome_part status (failed part l own taken fails) = part
  outcome_part status (short part l own taken) = part

take_none : (n : ℕ) → take {A = ℕ} n [] ≡ []
take_none zero = refl
take_none (suc n) = refl

-- nothing is a part of any text
pub none_part : (out : Change) (text : List ℕ) → TakesPart out [] → TakesPart out text
none_part out text (n, taken) = (0, subst (TakesAll out) (take_none n) taken)
