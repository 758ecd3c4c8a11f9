-- What a call that walks each subthread twice may write after all that it has to write. No definition says when walks
-- differ, how often they did, or when data at rest were not as they were left: what a machine does wrong is in none.
use Rattle.std.specs.Prelude.{◌≡◌, ◌⊎◌, ◌≤◌, ◌++◌, ℕ, Bool, false, List, [], Option, Some, None, codes, decimal}
use Rattle.gp_base.specs.meaning.Sinks.{AppendsPrefix}
use Rattle.command_line.specs.declared.asked.Asked.{Asked}
use Rattle.call_cases.specs.meaning.Answers.{Change}

-- walks differed so many times, and those of this position last
abbrev pub differed_line : (count last : ℕ) → List ℕ
differed_line count last =
    codes "gprs_twice: differed " ++ decimal count ++ codes ", last " ++ decimal last ++ codes "\n"

-- the walks of this position could not be agreed on
abbrev pub disagreed_line : (position : ℕ) → List ℕ
disagreed_line position = codes "gprs_twice: position " ++ decimal position ++ codes " could not be agreed on\n"

-- the data that were there at this position were not as they were left
abbrev pub damaged_line : (position : ℕ) → List ℕ
damaged_line position = codes "gprs_twice: data damaged at position " ++ decimal position ++ codes "\n"

-- what tells a stop at such a position: nothing at another status than that of memory that is out, whose line it stands for
abbrev pub MayTellStop : (status : ℕ) → List ℕ → Type 0
MayTellStop status line =
    (line ≡ []) ⊎ (status ≡ 1) × (position : ℕ) × ((line ≡ disagreed_line position) ⊎ (line ≡ damaged_line position))

-- what tells of walks that differed: nothing where a trace is asked for
abbrev pub MayTellDiffered : (traced : Bool) → List ℕ → Type 0
MayTellDiffered traced line = (line ≡ []) ⊎ (traced ≡ false) × (count : ℕ) × (last : ℕ) × (line ≡ differed_line count last)

-- the lines that tell both
pub record AreTold (traced : Bool) (status : ℕ) (lines : List ℕ) : Type 0 where
  pub stop : List ℕ
  pub is_stop : MayTellStop status stop
  pub seen : List ℕ
  pub is_seen : MayTellDiffered traced seen
  pub lines_are : lines ≡ stop ++ seen

-- after what it was due to take, the error stream took such lines, or a part of them
pub record MayTellBehind (traced : Bool) (status : ℕ) (due all : Change) : Type 0 where
  pub written : all.written ≡ due.written
  pub faults : all.faults ≡ due.faults
  pub later : due.faults' ≤ all.faults'
  pub lines : List ℕ
  pub are_told : AreTold traced status lines
  pub behind : AppendsPrefix due.written' all.written' lines

-- whether a trace is asked for
abbrev pub traces : Option Asked → Bool
traces None = false
traces (Some asked) = asked.trace
