-- What the rows of a file of faults mean.
use Rattle.std.specs.Prelude.{◌+◌, ◌^◌, ◌==◌, ℕ, ℤ, pos, List, if◌then◌else◌, nat_lt, length, Option, Some, None, Result, Ok, Err}
use Rattle.std.specs.List.{filter_map, list_any}
use Rattle.std.specs.Ordering.{int_eq}
use Rattle.std.specs.Option.{ok_or}
use Rattle.std.specs.Result.{result_ok}
use Rattle.gp_base.specs.meaning.Faults.{strikes_same}
use Rattle.gp_base.specs.declared.fault.Fault.{Fault}
use Rattle.gp_base.specs.declared.limits.TheConstants.{LONGEST_DELAY, MOST_FAULTS}
use Rattle.batch_files.specs.meaning.Numbers.{natural_below, field_number}
use Rattle.batch_files.specs.meaning.Rows.{Broken, Row, by_rule}
use Rattle.batch_files.specs.declared.fault.FileKind.{FileKind}
use Rattle.batch_files.specs.declared.fault.FileKind.TheVariants.{Fields, Number, Range, Twice, TooMany}

-- the fault of three numbers in their ranges, where its mask turns some bit
abbrev pub fault_in_range : (position attempt delay : Option ℕ) → ℤ → Option Fault
fault_in_range (Some position) (Some attempt) (Some delay) mask =
    if int_eq mask (pos 0) then None else Some (record { pos = position; attempt = attempt; delay = delay; mask = mask })
fault_in_range position attempt delay mask = None

-- the fault of these numbers, where each is in its range
abbrev pub fault_in : (position attempt delay mask : ℤ) → Option Fault
fault_in position attempt delay mask =
    fault_in_range (natural_below (2 ^ 32) position) (natural_below (2 ^ 32) attempt) (natural_below (LONGEST_DELAY + 1) delay) mask

abbrev pub fault_with : (position attempt delay mask : Option ℤ) → Result Fault FileKind
fault_with (Some position) (Some attempt) (Some delay) (Some mask) = ok_or (fault_in position attempt delay mask) Range
fault_with position attempt delay mask = Err Number

-- the fault of a row, or the first rule that the row breaks by itself
abbrev pub fault_of : Row → Result Fault FileKind
fault_of row =
    if length row == 4 then fault_with (field_number row 0) (field_number row 1) (field_number row 2) (field_number row 3) else Err Fields

-- the faults of all rows
abbrev pub faults_of : List Row → List Fault
faults_of rows = filter_map (λ row. result_ok (fault_of row)) rows

-- the first rule that a row breaks after the rows before it
abbrev pub strike_rule : List Row → Result Fault FileKind → Option FileKind
strike_rule before (Err kind) = Some kind
strike_rule before (Ok fault) =
    if list_any (strikes_same fault) (faults_of before) then Some Twice
    else if nat_lt (length before) MOST_FAULTS then None else Some TooMany

abbrev pub fault_rule : List Row → Row → Option FileKind
fault_rule before row = strike_rule before (fault_of row)

-- the faults by their rows, or the first row that breaks a rule
abbrev pub faults_by : List Row → Result (List Fault) Broken
faults_by = by_rule fault_rule faults_of
