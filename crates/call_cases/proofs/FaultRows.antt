-- The rows of a file of faults stand for few faults, each with numbers in their ranges.
use Rattle.std.proofs.Common.{◌≡◌, ℕ, suc, ℤ, pos, negsuc, ◌+◌, ◌<◌, ◌≤◌, ◌^◌, ◌==◌, Bool, true, false, List, [], ◌∷◌, ◌++◌, length, nat_lt, if◌then◌else◌, refl, arith, length-append}
use Rattle.std.specs.Prelude.{IfSome, IfOk}
use Rattle.std.specs.List.{All, cons_option, list_any}
use Rattle.std.specs.Ordering.{int_eq}
use Rattle.std.specs.Option.{ok_or, option_map_or}
use Rattle.std.specs.Result.{result_ok}
use Rattle.std.specs.declared.option.Option.{Option}
use Rattle.std.specs.declared.option.Option.TheVariants.{None, Some}
use Rattle.std.specs.declared.result.Result.{Result}
use Rattle.std.specs.declared.result.Result.TheVariants.{Ok, Err}
use Rattle.std.proofs.lemmas.Bool.Decides.{nat_tests}
use Rattle.std.proofs.lemmas.List.Elements.{All-nil, All-cons}
use Rattle.gp_base.specs.meaning.Faults.{strikes_same}
use Rattle.gp_base.specs.declared.fault.Fault.{Fault}
use Rattle.gp_base.specs.declared.limits.TheConstants.{LONGEST_DELAY, MOST_FAULTS}
use Rattle.batch_files.specs.meaning.Numbers.{natural_below, field_number}
use Rattle.batch_files.specs.meaning.Rows.{Broken, Row, first_broken}
use Rattle.batch_files.specs.meaning.Faults.{fault_in_range, fault_in, fault_with, fault_of, faults_of, strike_rule, fault_rule, faults_by}
use Rattle.batch_files.specs.declared.fault.FileKind.{FileKind}
use Rattle.batch_files.specs.declared.fault.FileKind.TheVariants.{Fields, Range, Twice, TooMany}

-- an attempt of 32 bits, and a delay that is not too long
abbrev pub IsNarrow : Fault → Type 0
IsNarrow fault = (fault.attempt < 2 ^ 32) × (fault.delay ≤ LONGEST_DELAY)

below : (limit : ℕ) (z : ℤ) → IfSome (natural_below limit z) (λ n. n < limit)
below limit (negsuc n) = tt
below limit (pos n) = go (nat_lt n limit) refl
  where
    go : (b : Bool) → nat_lt n limit ≡ b → IfSome (if b then Some n else None) (λ m. m < limit)
    go true is = grind (arith, nat_tests, is)
    go false is = tt

narrow_range : (position attempt delay : Option ℕ) (mask : ℤ) → IfSome attempt (λ a. a < 2 ^ 32) → IfSome delay (λ d. d < LONGEST_DELAY + 1)
    → IfSome (fault_in_range position attempt delay mask) IsNarrow
narrow_range None attempt delay mask fits short = tt
narrow_range (Some p) None delay mask fits short = tt
narrow_range (Some p) (Some a) None mask fits short = tt
narrow_range (Some p) (Some a) (Some d) mask fits short = go (int_eq mask (pos 0))
  where
    go : (b : Bool) → IfSome (if b then None else Some (record { pos = p; attempt = a; delay = d; mask = mask })) IsNarrow
    go true = tt
    go false = (fits, omega (arith, short))

narrow_or : (fault : Option Fault) (kind : FileKind) → IfSome fault IsNarrow → IfOk (ok_or fault kind) IsNarrow
narrow_or None kind is = tt
narrow_or (Some fault) kind is = is

narrow_with : (position attempt delay mask : Option ℤ) → IfOk (fault_with position attempt delay mask) IsNarrow
narrow_with None attempt delay mask = tt
narrow_with (Some p) None delay mask = tt
narrow_with (Some p) (Some a) None mask = tt
narrow_with (Some p) (Some a) (Some d) None = tt
narrow_with (Some p) (Some a) (Some d) (Some m) =
    narrow_or (fault_in p a d m) Range
    (narrow_range (natural_below (2 ^ 32) p) (natural_below (2 ^ 32) a) (natural_below (LONGEST_DELAY + 1) d) m (below (2 ^ 32) a)
    (below (LONGEST_DELAY + 1) d))

narrow_row : (row : Row) → IfOk (fault_of row) IsNarrow
narrow_row row = go (length row == 4)
  where
    go : (b : Bool)
        → IfOk (if b then fault_with (field_number row 0) (field_number row 1) (field_number row 2) (field_number row 3) else Err Fields) IsNarrow
    go true = narrow_with (field_number row 0) (field_number row 1) (field_number row 2) (field_number row 3)
    go false = tt

-- the faults of these rows are narrow, and no more than the rows
pub record AreNarrow (rows : ℕ) (faults : List Fault) : Type 0 where
  pub few : length faults ≤ rows
  pub narrow : All IsNarrow faults

narrow_cons : (fault : Result Fault FileKind) (rows : ℕ) (faults : List Fault) → IfOk fault IsNarrow → AreNarrow rows faults
    → AreNarrow (suc rows) (cons_option (result_ok fault) faults)
narrow_cons (Err kind) rows faults is are = record { few = omega (arith, are.few); narrow = are.narrow }
narrow_cons (Ok fault) rows faults is are =
    record { few = omega (arith, are.few); narrow = All-cons IsNarrow fault faults is are.narrow }

narrow_rows : (rows : List Row) → AreNarrow (length rows) (faults_of rows)
narrow_rows [] = record { few = omega arith; narrow = All-nil IsNarrow }
narrow_rows (row ∷ rows) = narrow_cons (fault_of row) (length rows) (faults_of rows) (narrow_row row) (narrow_rows rows)

-- a row that breaks no rule stands after few
few_before : (before : List Row) (fault : Result Fault FileKind) → strike_rule before fault ≡ None → length before < MOST_FAULTS
few_before before (Err kind) is = cc is
few_before before (Ok fault) is = by_same (list_any (strikes_same fault) (faults_of before)) is
  where
    by_room : (b : Bool) → nat_lt (length before) MOST_FAULTS ≡ b → (if b then None else Some TooMany) ≡ None → length before < MOST_FAULTS
    by_room true room none = grind (arith, nat_tests, room)
    by_room false room none = cc none

    by_same : (b : Bool) → (if b then Some Twice else if nat_lt (length before) MOST_FAULTS then None else Some TooMany) ≡ None
        → length before < MOST_FAULTS
    by_same true none = cc none
    by_same false none = by_room (nat_lt (length before) MOST_FAULTS) refl none

few_rows : (before rows : List Row) → first_broken fault_rule before rows ≡ None → length before ≤ MOST_FAULTS
    → length before + length rows ≤ MOST_FAULTS
unfolding first_broken
few_rows before [] whole few = omega (arith, few)
few_rows before (row ∷ rows) whole few = go (few_rows (before ++ row ∷ []) rows) (fault_rule before row) refl whole
  where
    go : (first_broken fault_rule (before ++ row ∷ []) rows ≡ None → length (before ++ row ∷ []) ≤ MOST_FAULTS
        → length (before ++ row ∷ []) + length rows ≤ MOST_FAULTS)
        → (o : Option FileKind) → fault_rule before row ≡ o
        → option_map_or (λ kind. Some (kind, length before + 1)) o (first_broken fault_rule (before ++ row ∷ []) rows) ≡ None
        → length before + length (row ∷ rows) ≤ MOST_FAULTS
    go later (Some kind) same broken = cc broken
    go later None same rest =
        let room = few_before before (fault_of row) same in
        let more = length-append before (row ∷ []) in
        let all = later rest (omega (arith, room, more)) in
        omega (arith, all, more)

-- the faults of a file
pub narrow_file : (rows : List Row) → IfOk (faults_by rows) (AreNarrow MOST_FAULTS)
narrow_file rows = go (first_broken fault_rule [] rows) refl
  where
    go : (broken : Option Broken) → first_broken fault_rule [] rows ≡ broken → IfOk (option_map_or Err broken (Ok (faults_of rows))) (AreNarrow MOST_FAULTS)
    go (Some broken) same = tt
    go None same =
        let are = narrow_rows rows in
        let few = few_rows [] rows same (omega arith) in
        record { few = omega (arith, are.few, few); narrow = are.narrow }
