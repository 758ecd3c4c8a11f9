-- The faults that the rows of a file of faults write.
use Rattle.std.proofs.Common.{◌≡◌, ◌∙◌, ◌<◌, true, false, List, [], ◌∷◌, ◌++◌, length, refl, sym, ap, arith, None, nat_lt, length-append}
use Rattle.std.specs.Prelude.{Result, Ok, Err, OnOk, OnErr}
use Rattle.std.specs.Cmp.{IsEquivalence}
use Rattle.std.proofs.lemmas.Cmp.{and_equiv, nat_eq_equiv, on_equiv}
use Rattle.std.specs.List.{filter_map, list_any}
use Rattle.std.specs.Result.{result_ok}
use Rattle.std.proofs.lemmas.Bool.Decides.{nat_tests}
use Rattle.std.proofs.lemmas.List.Elements.{filter_map-append}
use Rattle.gp_base.specs.meaning.Faults.{strikes_same}
use Rattle.gp_base.specs.declared.fault.Fault.{Fault}
use Rattle.gp_base.specs.declared.limits.TheConstants.{MOST_FAULTS}
use Rattle.batch_files.specs.meaning.Rows.{Row}
use Rattle.batch_files.specs.meaning.Faults.{fault_of, fault_rule, faults_of, strike_rule}
use Rattle.batch_files.specs.Faults.{AreFaults}

-- what holds before and after a push that may fail
pub after_push : {E : Type 0} (P : List Fault → Type 0) (pushed : Result (Unit {0}) E) (list now : List Fault) (fault : Fault)
    → OnOk pushed (now ≡ list ++ fault ∷ []) → OnErr pushed (now ≡ list) → P list → P (list ++ fault ∷ []) → P now
after_push P (Ok done) list now fault ok err before after = rw ok after
after_push P (Err e) list now fault ok err before after = rw err before

-- a fault that is put in
pub put_fault : (rows : List Row) (row : Row) (fault : Fault) (list : List Fault) → AreFaults rows list
    → fault_of row ≡ Ok fault → list_any (strikes_same fault) list ≡ false → length list < MOST_FAULTS
    → (fault_rule rows row ≡ None) × AreFaults (rows ++ row ∷ []) (list ++ fault ∷ [])
put_fault rows row fault list (is, count) e apart few =
    let room : nat_lt (length rows) MOST_FAULTS ≡ true = grind (arith, nat_tests, few, count) in
    let more : filter_map (λ row. result_ok (fault_of row)) (row ∷ []) ≡ fault ∷ [] = rw e refl in (
      ap (strike_rule rows) e ∙ rw (rw is at apart, room) refl,
      (
        ap (λ before. before ++ fault ∷ []) is ∙ sym
            (filter_map-append (λ row. result_ok (fault_of row)) rows (row ∷ []) ∙ ap (λ last. faults_of rows ++ last) more),
        omega (arith, count, length-append list (fault ∷ []), length-append rows (row ∷ [])),
      ),
    )

-- two faults strike the same attempt where their positions and their attempts are equal
pub strikes_same_equiv : IsEquivalence strikes_same
strikes_same_equiv =
    and_equiv (on_equiv (λ (fault : Fault). fault.pos) nat_eq_equiv) (on_equiv (λ (fault : Fault). fault.attempt) nat_eq_equiv)
