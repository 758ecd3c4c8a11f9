-- The summary of a batch that the program made itself.
use Rattle.std.specs.Prelude.{ℕ, ℤ, pos, ◌+ℤ◌, List, ◌++◌, codes, decimal, fold}
use Rattle.std.specs.Fmt.{signed_decimal}
use Rattle.std.specs.Int.{w64, int_wrap}
use Rattle.gp_base.specs.declared.ending.End.{End}
use Rattle.gp_base.specs.declared.ending.End.TheVariants.{Finished, Stuck, Spent}
use Rattle.gp_base.specs.declared.journal.Restart.{Restart}
use Rattle.restart_log.specs.meaning.Tail.{counts_section}

-- the sum of all cells, as far as 64 bits hold it
unfoldable pub wrapped_sum : List ℤ → ℤ
wrapped_sum cells = int_wrap w64 (fold (λ sum cell. sum +ℤ cell) (pos 0) cells)

abbrev pub sum_line : (sum : ℤ) → List ℕ
sum_line sum = codes "sum " ++ signed_decimal sum ++ codes "\n"

-- how the batch ended, with the sum of its records where it finished
abbrev pub soak_end : End → List ℤ → List ℕ
soak_end Finished records = codes "end finished\n" ++ sum_line (wrapped_sum records)
soak_end (Stuck why thread line) records = codes "end stuck\n"
soak_end (Spent position) records = codes "end spent\n"

-- the text of a batch of so many moves, drawn from this start
abbrev pub soak_text : (moves start : ℕ) → End → (records : List ℤ) → (subthreads : ℕ) → List Restart → (unused : ℕ) → List ℕ
soak_text moves start end records subthreads restarts unused =
    codes "soak " ++ decimal moves ++ codes " " ++ decimal start ++ codes "\n" ++ soak_end end records
    ++ counts_section subthreads restarts unused
