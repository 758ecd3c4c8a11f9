-- Which rows fit, and how a run goes on from them, computed for a worked program.
use Rattle.std.proofs.Common.{◌≡◌, ℕ, ℤ, pos, List, [], ◌∷◌, refl}
use Rattle.std.specs.Int.{int_wrap}
use Rattle.std.specs.Prelude.{All}
use Rattle.std.proofs.lemmas.List.Elements.{All-nil, All-cons}
use Rattle.std.specs.Int.Signed.{≤ℤ_refl}
use Rattle.gp_base.specs.declared.ending.End.{End}
use Rattle.gp_base.specs.declared.ending.End.TheVariants.{Finished}
use Rattle.task_ast.specs.meaning.Layout.{layout}
use Rattle.task_ast.specs.meaning.Body.{body, stretch}
use Rattle.task_ast.specs.meaning.Repeat.{steps, state_after, repeated, until_done}
use Rattle.task_ast.proofs.RowPrograms.{two_adders}
use Rattle.task_ast.proofs.RunRows.{zeros, limits}
use Rattle.retirement_log.specs.meaning.Rows.{Retirement}
use Rattle.gp_resume.specs.meaning.Fitting.{StandsUnder, Fit}
use Rattle.gp_resume.specs.meaning.Resumed.{end, final_records, count, lines}
use Rattle.gp_resume.specs.Laws.{own_rows}

abbrev row : ℕ → List ℤ → List ℤ → List (ℤ × ℤ) → Retirement
row p regs child cells = record { position = pos p; bytes = pos 7; regs = regs; child = child; cells = cells }

-- main begins, forks and forks again, and the first adder takes the lock and adds 3
abbrev first_rows : List Retirement
first_rows =
    row 0 (pos 0 ∷ []) [] [] ∷ row 1 (pos 0 ∷ []) (pos 0 ∷ pos 0 ∷ []) [] ∷ row 2 (pos 0 ∷ pos 0 ∷ []) [] []
    ∷ row 3 (pos 0 ∷ []) (pos 0 ∷ pos 0 ∷ []) [] ∷ row 4 (pos 0 ∷ pos 0 ∷ []) [] ((pos 0, pos 3) ∷ []) ∷ []

-- they are the first of the run's own log
own : own_rows two_adders (zeros 1) (limits 1000 20) 5 ≡ first_rows
unfolding steps state_after body stretch until_done repeated int_wrap
own = refl

-- the cell of the total stands under its lock
abbrev Held : List ℕ → ℤ × ℤ → Type 0
Held held cell = StandsUnder (layout two_adders.heads).under held cell.0

adds_held : All (Held (0 ∷ [])) ((pos 0, pos 3) ∷ [])
adds_held = All-cons (Held (0 ∷ [])) (pos 0, pos 3) [] (0, refl, refl) (All-nil (Held (0 ∷ [])))

first_rows_fit : Fit two_adders (zeros 1) (limits 1000 20) first_rows
unfolding body stretch until_done repeated int_wrap
first_rows_fit = (
  record { position = refl; registers = refl; child = refl; cells_held = All-nil (Held []); cells_rise = refl; bytes = ≤ℤ_refl (pos 7) },
  (
    record { position = refl; registers = refl; child = refl; cells_held = All-nil (Held []); cells_rise = refl; bytes = ≤ℤ_refl (pos 7) },
    (
      record {
        position = refl;
        registers = refl;
        child = refl;
        cells_held = All-nil (Held []);
        cells_rise = refl;
        bytes = ≤ℤ_refl (pos 7);
      },
      (
        record {
          position = refl;
          registers = refl;
          child = refl;
          cells_held = All-nil (Held []);
          cells_rise = refl;
          bytes = ≤ℤ_refl (pos 7);
        },
        (
          record { position = refl; registers = refl; child = refl; cells_held = adds_held; cells_rise = refl; bytes = ≤ℤ_refl (pos 7) },
          tt,
        ),
      ),
    ),
  ),
)

-- the row of position 4 alone does not fit: the first row is that of position 0
fourth_alone : Fit two_adders (zeros 1) (limits 1000 20) (row 4 (pos 0 ∷ pos 0 ∷ []) [] ((pos 0, pos 3) ∷ []) ∷ []) → ⊥
unfolding body stretch until_done repeated int_wrap
fourth_alone fit = cc fit.0.position

-- how a run went on
record Went : Type 0 where
  ending : End
  records : List ℤ
  subthreads : ℕ
  printed : List (List ℤ)

abbrev went : List Retirement → Went
went rows = record {
  ending = end two_adders (zeros 1) (limits 1000 20) rows;
  records = final_records two_adders (zeros 1) (limits 1000 20) rows;
  subthreads = count two_adders (zeros 1) (limits 1000 20) rows;
  printed = lines two_adders (zeros 1) (limits 1000 20) rows;
}

-- from these rows on the second adder adds 4 to the 3 that stand there
goes_on : went first_rows ≡ record { ending = Finished; records = pos 7 ∷ []; subthreads = 11; printed = [] }
unfolding steps state_after body stretch until_done repeated int_wrap
goes_on = refl

-- with no row the whole run is still to come
from_nothing : went [] ≡ record { ending = Finished; records = pos 7 ∷ []; subthreads = 11; printed = [] }
unfolding steps state_after body stretch until_done repeated int_wrap
from_nothing = refl
