-- What follows the printed lines of a run.
use Rattle.std.specs.Prelude.{ℕ, ℤ, suc, List, [], ◌∷◌, ◌++◌, length, codes, decimal, flat_map, sum_by}
use Rattle.gp_base.specs.declared.ending.End.{End}
use Rattle.gp_base.specs.declared.ending.End.TheVariants.{Finished, Stuck, Spent}
use Rattle.gp_base.specs.declared.ending.Why.{Why}
use Rattle.gp_base.specs.declared.ending.Why.TheVariants.{Deadlock, Index, Join, Threads}
use Rattle.gp_base.specs.declared.journal.Restart.{Restart}
use Rattle.restart_log.specs.meaning.Lines.{spaced}

-- a record by its name and its cells
abbrev pub record_line : List ℕ × List ℤ → List ℕ
record_line r = r.0 ++ codes ":" ++ spaced r.1 ++ codes "\n"

abbrev pub why_word : Why → List ℕ
why_word Deadlock = codes "deadlock"
why_word Index = codes "index"
why_word Join = codes "join"
why_word Threads = codes "threads"

-- the section of how the run ended, with the records where it finished
abbrev pub end_section : End → List (List ℕ × List ℤ) → List ℕ
end_section Finished records = codes "records\n" ++ flat_map record_line records
end_section (Stuck why thread line) records =
    codes "stuck " ++ why_word why ++ codes " thread " ++ decimal thread ++ codes " line " ++ decimal line ++ codes "\n"
end_section (Spent position) records = codes "spent " ++ decimal position ++ codes "\n"

-- the positions that are redone, each after a space
abbrev pub redo_text : List ℕ → List ℕ
redo_text redo = codes " redo" ++ flat_map (λ position. codes " " ++ decimal position) redo

-- a restart by its number
abbrev pub restart_line : ℕ → Restart → List ℕ
restart_line number r =
    decimal number ++ codes ": front " ++ decimal r.front ++ codes " struck " ++ decimal r.struck ++ codes " try " ++ decimal r.attempt
    ++ redo_text r.redo ++ codes "\n"

-- the lines of the restarts, the first of which has this number
abbrev pub restart_lines : ℕ → List Restart → List ℕ
restart_lines number [] = []
restart_lines number (r ∷ restarts) = restart_line number r ++ restart_lines (suc number) restarts

-- a line of a name and a number
abbrev pub count_line : List ℕ → ℕ → List ℕ
count_line name number = name ++ codes " " ++ decimal number ++ codes "\n"

-- how many positions are redone, each as often as it is
abbrev pub redone : List Restart → ℕ
redone restarts = sum_by (λ (r : Restart). length r.redo) restarts

-- the counts of a run: its subthreads, its restarts, the positions that they redo, and the faults that struck nothing
abbrev pub counts_section : (subthreads : ℕ) → List Restart → (unused : ℕ) → List ℕ
counts_section subthreads restarts unused =
    codes "counts\n" ++ count_line (codes "subthreads") subthreads ++ count_line (codes "restarts") (length restarts)
    ++ count_line (codes "redone") (redone restarts) ++ count_line (codes "unused") unused

-- what follows the printed lines of a run that ended so, with these records by name, so many subthreads, these restarts,
-- and so many faults that struck nothing
abbrev pub tail_text : End → List (List ℕ × List ℤ) → (subthreads : ℕ) → List Restart → (unused : ℕ) → List ℕ
tail_text end records subthreads restarts unused =
    end_section end records ++ codes "restarts\n" ++ restart_lines 1 restarts ++ counts_section subthreads restarts unused
