-- Rolling back to cuts: the state is copied at cuts, and all that began after a copy is done again (conventional checkpoint and recovery).
use Rattle.std.specs.Prelude.{ℕ, zero, suc, ◌-◌, ◌%◌, ◌==◌, Bool, ◌||◌, cond, nat_lt, List}
use Rattle.task_ast.specs.meaning.Table.{numbers}
use Rattle.task_ast.specs.meaning.Plain.{Subthread}
use Rattle.dependence.specs.meaning.Restarts.{Dependence}
use Rattle.dependence.specs.meaning.Runs.{dependence_of}

-- whether the position is a cut: a multiple of this number, or one that begins with a settle
abbrev pub is_cut : (every : ℕ) → Dependence → ℕ → Bool
is_cut every dependence p = ((p % every) == 0) || dependence.settles p

-- the greatest cut that is not above the position; 0 is one
abbrev pub cut_at : (cuts : ℕ → Bool) → ℕ → ℕ
cut_at cuts zero = 0
cut_at cuts (suc p) = cond (cuts (suc p)) (suc p) (cut_at cuts p)

-- what is rolled back with a position that is struck: all from the greatest cut that is not above it, below the front
abbrev pub back : (cuts : ℕ → Bool) → (struck front : ℕ) → List ℕ
back cuts struck front = numbers (cut_at cuts struck) (front - cut_at cuts struck)

-- what is read of a run whose restarts roll back to cuts: a position waits for all before its block too, and blocks go from cut to cut
abbrev pub rolling : (cuts : ℕ → Bool) → Dependence → Dependence
rolling cuts dependence =
    record dependence {
      clash = λ p later. dependence.clash p later || nat_lt p (cut_at cuts later);
      redo = back cuts;
      block = cut_at cuts;
    }

-- what is read of a run that rolls back
abbrev pub rolling_of : (cuts : ℕ → Bool) → List Subthread → Dependence
rolling_of cuts run = rolling cuts (dependence_of run)

-- the cuts of a run: the multiples of this number and its settles
abbrev pub cuts_of : (every : ℕ) → List Subthread → ℕ → Bool
cuts_of every run = is_cut every (dependence_of run)
