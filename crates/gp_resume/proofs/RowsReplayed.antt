-- How rows are replayed, one after another.
use Rattle.std.proofs.Common.{◌≡◌, ℕ, ℤ, pos, ◌+◌, ◌≤◌, List, [], ◌∷◌, ◌++◌, length, length-append, Option, Some, None, refl, sym, ap, subst, ◌∙◌, arith}
use Rattle.std.specs.Prelude.{◌≤ℤ◌}
use Rattle.std.specs.Int.{int_max}
use Rattle.std.proofs.lemmas.Int.{ints, clamps}
use Rattle.gp_base.specs.declared.limits.Limits.{Limits}
use Rattle.gp_base.specs.declared.feed.Inputs.{Inputs}
use Rattle.gp_base.specs.declared.ending.End.{End}
use Rattle.task_ast.specs.meaning.Tree.{Program}
use Rattle.task_ast.specs.meaning.Repeat.{Move, Goes, Ends}
use Rattle.task_ast.specs.meaning.Plain.{Subthread}
use Rattle.task_ast.specs.meaning.Run.{Run, plain_opening, plain_move}
use Rattle.retirement_log.specs.meaning.Rows.{Retirement, row_text, IsWideRow}
use Rattle.subthread.specs.Tasks.{program_in}
use Rattle.gp_resume.specs.declared.course.ResumePlan.{ResumePlan}
use Rattle.gp_resume.specs.declared.course.Course.{Course}
use Rattle.gp_resume.specs.declared.log.Logged.{Logged}
use Rattle.gp_resume.specs.meaning.Fitting.{least_bytes, FitsMove, replayed, run_after, FitFrom, Fit, resumed_at}
use Rattle.gp_resume.specs.meaning.Reading.{BeginsWith, IsUnfitAt}
use Rattle.gp_resume.specs.meaning.Resumed.{bytes_before}
use Rattle.gp_resume.specs.Resuming.{bytes_from}
use Rattle.gp_resume.specs.inner.Course.{StandsAt}
use Rattle.gp_resume.specs.inner.Going.{HasReplayed}
use Rattle.gp_resume.proofs.LogRows.{few-rows, next-row}
use Rattle.gp_resume.proofs.Replaying.{run-push}

-- ---- the bytes of the text

-- the last of the rows, or the one before them
abbrev pub last_row : (before : Option Retirement) → List Retirement → Option Retirement
last_row before [] = before
last_row before (row ∷ rows) = last_row (Some row) rows

bytes-last : (r : Retirement) (rows : List Retirement) → least_bytes (last_row (Some r) rows) ≡ bytes_from r.bytes rows
bytes-last r [] = refl
bytes-last r (s ∷ rows) = bytes-last s rows

bytes-push : (b : ℤ) (rows : List Retirement) (row : Retirement) → bytes_from b (rows ++ row ∷ []) ≡ row.bytes
bytes-push b [] row = refl
bytes-push b (r ∷ rows) row = bytes-push r.bytes rows row

move-rises : (program : Program) (x : Run) (m : Move Run Subthread End) (before : Option Retirement) (row : Retirement)
    → FitsMove program x m before row
    → least_bytes before ≤ℤ row.bytes
move-rises program x (Goes s y) before row fits = fits.bytes
move-rises program x (Ends end) before row fits = absurd fits

no-less : (a b c : ℤ) → a ≤ℤ b → b ≤ℤ c → a ≤ℤ c
no-less a b c h k = grind (arith, ints)

greatest : (b : ℤ) → pos 7 ≤ℤ b → int_max b (pos 7) ≡ b
greatest b h = omega (arith, ints, clamps)

module _ (program : Program) (inputs : Inputs) (limits : Limits) where
  -- ---- which rows fit

  fits-push : (x : Run) (before : Option Retirement) (rows : List Retirement) (row : Retirement) → FitFrom program inputs limits x before rows
      → FitsMove program (run_after program inputs limits x rows) (plain_move program inputs limits (run_after program inputs limits x rows))
      (last_row before rows) row
      → FitFrom program inputs limits x before (rows ++ row ∷ [])
  fits-push x before [] row fit here = (here, tt)
  fits-push x before (r ∷ rows) row fit here = (fit.0, fits-push (replayed program inputs limits x r) (Some r) rows row fit.1 here)

  fits-last : (x : Run) (before : Option Retirement) (rows : List Retirement) (row : Retirement) → FitFrom program inputs limits x before (rows ++ row ∷ [])
      → FitsMove program (run_after program inputs limits x rows) (plain_move program inputs limits (run_after program inputs limits x rows))
      (last_row before rows) row
  fits-last x before [] row fit = fit.0
  fits-last x before (r ∷ rows) row fit = fits-last (replayed program inputs limits x r) (Some r) rows row fit.1

  rises-from : (x : Run) (before : Option Retirement) (rows : List Retirement) (b : ℤ) → FitFrom program inputs limits x before rows
      → b ≤ℤ least_bytes before → b ≤ℤ least_bytes (last_row before rows)
  rises-from x before [] b fit low = low
  rises-from x before (r ∷ rows) b fit low =
      rises-from (replayed program inputs limits x r) (Some r) rows b fit.1
      (no-less b (least_bytes before) r.bytes low (move-rises program x (plain_move program inputs limits x) before r fit.0))

  -- the least bytes of the next row
  pub least-is : (rows : List Retirement) → Fit program inputs limits rows → int_max (bytes_before rows) (pos 7) ≡ least_bytes (last_row None rows)
  least-is [] fit = refl
  least-is (r ∷ rows) fit =
      let rises : pos 7 ≤ℤ least_bytes (last_row None (r ∷ rows)) =
      rises-from (plain_opening program inputs limits) None (r ∷ rows) (pos 7) fit (omega (arith, ints)) in
      let last = bytes-last r rows in
      greatest (bytes_from r.bytes rows) (subst (λ b. pos 7 ≤ℤ b) last rises) ∙ sym last

-- ---- the next row

module _ (plan : ResumePlan) (log : List ℕ) where
  module _ (rest : List ℕ) (logged : Logged) (course : Course) (replays : HasReplayed plan log rest logged course) where
    -- there are no more rows than bytes
    pub count-within : logged.rows ≤ length log
    count-within =
        let count = replays.count in
        let within = few-rows replays.rows rest log replays.begins.bytes_are in
        omega (arith, count, within)

    counted : logged.rows + 1 ≡ length replays.rows + 1
    counted = ap (λ n. n + 1) replays.count

    module _ (row : Retirement) (later : List ℕ) (wide : IsWideRow row) (is : rest ≡ row_text row ++ later)
        (least : ℤ) (least_is : least ≡ int_max logged.bytes (pos 7)) where
      abbrev Here : Type 0
      Here =
          FitsMove (program_in plan.work.now) (resumed_at (program_in plan.work.now) plan.inputs.value plan.limits replays.rows)
          (plain_move (program_in plan.work.now) plan.inputs.value plan.limits
          (resumed_at (program_in plan.work.now) plan.inputs.value plan.limits replays.rows))
          (last_row None replays.rows) row

      pub least-here : least ≡ least_bytes (last_row None replays.rows)
      least-here =
          least_is ∙ (ap (λ b. int_max b (pos 7)) replays.bytes
          ∙ least-is (program_in plan.work.now) plan.inputs.value plan.limits replays.rows replays.begins.fit)

      pub unfit-at : (Here → ⊥) → IsUnfitAt (program_in plan.work.now) plan.inputs.value plan.limits log (logged.rows + 1)
      unfit-at not =
          record {
            rows = replays.rows;
            row = row;
            wide = wide;
            rest = later;
            begins = subst (BeginsWith (program_in plan.work.now) plan.inputs.value plan.limits log replays.rows) is replays.begins;
            unfit = λ fit. not (fits-last (program_in plan.work.now) plan.inputs.value plan.limits
                (plain_opening (program_in plan.work.now) plan.inputs.value plan.limits) None replays.rows row fit);
            counted = counted;
          }

      pub one-replayed : Here → (bytes : ℤ) → bytes ≡ row.bytes → (next : Course)
          → StandsAt plan (replayed (program_in plan.work.now) plan.inputs.value plan.limits
          (resumed_at (program_in plan.work.now) plan.inputs.value plan.limits replays.rows) row) next
          → HasReplayed plan log later (record { rows = logged.rows + 1; bytes = bytes }) next
      one-replayed here bytes bytes_are next stands =
          record {
            rows = replays.rows ++ row ∷ [];
            begins =
                next-row (program_in plan.work.now) plan.inputs.value plan.limits log rest later replays.rows row replays.begins wide is
                (fits-push (program_in plan.work.now) plan.inputs.value plan.limits
                (plain_opening (program_in plan.work.now) plan.inputs.value plan.limits) None replays.rows row replays.begins.fit here);
            count = counted ∙ sym (length-append replays.rows (row ∷ []));
            bytes = bytes_are ∙ sym (bytes-push (pos 0) replays.rows row);
            stands = subst (λ (x : Run). StandsAt plan x next)
                (sym (run-push (program_in plan.work.now) plan.inputs.value plan.limits
                (plain_opening (program_in plan.work.now) plan.inputs.value plan.limits) replays.rows row)) stands;
          }
