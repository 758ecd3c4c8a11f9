-- The rows of a run's own log fit, where the check accepts its program.
--
-- Before a row the run stands at the row's position (`replay-step`), and its subthread left what the row says: so the row has the
-- position's number, as many registers as the thread and the child have, cells under the locks that are held, and no fewer bytes than
-- the row before.
use Rattle.std.proofs.Common.{◌≡◌, ℕ, zero, suc, ◌+◌, ◌<◌, T, List, [], ◌∷◌, length, take, Option, Some, None, refl, sym, ap, ◌∙◌, subst, arith}
use Rattle.std.specs.Prelude.{pos, ◌≤ℤ◌, codes, slice_get, IsTrue}
use Rattle.std.specs.Ordering.{nat_cmp}
use Rattle.std.specs.FinMap.{is_sorted}
use Rattle.std.proofs.lemmas.Bool.{le-leb}
use Rattle.std.proofs.lemmas.Option.{slice_get_within}
use Rattle.gp_base.specs.declared.limits.Limits.{Limits}
use Rattle.gp_base.specs.declared.feed.Inputs.{Inputs}
use Rattle.task_ast.specs.declared.effect.Effect.{Effect}
use Rattle.task_ast.specs.meaning.Tree.{Program}
use Rattle.task_ast.specs.meaning.Layout.{layout}
use Rattle.task_ast.specs.Shaped.{IsAccepted}
use Rattle.task_ast.specs.meaning.State.{cell_value}
use Rattle.task_ast.specs.meaning.Effect.{joined_ret, effect}
use Rattle.task_ast.specs.meaning.Plain.{Subthread}
use Rattle.task_ast.specs.meaning.Run.{Run, plain_opening, plain_move, plain_order, plain_before}
use Rattle.task_ast.specs.Plain.{Plain, tree_machine, order}
use Rattle.task_ast.specs.Position.{before}
use Rattle.task_ast.proofs.Repeats.{state_after_none, step_there}
use Rattle.task_ast.proofs.Positions.{plain_stands, step_is}
use Rattle.task_ast.proofs.Runs.{order-is, before-is}
use Rattle.task_ast.proofs.Writes.{writes_rise}
use Rattle.task_ast.specs.laws.Runs.{plain_for}
use Rattle.lock_checker.proofs.LocksHeld.{before_stands, sound}
use Rattle.crew.specs.meaning.Noted.{left_at, left_from}
use Rattle.retirement_log.specs.meaning.Rows.{Retirement}
use Rattle.retirement_log.specs.meaning.Log.{child_left, log_row, size_of, rows_from}
use Rattle.gp_resume.specs.meaning.Fitting.{least_bytes, FitsIssue, FitsMove, replayed, FitFrom, Fit}
use Rattle.gp_resume.specs.Laws.{own_rows}
use Rattle.gp_resume.proofs.Lefts.{all_registers, child_is, cells_under_held}
use Rattle.gp_resume.proofs.Replaying.{writes-back, replay-step}

-- bytes that are added are no fewer
no-fewer : (b more : ℕ) → pos b ≤ℤ pos (b + more)
no-fewer b more = record { le = subst T (sym (le-leb b (b + more) (omega arith))) tt }

module _ (program : Program) (inputs : Inputs) (limits : Limits) (accepted : IsAccepted program) where
  -- the row of a position fits there, after a row with no more bytes
  row-fits : (p b : ℕ) (s : Subthread) (earlier : Option Retirement) → slice_get (plain_order program inputs limits) p ≡ Some s
      → least_bytes earlier ≡ pos b
      → FitsIssue program (plain_before program inputs limits p).issued (plain_before program inputs limits p).state s earlier
      (log_row p (b + size_of (left_at program inputs limits p s)) (left_at program inputs limits p s))
  row-fits p b s earlier at_p least =
      record {
        position = ap pos
            (sym (ap (λ (y : Plain). y.table.issued) same
            ∙ (plain_stands (tree_machine program inputs limits) program inputs limits p (omega (arith, within))).issued));
        registers = all_registers (cell_value x.state) (joined_ret s.begins.sync x.state) s.actions _;
        child = ap (λ (y : Plain). length (child_left (effect s.thread s.begins.sync s.child s.actions y.state).child)) same
            ∙ child_is program inputs limits (before program inputs limits p) (before_stands program inputs limits accepted p) s
            (before program inputs limits (suc p))
            (step_is (tree_machine program inputs limits) program inputs limits p s there);
        cells_held = cells_under_held (layout program.heads).under s x.state (sound program inputs limits accepted p s there);
        cells_rise = subst (λ writes. IsTrue (is_sorted nat_cmp writes)) (sym (writes-back left.writes))
            (writes_rise s.thread s.begins.sync s.child s.actions x.state);
        bytes = subst (λ z. z ≤ℤ pos (b + size_of left)) (sym least) (no-fewer b (size_of left));
      }
    where
      x : Run
      x = plain_before program inputs limits p

      -- so the general turn has it
      same : plain_for program limits (plain_before program inputs limits p) ≡ before program inputs limits p
      same = before-is program inputs limits p

      there : slice_get (order program inputs limits) p ≡ Some s
      there = ap (λ run. slice_get run p) (sym (order-is program inputs limits)) ∙ at_p

      left : Effect
      left = left_at program inputs limits p s

      within : p < length (order program inputs limits)
      within = slice_get_within (order program inputs limits) p s there

  -- the rows of so many positions fit, from one on
  fit-from : (n p b : ℕ) (earlier : Option Retirement) (run : List Subthread) → least_bytes earlier ≡ pos b
      → ((k : ℕ) (s : Subthread) → slice_get run k ≡ Some s → slice_get (plain_order program inputs limits) (p + k) ≡ Some s)
      → FitFrom program inputs limits (plain_before program inputs limits p) earlier
      (take n (rows_from p b (left_from program inputs limits p run)))
  fit-from zero p b earlier run least there = tt
  fit-from (suc n) p b earlier [] least there = tt
  fit-from (suc n) p b earlier (s ∷ run) least there = (fits, rest (fit-from n (suc p) bytes (Some row) run refl later))
    where
      bytes : ℕ
      bytes = b + size_of (left_at program inputs limits p s)

      row : Retirement
      row = log_row p bytes (left_at program inputs limits p s)

      at_p : slice_get (plain_order program inputs limits) p ≡ Some s
      at_p = let here : p ≡ p + 0 = omega arith in ap (slice_get (plain_order program inputs limits)) here ∙ there 0 s refl

      fits : FitsMove program (plain_before program inputs limits p) (plain_move program inputs limits (plain_before program inputs limits p)) earlier row
      fits =
          subst (λ m. FitsMove program (plain_before program inputs limits p) m earlier row)
          (sym (step_there (plain_move program inputs limits) (suc limits.subthreads) p (plain_opening program inputs limits) s at_p).moves)
          (row-fits p b s earlier at_p least)

      later : (k : ℕ) (t : Subthread) → slice_get run k ≡ Some t → slice_get (plain_order program inputs limits) (suc p + k) ≡ Some t
      later k t e = let here : suc p + k ≡ p + suc k = omega arith in ap (slice_get (plain_order program inputs limits)) here ∙ there (suc k) t e

      Later : Run → Type 0
      Later y = FitFrom program inputs limits y (Some row) (take n (rows_from (suc p) bytes (left_from program inputs limits (suc p) run)))

      rest : Later (plain_before program inputs limits (suc p)) → Later (replayed program inputs limits (plain_before program inputs limits p) row)
      rest fit = subst Later (sym (replay-step program inputs limits p bytes s at_p)) fit

  pub own-fit : (p : ℕ) → Fit program inputs limits (own_rows program inputs limits p)
  own-fit p =
      subst (λ x. FitFrom program inputs limits x None (own_rows program inputs limits p))
      (sym (state_after_none (plain_move program inputs limits) (plain_opening program inputs limits)))
      (fit-from p 0 (length (codes "output\n")) None (plain_order program inputs limits) refl
      (λ k s e. let here : 0 + k ≡ k = omega arith in ap (slice_get (plain_order program inputs limits)) here ∙ e))
