-- Whether rows fit can be decided, one after another.
use Rattle.std.proofs.Common.{◌≡◌, inl, inr, ℕ, ℤ, pos, negsuc, List, [], ◌∷◌, ◌++◌, length, refl, sym, subst, append_assoc}
use Rattle.std.specs.Prelude.{IsTrue, Option, Some, None}
use Rattle.std.specs.Ordering.{nat_cmp}
use Rattle.std.specs.FinMap.{is_sorted}
use Rattle.std.proofs.lemmas.Bool.{cases_eq}
use Rattle.gp_base.specs.declared.limits.Limits.{Limits}
use Rattle.gp_base.specs.declared.feed.Inputs.{Inputs}
use Rattle.gp_base.specs.declared.ending.End.{End}
use Rattle.task_ast.specs.meaning.Tree.{Program}
use Rattle.task_ast.specs.meaning.State.{State, RegistersOf}
use Rattle.task_ast.specs.meaning.Layout.{layout}
use Rattle.task_ast.specs.meaning.Under.{is_under}
use Rattle.task_ast.specs.meaning.Repeat.{Move, Goes, Ends}
use Rattle.task_ast.specs.meaning.Plain.{Subthread}
use Rattle.task_ast.specs.meaning.Run.{Run, plain_opening, plain_move}
use Rattle.retirement_log.specs.meaning.Rows.{Retirement}
use Rattle.gp_resume.specs.meaning.Fitting.{writes_in, child_size, StandsUnder, least_bytes, FitsIssue, FitsMove, replayed, FitFrom, Fit}
use Rattle.gp_resume.proofs.Choices.{Choice, same-choice, is-true, same-int, no-more, all}

stands-under : (under : List (List ℕ)) (held : List ℕ) (cell : ℤ) → Choice (StandsUnder under held cell)
stands-under under held (pos c) =
    same-choice (λ is. (c, refl, is))
    (λ h. subst (λ n. IsTrue (is_under under held n)) (let same = h.1 in let back : h.0 ≡ c = cc same in back) h.2)
    (is-true (is_under under held c))
stands-under under held (negsuc c) = inr (λ h. let same = h.1 in cc same)

module _ (program : Program) (issued : ℕ) (state : State) (s : Subthread) (before : Option Retirement) (row : Retirement) where
  fits-issue : Choice (FitsIssue program issued state s before row)
  fits-issue =
      elim (same-int row.position (pos issued)) [
        | inl position ↦ elim (cases_eq (length row.regs) (length (state (RegistersOf s.thread)))) [
          | inl registers ↦ elim (cases_eq (length row.child) (child_size program s.begins.sync)) [
            | inl child ↦ elim
                (all (λ (cell : ℤ × ℤ). StandsUnder (layout program.heads).under s.held cell.0)
                (λ cell. stands-under (layout program.heads).under s.held cell.0) row.cells) [
                  | inl cells_held ↦ elim (is-true (is_sorted nat_cmp (writes_in row))) [
                    | inl cells_rise ↦ elim (no-more (least_bytes before) row.bytes) [
                      | inl bytes ↦ inl (record {
                        position = position;
                        registers = registers;
                        child = child;
                        cells_held = cells_held;
                        cells_rise = cells_rise;
                        bytes =
                            bytes;
                      })
                      | inr not ↦ inr (λ fits. not fits.bytes)
                    ]
                    | inr not ↦ inr (λ fits. not fits.cells_rise)
                  ]
                  | inr not ↦ inr (λ fits. not fits.cells_held)
                ]
            | inr not ↦ inr (λ fits. not fits.child)
          ]
          | inr not ↦ inr (λ fits. not fits.registers)
        ]
        | inr not ↦ inr (λ fits. not fits.position)
      ]

fits-move : (program : Program) (x : Run) (m : Move Run Subthread End) (before : Option Retirement) (row : Retirement)
    → Choice (FitsMove program x m before row)
fits-move program x (Goes s y) before row = fits-issue program x.issued x.state s before row
fits-move program x (Ends end) before row = inr (λ never. never)

module _ (program : Program) (inputs : Inputs) (limits : Limits) where
  fits-from : (x : Run) (before : Option Retirement) (rows : List Retirement) (row : Retirement) → FitFrom program inputs limits x before rows
      → Choice (FitFrom program inputs limits x before (rows ++ row ∷ []))
  fits-from x before [] row fit =
      same-choice (λ fits. (fits, tt)) (λ h. h.0) (fits-move program x (plain_move program inputs limits x) before row)
  fits-from x before (r ∷ rows) row fit =
      same-choice (λ rest. (fit.0, rest)) (λ h. h.1) (fits-from (replayed program inputs limits x r) (Some r) rows row fit.1)

  -- whether one more row fits
  pub one-more : (rows : List Retirement) (row : Retirement) → Fit program inputs limits rows → Choice (Fit program inputs limits (rows ++ row ∷ []))
  one-more rows row fit = fits-from (plain_opening program inputs limits) None rows row fit

  first-fit : (x : Run) (before : Option Retirement) (rows more : List Retirement) → FitFrom program inputs limits x before (rows ++ more)
      → FitFrom program inputs limits x before rows
  first-fit x before [] more fit = tt
  first-fit x before (r ∷ rows) more fit = (fit.0, first-fit (replayed program inputs limits x r) (Some r) rows more fit.1)

  -- the first of rows that fit do so
  pub fit-upto : (rows : List Retirement) (row : Retirement) (more : List Retirement) → Fit program inputs limits (rows ++ row ∷ more)
      → Fit program inputs limits (rows ++ row ∷ [])
  fit-upto rows row more fit =
      first-fit (plain_opening program inputs limits) None (rows ++ row ∷ []) more
      (subst (Fit program inputs limits) (sym (append_assoc rows (row ∷ []) more)) fit)
