use Rattle.std.proofs.Common.{◌≡◌, ◌↔◌, ℕ, ℤ, pos, Bool, List, length, map, SFits, w64, rules, sym, ap, ◌∙◌, subst}
use Rattle.std.specs.Prelude.{◌≤ℤ◌, All, IsTrue}
use Rattle.std.specs.Ordering.{nat_cmp}
use Rattle.std.specs.FinMap.{is_sorted}
use Rattle.std.specs.List.Sorted.{IsStrictlyIncreasing}
use Rattle.std.proofs.lemmas.Bool.{false≢true}
use Rattle.std.proofs.lemmas.Int.{to_z-of_z}
use Rattle.task_ast.specs.meaning.Tree.{Program}
use Rattle.task_ast.specs.meaning.Layout.{layout}
use Rattle.task_ast.specs.declared.sync.Next.{Next}
use Rattle.task_ast.specs.meaning.State.{State, RegistersOf}
use Rattle.task_ast.specs.meaning.Plain.{Subthread}
use Rattle.task_ast.specs.Plain.{Plain}
use Rattle.record_store.specs.Stored.{state_of}
use Rattle.subthread.specs.Tasks.{program_in}
use Rattle.gp_resume.specs.declared.course.ResumePlan.{ResumePlan}
use Rattle.gp_resume.specs.declared.course.Course.{Course}
use Rattle.gp_resume.specs.declared.course.Begun.{Begun}
use Rattle.gp_resume.specs.meaning.Fitting.{StandsUnder, child_size}
use Rattle.gp_resume.specs.inner.Course.{Begins}
use Rattle.gp_resume.specs.inner.RowsRead.{write_in}
use Rattle.gp_resume.proofs.Tasks.{rising}
use Rattle.gp_resume.proofs.fitting.fits.Goals as goal

module _ (plan : ResumePlan) (x : Plain) (s : Subthread) (y : Plain) (begun : Begun) (course : Course)
    (begins : Begins plan x s y begun course) where
  regs-are : (regs : List ℤ) → regs ≡ state_of course.store (RegistersOf begun.thread)
      → length regs ≡ length (x.state (RegistersOf s.thread))
  regs-are regs is =
      ap length is
      ∙ (ap (λ (state : State). length (state (RegistersOf begun.thread))) begins.state
      ∙ ap (λ t. length (x.state (RegistersOf t))) begins.thread)

  given-are : child_size (program_in plan.work.now) begun.begins.sync ≡ child_size (program_in plan.work.now) s.begins.sync
  given-are = ap (λ (next : Next). child_size (program_in plan.work.now) next.sync) begins.begins

-- what a test tells of locks and cells it tells of the same ones
abbrev Fits : Program → List ℕ → List (ℤ × ℤ) → Type 0
Fits program held cells =
    All (λ (cell : ℤ × ℤ). StandsUnder (layout program.heads).under held cell.0) cells × IsTrue (is_sorted nat_cmp (map write_in cells))

tests-same : (program : Program) (b : Bool) (held locks : List ℕ) (cells written : List (ℤ × ℤ)) → held ≡ locks → cells ≡ written
    → IsTrue b ↔ Fits program held cells → IsTrue b ↔ Fits program locks written
tests-same program b held locks cells written same_locks same_cells test =
    subst (λ (ls : List ℕ). IsTrue b ↔ Fits program ls written) same_locks
    (subst (λ (cs : List (ℤ × ℤ)). IsTrue b ↔ Fits program held cs) same_cells test)

pub fits_cells-requires : goal.fits_cells-requires
fits_cells-requires c =
    let is = c.requires.begun in
    subst IsStrictlyIncreasing (sym c.as_slice-held.ensures)
    (rising c.args.plan.now c.requires.suits is.before is.subthread is.after c.args.begun.now c.args.course.now is.begins)

pub returns-then-not-fits_turn : goal.returns-then-not-fits_turn
returns-then-not-fits_turn c x s y before begins least =
    let wide : SFits w64 c.args.least = search rules in
    let least_is = to_z-of_z w64 c.args.least wide ∙ least in (
      λ wrong. absurd (false≢true wrong),
      λ fits. absurd (false≢true (sym c.if-not-fits_turn.true
          ∙ c.fits_turn.ensures.1 (
            fits.position ∙ ap pos (sym begins.pos),
            subst (λ b. b ≤ℤ c.args.row.now.bytes) (sym least_is) fits.bytes,
          ))),
    )

pub returns-then-not-fits_registers : goal.returns-then-not-fits_registers
returns-then-not-fits_registers c x s y before begins least =
    let regs = regs-are c.args.plan.now x s y c.args.begun.now c.args.course.now begins c.in_ok-regs.regs c.in_ok-regs.ensures.regs in
    let given = given-are c.args.plan.now x s y c.args.begun.now c.args.course.now begins in (
      λ wrong. absurd (false≢true wrong),
      λ fits. absurd (false≢true (sym c.if-not-fits_registers.true
          ∙ c.fits_registers.ensures.1 (fits.registers ∙ sym regs, fits.child ∙ sym given))),
    )

pub returns : goal.returns
returns c x s y before begins least =
    let work = c.args.plan.now.work.now in
    let row = c.args.row.now in
    let wide : SFits w64 c.args.least = search rules in
    let least_is = to_z-of_z w64 c.args.least wide ∙ least in
    let regs = regs-are c.args.plan.now x s y c.args.begun.now c.args.course.now begins c.in_ok-regs.regs c.in_ok-regs.ensures.regs in
    let given = given-are c.args.plan.now x s y c.args.begun.now c.args.course.now begins in
    let held : c.as_slice-held.result.now ≡ s.held = c.as_slice-held.ensures ∙ begins.held in
    let cells : c.as_slice.result.now ≡ row.cells = c.as_slice.ensures in
    let turn = c.fits_turn.ensures.0 c.if-not-fits_turn.false in
    let registers = c.fits_registers.ensures.0 c.if-not-fits_registers.false in
    let test =
    tests-same (program_in work) c.fits_cells.result c.as_slice-held.result.now s.held c.as_slice.result.now row.cells held cells
    c.fits_cells.ensures in (
      λ passes. (let both = test.0 passes in
          record {
            position = turn.0 ∙ ap pos begins.pos;
            registers = registers.0 ∙ regs;
            child = registers.1 ∙ given;
            cells_held = both.0;
            cells_rise = both.1;
            bytes = subst (λ b. b ≤ℤ row.bytes) least_is turn.1;
          }),
      λ fits. test.1 (fits.cells_held, fits.cells_rise),
    )
