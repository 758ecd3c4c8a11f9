use Rattle.std.proofs.Common.{◌≡◌, false, pos, [], SFits, w64, rules, Option, Some, refl, sym, ◌∙◌, subst}
use Rattle.std.proofs.lemmas.Bool.{false≢true}
use Rattle.std.proofs.lemmas.Int.{to_z-of_z}
use Rattle.task_ast.specs.meaning.Effect.{after}
use Rattle.task_ast.specs.meaning.Plain.{Subthread}
use Rattle.task_ast.specs.meaning.Run.{Run, plain_move}
use Rattle.task_ast.specs.Plain.{Plain}
use Rattle.task_ast.specs.laws.Runs.{plain_for, IsInside}
use Rattle.subthread.specs.Tasks.{program_in}
use Rattle.retirement_log.specs.meaning.Rows.{Retirement}
use Rattle.gp_resume.specs.declared.course.ResumePlan.{ResumePlan}
use Rattle.gp_resume.specs.declared.course.Course.{Course}
use Rattle.gp_resume.specs.declared.course.Begun.{Begun}
use Rattle.std.specs.Bool.{Decides}
use Rattle.gp_resume.specs.declared.course.Step.{Step}
use Rattle.gp_resume.specs.declared.course.Step.TheVariants as step
use Rattle.gp_resume.specs.meaning.Fitting.{FitsIssue, FitsMove, replayed, left_by}
use Rattle.gp_resume.specs.inner.Course.{Stands, StandsAt, Begins, Gives}
use Rattle.gp_resume.specs.inner.RowsRead.{row_in}
use Rattle.gp_resume.proofs.Besides.{past-none}
use Rattle.gp_resume.proofs.Plainly.{goes-so, ends-so, replayed-inside, leads}
use Rattle.gp_resume.proofs.log.replay_row.Goals as goal
use Rattle.gp_resume.proofs.log.replay_row.Goals.{In-Goes}

-- what begins, of the run that the course stood at
begun-of : (c : In-Goes) (x : Plain) → Stands c.args.plan.now x c.args.course.now
    → (s : Subthread) × ((y : Plain) × Begins c.args.plan.now x s y c.in-Goes.begun c.next.new.self)
begun-of c x stands =
    subst (λ step. Gives c.args.plan.now x step c.next.new.self) c.in-Goes.is
    (c.in_ok-begun.ensures.gives x (past-none c.args.plan.now x c.args.course.now stands))

pub next-requires-clause-stands : goal.next-requires-clause-stands
next-requires-clause-stands c =
    (c.requires.stands.0, past-none c.args.plan.now c.requires.stands.0 c.args.course.now c.requires.stands.1)

-- a run on the tree, as the general turn has it
abbrev tree_run : ResumePlan → Run → Plain
tree_run plan x = plain_for (program_in plan.work.now) plan.limits x

-- the move of the run is the subthread that begins
module _ (plan : ResumePlan) (x : Run) (s : Subthread) (y : Plain) (begun : Begun) (course : Course) (inside : IsInside x)
    (begins : Begins plan (tree_run plan x) s y begun course) (before : Option Retirement) (row : Retirement) where
  fits-move : FitsIssue (program_in plan.work.now) x.issued x.state s before row
      → FitsMove (program_in plan.work.now) x (plain_move (program_in plan.work.now) plan.inputs.value plan.limits x) before row
  fits-move fits =
      let found = goes-so (program_in plan.work.now) plan.inputs.value plan.limits x s y inside begins.moves in
      subst (λ m. FitsMove (program_in plan.work.now) x m before row) (sym found.1) fits

  fits-issue : FitsMove (program_in plan.work.now) x (plain_move (program_in plan.work.now) plan.inputs.value plan.limits x) before row
      → FitsIssue (program_in plan.work.now) x.issued x.state s before row
  fits-issue fits =
      let found = goes-so (program_in plan.work.now) plan.inputs.value plan.limits x s y inside begins.moves in
      subst (λ m. FitsMove (program_in plan.work.now) x m before row) found.1 fits

  stands-so : (left : Course) → Stands plan (record y { state = after (left_by row s.thread s.child) x.state }) left
      → StandsAt plan (replayed (program_in plan.work.now) plan.inputs.value plan.limits x row) left
  stands-so left stands =
      let found = goes-so (program_in plan.work.now) plan.inputs.value plan.limits x s y inside begins.moves in
      record {
        inside = replayed-inside (program_in plan.work.now) plan.inputs.value plan.limits x row inside;
        stands = subst (λ z. Stands plan z left)
            (sym (leads (program_in plan.work.now) plan.inputs.value plan.limits x found.0 s y row found.1 found.2)) stands;
      }

-- no row fits where the run has ended
ends-no : (plan : ResumePlan) (x : Run) (before : Option Retirement) (row : Retirement) (found : Step) (course : Course) → IsInside x
    → Gives plan (tree_run plan x) found course → ((begun : Begun) → found ≡ step.Goes begun → ⊥)
    → Decides false (FitsMove (program_in plan.work.now) x (plain_move (program_in plan.work.now) plan.inputs.value plan.limits x) before row)
ends-no plan x before row (step.Goes begun) course inside gives none = absurd (none begun refl)
ends-no plan x before row (step.Ends end) course inside gives none =
    let ended = ends-so (program_in plan.work.now) plan.inputs.value plan.limits x end inside gives.moves in
    ((λ e. absurd (false≢true e)), (λ fits. absurd (subst (λ m. FitsMove (program_in plan.work.now) x m before row) ended fits)))

pub returns-in_default-clause-fits : goal.returns-in_default-clause-fits
returns-in_default-clause-fits c x before at least =
    let plan = c.args.plan.now in
    ends-no plan x before (row_in c.args.row) c.in_ok-begun.field-0 c.next.new.self at.inside
    (c.in_ok-begun.ensures.gives (tree_run plan x) (past-none plan (tree_run plan x) c.args.course.now at.stands))
    (λ begun is. c.in_default.not-Goes begun is)

pub fits-requires-clause-begun : goal.fits-requires-clause-begun
fits-requires-clause-begun c =
    let at = (goal.at.fits-requires-clause-begun c).In-Goes in
    let next = begun-of at c.requires.stands.0 c.requires.stands.1 in
    record { before = c.requires.stands.0; subthread = next.0; after = next.1.0; begins = next.1.1 }

pub returns-then-not-branch-clause-fits : goal.returns-then-not-branch-clause-fits
returns-then-not-branch-clause-fits c x before at least =
    let wide : SFits w64 c.args.least = search rules in
    let plan = c.args.plan.now in
    let next = begun-of (goal.at.returns-then-not-branch-clause-fits c).In-Goes (tree_run plan x) at.stands in
    let test = c.in_ok-fits.ensures (tree_run plan x) next.0 next.1.0 before next.1.1 (to_z-of_z w64 c.args.least wide ∙ least) in (
      λ wrong. absurd (false≢true wrong),
      λ fits. absurd (false≢true (sym c.if-not-branch.true
          ∙ test.1 (fits-issue plan x next.0 next.1.0 c.in-Goes.begun c.next.new.self at.inside next.1.1 before (row_in c.args.row) fits))),
    )

pub replay-requires-clause-fits : goal.replay-requires-clause-fits
replay-requires-clause-fits c =
    let wide : SFits w64 c.args.least = search rules in
    let x = c.requires.stands.0 in
    let next = begun-of (goal.at.replay-requires-clause-fits c).In-Goes x c.requires.stands.1 in
    let last : Retirement = record { position = pos 0; bytes = c.args.least; regs = []; child = []; cells = [] } in
    record {
      before = x;
      subthread = next.0;
      after = next.1.0;
      earlier = Some last;
      begins = next.1.1;
      fits = (c.in_ok-fits.ensures x next.0 next.1.0 (Some last) next.1.1 (to_z-of_z w64 c.args.least wide)).0 c.if-not-branch.false;
    }

pub returns-clause-fits : goal.returns-clause-fits
returns-clause-fits c x before at least =
    let wide : SFits w64 c.args.least = search rules in
    let plan = c.args.plan.now in
    let next = begun-of (goal.at.returns-clause-fits c).In-Goes (tree_run plan x) at.stands in
    let test = c.in_ok-fits.ensures (tree_run plan x) next.0 next.1.0 before next.1.1 (to_z-of_z w64 c.args.least wide ∙ least) in (
      λ fit. fits-move plan x next.0 next.1.0 c.in-Goes.begun c.next.new.self at.inside next.1.1 before (row_in c.args.row)
          (test.0 c.if-not-branch.false),
      λ fits. refl,
    )

pub returns-clause-stands : goal.returns-clause-stands
returns-clause-stands c fit x at =
    let wide : SFits w64 c.args.least = search rules in
    let plan = c.args.plan.now in
    let next = begun-of (goal.at.returns-clause-stands c).In-Goes (tree_run plan x) at.stands in
    let last : Retirement = record { position = pos 0; bytes = c.args.least; regs = []; child = []; cells = [] } in
    let fits = (c.in_ok-fits.ensures (tree_run plan x) next.0 next.1.0 (Some last) next.1.1 (to_z-of_z w64 c.args.least wide)).0 c.if-not-branch.false in
    stands-so plan x next.0 next.1.0 c.in-Goes.begun c.next.new.self at.inside next.1.1 (Some last) (row_in c.args.row) c.replay.new.course
    (c.in_ok-replay.ensures (tree_run plan x) next.0 next.1.0 (Some last) next.1.1 fits)
