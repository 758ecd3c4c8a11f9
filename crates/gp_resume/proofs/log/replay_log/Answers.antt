use Rattle.std.proofs.Common.{◌≡◌, ◌++◌, pos, SFits, w64, rules, None, sym, ◌∙◌, arith}
use Rattle.std.specs.Int.{int_max}
use Rattle.std.proofs.lemmas.Bool.{false≢true}
use Rattle.std.proofs.lemmas.Int.{to_z-of_z, ints, clamps}
use Rattle.subthread.specs.Tasks.{program_in}
use Rattle.retirement_log.specs.meaning.Rows.{row_text, IsWideRow}
use Rattle.gp_resume.specs.meaning.Fitting.{resumed_at}
use Rattle.gp_resume.specs.inner.RowsRead.{row_in}
use Rattle.gp_resume.proofs.Numerals.{kept}
use Rattle.gp_resume.proofs.RowsReplayed.{last_row, count-within, least-here, unfit-at, one-replayed}
use Rattle.gp_resume.proofs.log.replay_log.Goals as goal
use Rattle.gp_resume.proofs.log.replay_log.Goals.{In-Some, In_ok-replay_row}

pub overflow_add-number : goal.overflow_add-number
overflow_add-number c =
    let few =
    count-within c.args.plan.now c.args.log.now c.replaying.rest.now c.replaying.logged c.replaying.course c.replaying.invariant in
    let short = c.requires.short in
    omega arith

-- the row at the front of the rest
row-read : (c : In-Some) → IsWideRow (row_in c.in-Some.row)
    × (c.replaying.rest.now ≡ row_text (row_in c.in-Some.row) ++ c.in-Some.later.now)
row-read c = rw c.in-Some.is at c.in_ok-row.ensures

-- a row that fits has no fewer bytes than this
least-is : (c : In_ok-replay_row) → c.max-least.result ≡ int_max c.replaying.logged.bytes (pos 7)
least-is c =
    let value = c.max-least.ensures.value in
    let wide : SFits w64 c.replaying.logged.bytes = search rules in
    omega (arith, ints, clamps)

pub returns-then-not-branch-clause-answer : goal.returns-then-not-branch-clause-answer
returns-then-not-branch-clause-answer c =
    let steps = goal.at.returns-then-not-branch-clause-answer c in
    let plan = c.args.plan.now in
    let log = c.args.log.now in
    let rest = c.replaying.rest.now in
    let logged = c.replaying.logged in
    let course = c.replaying.course in
    let replays = c.replaying.invariant in
    let row = row_in c.in-Some.row in
    let later = c.in-Some.later.now in
    let least = c.max-least.result in
    let wide : SFits w64 least = search rules in
    let read = row-read steps.In-Some in
    let max = least-is steps.In_ok-replay_row in
    let here = to_z-of_z w64 least wide ∙ least-here plan log rest logged course replays row later read.0 read.1 least max in
    let test = c.in_ok-replay_row.ensures.fits (resumed_at (program_in plan.work.now) plan.inputs.value plan.limits replays.rows)
    (last_row None replays.rows) replays.stands here in
    unfit-at plan log rest logged course replays row later read.0 read.1 least max
    (λ fits. absurd (false≢true (sym c.if-not-branch.true ∙ test.1 fits)))

pub replaying-preserved : goal.replaying-preserved
replaying-preserved c =
    let steps = goal.at.replaying-preserved c in
    let plan = c.args.plan.now in
    let log = c.args.log.now in
    let rest = c.replaying.rest.now in
    let logged = c.replaying.logged in
    let course = c.replaying.course in
    let replays = c.replaying.invariant in
    let row = row_in c.in-Some.row in
    let later = c.in-Some.later.now in
    let least = c.max-least.result in
    let wide : SFits w64 least = search rules in
    let read = row-read steps.In-Some in
    let max = least-is steps.In_ok-replay_row in
    let here = to_z-of_z w64 least wide ∙ least-here plan log rest logged course replays row later read.0 read.1 least max in
    let at = resumed_at (program_in plan.work.now) plan.inputs.value plan.limits replays.rows in
    let test = c.in_ok-replay_row.ensures.fits at (last_row None replays.rows) replays.stands here in
    one-replayed plan log rest logged course replays row later read.0 read.1 least max (test.0 c.if-not-branch.false)
    _ (kept c.in-Some.row.bytes read.0.bytes)
    c.replay_row.new.course (c.in_ok-replay_row.ensures.stands c.if-not-branch.false at replays.stands)
