-- A subthread's beginning and its body, one after the other.
use Rattle.std.proofs.Common.{◌≡◌, ℕ, ℤ, true, false, Result, Ok, Err, [], Option, refl, sym, ap, ◌∙◌}
use Rattle.std.specs.Prelude.{OnOk}
use Rattle.std.proofs.lemmas.Bool.{false≢true}
use Rattle.std.specs.declared.alloc.AllocError.{AllocError}
use Rattle.task_ast.specs.declared.sync.SyncOp.{SyncOp}
use Rattle.task_ast.specs.declared.sync.SyncOp.TheVariants as sync
use Rattle.task_ast.specs.SyncOps.{is_start}
use Rattle.task_ast.specs.meaning.Control.{beginning, first_actions, begin_actions, behind, tree_body}
use Rattle.one_thread.specs.declared.walk.Walk.{Walk}
use Rattle.one_thread.specs.declared.work.Shared.{Shared}
use Rattle.one_thread.specs.declared.work.Done.{Done}
use Rattle.one_thread.specs.inner.Working.{all_worked}
use Rattle.one_thread.specs.Walking.{setting_of, point_of, Keeps, Begun, Ran}
use Rattle.one_thread.specs.inner.Subthreads.{at_work, body_from, data_from, RanWith}
use Rattle.one_thread.proofs.Steps.{stays}
use Rattle.one_thread.proofs.Walks.{keeps_on, same_setting}
use Rattle.one_thread.proofs.Mirroring.{worked-append}

abbrev BegunBy : SyncOp → Option ℕ → ℤ → Walk → Walk → Type 0
BegunBy op child joined old new =
    Begun (first_actions (setting_of old) op (point_of old)) (beginning op child (point_of old)) joined old new

pub starts : (op : SyncOp) (child : Option ℕ) (joined : ℤ) (walk : Walk) → walk.env.regs ≡ [] → is_start op ≡ true
    → BegunBy op child joined walk walk
starts sync.Start child joined walk clean is = record { at = refl; does = refl; keeps = (stays walk clean).keeps }
starts (sync.Lock l) child joined walk clean is = absurd (false≢true is)
starts (sync.Unlock l) child joined walk clean is = absurd (false≢true is)
starts (sync.Fork k values) child joined walk clean is = absurd (false≢true is)
starts (sync.Join h) child joined walk clean is = absurd (false≢true is)
starts (sync.Barrier b) child joined walk clean is = absurd (false≢true is)
starts (sync.Settle register control) child joined walk clean is = absurd (false≢true is)
starts sync.End child joined walk clean is = absurd (false≢true is)
starts sync.BadIndex child joined walk clean is = absurd (false≢true is)
starts sync.Spent child joined walk clean is = absurd (false≢true is)

begins_by : (op : SyncOp) (child : Option ℕ) (joined : ℤ) (old new : Walk) → is_start op ≡ false
    → Begun (begin_actions (setting_of old) (point_of old).left (point_of old))
    (behind child (point_of old) (point_of old).left) joined old new → BegunBy op child joined old new
begins_by sync.Start child joined old new is begun = absurd (false≢true (sym is))
begins_by (sync.Lock l) child joined old new is begun = begun
begins_by (sync.Unlock l) child joined old new is begun = begun
begins_by (sync.Fork k values) child joined old new is begun = begun
begins_by (sync.Join h) child joined old new is begun = begun
begins_by (sync.Barrier b) child joined old new is begun = begun
begins_by (sync.Settle register control) child joined old new is begun = begun
begins_by sync.End child joined old new is begun = begun
begins_by sync.BadIndex child joined old new is begun = begun
begins_by sync.Spent child joined old new is begun = begun

pub begins_ok : (op : SyncOp) (child : Option ℕ) (joined : ℤ) (old new : Walk) (r : Result (Unit {0}) AllocError) → is_start op ≡ false
    → OnOk r (Begun (begin_actions (setting_of old) (point_of old).left (point_of old))
    (behind child (point_of old) (point_of old).left) joined old new) → OnOk r (BegunBy op child joined old new)
begins_ok op child joined old new (Ok u) is begun = begins_by op child joined old new is begun
begins_ok op child joined old new (Err e) is begun = begun

-- the whole of a subthread
pub ran_with : (old : Walk) (shared : Shared) (begins : SyncOp) (child : Option ℕ) (joined : ℤ) (turns : ℕ) (begun new last : Walk)
    (done : Done) (left : Shared)
    → BegunBy begins child joined (at_work old shared) begun → Ran (tree_body (setting_of begun) turns (point_of begun)) done.next begun new
    → point_of last ≡ point_of new → last.data.registers ≡ new.data.registers → done.child ≡ new.data.child
    → done.told.lines ≡ new.data.lines → done.told.named ≡ new.data.named → left.cells ≡ new.data.cells → left.feeds ≡ new.env.feeds
    → last.program ≡ new.program → last.task ≡ new.task → last.registers ≡ new.registers → last.env.regs ≡ new.env.regs
    → RanWith old shared begins child joined turns done last left
ran_with old shared begins child joined turns begun new last done left first body at registers child_is lines named cells feeds
    program task slots regs =
    let start = at_work old shared in
    let same : tree_body (setting_of begun) turns (point_of begun) ≡ body_from start begins child turns =
    ap (λ s. tree_body s turns (point_of begun)) (same_setting start begun first.keeps)
    ∙ ap (tree_body (setting_of start) turns) first.at in
    let keeps : Keeps start new = keeps_on first.keeps body.keeps in
    let works : new.data ≡ data_from start begins child joined turns =
    body.does joined ∙ ap (λ b. all_worked joined b.actions begun.data) same
    ∙ ap (all_worked joined (body_from start begins child turns).actions) first.does
    ∙ sym (worked-append joined (first_actions (setting_of start) begins (point_of start))
    (body_from start begins child turns).actions start.data) in
    record {
      next_is = body.next_is ∙ ap (λ b. b.next) same;
      at = at ∙ body.at ∙ ap (λ b. b.at) same;
      registers_are = registers ∙ ap (λ d. d.registers) works;
      child_is = child_is ∙ ap (λ d. d.child) works;
      lines_are = lines ∙ ap (λ d. d.lines) works;
      named_are = named ∙ ap (λ d. d.named) works;
      cells_are = cells ∙ ap (λ d. d.cells) works;
      feeds_are = feeds ∙ keeps.feeds;
      program = program ∙ keeps.program;
      task = task ∙ keeps.task;
      registers = slots ∙ keeps.registers;
      clean = regs ∙ keeps.clean;
    }
