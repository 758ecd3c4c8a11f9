-- The text of the code's steps is that of the subthreads that they show.
use Rattle.std.proofs.Common.{◌≡◌, ℕ, suc, List, [], ◌∷◌, ◌++◌, Option, Some, None, map, codes, slice_get, refl, ap, ap₂, ◌∙◌}
use Rattle.gp_base.specs.declared.ending.End.{End}
use Rattle.gp_base.specs.declared.footprint.Loc.{Loc}
use Rattle.gp_base.specs.declared.footprint.Loc.TheVariants as loc
use Rattle.gp_base.specs.declared.feed.Inputs.{Inputs}
use Rattle.gp_base.specs.declared.limits.Limits.{Limits}
use Rattle.task_ast.specs.declared.tree.Head.{Head}
use Rattle.task_ast.specs.meaning.Tree.{Program}
use Rattle.task_ast.specs.meaning.Footprint.{named_by, child_registers}
use Rattle.task_ast.specs.meaning.Plain.{Subthread, foot_of}
use Rattle.task_ast.specs.meaning.Run.{plain_order, plain_before, plain_end}
use Rattle.one_thread.specs.declared.run.PlainRun.{PlainRun}
use Rattle.one_thread.specs.declared.run.Step.{Step}
use Rattle.one_thread.specs.PlainRuns.{IsPlainRun, shown}
use Rattle.run_views.specs.meaning.Order.{order_line, order_lines, end_line}
use Rattle.run_views.specs.meaning.Deadlocks.{deadlock_text}
use Rattle.run_views.specs.meaning.OrderText.{order_text}
use Rattle.run_views.specs.Seen.{thread_in, child_in, seen}
use Rattle.run_views.proofs.Endings.{same_order, same_end}

-- the thread that is forked is the second whose registers are written
pub child_written : (s : Subthread) → child_in (foot_of s) ≡ s.child
child_written s = go s.child (map loc.Rec (named_by s.actions).writes) (no_registers (named_by s.actions).writes)
  where
    no_registers : (cells : List ℕ) → thread_in (slice_get (map loc.Rec cells) 0) ≡ None
    no_registers [] = refl
    no_registers (cell ∷ cells) = refl

    go : (child : Option ℕ) (cells : List Loc) → thread_in (slice_get cells 0) ≡ None
        → child_in (record { reads = []; writes = loc.Regs s.thread ∷ child_registers child ++ cells }) ≡ child
    go None cells none = none
    go (Some c) cells none = refl

-- a step is seen as the subthread that it shows
pub line_seen : (heads : List Head) (p : ℕ) (s : Subthread) → order_line heads p (seen (shown s)) ≡ order_line heads p s
line_seen heads p s =
    ap (λ child. order_line heads p
    (record { thread = s.thread; begins = s.begins; child = child; held = s.held; actions = []; lines = s.lines })) (child_written s)

lines_seen : (heads : List Head) (p : ℕ) (run : List Subthread) → order_lines heads p (map seen (map shown run)) ≡ order_lines heads p run
lines_seen heads p [] = refl
lines_seen heads p (s ∷ run) = ap₂ (λ line lines. line ++ lines) (line_seen heads p s) (lines_seen heads (suc p) run)

module _ (program : Program) (inputs : Inputs) (limits : Limits) where
  -- the text of these steps with this end, after these bytes
  abbrev text_from : List ℕ → List Head → List Step → End → List ℕ
  text_from bytes heads steps ending =
      bytes ++ order_lines heads 0 (map seen steps) ++ end_line ending
      ++ deadlock_text program.heads (plain_before program inputs limits (suc limits.subthreads)) ending

  -- the text of the code's run is that of the plain run
  text_seen : (run : PlainRun) → IsPlainRun program inputs limits run
      → text_from (codes "order\n") program.heads run.order run.end ≡ order_text program inputs limits
  unfolding order_text
  text_seen run is =
      ap₂ (text_from (codes "order\n") program.heads) (same_order program inputs limits run is) (same_end program inputs limits run is)
      ∙ ap (λ lines. codes "order\n" ++ lines ++ end_line (plain_end program inputs limits)
      ++ deadlock_text program.heads (plain_before program inputs limits (suc limits.subthreads)) (plain_end program inputs limits))
      (lines_seen program.heads 0 (plain_order program inputs limits))

  -- the same of a text that was put together piece by piece
  pub text_shown : (run : PlainRun) (first second third fourth text : List ℕ) (heads : List Head) (steps : List Step)
      → IsPlainRun program inputs limits run → first ≡ codes "order\n" → heads ≡ program.heads → steps ≡ run.order
      → second ≡ first ++ order_lines heads 0 (map seen steps) → third ≡ second ++ end_line run.end
      → fourth ≡ third ++ deadlock_text program.heads (plain_before program inputs limits (suc limits.subthreads)) run.end → text ≡ fourth
      → text ≡ order_text program inputs limits
  text_shown run first second third fourth text heads steps is begun same_heads same_steps lines ends told taken =
      taken ∙ told
      ∙ ap (λ l. l ++ deadlock_text program.heads (plain_before program inputs limits (suc limits.subthreads)) run.end)
      (ends ∙ ap (λ l. l ++ end_line run.end) lines)
      ∙ ap (λ l. text_from l heads steps run.end) begun ∙ ap (λ h. text_from (codes "order\n") h steps run.end) same_heads
      ∙ ap (λ l. text_from (codes "order\n") program.heads l run.end) same_steps ∙ text_seen run is
