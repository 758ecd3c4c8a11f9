-- Laws of the positions of the plain run.
use Rattle.std.specs.Prelude.{◌≡◌, ℕ, suc, ◌≤◌, pos, true, Some, length, slice_get}
use Rattle.gp_base.specs.declared.limits.Limits.{Limits}
use Rattle.gp_base.specs.declared.feed.Inputs.{Inputs}
use Rattle.task_ast.specs.meaning.Tree.{Program}
use Rattle.task_ast.specs.meaning.Effect.{effect}
use Rattle.task_ast.specs.Fold.{fold}
use Rattle.task_ast.specs.Members.{member_in}
use Rattle.task_ast.specs.Table.{last_in}
use Rattle.task_ast.specs.Turn.{Ended, next_issue}
use Rattle.task_ast.specs.meaning.Plain.{Subthread}
use Rattle.task_ast.specs.Plain.{tree_machine, opening, order, last_state, end}
use Rattle.task_ast.specs.meaning.Position.{last_below}
use Rattle.task_ast.specs.Position.{before, LeftBy, IsStep, IsForked, threads_before, SettlesAlike, IsSameControl}

-- each subthread of the order leads from the run before its position to the run before the next one
abbrev pub StepLaw : Type 0
StepLaw =
    (program : Program) (inputs : Inputs) (limits : Limits) (p : ℕ) (s : Subthread) → slice_get (order program inputs limits) p ≡ Some s
    → IsStep (tree_machine program inputs limits) (before program inputs limits p) s (before program inputs limits (suc p))

-- before a position so many subthreads were issued, each thread's table entry names the last one, and each thread has a point
pub record CountsAt (program : Program) (inputs : Inputs) (limits : Limits) (p : ℕ) : Type 0 where
  pub limit : (before program inputs limits p).table.limit ≡ limits.subthreads
  pub issued : (before program inputs limits p).table.issued ≡ p
  pub points : length (before program inputs limits p).points ≡ threads_before program inputs limits p
  pub lasts : (t : ℕ) → last_below (order program inputs limits) t p ≡ last_in (before program inputs limits p).table t

abbrev pub CountsLaw : Type 0
CountsLaw =
    (program : Program) (inputs : Inputs) (limits : Limits) (p : ℕ) → p ≤ length (order program inputs limits)
    → CountsAt program inputs limits p

-- a thread's last subthread leads to its next synchronisation and to its point
abbrev pub LeftLaw : Type 0
LeftLaw =
    (program : Program) (inputs : Inputs) (limits : Limits) (p : ℕ) → p ≤ length (order program inputs limits)
    → (t q : ℕ) → last_in (before program inputs limits p).table t ≡ Some q
    → LeftBy (tree_machine program inputs limits) program inputs limits (before program inputs limits p) t q

-- threads are forked before they run or are joined, and numbered as they are forked
abbrev pub ThreadsLaw : Type 0
ThreadsLaw =
    (program : Program) (inputs : Inputs) (limits : Limits) (p : ℕ) (s : Subthread) → slice_get (order program inputs limits) p ≡ Some s
    → IsForked (threads_before program inputs limits p) s

-- the fold of all positions below one, none of them damaged, is the state before it
abbrev pub FoldBelowLaw : Type 0
FoldBelowLaw =
    (program : Program) (inputs : Inputs) (limits : Limits) (p : ℕ) → p ≤ length (order program inputs limits)
    → fold (member_in (order program inputs limits) (λ q. pos 0)) (opening program inputs limits).state (λ q. true) p
    ≡ (before program inputs limits p).state

-- a subthread's lines are those of its effect on that fold
abbrev pub LinesLaw : Type 0
LinesLaw =
    (program : Program) (inputs : Inputs) (limits : Limits) (p : ℕ) (s : Subthread) → slice_get (order program inputs limits) p ≡ Some s
    → s.lines
    ≡ (effect s.thread s.begins.sync s.child s.actions
    (fold (member_in (order program inputs limits) (λ q. pos 0)) (opening program inputs limits).state (λ q. true) p)).prints

-- after the last subthread the run stands at its end, which is found there
abbrev pub LastLaw : Type 0
LastLaw =
    (program : Program) (inputs : Inputs) (limits : Limits)
    → (before program inputs limits (length (order program inputs limits)) ≡ last_state program inputs limits)
    × (next_issue (last_state program inputs limits).table ≡ Ended (end program inputs limits))

-- no value of a record reaches the order but by a settle: inputs with the same feeds give the same control, where settles find the same
abbrev pub ControlLaw : Type 0
ControlLaw =
    (program : Program) (inputs other : Inputs) (limits : Limits) → inputs.feeds ≡ other.feeds → SettlesAlike program inputs other limits
    → IsSameControl program inputs other limits
