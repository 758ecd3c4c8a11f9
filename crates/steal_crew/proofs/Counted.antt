-- What the calls of a crew leave of what is out and of the numbers that count it.
use Rattle.std.proofs.Common.{◌≡◌, ℕ, ◌+◌, ◌≤◌, false, true≢false, List, [], ◌∷◌, ◌++◌, length, map, Option, None, Some, IfSome, Result, Ok, Err, OnOk, OnErr, refl, sym, ap, ◌∙◌, subst, arith}
use Rattle.std.proofs.Common.{true}
use Rattle.std.proofs.lemmas.List.{length-append}
use Rattle.std.specs.Option.{option_to_list}
use Rattle.subthread.specs.declared.task.Work.{Work}
use Rattle.subthread.specs.declared.task.Task.{Task}
use Rattle.subthread.specs.declared.task.Done.{Done}
use Rattle.subthread.specs.Tasks.{task_of}
use Rattle.crew.specs.Out.{TakesOut, pair_of}
use Rattle.crew.specs.State.{CrewState}

-- each task that was posted and does not wait is counted, unless memory ran out, and no more are
abbrev AreCountedIn : ℕ → CrewState → Type 0
AreCountedIn sum crew = (crew.failed ≡ false → sum + length crew.out ≡ length crew.posted) × (sum + length crew.out ≤ length crew.posted)

-- a post leaves that so
pub posted_counted : {A E : Type 0} (result : Result A E) (before after : CrewState) (task : Task) (sum : ℕ)
    → OnOk result (after ≡ record before { out = before.out ++ task ∷ []; posted = before.posted ++ pair_of task ∷ [] })
    → OnErr result (after ≡ record before { failed = true })
    → (before.failed ≡ false → sum + length before.out ≡ length before.posted) → sum + length before.out ≤ length before.posted
    → AreCountedIn sum after
posted_counted (Ok x) before after task sum ok err counted most =
    let out : length (before.out ++ task ∷ []) ≡ length before.out + 1 = length-append before.out (task ∷ []) in
    let posted : length (before.posted ++ pair_of task ∷ []) ≡ length before.posted + 1 = length-append before.posted (pair_of task ∷ []) in
    subst (AreCountedIn sum) (sym ok) ((λ e. let was = counted e in omega arith), omega arith)
posted_counted (Err x) before after task sum ok err counted most = subst (AreCountedIn sum) (sym err) ((λ e. absurd (true≢false e)), most)

-- the run at the front of those at hand is taken out of what is out
pub taken_first : (work : Work) (found : Option Done) (before after : List Done) (waits out : List Task)
    → before ≡ option_to_list found ++ after
    → map (task_of work) before ++ waits ≡ out → IfSome found (λ run. TakesOut out (task_of work run) (map (task_of work) after ++ waits))
taken_first work None before after waits out items whole = tt
taken_first work (Some run) before after waits out items whole = record {
  earlier = [];
  later = map (task_of work) after ++ waits;
  before_is = sym whole ∙ ap (λ l. map (task_of work) l ++ waits) items;
  after_is = refl;
}
