-- Boards that come one after another.
use Rattle.std.proofs.Common.{◌≡◌, ◌↔◌, ℕ, ◌≤◌, ◌<◌, Bool, true, false, cond, is_ok, List, [], ◌∷◌, ◌++◌, drop, length, All, Option, None, Some, IsSome, IfSome, Result, Ok, Err, IfOk, OnOk, OnErr, refl, sym, ap, subst, ◌∙◌, append_assoc, arith}
use Rattle.std.specs.List.{flat_map}
use Rattle.std.specs.declared.alloc.AllocFailed.{AllocFailed}
use Rattle.std.proofs.lemmas.Grind.{flat_map-append}
use Rattle.std.proofs.lemmas.List.{append-nil}
use Rattle.std.proofs.lemmas.List.Elements.{All-push}
use Rattle.subthread.specs.declared.task.Work.{Work}
use Rattle.subthread.specs.declared.task.Task.{Task}
use Rattle.subthread.specs.declared.task.Done.{Done}
use Rattle.subthread.specs.Tasks.{Answers, IsRun, task_of}
use Rattle.pipe_crew.specs.declared.flight.Flight.{Flight}
use Rattle.crew.specs.State.{CrewState}
use Rattle.pipe_crew.specs.inner.Flights.{IsFlight, left_in}
use Rattle.pipe_crew.specs.inner.Flying.{AreFlying}

-- where none is found at the front, none is left
pub none_left : {X : Type 0} (xs : List X) (n : ℕ) (found : Option X) → n ≡ length xs → (IsSome found ↔ (0 < n)) → found ≡ None
    → drop 1 xs ≡ []
none_left [] n found same variant none = refl
none_left {X = X} (x ∷ xs) n None same variant none = absurd (let never : IsSome {T = X} None = variant.1 (omega (arith, same)) in cc)
none_left (x ∷ xs) n (Some y) same variant none = absurd (let never : Some y ≡ None = none in cc)

-- what is none only where the whole is none is some where the whole is
pub some_taken : {X : Type 0} (taken whole : List X) → 0 < length whole → (taken ≡ [] → whole ≡ []) → 0 < length taken
some_taken [] whole some none = absurd (let n = ap length (none refl) in omega (arith, n, some))
some_taken (x ∷ xs) whole some none = omega arith

-- a call that was let in finds that memory never ran out
pub not_failed : (failed : Bool) → (failed ≡ true → ⊥) → failed ≡ false
not_failed true not = absurd (not refl)
not_failed false not = refl

-- where memory has not run out after a call that tells of it, it had not before
pub had_not_failed : {T E P Q : Type 0} (result : Result T E) (before after : Bool) → (P → after ≡ before) → (Q → after ≡ true)
    → OnOk result P → OnErr result Q
    → after ≡ false → before ≡ false
had_not_failed (Ok x) before after kept fails ok err is = sym (kept ok) ∙ is
had_not_failed (Err e) before after kept fails ok err is = absurd (let both : true ≡ false = sym (fails err) ∙ is in cc)

-- a board in flight may have more passes
pub may_have_more : (work : Work) (few most : ℕ) (flight : Flight) → few ≤ most → IsFlight work few flight → IsFlight work most flight
may_have_more work few most flight within is =
    record { stands = is.stands; with = is.with; few = (let passes = is.few in omega (arith, passes, within)); some = is.some }

-- what all boards have, and one more that was put after them where there was room
pub all_put : {X : Type 0} (P : X → Type 0) (was_put : Bool) (before after : List X) (x : X)
    → after ≡ cond was_put (before ++ x ∷ []) before → All P before → P x → All P after
all_put P true before after x is all one = subst (All P) (sym is) (All-push P before x all one)
all_put P false before after x is all one = subst (All P) (sym is) all

-- the tasks of a board that was put after the others are still out
pub out_put : {T E : Type 0} (result : Result T E) (before after : List Flight) (flight : Flight) (was waiting : List Task)
    → after ≡ cond (is_ok result) (before ++ flight ∷ []) before → was ≡ left_in flight ++ waiting
    → OnOk result (flat_map left_in after ++ waiting ≡ flat_map left_in before ++ was)
out_put (Ok x) before after flight was waiting is parted =
    rw (is, flat_map-append, append_assoc, parted) (ap (λ l. flat_map left_in before ++ (l ++ waiting)) (append-nil (left_in flight)))
out_put (Err e) before after flight was waiting is parted = tt

-- a call that runs a task under the work that was given answers a run of it, if any
pub run_in : (given work : Work) (task : Task) (answer : Result Done (AllocFailed Task)) → given ≡ work → Answers given task answer
    → IfOk answer (λ done. (task_of work done ≡ task) × IsRun work done)
run_in given work task (Ok done) same is = subst (λ w. (task_of w done ≡ task) × IsRun w done) same is
run_in given work task (Err failed) same is = tt

-- boards fly on where memory ran out
pub still_fly : {T E : Type 0} (most : ℕ) (before after : CrewState) (result : Result T E) (first : Option Flight) (behind : List Flight)
    → after ≡ record before { failed = after.failed } → OnOk result (after.failed ≡ before.failed) → OnErr result (after.failed ≡ true)
    → AreFlying before.work most before.failed first behind → AreFlying after.work most after.failed first behind
still_fly most before after result first behind others kept fails fly =
    let works = ap (λ (s : CrewState). s.work) others in
    record {
      first_flies = subst (λ w. IfSome first (IsFlight w most)) (sym works) fly.first_flies;
      behind_fly = subst (λ w. All (IsFlight w most) behind) (sym works) fly.behind_fly;
      none = λ open_still. fly.none (had_not_failed result before.failed after.failed (λ e. e) (λ e. e) kept fails open_still);
    }
