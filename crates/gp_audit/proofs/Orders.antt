-- The steps of a plain run against its subthreads.
use Rattle.std.proofs.Common.{◌≡◌, ℕ, zero, suc, List, [], ◌∷◌, map, Option, Some, None, refl, ap, ◌∙◌}
use Rattle.std.specs.Prelude.{slice_get, nat_eq, false}
use Rattle.std.specs.Option.{option_map, option_and_then, option_map_or}
use Rattle.std.proofs.lemmas.List.{length-map}
use Rattle.task_ast.specs.meaning.Table.{is_settle}
use Rattle.task_ast.specs.meaning.Plain.{Subthread}
use Rattle.task_ast.specs.meaning.Position.{last_below}
use Rattle.one_thread.specs.PlainRuns.{shown}
use Rattle.dependence.specs.meaning.Conflict.{clash_in}
use Rattle.dependence.specs.meaning.Dependents.{dependents}
use Rattle.dependence.specs.meaning.Runs.{feet_of, dependence_of}
use Rattle.gp_audit.specs.Steps.{feet_in, is_step_of, last_step, before_step, settles_step, dependence_by}

get-map : (run : List Subthread) (p : ℕ) → slice_get (map shown run) p ≡ option_map shown (slice_get run p)
get-map [] p = refl
get-map (s ∷ run) zero = refl
get-map (s ∷ run) (suc p) = get-map run p

feet-are : (run : List Subthread) → feet_in (map shown run) ≡ feet_of run
feet-are [] = refl
feet-are (s ∷ run) = ap (λ feet. (shown s).foot ∷ feet) (feet-are run)

same-step : (t : ℕ) (o : Option Subthread) → is_step_of t (option_map shown o) ≡ option_map_or (λ s. nat_eq s.thread t) o false
same-step t None = refl
same-step t (Some s) = refl

last-is : (run : List Subthread) (t p : ℕ) → last_step (map shown run) t p ≡ last_below run t p
last-is run t zero = refl
last-is run t (suc p) = rw (get-map run p, same-step t (slice_get run p), last-is run t p) refl

before-is : (run : List Subthread) (p : ℕ)
    → before_step (map shown run) p (slice_get (map shown run) p) ≡ option_and_then (λ s. last_below run s.thread p) (slice_get run p)
before-is run p = ap (before_step (map shown run) p) (get-map run p) ∙ go (slice_get run p)
  where
    go : (o : Option Subthread) → before_step (map shown run) p (option_map shown o) ≡ option_and_then (λ s. last_below run s.thread p) o
    go None = refl
    go (Some s) = last-is run s.thread p

settles-is : (run : List Subthread) (p : ℕ)
    → settles_step (slice_get (map shown run) p) ≡ option_map_or (λ s. is_settle s.begins.sync) (slice_get run p) false
settles-is run p = ap settles_step (get-map run p) ∙ go (slice_get run p)
  where
    go : (o : Option Subthread) → settles_step (option_map shown o) ≡ option_map_or (λ s. is_settle s.begins.sync) o false
    go None = refl
    go (Some s) = refl

pub order-is : (run : List Subthread) → dependence_by (map shown run) ≡ dependence_of run
order-is run =
    λ i. record {
      count = length-map run shown i;
      clash = clash_in (feet-are run i);
      redo = dependents (clash_in (feet-are run i));
      before = λ p. before-is run p i;
      settles = λ p. settles-is run p i;
      block = λ p. p;
    }
