-- What the steps of a plain run say of conflicts, restarts and journals.
use Rattle.std.specs.Prelude.{ℕ, zero, suc, Bool, false, cond, nat_eq, List, length, map, Option, Some, None, slice_get}
use Rattle.gp_base.specs.declared.footprint.Footprint.{Footprint}
use Rattle.task_ast.specs.meaning.Table.{is_settle}
use Rattle.one_thread.specs.declared.run.Step.{Step}
use Rattle.dependence.specs.meaning.Conflict.{clash_in}
use Rattle.dependence.specs.meaning.Dependents.{dependents}
use Rattle.dependence.specs.meaning.Restarts.{Dependence}

abbrev pub feet_in : List Step → List Footprint
feet_in steps = map (λ (s : Step). s.foot) steps

-- whether the step is the thread's
abbrev pub is_step_of : ℕ → Option Step → Bool
is_step_of t None = false
is_step_of t (Some s) = nat_eq s.thread t

-- the last position below this one of the same thread
abbrev pub last_step : List Step → (thread position : ℕ) → Option ℕ
last_step steps t zero = None
last_step steps t (suc p) = cond (is_step_of t (slice_get steps p)) (Some p) (last_step steps t p)

abbrev pub before_step : List Step → ℕ → Option Step → Option ℕ
before_step steps p None = None
before_step steps p (Some s) = last_step steps s.thread p

-- whether the step that may be there begins with a settle
abbrev pub settles_step : Option Step → Bool
settles_step None = false
settles_step (Some s) = is_settle s.begins.sync

-- what the rules of restarts and journals read of them
abbrev pub dependence_by : List Step → Dependence
dependence_by steps =
    record {
      count = length steps;
      clash = clash_in (feet_in steps);
      redo = dependents (clash_in (feet_in steps));
      before = λ p. before_step steps p (slice_get steps p);
      settles = λ p. settles_step (slice_get steps p);
      block = λ p. p;
    }
