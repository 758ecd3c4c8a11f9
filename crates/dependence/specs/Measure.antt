-- How much of a journal is left: each event leaves less, so that lawful journals end.
use Rattle.std.specs.Prelude.{ℕ, zero, suc, ◌+◌, ◌-◌, ◌*◌, ◌≤◌, ◌<◌, Bool, not, cond, nat_le, List, length, count_by}
use Rattle.std.specs.List.{list_any}
use Rattle.gp_base.specs.declared.fault.Fault.{Fault}
use Rattle.gp_base.specs.declared.journal.Event.{Event}
use Rattle.gp_base.specs.declared.journal.Restart.{Restart}
use Rattle.dependence.specs.meaning.Restarts.{Dependence, attempt_of}
use Rattle.dependence.specs.Restarts.{RedoesStruck}
use Rattle.dependence.specs.meaning.Journal.{Stage, Allowed, happens, Lawful}
use Rattle.dependence.specs.JournalTests.{same_attempt}
use Rattle.dependence.specs.Standing.{present}

-- how many numbers below n pass the test
abbrev pub count_below : (ℕ → Bool) → ℕ → ℕ
count_below test zero = 0
count_below test (suc n) = cond (test n) 1 0 + count_below test n

-- whether no restart has ended the attempt that the fault names
abbrev pub is_unused : List Restart → Fault → Bool
is_unused made fault = nat_le (attempt_of made fault.pos) fault.attempt

-- whether the present attempt of the position is still to be posted
abbrev pub is_unposted : Stage → ℕ → Bool
is_unposted at p = not (list_any (same_attempt (p, present at p)) at.posted)

-- whether the pair is still to be taken
abbrev pub is_untaken : Stage → ℕ × ℕ → Bool
is_untaken at pair = not (list_any (same_attempt pair) at.taken)

-- each fault that may be taken costs its restart and two events for each position; each position that was not issued costs its issue,
-- one that is issued its post and its result, and each its retirement
abbrev pub left_after : Dependence → List Fault → Stage → ℕ
left_after dependence faults at =
    count_by (is_unused at.progress.made) faults * (2 * dependence.count + 1)
    + 3 * (dependence.count - at.progress.front) + 2 * count_below (is_unposted at) at.progress.front + count_by (is_untaken at) at.posted
    + (dependence.count - at.retired)

-- an event that is allowed leaves less
abbrev pub LessLaw : Type 0
LessLaw =
    (dependence : Dependence) (faults : List Fault) (at : Stage) (event : Event) → RedoesStruck dependence
    → at.progress.front ≤ dependence.count → Allowed dependence faults at event
    → left_after dependence faults (happens dependence faults at event) < left_after dependence faults at

-- a lawful journal has at most as many events as all positions and all faults cost
abbrev pub LengthLaw : Type 0
LengthLaw =
    (dependence : Dependence) (faults : List Fault) (events : List Event) → RedoesStruck dependence → Lawful dependence faults events
    → length events ≤ length faults * (2 * dependence.count + 1) + 4 * dependence.count
