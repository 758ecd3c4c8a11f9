-- Lawful and complete journals as tests.
use Rattle.std.specs.Prelude.{ℕ, zero, suc, ◌+◌, Bool, true, not, ◌&&◌, ◌||◌, nat_eq, nat_lt, nat_le, List, [], ◌∷◌, length, Option, Some, None, is_none}
use Rattle.std.specs.Bool.{beq}
use Rattle.std.specs.List.{list_any}
use Rattle.gp_base.specs.declared.limits.TheConstants.{LONGEST_DELAY}
use Rattle.gp_base.specs.declared.fault.Fault.{Fault}
use Rattle.gp_base.specs.declared.journal.Event.{Event}
use Rattle.gp_base.specs.declared.journal.Event.TheVariants as event
use Rattle.dependence.specs.meaning.Restarts.{Dependence, Progress, drains, attempt_of, begun_of, is_live, is_due, least_struck, struck_next}
use Rattle.dependence.specs.meaning.Journal.{Stage, initial_stage, happens, stage}

abbrev pub same_attempt : ℕ × ℕ → ℕ × ℕ → Bool
same_attempt pair other = nat_eq pair.0 other.0 && nat_eq pair.1 other.1

-- whether each position below n passes the test
abbrev pub all_below : (ℕ → Bool) → (n : ℕ) → Bool
all_below test zero = true
all_below test (suc n) = test n && all_below test n

abbrev pub none_due : List Fault → Progress → Bool
none_due faults at = is_none (least_struck (is_due at) faults)

abbrev pub is_drained : Dependence → List Fault → Progress → Bool
is_drained dependence faults at = drains dependence at.front && is_none (least_struck (is_live at) faults)

abbrev pub may_follow : Stage → Option ℕ → Bool
may_follow at None = true
may_follow at (Some earlier) = list_any (λ pair. nat_eq earlier pair.0) at.taken

abbrev pub is_safe : Stage → ℕ → Bool
is_safe at q = at.applied q && nat_le (begun_of at.progress.made q + LONGEST_DELAY) at.progress.front

-- whether each position of the block of p, from p on, is safe
abbrev pub rest_is_safe : Dependence → Stage → ℕ → Bool
rest_is_safe dependence at p =
    all_below (λ q. not (nat_le p q) || (not (nat_eq (dependence.block q) (dependence.block p)) || is_safe at q)) dependence.count

-- `Allowed` as a test
abbrev pub is_allowed : Dependence → List Fault → Stage → Event → Bool
is_allowed dependence faults at (event.Issue p) =
    nat_eq p at.progress.front && (nat_lt p dependence.count && (none_due faults at.progress
    && (may_follow at (dependence.before p) && (not (dependence.settles p) || nat_eq at.retired p))))
is_allowed dependence faults at (event.Post p attempt) =
    nat_lt p at.progress.front && (nat_le at.retired p && (nat_eq attempt (attempt_of at.progress.made p)
    && (not (list_any (same_attempt (p, attempt)) at.posted)
    && all_below (λ earlier. not (dependence.clash earlier p) || at.applied earlier) p)))
is_allowed dependence faults at (event.Take p attempt applies) =
    list_any (same_attempt (p, attempt)) at.posted
    && (not (list_any (same_attempt (p, attempt)) at.taken) && beq applies (nat_eq attempt (attempt_of at.progress.made p)))
is_allowed dependence faults at (event.Restart number) =
    nat_eq number (length at.progress.made) && not (is_none (struck_next dependence faults at.progress))
is_allowed dependence faults at (event.Retire p) =
    nat_eq p at.retired && (nat_lt p at.progress.front && (at.applied p && (none_due faults at.progress
    && (rest_is_safe dependence at p || is_drained dependence faults at.progress))))

abbrev pub is_lawful_from : Dependence → List Fault → Stage → List Event → Bool
is_lawful_from dependence faults at [] = true
is_lawful_from dependence faults at (event ∷ rest) =
    is_allowed dependence faults at event && is_lawful_from dependence faults (happens dependence faults at event) rest

-- `Lawful` as a test
abbrev pub is_lawful : Dependence → List Fault → List Event → Bool
is_lawful dependence faults events = is_lawful_from dependence faults initial_stage events

abbrev pub is_final : Dependence → List Fault → Progress → Bool
is_final dependence faults at = nat_eq at.front dependence.count && is_none (struck_next dependence faults at)

-- `Complete` as a test
abbrev pub is_complete : Dependence → List Fault → List Event → Bool
is_complete dependence faults events =
    is_lawful dependence faults events
    && (is_final dependence faults (stage dependence faults events).progress
    && nat_eq (stage dependence faults events).retired dependence.count)
