-- What an audit keeps of the events so far, and which line it takes next.
use Rattle.std.specs.Prelude.{◌≡◌, ◌↔◌, ℕ, ◌+◌, ◌<◌, ◌≤◌, Bool, true, false, not, cond, nat_eq, nat_lt, nat_le, ◌&&◌, ◌||◌, List, [], ◌∷◌, ◌++◌, length, filter, slice_get, slice_set, slice_index_or, Option, Some, None, is_none, Contains, All}
use Rattle.std.specs.Bool.{beq}
use Rattle.std.specs.Option.{option_or}
use Rattle.std.specs.List.{list_any}
use Rattle.gp_base.specs.declared.limits.TheConstants.{LONGEST_DELAY, MOST_FAULTS}
use Rattle.gp_base.specs.declared.fault.Fault.{Fault}
use Rattle.gp_base.specs.declared.journal.Restart.{Restart}
use Rattle.one_thread.specs.declared.run.Step.{Step}
use Rattle.dependence.specs.meaning.Conflict.{clash_in}
use Rattle.dependence.specs.meaning.Dependents.{dependents}
use Rattle.dependence.specs.meaning.Restarts.{least_struck, begun_of}
use Rattle.dependence.specs.meaning.Journal.{Stage, WasTaken}
use Rattle.dependence.specs.JournalTests.{same_attempt}
use Rattle.dependence.specs.Standing.{present}
use Rattle.gp_audit.specs.declared.line.TraceLine.{TraceLine}
use Rattle.gp_audit.specs.declared.line.TraceLine.TheVariants as line
use Rattle.gp_audit.specs.declared.state.Seen.{Seen}
use Rattle.gp_audit.specs.declared.state.Audit.{Audit}
use Rattle.gp_audit.specs.Steps.{feet_in, before_step, settles_step}

-- the run, its faults, the positions that were issued, the pairs that were posted and not taken, the positions whose
-- present attempt is not applied, and how many have retired
pub record Audited : Type 0 where
  pub steps : List Step
  pub faults : List Fault
  pub seen : List Seen
  pub out : List (ℕ × ℕ)
  pub waiting : List ℕ
  pub retired : ℕ

-- what an audit keeps
abbrev pub kept : Audit → Audited
kept a =
    record {
      steps = a.steps.now;
      faults = a.faults.now;
      seen = a.seen.items;
      out = a.out.items;
      waiting = a.waiting.items;
      retired = a.retired;
    }

-- no event has happened
abbrev pub nothing_seen : List Step → List Fault → Audited
nothing_seen steps faults = record { steps = steps; faults = faults; seen = []; out = []; waiting = []; retired = 0 }

-- a position that is issued, and one that isn't there
abbrev pub first_seen : ℕ → Seen
first_seen p = record { attempt = 0; begun = p + 1; posted = false; applied = false; taken = false }

abbrev pub seen_at : List Seen → ℕ → Seen
seen_at seen p = slice_index_or seen p (first_seen p)

-- whether a fault names the attempt of the position, and is due at this front or need not be
abbrev pub strikes_one : (any : Bool) → (front : ℕ) → Fault → Option Seen → Bool
strikes_one any front fault None = false
strikes_one any front fault (Some s) = nat_eq fault.attempt s.attempt && (any || nat_le (s.begun + fault.delay) front)

abbrev pub strikes : (any : Bool) → List Seen → Fault → Bool
strikes any seen fault = strikes_one any (length seen) fault (slice_get seen fault.pos)

module _ (a : Audited) where
  abbrev pub least_of : (any : Bool) → Option ℕ
  least_of any = least_struck (strikes any a.seen) a.faults

  abbrev pub is_last : Bool
  is_last = nat_eq (length a.seen) (length a.steps)

  -- whether the position begins with a settle
  abbrev pub settles : ℕ → Bool
  settles p = settles_step (slice_get a.steps p)

  -- whether the front drains
  abbrev pub drains_now : Bool
  drains_now = is_last || settles (length a.seen)

  -- the position that is struck next
  abbrev pub struck_in : Option ℕ
  struck_in = option_or (least_of false) (cond drains_now (least_of true) None)

  -- whether an attempt of the position was taken, if there is one
  abbrev pub follows : Option ℕ → Bool
  follows None = true
  follows (Some q) = (seen_at a.seen q).taken

  abbrev pub issues : ℕ → Bool
  issues p =
      nat_eq p (length a.seen) && (nat_lt p (length a.steps) && (is_none (least_of false)
      && (follows (before_step a.steps p (slice_get a.steps p)) && (not (settles p) || nat_eq a.retired p))))

  -- whether an earlier position that is not applied is in conflict with this one
  abbrev pub holds_up : (p earlier : ℕ) → Bool
  holds_up p earlier = nat_lt earlier p && clash_in (feet_in a.steps) earlier p

  abbrev pub is_held_up : ℕ → Bool
  is_held_up p = list_any (holds_up p) a.waiting

  abbrev pub posts : (p attempt : ℕ) → Bool
  posts p attempt =
      nat_lt p (length a.seen) && (nat_le a.retired p && (nat_eq attempt (seen_at a.seen p).attempt
      && (not (seen_at a.seen p).posted && not (is_held_up p))))

  abbrev pub takes : (p attempt : ℕ) → (applies : Bool) → Bool
  takes p attempt applies = list_any (same_attempt (p, attempt)) a.out && beq applies (nat_eq attempt (seen_at a.seen p).attempt)

  abbrev pub is_drained : Bool
  is_drained = drains_now && is_none (least_of true)

  abbrev pub retires : ℕ → Bool
  retires p =
      nat_eq p a.retired && (nat_lt p (length a.seen) && ((seen_at a.seen p).applied && (is_none (least_of false)
      && (nat_le ((seen_at a.seen p).begun + LONGEST_DELAY) (length a.seen) || is_drained))))

  -- the restart of a position
  abbrev pub restart_at : ℕ → Restart
  restart_at p =
      record {
        front = length a.seen;
        struck = p;
        attempt = (seen_at a.seen p).attempt;
        redo = dependents (clash_in (feet_in a.steps)) p (length a.seen);
      }

  abbrev pub IsRestart : Restart → Option ℕ → Type 0
  IsRestart r None = ⊥
  IsRestart r (Some p) = r ≡ restart_at p

  -- the line may come next
  abbrev pub Takes : TraceLine → Type 0
  Takes (line.Issue p) = issues p ≡ true
  Takes (line.Post p attempt) = posts p attempt ≡ true
  Takes (line.Take p attempt applies) = takes p attempt applies ≡ true
  Takes (line.Restart r) = IsRestart r struck_in
  Takes (line.Retire p) = retires p ≡ true

  abbrev pub is_whole : Bool
  is_whole = is_last && (is_none struck_in && nat_eq a.retired (length a.steps))

-- how a position changes at a post, at a result, and at a restart
abbrev pub posted_seen : Seen → Seen
posted_seen s = record s { posted = true }

abbrev pub taken_seen : (applies : Bool) → Seen → Seen
taken_seen applies s = record s { applied = applies || s.applied; taken = true }

abbrev pub raised_seen : (front : ℕ) → Seen → Seen
raised_seen front s = record s { attempt = s.attempt + 1; begun = front; posted = false; applied = false }

abbrev pub changed_at : (Seen → Seen) → ℕ → List Seen → List Seen
changed_at change p seen = slice_set seen p (change (seen_at seen p))

abbrev pub all_raised : (front : ℕ) → List ℕ → List Seen → List Seen
all_raised front [] seen = seen
all_raised front (p ∷ redo) seen = all_raised front redo (changed_at (raised_seen front) p seen)

-- what waits after a result, and which of the positions that are raised join those that wait
abbrev pub left_waiting : (applies : Bool) → ℕ → List ℕ → List ℕ
left_waiting applies p waiting = cond applies (filter (λ q. not (nat_eq q p)) waiting) waiting

abbrev pub where_applied : Bool → ℕ → List ℕ
where_applied applied p = cond applied (p ∷ []) []

abbrev pub waits_again : (front : ℕ) → List ℕ → List Seen → List ℕ
waits_again front [] seen = []
waits_again front (p ∷ redo) seen =
    where_applied (seen_at seen p).applied p ++ waits_again front redo (changed_at (raised_seen front) p seen)

-- what is kept after the line
abbrev pub after_line : Audited → TraceLine → Audited
after_line a (line.Issue p) = record a { seen = a.seen ++ first_seen p ∷ []; waiting = a.waiting ++ p ∷ [] }
after_line a (line.Post p attempt) = record a { seen = changed_at posted_seen p a.seen; out = a.out ++ (p, attempt) ∷ [] }
after_line a (line.Take p attempt applies) =
    record a {
      seen = changed_at (taken_seen applies) p a.seen;
      out = filter (λ pair. not (same_attempt (p, attempt) pair)) a.out;
      waiting = left_waiting applies p a.waiting;
    }
after_line a (line.Restart r) =
    record a { seen = all_raised (length a.seen) r.redo a.seen; waiting = a.waiting ++ waits_again (length a.seen) r.redo a.seen }
after_line a (line.Retire p) = record a { retired = p + 1 }

-- what is out was issued, and no attempt has a greater number than there may be faults
pub record IsNoteworthy (a : Audited) : Type 0 where
  pub out : All (λ pair. pair.0 < length a.seen) a.out
  pub few : (p : ℕ) → (seen_at a.seen p).attempt ≤ MOST_FAULTS

-- a position as it stands at a stage
pub record IsSeen (at : Stage) (p : ℕ) (s : Seen) : Type 0 where
  pub attempt : s.attempt ≡ present at p
  pub begun : s.begun ≡ begun_of at.progress.made p
  pub posted : (s.posted ≡ true) ↔ Contains at.posted (p, present at p)
  pub applied : s.applied ≡ at.applied p
  pub taken : (s.taken ≡ true) ↔ WasTaken at p

-- what is kept is what stands at a stage
pub record Shows (at : Stage) (a : Audited) : Type 0 where
  pub front : length a.seen ≡ at.progress.front
  pub retired : a.retired ≡ at.retired
  pub each : (p : ℕ) (s : Seen) → slice_get a.seen p ≡ Some s → IsSeen at p s
  pub out : (p attempt : ℕ) → Contains a.out (p, attempt) ↔ (Contains at.posted (p, attempt) × ¬ Contains at.taken (p, attempt))
  pub waiting : (p : ℕ) → Contains a.waiting p ↔ ((p < at.progress.front) × (at.applied p ≡ false))
