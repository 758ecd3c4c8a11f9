-- Each event that is allowed leaves less to do.
use Rattle.std.proofs.Common.{◌≡◌, ◌≢◌, ℕ, ◌+◌, ◌*◌, ◌<◌, ◌≤◌, true, false, not, List, [], ◌∷◌, ◌++◌, length, Contains, Option, Some, None, refl, sym, subst, arith, count_by, add-one}
use Rattle.std.specs.List.{list_any}
use Rattle.std.proofs.Math.Nat.{mul-le-mul_left, mul-le-mul_right}
use Rattle.std.proofs.lemmas.Bool.{false_from_ne_true, not-true, not_from_false, not_from_true, both_ways}
use Rattle.std.proofs.lemmas.List.Elements.{Contains-push, Contains-append_left}
use Rattle.std.proofs.lemmas.List.Sums.{count_by-le-length}
use Rattle.gp_base.specs.declared.fault.Fault.{Fault}
use Rattle.gp_base.specs.declared.journal.Event.{Event}
use Rattle.gp_base.specs.declared.journal.Event.TheVariants as event
use Rattle.dependence.specs.meaning.Restarts.{Dependence, struck_next, restart_of}
use Rattle.dependence.specs.Restarts.{RedoesStruck}
use Rattle.dependence.specs.meaning.Journal.{Stage, initial_stage, Allowed, happens, restarted, LawfulFrom, Lawful}
use Rattle.dependence.specs.JournalTests.{same_attempt}
use Rattle.dependence.specs.Standing.{present}
use Rattle.dependence.specs.Measure.{count_below, is_unused, is_unposted, is_untaken, left_after}
use Rattle.dependence.proofs.Auditing.{contains-decides}
use Rattle.dependence.proofs.Counting.{count-push, count-falls, one-or-none, count_below-all, count_below-falls}
use Rattle.dependence.proofs.RestartEnds.{struck-falls-next}

-- a list lacks the pair exactly where the test says so
lacks : (pairs : List (ℕ × ℕ)) (pair : ℕ × ℕ) → ¬ Contains pairs pair → not (list_any (same_attempt pair) pairs) ≡ true
lacks pairs pair free =
    not_from_false _ (false_from_ne_true (list_any (same_attempt pair) pairs) (λ e. free ((contains-decides pair pairs).0 e)))

has : (pairs : List (ℕ × ℕ)) (pair : ℕ × ℕ) → Contains pairs pair → not (list_any (same_attempt pair) pairs) ≡ false
has pairs pair h = not_from_true _ ((contains-decides pair pairs).1 h)

-- what a longer list lacks, the shorter one lacks
lacks-before : (pairs rest : List (ℕ × ℕ)) (pair : ℕ × ℕ) → not (list_any (same_attempt pair) (pairs ++ rest)) ≡ true
    → not (list_any (same_attempt pair) pairs) ≡ true
lacks-before pairs rest pair e =
    lacks pairs pair (λ h. both_ways _ (not-true (list_any (same_attempt pair) (pairs ++ rest)) e)
    ((contains-decides pair (pairs ++ rest)).1 (Contains-append_left pairs rest pair h)))

-- one fault less pays for two events of each position, and one
fault-pays : (before after count unposted unposted' rest : ℕ) → after < before → unposted' ≤ count
    → after * (2 * count + 1) + 2 * unposted' + rest < before * (2 * count + 1) + 2 * unposted + rest
fault-pays before after count unposted unposted' rest l m =
    let h : (2 * count + 1) * (after + 1) ≤ (2 * count + 1) * before = mul-le-mul_left (2 * count + 1) (omega arith) in omega arith

module _ (dependence : Dependence) (held : RedoesStruck dependence) (faults : List Fault) where
  restart-leaves : (at : Stage) → at.progress.front ≤ dependence.count → (o : Option ℕ) → struck_next dependence faults at.progress ≡ o
      → o ≢ None
      → left_after dependence faults (restarted dependence at o) < left_after dependence faults at
  restart-leaves at low None e some = absurd (some refl)
  restart-leaves at low (Some p) e some =
      let fewer = struck-falls-next dependence held faults at.progress p e in
      let most = count_below-all (is_unposted (restarted dependence at (Some p))) at.progress.front in
      let h =
      fault-pays (count_by (is_unused at.progress.made) faults)
      (count_by (is_unused (at.progress.made ++ restart_of dependence at.progress p ∷ [])) faults) dependence.count
      (count_below (is_unposted at) at.progress.front)
      (count_below (is_unposted (restarted dependence at (Some p))) at.progress.front) 0 fewer (omega arith) in
      omega arith

  pub leaves-less : (at : Stage) (event : Event) → at.progress.front ≤ dependence.count → Allowed dependence faults at event
      → left_after dependence faults (happens dependence faults at event) < left_after dependence faults at
  leaves-less at (event.Issue p) low allowed =
      let one = one-or-none (is_unposted at at.progress.front) in
      let more : count_below (is_unposted at) (at.progress.front + 1) ≤ 1 + count_below (is_unposted at) at.progress.front =
      rw add-one (omega arith) in
      let next = allowed.next in let left = allowed.left in
      omega arith
  leaves-less at (event.Post p attempt) low allowed =
      let fewer =
      count_below-falls (is_unposted at) (is_unposted (happens dependence faults at (event.Post p attempt))) at.progress.front
      p allowed.issued was now
      (λ k. lacks-before at.posted ((p, attempt) ∷ []) (k, present at k)) in
      let more = count-push (is_untaken at) (p, attempt) at.posted in
      let one = one-or-none (is_untaken at (p, attempt)) in
      omega arith
    where
      was : is_unposted at p ≡ true
      was = lacks at.posted (p, present at p) (λ h. allowed.unposted (subst (λ a. Contains at.posted (p, a)) (sym allowed.present) h))

      now : not (list_any (same_attempt (p, present at p)) (at.posted ++ (p, attempt) ∷ [])) ≡ false
      now =
          has (at.posted ++ (p, attempt) ∷ []) (p, present at p)
          (subst (λ a. Contains (at.posted ++ (p, attempt) ∷ []) (p, a)) allowed.present (Contains-push at.posted (p, attempt)))
  leaves-less at (event.Take p attempt applies) low allowed =
      let fewer =
      count-falls (is_untaken at) (is_untaken (happens dependence faults at (event.Take p attempt applies))) (p, attempt)
      (λ pair. lacks-before at.taken ((p, attempt) ∷ []) pair)
      (lacks at.taken (p, attempt) allowed.untaken)
      (has (at.taken ++ (p, attempt) ∷ []) (p, attempt) (Contains-push at.taken (p, attempt))) at.posted allowed.posted in
      omega arith
  leaves-less at (event.Restart number) low allowed =
      restart-leaves at low (struck_next dependence faults at.progress) refl allowed.some_struck
  leaves-less at (event.Retire p) low allowed = let oldest = allowed.oldest in let issued = allowed.issued in omega arith

  -- the front stays within the run
  front-within : (at : Stage) (event : Event) → at.progress.front ≤ dependence.count → Allowed dependence faults at event
      → (happens dependence faults at event).progress.front ≤ dependence.count
  front-within at (event.Issue p) low allowed = let next = allowed.next in let left = allowed.left in omega arith
  front-within at (event.Post p attempt) low allowed = low
  front-within at (event.Take p attempt applies) low allowed = low
  front-within at (event.Restart number) low allowed = go (struck_next dependence faults at.progress)
    where
      go : (o : Option ℕ) → (restarted dependence at o).progress.front ≤ dependence.count
      go None = low
      go (Some p) = low
  front-within at (event.Retire p) low allowed = low

  bounded : (at : Stage) (events : List Event) → at.progress.front ≤ dependence.count → LawfulFrom dependence faults at events
      → length events ≤ left_after dependence faults at
  bounded at [] low lawful = omega arith
  bounded at (event ∷ rest) low lawful =
      let less = leaves-less at event low lawful.0 in
      let ih = bounded (happens dependence faults at event) rest (front-within at event low lawful.0) lawful.1 in
      omega arith

  -- a lawful list has at most as many events as all positions and all faults cost
  pub bounded-length : (events : List Event) → Lawful dependence faults events
      → length events ≤ length faults * (2 * dependence.count + 1) + 4 * dependence.count
  bounded-length events lawful =
      let h = bounded initial_stage events (omega arith) lawful in
      let most = mul-le-mul_right (2 * dependence.count + 1) (count_by-le-length (is_unused []) faults) in
      omega arith
