-- Where attempts began and what settles waited for, after each event that is allowed. Of two positions the later one
-- did not begin earlier, and all before a settle that was issued has retired (DrivingStands). An issue begins at the
-- front, past all others; what is rolled back is all from a cut on, and begins again at the front; the other events
-- leave beginnings as they are.
use Rattle.std.proofs.Common.{◌≡◌, inl, inr, ℕ, ◌+◌, ◌<◌, ◌≤◌, Bool, true, false, cond, List, [], ◌∷◌, Option, Some, None, ap, subst, ◌∙◌, arith}
use Rattle.std.proofs.lemmas.Bool.{cases_lt}
use Rattle.gp_base.specs.declared.limits.TheConstants.{LONGEST_DELAY}
use Rattle.gp_base.specs.declared.fault.Fault.{Fault}
use Rattle.gp_base.specs.declared.journal.Event.{Event}
use Rattle.gp_base.specs.declared.journal.Event.TheVariants as event
use Rattle.dependence.specs.meaning.Dependents.{is_member}
use Rattle.dependence.specs.meaning.Restarts.{Dependence, begun_of, struck_next, restart_of}
use Rattle.dependence.specs.meaning.Journal.{Stage, initial_stage, IsSafe, Allowed, LawfulFrom, Lawful, happens, restarted, stage_from, stage}
use Rattle.dependence.specs.Standing.{NamesIssued}
use Rattle.dependence.proofs.IssuedPositions.{initial-issued, issued-from}
use Rattle.dependence.proofs.RestartEnds.{begun-push}
use Rattle.rollback.specs.meaning.Cuts.{cut_at, back, rolling}
use Rattle.rollback.specs.Driving.{DrivingStands}
use Rattle.rollback.proofs.Backs.{redone, unredone, rolls-conflicts}

pub initial-driving : (dependence : Dependence) → DrivingStands dependence initial_stage
initial-driving dependence =
    record {
      names_issued = initial-issued;
      begun_rises = λ p q l issued. absurd (omega arith);
      begun_above = λ p issued. absurd (omega arith);
      begun_low = λ p issued. absurd (omega arith);
      settled = λ p settles issued. absurd (omega arith);
    }

-- positions that are applied are safe where the last of them began long ago
pub rest-safe : (dependence : Dependence) (at : Stage) (p last : ℕ) → DrivingStands dependence at → last < at.progress.front
    → ((q : ℕ) → p ≤ q → q ≤ last → at.applied q ≡ true) → begun_of at.progress.made last + LONGEST_DELAY ≤ at.progress.front
    → (q : ℕ) → p ≤ q → q ≤ last → IsSafe at q
rest-safe dependence at p last driving issued applied long q from to =
    record { applied = applied q from to; long = (let rises = driving.begun_rises q last to issued in omega arith) }

module _ (cuts : ℕ → Bool) (dependence : Dependence) (faults : List Fault) where
  abbrev rolled : Dependence
  rolled = rolling cuts dependence

  issue-driving : (at : Stage) (p : ℕ) → DrivingStands dependence at → Allowed (rolling cuts dependence) faults at (event.Issue p)
      → NamesIssued (happens rolled faults at (event.Issue p)) → DrivingStands dependence (happens rolled faults at (event.Issue p))
  issue-driving at p driving may names =
      record { names_issued = names; begun_rises = rises; begun_above = above; begun_low = low; settled = settled }
    where
      above : (q : ℕ) → q < at.progress.front + 1 → q < begun_of at.progress.made q
      above q issued =
          elim (cases_lt q at.progress.front) [
            | inl before ↦ driving.begun_above q before
            | inr new ↦ (let begun = driving.names_issued.begun q new in omega arith)
          ]

      low : (q : ℕ) → q < at.progress.front + 1 → begun_of at.progress.made q ≤ at.progress.front + 1
      low q issued =
          elim (cases_lt q at.progress.front) [
            | inl before ↦ (let begun = driving.begun_low q before in omega arith)
            | inr new ↦ (let begun = driving.names_issued.begun q new in omega arith)
          ]

      rises : (q r : ℕ) → q ≤ r → r < at.progress.front + 1 → begun_of at.progress.made q ≤ begun_of at.progress.made r
      rises q r l issued =
          elim (cases_lt r at.progress.front) [
            | inl before ↦ driving.begun_rises q r l before
            | inr new ↦
                (let begun = driving.names_issued.begun r new in
                let earlier = low q (omega arith) in
                omega arith)
          ]

      settled : (q : ℕ) → dependence.settles q ≡ true → q < at.progress.front + 1 → q ≤ at.retired
      settled q settles issued =
          elim (cases_lt q at.progress.front) [
            | inl before ↦ driving.settled q settles before
            | inr new ↦
                (let next = may.next in
                let same : q ≡ p = omega arith in
                let all = may.settled (subst (λ r. dependence.settles r ≡ true) same settles) in
                omega arith)
          ]

  -- what is rolled back begins at the front
  restart-driving : (at : Stage) (o : Option ℕ) → DrivingStands dependence at → NamesIssued (restarted rolled at o)
      → DrivingStands dependence (restarted rolled at o)
  restart-driving at None driving names = driving
  restart-driving at (Some struck) driving names =
      record { names_issued = names; begun_rises = rises; begun_above = above; begun_low = low; settled = driving.settled }
    where
      begun : ℕ → ℕ
      begun q = begun_of (restarted rolled at (Some struck)).progress.made q

      begins : (q : ℕ) (b : Bool) → is_member q (back cuts struck at.progress.front) ≡ b
          → begun q ≡ cond b at.progress.front (begun_of at.progress.made q)
      begins q b e =
          begun-push at.progress.made (restart_of rolled at.progress struck) q
          ∙ ap (λ x. cond x at.progress.front (begun_of at.progress.made q)) e

      again : (q : ℕ) → cut_at cuts struck ≤ q → q < at.progress.front → begun q ≡ at.progress.front
      again q from issued = begins q true (redone cuts struck at.progress.front q from issued)

      stays : (q : ℕ) → q < cut_at cuts struck → begun q ≡ begun_of at.progress.made q
      stays q before = begins q false (unredone cuts struck at.progress.front q before)

      above : (q : ℕ) → q < at.progress.front → q < begun q
      above q issued =
          elim (cases_lt q (cut_at cuts struck)) [
            | inl before ↦ (let same = stays q before in let was = driving.begun_above q issued in omega arith)
            | inr from ↦ (let front = again q from issued in omega arith)
          ]

      low : (q : ℕ) → q < at.progress.front → begun q ≤ at.progress.front
      low q issued =
          elim (cases_lt q (cut_at cuts struck)) [
            | inl before ↦ (let same = stays q before in let was = driving.begun_low q issued in omega arith)
            | inr from ↦ (let front = again q from issued in omega arith)
          ]

      rises : (q r : ℕ) → q ≤ r → r < at.progress.front → begun q ≤ begun r
      rises q r l issued =
          elim (cases_lt r (cut_at cuts struck)) [
            | inl before ↦
                (let first = stays q (omega arith) in
                let second = stays r before in
                let was = driving.begun_rises q r l issued in
                omega arith)
            | inr from ↦ (let front = again r from issued in let earlier = low q (omega arith) in omega arith)
          ]

  -- each event that is allowed keeps it
  pub happens-driving : (at : Stage) (e : Event) → DrivingStands dependence at → Allowed (rolling cuts dependence) faults at e
      → DrivingStands dependence (happens rolled faults at e)
  happens-driving at e driving may = go e may (names e may)
    where
      names : (e : Event) → Allowed (rolling cuts dependence) faults at e → NamesIssued (happens rolled faults at e)
      names e may =
          issued-from rolled (rolls-conflicts cuts dependence) faults at (e ∷ []) (may, tt)
          driving.names_issued

      go : (e : Event) → Allowed (rolling cuts dependence) faults at e → NamesIssued (happens rolled faults at e)
          → DrivingStands dependence (happens rolled faults at e)
      go (event.Issue p) may issued = issue-driving at p driving may issued
      go (event.Post p attempt) may issued =
          record {
            names_issued = issued;
            begun_rises = driving.begun_rises;
            begun_above = driving.begun_above;
            begun_low = driving.begun_low;
            settled = driving.settled;
          }
      go (event.Take p attempt applies) may issued =
          record {
            names_issued = issued;
            begun_rises = driving.begun_rises;
            begun_above = driving.begun_above;
            begun_low = driving.begun_low;
            settled = driving.settled;
          }
      go (event.Restart number) may issued = restart-driving at (struck_next rolled faults at.progress) driving issued
      go (event.Retire p) may issued =
          record {
            names_issued = issued;
            begun_rises = driving.begun_rises;
            begun_above = driving.begun_above;
            begun_low = driving.begun_low;
            settled = λ q settles l. (let was = driving.settled q settles l in let oldest = may.oldest in omega arith);
          }

  driving-from : (at : Stage) (events : List Event) → DrivingStands dependence at → LawfulFrom (rolling cuts dependence) faults at events
      → DrivingStands dependence (stage_from rolled faults at events)
  driving-from at [] driving lawful = driving
  driving-from at (e ∷ rest) driving lawful =
      driving-from (happens rolled faults at e) rest (happens-driving at e driving lawful.0) lawful.1

  -- and so it holds after each journal that is lawful by blocks
  pub driving-journal : (events : List Event) → Lawful (rolling cuts dependence) faults events
      → DrivingStands dependence (stage rolled faults events)
  driving-journal events lawful = driving-from initial_stage events (initial-driving dependence) lawful
