-- What a rollback leaves of attempts.
use Rattle.std.proofs.Common.{◌≡◌, inl, inr, ℕ, Bool, false, cond, List, Option, Some, None, sym, ap, subst, ◌∙◌, arith}
use Rattle.std.proofs.lemmas.Bool.{cases_lt}
use Rattle.gp_base.specs.declared.fault.Fault.{Fault}
use Rattle.gp_base.specs.declared.journal.Event.TheVariants as event
use Rattle.dependence.specs.meaning.Restarts.{Dependence, struck_next}
use Rattle.dependence.specs.meaning.Journal.{Stage, happens, restarted}
use Rattle.dependence.specs.Standing.{present}
use Rattle.dependence.specs.RunBuffer.{IsOut}
use Rattle.rollback.specs.meaning.Cuts.{cut_at, rolling}
use Rattle.rollback.specs.Standing.{BlocksStand}
use Rattle.rollback.specs.Driving.{RollsBack}
use Rattle.rollback.proofs.Backs.{redone, unredone, attempt-raised, attempt-kept}

module _ (cuts : ℕ → Bool) (dependence : Dependence) (faults : List Fault) (at : Stage)
    (blocks : BlocksStand cuts dependence faults at) where
  abbrev rolled : Dependence
  rolled = rolling cuts dependence

  -- what is out after a rollback was out before it: a new attempt was not posted
  restarted-out : (o : Option ℕ) (p attempt : ℕ) → IsOut (restarted rolled at o) p attempt → IsOut at p attempt
  restarted-out None p attempt out = out
  restarted-out (Some struck) p attempt out =
      elim (cases_lt p (cut_at cuts struck)) [
        | inl before ↦
            record {
              posted = out.posted;
              untaken = out.untaken;
              present = out.present ∙ attempt-kept cuts dependence at struck p before;
            }
        | inr from ↦
            absurd
            (let low = blocks.stands.posted_low p attempt out.posted in
            let raised = attempt-raised cuts dependence at struck p from low.0 in
            let same = out.present in
            let most = low.1 in
            omega arith)
      ]

  pub rolled-out : (number p attempt : ℕ) → IsOut (happens rolled faults at (event.Restart number)) p attempt → IsOut at p attempt
  rolled-out number p attempt out = restarted-out (struck_next rolled faults at.progress) p attempt out

  restarted-rolls : (struck : ℕ) → RollsBack at (restarted rolled at (Some struck)) (cut_at cuts struck)
  restarted-rolls struck =
      record {
        raised = attempt-raised cuts dependence at struck;
        unposted = λ q from issued posted.
            (let low = blocks.stands.posted_low q (present (restarted rolled at (Some struck)) q) posted in
            let most = low.1 in
            let raised = attempt-raised cuts dependence at struck q from issued in
            omega arith);
        unapplied = λ q from issued. ap (λ b. cond b false (at.applied q)) (redone cuts struck at.progress.front q from issued);
        keeps_attempt = attempt-kept cuts dependence at struck;
        keeps_applied = λ q before. ap (λ b. cond b false (at.applied q)) (unredone cuts struck at.progress.front q before);
      }

  pub rolls-back : (number struck : ℕ) → struck_next rolled faults at.progress ≡ Some struck
      → RollsBack at (happens rolled faults at (event.Restart number)) (cut_at cuts struck)
  rolls-back number struck e = subst (λ o. RollsBack at (restarted rolled at o) (cut_at cuts struck)) (sym e) (restarted-rolls struck)
