-- In a lawful list nothing names a position that was not issued.
use Rattle.std.proofs.Common.{◌≡◌, inl, inr, ℕ, ◌+◌, ◌<◌, ◌≤◌, Bool, true, false, ◌&&◌, cond, List, [], ◌∷◌, Option, Some, None, nat_eq, Contains, refl, sym, ap, ◌∙◌, subst, arith}
use Rattle.std.specs.Prelude.{◌⊎◌}
use Rattle.std.proofs.lemmas.Bool.{false≢true, false_from_ne_true, and_parts, or_cases, eqb-true}
use Rattle.std.proofs.lemmas.List.Elements.{Contains-push_cases}
use Rattle.gp_base.specs.declared.fault.Fault.{Fault}
use Rattle.gp_base.specs.declared.journal.Event.{Event}
use Rattle.gp_base.specs.declared.journal.Event.TheVariants as event
use Rattle.dependence.specs.meaning.Dependents.{is_member}
use Rattle.dependence.specs.meaning.Restarts.{Dependence, Progress, redoes, attempt_of, begun_of, restart_of, struck_next}
use Rattle.dependence.specs.meaning.Journal.{Stage, initial_stage, Allowed, happens, restarted, LawfulFrom, stage_from}
use Rattle.dependence.specs.Standing.{RedoesConflicts, NamesIssued}
use Rattle.dependence.proofs.DependentSets.{is_member-is}
use Rattle.dependence.proofs.RestartEnds.{attempt-push, begun-push}

pub initial-issued : NamesIssued initial_stage
initial-issued =
    record {
      posted = λ p attempt h. absurd (none h);
      taken = λ p attempt h. absurd (none h);
      applied = λ p e. absurd (false≢true e);
      attempt = λ p l. refl;
      begun = λ p l. refl;
    }
  where
    none : {x : ℕ × ℕ} → Contains [] x → ⊥
    none h = let l = h.1 in omega arith

module _ (dependence : Dependence) (redoes_all : RedoesConflicts dependence) (faults : List Fault) where
  not_redone : (at : Progress) (struck p : ℕ) → at.front ≤ p → redoes p (restart_of dependence at struck) ≡ false
  not_redone at struck p l =
      false_from_ne_true (redoes p (restart_of dependence at struck))
      (λ e. let h = redoes_all.below struck at.front p ((is_member-is p (dependence.redo struck at.front)).0 e) in omega arith)

  issued-restarted : (at : Stage) (o : Option ℕ) → NamesIssued at → NamesIssued (restarted dependence at o)
  issued-restarted at None low = low
  issued-restarted at (Some struck) low =
      record {
        posted = low.posted;
        taken = low.taken;
        applied = λ p e. applied p (is_member p (restart_of dependence at.progress struck).redo) e;
        attempt = λ p l. attempt-push at.progress.made (restart_of dependence at.progress struck) p
            ∙ (ap (λ b. attempt_of at.progress.made p + cond b 1 0) (not_redone at.progress struck p l)
            ∙ (let e = low.attempt p l in omega arith));
        begun = λ p l. begun-push at.progress.made (restart_of dependence at.progress struck) p
            ∙ (ap (λ b. cond b at.progress.front (begun_of at.progress.made p)) (not_redone at.progress struck p l) ∙ low.begun p l);
      }
    where
      applied : (p : ℕ) (b : Bool) → cond b false (at.applied p) ≡ true → p < at.progress.front
      applied p true e = absurd (false≢true e)
      applied p false e = low.applied p e

  issued-happens : (at : Stage) (e : Event) → Allowed dependence faults at e → NamesIssued at → NamesIssued (happens dependence faults at e)
  issued-happens at (event.Issue p) allowed low =
      record {
        posted = λ q attempt h. let l = low.posted q attempt h in omega arith;
        taken = λ q attempt h. let l = low.taken q attempt h in omega arith;
        applied = λ q e. let l = low.applied q e in omega arith;
        attempt = λ q l. low.attempt q (omega arith);
        begun = λ q l. low.begun q (omega arith);
      }
  issued-happens at (event.Post p attempt) allowed low =
      record {
        posted = λ q other h. posted q other (Contains-push_cases at.posted (p, attempt) (q, other) h);
        taken = low.taken;
        applied = low.applied;
        attempt = low.attempt;
        begun = low.begun;
      }
    where
      posted : (q other : ℕ) → Contains at.posted (q, other) ⊎ (◌≡◌ {A = ℕ × ℕ} (p, attempt) (q, other)) → q < at.progress.front
      posted q other (inl h) = low.posted q other h
      posted q other (inr e) = subst (λ n. n < at.progress.front) (ap (λ x. x.0) e) allowed.issued
  issued-happens at (event.Take p attempt applies) allowed low =
      record {
        posted = low.posted;
        taken = λ q other h. taken q other (Contains-push_cases at.taken (p, attempt) (q, other) h);
        applied = λ q e. applied q (or_cases (applies && nat_eq q p) (at.applied q) e);
        attempt = low.attempt;
        begun = low.begun;
      }
    where
      here : p < at.progress.front
      here = low.posted p attempt allowed.posted

      taken : (q other : ℕ) → Contains at.taken (q, other) ⊎ (◌≡◌ {A = ℕ × ℕ} (p, attempt) (q, other)) → q < at.progress.front
      taken q other (inl h) = low.taken q other h
      taken q other (inr e) = subst (λ n. n < at.progress.front) (ap (λ x. x.0) e) here

      applied : (q : ℕ) → ((applies && nat_eq q p) ≡ true) ⊎ (at.applied q ≡ true) → q < at.progress.front
      applied q (inl e) = subst (λ n. n < at.progress.front) (sym (eqb-true q p (and_parts applies (nat_eq q p) e).1)) here
      applied q (inr e) = low.applied q e
  issued-happens at (event.Restart number) allowed low = issued-restarted at (struck_next dependence faults at.progress) low
  issued-happens at (event.Retire p) allowed low =
      record { posted = low.posted; taken = low.taken; applied = low.applied; attempt = low.attempt; begun = low.begun }

  -- a lawful list goes on naming issued positions alone
  pub issued-from : (at : Stage) (events : List Event) → LawfulFrom dependence faults at events → NamesIssued at
      → NamesIssued (stage_from dependence faults at events)
  issued-from at [] lawful low = low
  issued-from at (e ∷ rest) lawful low = issued-from (happens dependence faults at e) rest lawful.1 (issued-happens at e lawful.0 low)
