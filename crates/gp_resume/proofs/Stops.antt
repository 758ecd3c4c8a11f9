-- Why a call stopped, and what holds where it did not.
use Rattle.std.proofs.Common.{◌≡◌, ℕ, ◌≤◌, Result, Ok, Err, sym, ap, ◌∙◌, subst, arith}
use Rattle.std.specs.Prelude.{OnOk}
use Rattle.gp_base.specs.meaning.Sinks.{Rose}
use Rattle.gp_base.proofs.Written.{Rose-later}
use Rattle.gp_resume.specs.declared.stop.ResumeStop.{ResumeStop}
use Rattle.gp_resume.specs.declared.stop.ResumeStop.TheVariants.{LogLine, LogFit, WriteFault, OutOfMemory}
use Rattle.gp_resume.specs.Resuming.{IsRefused, HasResumeCause}

module _ {T : Type 0} (result : Result T ResumeStop) (stopped : (stop : ResumeStop) × (result ≡ Err stop) × (stop ≡ OutOfMemory)) where
  out-of-memory : result ≡ Err OutOfMemory
  out-of-memory = stopped.1 ∙ ap Err stopped.2

  -- a want of memory is no write fault
  pub memory-cause : (faults faults' : ℕ) → faults ≤ faults' → HasResumeCause faults faults' result
  memory-cause faults faults' later =
      record {
        later = later;
        failed = subst (λ (r : Result T ResumeStop). r ≡ Err WriteFault → Rose faults faults') (sym out-of-memory) (λ never. absurd (cc never));
      }

  -- and no refusal of the log
  pub memory-told : ¬ IsRefused result
  memory-told = subst (λ (r : Result T ResumeStop). ¬ IsRefused r) (sym out-of-memory) (λ refused. refused)

-- a call that stopped for the same reason as one that it made, before which some faults may have come
module _ {S T : Type 0} (first : Result S ResumeStop) (result : Result T ResumeStop) (stop : ResumeStop) (was : first ≡ Err stop)
    (is : result ≡ Err stop) where
  pub stops-later : (faults faults' faults'' : ℕ) → faults ≤ faults' → HasResumeCause faults' faults'' first
      → HasResumeCause faults faults'' result
  stops-later faults faults' faults'' later cause =
      let more = cause.later in
      record {
        later = omega arith;
        failed = λ failed.
            let same : stop ≡ WriteFault = (let told = sym is ∙ failed in cc told) in
            Rose-later faults faults' faults'' later (cause.failed (was ∙ ap Err same));
      }

  pub stops-told : ¬ IsRefused first → ¬ IsRefused result
  stops-told told refused = same stop (subst IsRefused is refused) (subst (λ (r : Result S ResumeStop). ¬ IsRefused r) was told)
    where
      same : (stop : ResumeStop) → IsRefused {T = T} (Err stop) → ¬ IsRefused {T = S} (Err stop) → ⊥
      same (LogLine number) refused told = told tt
      same (LogFit number) refused told = told tt
      same WriteFault refused told = refused
      same OutOfMemory refused told = refused

-- what follows from two facts that hold where there is a value
pub on-ok-both : {T E P Q S : Type 0} (r : Result T E) → (P → Q → S) → OnOk r P → OnOk r Q → OnOk r S
on-ok-both (Ok value) leads p q = leads p q
on-ok-both (Err stop) leads p q = tt
