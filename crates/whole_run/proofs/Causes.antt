-- Where a write fault comes from, as the counts of two sinks tell.
use Rattle.std.proofs.Common.{inl, inr, ℕ, arith, Result, Ok, Err}
use Rattle.reorder_list.specs.declared.report.Report.{Report}
use Rattle.reorder_list.specs.declared.report.EngineStop.{EngineStop}
use Rattle.whole_run.specs.Drive.{HasRunCause, HasRunCauses}

-- where the log's sink never fails, the fault is the output's
pub never-fails : (before after : ℕ) (result : Result Report EngineStop) → HasRunCauses before after 0 0 result
    → HasRunCause before after result
never-fails before after (Ok report) causes = record { later = causes.later; failed = tt }
never-fails before after (Err stop) causes =
    record {
      later = causes.later;
      failed = λ why. elim (causes.failed why) [ inl rose ↦ rose | inr none ↦ absurd (omega (arith, none)) ];
    }
