-- The commands of an audit are sound.
use Rattle.std.proofs.Common.{ℕ, inl, inr, refl, arith}
use Rattle.gp_audit.specs.declared.verdict.Verdict.{Verdict}
use Rattle.gp_audit.specs.declared.verdict.Verdict.TheVariants.{Lawful, Unlawful, Incomplete}
use Rattle.gp_audit.specs.meaning.Answer.{verdict_status}
use Rattle.call_cases.specs.Commands.{IsApart, AreSound}
use Rattle.audit_calls.specs.meaning.AuditCommands.{IsTold, commands}
use Rattle.audit_calls.proofs.TrialCases.{audit_case}

verdict_told : (verdict : Verdict) → IsTold (verdict_status verdict)
verdict_told Lawful = inl refl
verdict_told (Unlawful number) = inr (inl refl)
verdict_told Incomplete = inr (inr refl)

told_apart : (status : ℕ) → IsTold status → IsApart status
told_apart status (inl is) = inl is
told_apart status (inr (inl is)) = inr (inr (inr (omega (arith, is))))
told_apart status (inr (inr is)) = inr (inr (inr (omega (arith, is))))

pub commands_sound : AreSound commands
commands_sound =
    record {
      ends = verdict_told;
      apart = told_apart;
      begins = λ verdict journal empty. tt;
      unbegun = λ verdict journal written faults empty. tt;
      once = audit_case;
    }
