-- The commands of runs that go on are sound.
use Rattle.std.proofs.Common.{inl, inr, refl}
use Rattle.gp_base.specs.declared.ending.End.{End}
use Rattle.gp_base.specs.declared.ending.End.TheVariants.{Finished, Stuck, Spent}
use Rattle.gp_resume.specs.meaning.Resumed as rest
use Rattle.call_cases.specs.Commands.{AreSound}
use Rattle.call_cases.specs.meaning.RunCommands.{IsWhole, end_status}
use Rattle.call_cases.proofs.RunSound.{whole_apart}
use Rattle.resume_calls.specs.meaning.Resumption.{Resumption}
use Rattle.resume_calls.specs.meaning.ResumeCommands.{rest_status, commands}
use Rattle.resume_calls.proofs.HaltedCases.{resume_case}

end_whole : (end : End) → IsWhole (end_status end)
end_whole Finished = inl refl
end_whole (Stuck why thread line) = inr (inl refl)
end_whole (Spent position) = inr (inr refl)

rest_whole : (resumption : Resumption) → IsWhole (rest_status resumption)
rest_whole resumption =
    end_whole (rest.end resumption.work.program resumption.work.inputs resumption.work.limits resumption.rows)

pub commands_sound : AreSound commands
commands_sound =
    record {
      ends = rest_whole;
      apart = whole_apart;
      begins = λ resumption journal empty. tt;
      unbegun = λ resumption journal written faults empty. tt;
      once = resume_case;
    }
