-- What the call that takes the words is promised to do.
use Rattle.call_cases.specs.meaning.Headline.{Call, Headline}
use Rattle.call_cases.specs.meaning.RunCommands as run
use Rattle.batch_calls.specs.meaning.WaitingCommands as waiting
use Rattle.batch_calls.specs.meaning.CkptCommands as ckpt
use Rattle.batch_calls.specs.meaning.LogCommands as log
use Rattle.audit_calls.specs.meaning.AuditCommands as audit
use Rattle.resume_calls.specs.meaning.ResumeCommands as resume
use Rattle.gprs.specs.declared.choice.TopCall.{TopCall}
use Rattle.gprs.specs.declared.choice.TopCall.TheVariants.{Run, Pipe, Audit, Ckpt, Log, Resume}

-- the promises of each of them
unfoldable pub Promised : TopCall → Call → Type 0
Promised Run call = Headline run.commands call
Promised Pipe call = Headline waiting.commands call
Promised Audit call = Headline audit.commands call
Promised Ckpt call = Headline ckpt.commands call
Promised Log call = Headline log.commands call
Promised Resume call = Headline resume.commands call
