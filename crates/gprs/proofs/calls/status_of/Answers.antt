use Rattle.command_line.specs.meaning.Words.{texts}
use Rattle.gprs.proofs.Kept.{run_kept, pipe_kept, audit_kept, ckpt_kept, log_kept, resume_kept}
use Rattle.gprs.proofs.calls.status_of.Goals as goal

pub returns-in-Run-clause-promised : goal.returns-in-Run-clause-promised
returns-in-Run-clause-promised g c = (
  c.gprs_run.result.journal,
  run_kept (texts c.args.words.now) _ c.in_ok-call_of.field-0 c.in_ok-call_of.ensures c.in-Run.is c.gprs_run.ensures.headline,
)

pub returns-in_ok-gate-in-Pipe-clause-promised : goal.returns-in_ok-gate-in-Pipe-clause-promised
returns-in_ok-gate-in-Pipe-clause-promised g c = (
  c.gprs_run_pipe.result.journal,
  pipe_kept (texts c.args.words.now) _ c.in_ok-call_of.field-0 c.in_ok-call_of.ensures c.in-Pipe.is c.gprs_run_pipe.ensures.headline,
)

pub returns-in-Audit-clause-promised : goal.returns-in-Audit-clause-promised
returns-in-Audit-clause-promised g c = (
  c.audit_run.result.journal,
  audit_kept (texts c.args.words.now) _ c.in_ok-call_of.field-0 c.in_ok-call_of.ensures c.in-Audit.is c.audit_run.ensures.headline,
)

pub returns-in-Ckpt-clause-promised : goal.returns-in-Ckpt-clause-promised
returns-in-Ckpt-clause-promised g c = (
  c.ckpt_run.result.journal,
  ckpt_kept (texts c.args.words.now) _ c.in_ok-call_of.field-0 c.in_ok-call_of.ensures c.in-Ckpt.is c.ckpt_run.ensures.headline,
)

pub returns-in-Log-clause-promised : goal.returns-in-Log-clause-promised
returns-in-Log-clause-promised g c = (
  c.log_run.result.journal,
  log_kept (texts c.args.words.now) _ c.in_ok-call_of.field-0 c.in_ok-call_of.ensures c.in-Log.is c.log_run.ensures.headline,
)

pub returns-in-Resume-clause-promised : goal.returns-in-Resume-clause-promised
returns-in-Resume-clause-promised g c = (
  c.resumed.result.journal,
  resume_kept (texts c.args.words.now) _ c.in_ok-call_of.field-0 c.in_ok-call_of.ensures c.in-Resume.is c.resumed.ensures.headline,
)
