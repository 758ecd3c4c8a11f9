-- What each of the top calls is promised to do is what is promised where it takes the words.
use Rattle.std.proofs.Common.{◌≡◌, ℕ, List, sym, subst, ◌∙◌}
use Rattle.call_cases.specs.meaning.Headline.{Call, Headline}
use Rattle.call_cases.specs.meaning.RunCommands as run
use Rattle.batch_calls.specs.meaning.WaitingCommands as waiting
use Rattle.batch_calls.specs.meaning.CkptCommands as ckpt
use Rattle.batch_calls.specs.meaning.LogCommands as log
use Rattle.audit_calls.specs.meaning.AuditCommands as audit
use Rattle.resume_calls.specs.meaning.ResumeCommands as resume
use Rattle.gprs.specs.declared.choice.TopCall.{TopCall}
use Rattle.gprs.specs.declared.choice.TopCall.TheVariants.{Run, Pipe, Audit, Ckpt, Log, Resume}
use Rattle.gprs.specs.meaning.Choice.{top_call}
use Rattle.gprs.specs.meaning.Promises.{Promised}

module _ (words : List (List ℕ)) (call : Call) (taken : TopCall) (takes : taken ≡ top_call words) where
  kept : (made : TopCall) → taken ≡ made → Promised made call → Promised (top_call words) call
  kept made is promised = subst (λ t. Promised t call) (sym is ∙ takes) promised

  pub run_kept : taken ≡ Run → Headline run.commands call → Promised (top_call words) call
  unfolding Promised
  run_kept is headline = kept Run is headline

  pub pipe_kept : taken ≡ Pipe → Headline waiting.commands call → Promised (top_call words) call
  unfolding Promised
  pipe_kept is headline = kept Pipe is headline

  pub audit_kept : taken ≡ Audit → Headline audit.commands call → Promised (top_call words) call
  unfolding Promised
  audit_kept is headline = kept Audit is headline

  pub ckpt_kept : taken ≡ Ckpt → Headline ckpt.commands call → Promised (top_call words) call
  unfolding Promised
  ckpt_kept is headline = kept Ckpt is headline

  pub log_kept : taken ≡ Log → Headline log.commands call → Promised (top_call words) call
  unfolding Promised
  log_kept is headline = kept Log is headline

  pub resume_kept : taken ≡ Resume → Headline resume.commands call → Promised (top_call words) call
  unfolding Promised
  resume_kept is headline = kept Resume is headline
