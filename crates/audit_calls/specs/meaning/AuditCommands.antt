-- The command `audit`, as one value of the record of promises.
use Rattle.std.specs.Prelude.{◌≡◌, ◌⊎◌, ℕ}
use Rattle.task_ast.specs.meaning.Tree.{Name}
use Rattle.gp_audit.specs.declared.verdict.Verdict.{Verdict}
use Rattle.gp_audit.specs.meaning.Answer.{verdict_text, verdict_status}
use Rattle.command_line.specs.meaning.AuditWords.{audited_by}
use Rattle.command_line.specs.declared.audit_words.Audited.{Audited}
use Rattle.call_cases.specs.declared.lines.Tool.TheVariants.{Gprs}
use Rattle.call_cases.specs.meaning.RunCommands.{MayRead as MayReadFor}
use Rattle.call_cases.specs.meaning.Commands.{Asking, Commands, unjournalled}
use Rattle.audit_calls.specs.meaning.Tried.{supplies}

-- A file that may be read for what the words ask: one of those of the run, or that of the trace.
pub data MayRead (audited : Audited) : Name → Type 0 where
  of_run : {name : Name} → MayReadFor audited.run name → MayRead audited name
  the_trace : MayRead audited audited.trace

-- the verdict was told: lawful, unlawful or incomplete
abbrev pub IsTold : ℕ → Type 0
IsTold status = (status ≡ 0) ⊎ (status ≡ 9) ⊎ (status ≡ 10)

-- what words ask for, and what that comes to by the files of the shelf
abbrev pub asking : Asking Audited Verdict
asking =
    record { tool = Gprs; reading = audited_by; program = λ audited. audited.run.program; files = λ _ files. files; supplies = supplies }

-- The promises: the status and the text tell the verdict. The error stream then took nothing, and no run over a journal begins.
abbrev pub commands : Commands Audited Verdict
commands = unjournalled asking MayRead verdict_status IsTold verdict_text
