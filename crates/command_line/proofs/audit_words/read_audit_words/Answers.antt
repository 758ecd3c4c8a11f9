use Rattle.std.proofs.Common.{refl, Some, None}
use Rattle.std.specs.Prelude.{Ok, codes}
use Rattle.command_line.specs.meaning.Words.{texts}
use Rattle.command_line.specs.meaning.AuditWords.{for_audit, audited_in}
use Rattle.command_line.proofs.AskedFacts.{read_named}
use Rattle.command_line.proofs.audit_words.read_audit_words.Goals as goal

pub returns-in-Some-clause-audited : goal.returns-in-Some-clause-audited
unfolding for_audit
returns-in-Some-clause-audited c =
    read_named audited_in for_audit (texts c.args.words.now) (Some c.in-Some.matches) c.in_ok-matches.field-0 c.in-Some.is c.audited_in.result
    c.audited_in.ensures.audited (codes "audit") c.in_ok-matches.ensures

pub returns-in-None-clause-audited : goal.returns-in-None-clause-audited
unfolding for_audit
returns-in-None-clause-audited c =
    read_named audited_in for_audit (texts c.args.words.now) None c.in_ok-matches.field-0 c.in-None.is (Ok None) refl (codes "audit")
    c.in_ok-matches.ensures
