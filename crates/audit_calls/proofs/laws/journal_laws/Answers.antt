use Rattle.audit_calls.proofs.NumberedRestarts.{lines-lawful}
use Rattle.gp_audit.proofs.Orders.{order-is}
use Rattle.audit_calls.proofs.JournalTexts.{text-is}
use Rattle.audit_calls.proofs.laws.journal_laws.Goals as goal

pub returns-clause-text : goal.returns-clause-text
returns-clause-text c = λ journal. text-is journal.restarts journal.events

pub returns-clause-lines : goal.returns-clause-lines
returns-clause-lines c =
    λ dependence faults journal lawful first n. lines-lawful dependence faults journal.restarts journal.events lawful first n

pub returns-clause-order : goal.returns-clause-order
returns-clause-order c = λ run. order-is run
