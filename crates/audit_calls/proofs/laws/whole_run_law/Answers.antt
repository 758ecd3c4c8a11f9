use Rattle.audit_calls.proofs.WholeRuns.{audit-is-lawful}
use Rattle.audit_calls.proofs.laws.whole_run_law.Goals as goal

pub returns : goal.returns
returns c = λ run faults journal read narrow whole answers. audit-is-lawful run faults journal narrow whole read answers
