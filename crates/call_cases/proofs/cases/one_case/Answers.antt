use Rattle.call_cases.proofs.OneCase.{run_case}
use Rattle.call_cases.proofs.cases.one_case.Goals as goal

pub returns : goal.returns
returns c = run_case
