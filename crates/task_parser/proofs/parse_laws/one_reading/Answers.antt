use Rattle.task_parser.proofs.Whole.{one_program}
use Rattle.task_parser.proofs.OneReading.{program_or_fault, no_fault, one_fault}
use Rattle.task_parser.proofs.OneSpelling.{one_place}
use Rattle.task_parser.proofs.parse_laws.one_reading.Goals as goal

pub returns : goal.returns
returns c = record { either = program_or_fault; program = one_program; no_fault = no_fault; fault = one_fault; place = one_place }
