use Rattle.std.proofs.Common.{ap, Err}
use Rattle.call_cases.specs.Answers.{whole, line_failed, line_no_memory}
use Rattle.call_cases.proofs.lines.tell_line.Goals as goal

pub returns-in-Ok : goal.returns-in-Ok
returns-in-Ok g c = whole c.in-Ok.ensures.all

pub returns-in-Err-Failed : goal.returns-in-Err-Failed
returns-in-Err-Failed g c =
    line_failed c.in-Err-Failed.ensures.prefix (c.in-Err-Failed.ensures.cause.failed (ap Err c.in-Err-Failed.field-0-is))

pub returns-in-Err-OutOfMemory : goal.returns-in-Err-OutOfMemory
returns-in-Err-OutOfMemory g c = line_no_memory c.in-Err-OutOfMemory.ensures.prefix
