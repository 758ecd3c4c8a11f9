use Rattle.std.proofs.Common.{rules}
use Rattle.restart_log.proofs.tail.tail_text.Goals as goal

pub returns : goal.returns
returns c = search rules
