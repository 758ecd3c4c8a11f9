use Rattle.std.proofs.Common.{arith}
use Rattle.std.proofs.lemmas.Bool.Decides.{Decides-int_eq}
use Rattle.std.proofs.lemmas.Int.{to_z-of_z}
use Rattle.task_ast.proofs.Division.{wrapping_div_is}
use Rattle.task_ast.proofs.operate.quotient.Goals as goal

pub returns-else-b-eq0 : goal.returns-else-b-eq0
returns-else-b-eq0 c = grind (arith, Decides-int_eq, to_z-of_z, wrapping_div_is)
