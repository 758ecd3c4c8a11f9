use Rattle.task_ast.specs.meaning.Names.{locks_of}
use Rattle.task_ast.proofs.Layouts.{laid_out, accepted_sizes, over_is, based}
use Rattle.task_ast.proofs.laws.layout_laws.Goals as goal

pub returns : goal.returns
returns c = record { layout = laid_out; sizes = accepted_sizes; over = λ heads. over_is (locks_of heads) heads; base = based }
