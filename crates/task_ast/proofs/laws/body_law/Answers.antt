use Rattle.task_ast.specs.meaning.Control.{step, size}
use Rattle.task_ast.proofs.Bodies.{body_step}
use Rattle.task_ast.proofs.Sizes.{tree_sized}
use Rattle.task_ast.proofs.laws.body_law.Goals as goal

pub returns : goal.returns
returns c = λ s turns p. body_step (step s) size (tree_sized s) turns p
