use Rattle.std.proofs.Common.{◌≡◌, drop}
use Rattle.task_ast.specs.meaning.Names.{named}
use Rattle.task_ast.proofs.env.find_named.Given as goal

abbrev pub invariant-loop-pair : goal.invariant-loop-pair
invariant-loop-pair g l = named l.name l.pairs ≡ named l.name (drop l.pair-index l.pairs)
