-- What an expression is read under that may name data variables.
use Rattle.std.specs.Prelude.{ℤ, List, zip}
use Rattle.task_ast.specs.declared.env.Env.{Env}
use Rattle.task_ast.specs.meaning.Tree.{Name}

-- with these data variables, which have these values
abbrev pub with_data : List Name → List ℤ → Env → Env
with_data names values env = record env { regs = zip names values }
