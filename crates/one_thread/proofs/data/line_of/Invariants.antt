use Rattle.std.proofs.Common.{◌≡◌, ◌++◌, drop, map, option_map}
use Rattle.task_ast.specs.meaning.Action.{of_registers}
use Rattle.task_ast.specs.meaning.Control.{all_of}
use Rattle.task_ast.specs.View.{plain_exprs}
use Rattle.one_thread.proofs.data.line_of.Given as goal

abbrev pub invariant-loop-e : goal.invariant-loop-e
invariant-loop-e g l =
    option_map (λ vs. l.line ++ vs) (option_map (map (λ t. t l.registers))
    (all_of (map (λ e. of_registers l.names e l.env) (plain_exprs (drop l.e-index l.es)))))
    ≡ option_map (map (λ t. t l.registers)) (all_of (map (λ e. of_registers l.names e l.env) (plain_exprs l.es)))
