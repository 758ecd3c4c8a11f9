use Rattle.std.proofs.Common.{◌≡◌, drop, Some}
use Rattle.task_ast.specs.meaning.Value.{value_on}
use Rattle.task_ast.specs.View.{plain_links}
use Rattle.task_ast.proofs.eval.+eval.Given as goal

abbrev pub invariant-eval_links-loop-link : goal.invariant-eval_links-loop-link
invariant-eval_links-loop-link l =
    let env = record l.env { regs = l.regs } in
    value_on (plain_links (drop l.link-index l.links)) env (Some l.so_far) ≡ value_on (plain_links l.links) env (Some l.fn.first)
