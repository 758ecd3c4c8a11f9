use Rattle.std.proofs.Common.{◌≡◌, drop, Some}
use Rattle.std.specs.Prelude.{zip}
use Rattle.task_ast.specs.meaning.Value.{value_on}
use Rattle.task_ast.specs.View.{plain_links}
use Rattle.one_thread.proofs.data.+values.Given as goal

abbrev pub invariant-chain_value-loop-link : goal.invariant-chain_value-loop-link
invariant-chain_value-loop-link l =
    let env = record l.env { regs = zip l.names l.registers } in
    value_on (plain_links (drop l.link-index l.links)) env (Some l.so_far) ≡ value_on (plain_links l.links) env (Some l.fn.first)
