use Rattle.std.proofs.Common.{◌≡◌, ◌&&◌, drop, Some}
use Rattle.task_ast.specs.meaning.Value.{value_on}
use Rattle.task_ast.specs.View.{plain_links}
use Rattle.exact_arithmetic.specs.Exact.{stays_on}
use Rattle.run_counts.specs.Data.{with_data}
use Rattle.run_counts.proofs.data.+values.Given as goal

abbrev pub invariant-chain_data-loop-link : goal.invariant-chain_data-loop-link
invariant-chain_data-loop-link l =
    let env = with_data l.names l.registers l.env in record {
      value : value_on (plain_links (drop l.link-index l.links)) env (Some l.so_far) ≡ value_on (plain_links l.links) env (Some l.fn.first);
      flag : (l.exact && stays_on (plain_links (drop l.link-index l.links)) env (Some l.so_far))
          ≡ (l.fn.exact && stays_on (plain_links l.links) env (Some l.fn.first));
    }
