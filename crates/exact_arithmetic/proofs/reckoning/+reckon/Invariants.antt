use Rattle.std.proofs.Common.{◌≡◌, ◌&&◌, drop, Some}
use Rattle.task_ast.specs.meaning.Value.{value_on}
use Rattle.task_ast.specs.View.{plain_links}
use Rattle.exact_arithmetic.specs.Exact.{stays_on}
use Rattle.exact_arithmetic.proofs.reckoning.+reckon.Given as goal

abbrev pub invariant-reckon_links-loop-link : goal.invariant-reckon_links-loop-link
invariant-reckon_links-loop-link l =
    let env = record l.env { regs = l.regs } in record {
      value : value_on (plain_links (drop l.link-index l.links)) env (Some l.so_far) ≡ value_on (plain_links l.links) env (Some l.fn.first);
      flag : (l.exact && stays_on (plain_links (drop l.link-index l.links)) env (Some l.so_far))
          ≡ (l.fn.exact && stays_on (plain_links l.links) env (Some l.fn.first));
    }
