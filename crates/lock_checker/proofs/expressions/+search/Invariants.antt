use Rattle.std.proofs.Common.{◌≡◌, drop}
use Rattle.task_ast.specs.View.{plain_links}
use Rattle.lock_checker.specs.inner.Sought.{found_among}
use Rattle.lock_checker.proofs.expressions.+search.Given as goal

abbrev pub invariant-finds_among-loop-link : goal.invariant-finds_among-loop-link
invariant-finds_among-loop-link l =
    found_among l.sought (plain_links (drop l.link-index l.links)) ≡ found_among l.sought (plain_links l.links)
