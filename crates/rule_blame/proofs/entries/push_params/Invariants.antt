use Rattle.std.proofs.Common.{◌≡◌, ◌++◌, drop}
use Rattle.rule_blame.specs.DeclaredNames.{entries_of}
use Rattle.rule_blame.specs.Views.{entries_in}
use Rattle.rule_blame.proofs.entries.push_params.Given as goal

abbrev pub invariant-loop-param : goal.invariant-loop-param
invariant-loop-param l =
    entries_in l.entries.items ++ entries_of l.dollar l.line (drop l.param-index l.params)
    ≡ entries_in l.initial.entries.items ++ entries_of l.dollar l.line l.params
