use Rattle.std.proofs.Common.{◌≡◌, ◌++◌, drop}
use Rattle.rule_blame.specs.DeclaredNames.{line_entries}
use Rattle.rule_blame.specs.Views.{entries_in}
use Rattle.rule_blame.proofs.entries.push_lines.Given as goal

abbrev pub invariant-loop-vars : goal.invariant-loop-vars
invariant-loop-vars l =
    entries_in l.entries.items ++ line_entries l.dollar (drop l.vars-index l.lines)
    ≡ entries_in l.initial.entries.items ++ line_entries l.dollar l.lines
