use Rattle.std.proofs.Common.{◌≡◌, ◌++◌, take}
use Rattle.restart_log.specs.meaning.Lines.{printed}
use Rattle.restart_log.proofs.lines.push_lines.Given as goal

-- the lines so far were appended
abbrev pub invariant-loop-line : goal.invariant-loop-line
invariant-loop-line l = l.text.items ≡ l.fn.text.items ++ printed (take l.line-index l.line-items)
