use Rattle.std.proofs.Common.{◌≡◌, ◌++◌, take}
use Rattle.restart_log.specs.meaning.Tail.{redo_text}
use Rattle.restart_log.proofs.restarts.push_redo.Given as goal

-- the positions so far were appended
abbrev pub invariant-loop-position : goal.invariant-loop-position
invariant-loop-position l = l.text.items ≡ l.fn.text.items ++ redo_text (take l.position-index l.redo)
