use Rattle.std.proofs.Common.{◌≡◌, ◌++◌, drop}
use Rattle.run_views.specs.meaning.Waits.{waits_text}
use Rattle.run_views.proofs.waits.push_waits.Given as goal

-- the lines so far, and those of the threads that are left, are all
abbrev pub invariant-loop-t : goal.invariant-loop-t
invariant-loop-t l =
    l.text.items ++ waits_text l.heads l.owners l.t (drop l.t l.nexts) ≡ l.fn.text.items ++ waits_text l.heads l.owners 0 l.nexts
