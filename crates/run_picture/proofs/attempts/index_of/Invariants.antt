use Rattle.std.proofs.Common.{◌≡◌, drop}
use Rattle.task_ast.specs.meaning.Names.{locks_of}
use Rattle.run_picture.specs.meaning.Attempts.{index_in}
use Rattle.run_picture.proofs.attempts.index_of.Given as goal

-- the lock is the one of this number among those that are left
abbrev pub invariant-loop-head : goal.invariant-loop-head
invariant-loop-head l = index_in (locks_of (drop l.head-index l.heads)) l.left ≡ index_in (locks_of l.heads) l.fn.lock
