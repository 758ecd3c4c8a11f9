use Rattle.std.proofs.Common.{◌≡◌, ◌++◌, take}
use Rattle.memory_batch.proofs.files.push_files.Given as goal

-- those so far are there
abbrev pub invariant-loop-name : goal.invariant-loop-name
invariant-loop-name l = l.files ≡ l.fn.files ++ take l.name-index l.more
