use Rattle.std.proofs.Common.{◌≡◌, ◌++◌, take}
use Rattle.subthread.proofs.setting.write_each.Given as goal

abbrev pub invariant-loop-write : goal.invariant-loop-write
invariant-loop-write l = l.cells ≡ record l.fn.cells { written = l.fn.cells.written ++ take l.write-index l.writes }
