use Rattle.std.proofs.Common.{take}
use Rattle.lock_checker.specs.inner.Pairs.{pairs_of, pairs_in, Leads}
use Rattle.lock_checker.proofs.held.Pairs.flip_all.Given as goal

abbrev pub invariant-loop-p : goal.invariant-loop-p
invariant-loop-p l = Leads (pairs_in l.initial.self) (pairs_of (take l.p-index l.changes)) (pairs_in l.self)
