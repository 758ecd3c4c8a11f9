use Rattle.text_places.specs.Expected.{AreExpected}
use Rattle.text_places.proofs.going.expected_after.Given as goal

abbrev pub invariant-loop-number : goal.invariant-loop-number
invariant-loop-number l = AreExpected l.text l.front l.number l.kinds.items
