use Rattle.std.proofs.Common.{◌≡◌, ◌++◌, take, map}
use Rattle.text_places.specs.Shown.{blank_byte}
use Rattle.text_places.proofs.lines.push_mark.Given as goal

abbrev pub invariant-loop-byte : goal.invariant-loop-byte
invariant-loop-byte l = l.text.items ≡ l.initial.text.items ++ map blank_byte (take l.byte-index l.before)
