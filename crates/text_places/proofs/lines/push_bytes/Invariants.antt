use Rattle.std.proofs.Common.{◌≡◌, ◌++◌, take, map}
use Rattle.text_places.specs.Shown.{shown_byte}
use Rattle.text_places.proofs.lines.push_bytes.Given as goal

abbrev pub invariant-loop-byte : goal.invariant-loop-byte
invariant-loop-byte l = l.text.items ≡ l.initial.text.items ++ map shown_byte (take l.byte-index l.bytes)
