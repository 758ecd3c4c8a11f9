use Rattle.std.proofs.Common.{◌≡◌, ◌+◌, ◌≤◌, length, take}
use Rattle.std.specs.List.{suffix_len}
use Rattle.text_places.specs.Places.{is_line_byte}
use Rattle.text_places.proofs.place.line_start.Given as goal

abbrev pub invariant-loop-start : goal.invariant-loop-start
invariant-loop-start l =
    (l.start ≤ length l.before)
    × (l.start + suffix_len is_line_byte l.before ≡ length l.before + suffix_len is_line_byte (take l.start l.before))

abbrev pub decreases-loop-start : goal.decreases-loop-start
decreases-loop-start l = l.start
