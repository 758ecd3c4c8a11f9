use Rattle.std.proofs.Common.{◌≡◌, take}
use Rattle.run_picture.proofs.values.copied_values.Given as goal

-- those so far were taken over
abbrev pub invariant-loop-pair : goal.invariant-loop-pair
invariant-loop-pair l = l.copy ≡ take l.pair-index l.values
