use Rattle.std.proofs.Common.{◌≡◌, ◌++◌, codes, decimal, flat_map, take}
use Rattle.soak_batch.proofs.rows.push_row.Given as goal

-- the numbers so far
abbrev pub invariant-loop-other : goal.invariant-loop-other
invariant-loop-other l =
    l.text.items ≡ l.fn.text.items ++ (decimal l.number ++ flat_map (λ other. codes "," ++ decimal other) (take l.other-index l.others))
