use Rattle.std.proofs.Common.{◌≡◌, ◌++◌, codes, drop}
use Rattle.std.specs.Prelude.{flat_map}
use Rattle.run_picture.specs.meaning.Attempts.{value_text}
use Rattle.run_picture.proofs.attempts.push_others.Given as goal

-- the values so far, and those that are left, are all
abbrev pub invariant-loop-value : goal.invariant-loop-value
invariant-loop-value l =
    l.text.items ++ flat_map (λ y. codes ", " ++ value_text y) (drop l.value-index l.values)
    ≡ l.fn.text.items ++ flat_map (λ y. codes ", " ++ value_text y) l.values
