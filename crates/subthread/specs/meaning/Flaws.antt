-- Flaws of the machine, and which of them walks that are made twice spare.
use Rattle.std.specs.Prelude.{◌≡◌, ℕ, List}
use Rattle.std.specs.List.{Contains}
use Rattle.subthread.specs.declared.flaw.Flaw.{Flaw}
use Rattle.subthread.specs.declared.flaw.Made.{Made}

-- one of the flaws makes this of a walk of an attempt of the subthread at a position
abbrev pub Strikes : List Flaw → (position attempt walk : ℕ) → Made → Type 0
Strikes flaws p a k made = Contains flaws (record { pos = p; attempt = a; walk = k; made = made })

-- no two walks of one attempt err alike
abbrev pub Spares : List Flaw → Type 0
Spares flaws = (p a j k : ℕ) (made : Made) → Strikes flaws p a j made → Strikes flaws p a k made → j ≡ k
