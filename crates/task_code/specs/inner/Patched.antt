-- Jumps that are written after what they pass.
use Rattle.std.specs.Prelude.{ℕ, ◌-◌, List, [], ◌∷◌, ◌++◌, length, slice_set}
use Rattle.task_code.specs.Instructions.{Instr, At, Calc, GoOn, Unless, Again}

-- a loop's first jump, and its test
abbrev pub ended_while : (line : ℕ) → Calc → (start : ℕ) → List Instr → List Instr
ended_while line c start code =
    slice_set code start (At line (GoOn (length code - start - 1))) ++ At line (Again c (length code - start - 1)) ∷ []

-- a choice's two jumps
abbrev pub ended_if : (line : ℕ) → Calc → (start middle : ℕ) → List Instr → List Instr
ended_if line c start middle code =
    slice_set (slice_set code start (At line (Unless c (middle - start)))) middle (At line (GoOn (length code - middle - 1)))
