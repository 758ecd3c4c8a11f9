-- Numbers drawn one after another, by a linear congruential generator (Knuth's constants of MMIX).
use Rattle.std.specs.Prelude.{ℕ, ◌+◌, ◌*◌, ◌/◌, ◌%◌, ◌^◌}

-- the state after a draw
unfoldable pub next : (state : ℕ) → ℕ
next state = (state * 6364136223846793005 + 1442695040888963407) % 2 ^ 64

-- what a draw gives that leaves this state: its upper 31 bits
unfoldable pub drawn : (state : ℕ) → ℕ
drawn state = state / 2 ^ 33

-- the three draws of a row, and the state after them
abbrev pub first : (state : ℕ) → ℕ
first state = drawn (next state)

abbrev pub second : (state : ℕ) → ℕ
second state = drawn (next (next state))

abbrev pub third : (state : ℕ) → ℕ
third state = drawn (next (next (next state)))

abbrev pub after_row : (state : ℕ) → ℕ
after_row state = next (next (next state))
