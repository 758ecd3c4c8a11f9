-- The rows of the batch's files.
use Rattle.std.specs.Prelude.{ℕ, zero, suc, ◌+◌, ◌*◌, ◌%◌, List, [], ◌∷◌, ◌++◌, codes, decimal, flat_map}
use Rattle.soak_batch.specs.meaning.Draws.{first, second, third, after_row}

-- a row of a file: its numbers with a comma between each two
abbrev pub row : (number : ℕ) → (others : List ℕ) → List ℕ
row number others = decimal number ++ flat_map (λ other. codes "," ++ decimal other) others ++ codes "\n"

-- so many accounts from this one, with 1000 each
abbrev pub account_rows : (account count : ℕ) → List ℕ
account_rows account zero = []
account_rows account (suc count) = row account (1000 ∷ []) ++ account_rows (suc account) count

-- a move between two of 100 accounts, of an amount from 1 to 500
abbrev pub move_row : (state : ℕ) → List ℕ
move_row state =
    let giver = first state % 100 in
    row giver ((giver + 1 + second state % 99) % 100 ∷ (third state % 500 + 1) ∷ [])

-- so many moves, drawn from this state
abbrev pub move_rows : (count state : ℕ) → List ℕ
move_rows zero state = []
move_rows (suc count) state = move_row state ++ move_rows count (after_row state)

-- the state after so many rows
abbrev pub after_rows : (count state : ℕ) → ℕ
after_rows zero state = state
after_rows (suc count) state = after_rows count (after_row state)

-- a fault of the first attempt at a position of this part of the run, where the parts have this width
abbrev pub fault_row : (width part state : ℕ) → List ℕ
fault_row width part state = row (part * width + first state % width) (0 ∷ second state % 65 ∷ (third state + 1) ∷ [])

-- so many faults from this part on, drawn from this state
abbrev pub drawn_rows : (width part count state : ℕ) → List ℕ
drawn_rows width part zero state = []
drawn_rows width part (suc count) state = fault_row width part state ++ drawn_rows width (suc part) count (after_row state)
