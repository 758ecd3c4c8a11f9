-- Cells outside a feed.
use Rattle.std.proofs.Common.{◌≡◌, ℕ, ℤ, ◌+◌, ◌*◌, ◌<◌, ◌≤◌, Bool, true, false, cond, List, length, Option, None, arith, refl}
use Rattle.std.specs.Prelude.{slice_get, nat_lt}
use Rattle.std.proofs.Math.Nat.{le-mul_of_pos_right}
use Rattle.std.proofs.lemmas.Option.{slice_get_past}

either_none : (b : Bool) (o : Option ℤ) → o ≡ None → cond b o None ≡ None
either_none true o e = e
either_none false o e = refl

-- a row that isn't below the number of all cells has no cell
pub cell_past : (fields row field : ℕ) (cells : List ℤ) → 0 < fields → length cells ≤ row →
    cond (nat_lt field fields) (slice_get cells (row * fields + field)) None ≡ None
cell_past fields row field cells some past =
    either_none (nat_lt field fields) _ (slice_get_past cells (row * fields + field) (omega (arith, le-mul_of_pos_right row some)))
