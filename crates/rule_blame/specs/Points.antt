-- The statements of a task, each with the pairs of a lock array and an index that are held before it.
use Rattle.std.specs.Prelude.{ℕ, List, [], ◌∷◌, ◌++◌}
use Rattle.task_ast.specs.meaning.Tree.{Stmt, At, What, While, If, When, Block, Nothing, Then}
use Rattle.task_ast.specs.meaning.Held.{Pair, held_after}

pub record Point : Type 0 where
  pub line : ℕ
  pub what : What
  pub held : List Pair

abbrev mutual
  -- a statement and those in its blocks, in text order
  pub points_of : Stmt → List Pair → List Point
  points_of (At line w) held = record { line = line; what = w; held = held } ∷ points_inside w held

  pub points_inside : What → List Pair → List Point
  points_inside (While e b) held = points_in b held
  points_inside (If e a b) held = points_in a held ++ points_in b held
  points_inside (When e a b) held = points_in a held ++ points_in b held
  points_inside _ held = []

  pub points_in : Block → List Pair → List Point
  points_in Nothing held = []
  points_in (Then s b) held = points_of s held ++ points_in b (held_after s held)
