-- The pairs of a lock array and an atom that are held.
use Rattle.std.specs.Prelude.{Bool, false, not, ◌&&◌, List, [], ◌∷◌, ◌++◌, filter}
use Rattle.std.specs.Ordering.{int_eq}
use Rattle.std.specs.List.{list_any, list_all}
use Rattle.task_ast.specs.declared.tree.Atom.{Atom}
use Rattle.task_ast.specs.declared.tree.Atom.TheVariants as atom
use Rattle.task_ast.specs.meaning.Tree.{Name, Stmt, At, What, Lock, Unlock, If, Block, Nothing, Then}
use Rattle.task_ast.specs.meaning.Names.{is_name}

abbrev pub Pair : Type 0
Pair = Name × Atom

abbrev pub same_atom : Atom → Atom → Bool
same_atom (atom.Num v) (atom.Num w) = int_eq v w
same_atom (atom.Var x) (atom.Var y) = is_name x y
same_atom _ _ = false

abbrev pub same_pair : Pair → Pair → Bool
same_pair p q = is_name p.0 q.0 && same_atom p.1 q.1

-- a set of pairs is a list, of which only the members count
abbrev pub has : List Pair → Pair → Bool
has held p = list_any (same_pair p) held

abbrev pub without : List Pair → Pair → List Pair
without held p = filter (λ q. not (same_pair p q)) held

abbrev pub same_pairs : List Pair → List Pair → Bool
same_pairs a b = list_all (has b) a && list_all (has a) b

abbrev pub is_index : Name → Pair → Bool
is_index x p = same_atom (atom.Var x) p.1

abbrev mutual
  -- the pairs held after a statement, from those held before it
  pub held_after : Stmt → List Pair → List Pair
  held_after (At line w) held = held_by w held

  pub held_by : What → List Pair → List Pair
  held_by (Lock a i) held = held ++ (a, i) ∷ []
  held_by (Unlock a i) held = without held (a, i)
  held_by (If e a b) held = held_at_end a held
  held_by _ held = held

  -- the pairs held at the end of a block
  pub held_at_end : Block → List Pair → List Pair
  held_at_end Nothing held = held
  held_at_end (Then s b) held = held_at_end b (held_after s held)
