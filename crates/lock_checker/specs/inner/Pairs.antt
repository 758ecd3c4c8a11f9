-- Pairs of the code as those that definitions see, and how sets of them change.
use Rattle.std.specs.Prelude.{◌≡◌, Bool, true, false, not, List, [], ◌∷◌, map}
use Rattle.task_ast.specs.declared.tree.Atom.{Atom}
use Rattle.task_ast.specs.declared.tree.Atom.TheVariants as atom
use Rattle.task_ast.specs.meaning.Held as plain
use Rattle.lock_checker.specs.declared.held.Pairs.{Pairs}
use Rattle.lock_checker.specs.declared.pair.LockIndex.{LockIndex}
use Rattle.lock_checker.specs.declared.pair.LockIndex.TheVariants.{Number, Variable}
use Rattle.lock_checker.specs.declared.pair.Pair.{Pair}

abbrev pub atom_of : LockIndex → Atom
atom_of (Number v) = atom.Num v
atom_of (Variable x) = atom.Var x.now

abbrev pub pair_of : Pair → plain.Pair
pair_of p = (p.array.now, atom_of p.index)

abbrev pub pairs_of : List Pair → List plain.Pair
pairs_of pairs = map pair_of pairs

abbrev pub pairs_in : Pairs → List plain.Pair
pairs_in pairs = pairs_of pairs.members.keys

-- whether exactly one of two tests holds
abbrev pub differ : Bool → Bool → Bool
differ true b = not b
differ false b = b

-- a pair was put in where it was none of the members, and else taken out
abbrev pub IsFlipped : List plain.Pair → plain.Pair → List plain.Pair → Type 0
IsFlipped old p new = (q : plain.Pair) → plain.has new q ≡ differ (plain.same_pair q p) (plain.has old q)

-- whether a pair is flipped an odd number of times
abbrev pub flips : List plain.Pair → plain.Pair → Bool
flips [] q = false
flips (p ∷ changes) q = differ (plain.same_pair q p) (flips changes q)

-- flips lead from one set to another
abbrev pub Leads : List plain.Pair → (changes : List plain.Pair) → List plain.Pair → Type 0
Leads old changes new = (q : plain.Pair) → plain.has new q ≡ differ (flips changes q) (plain.has old q)

-- two lists have the same members
abbrev pub HaveSame : List plain.Pair → List plain.Pair → Type 0
HaveSame a b = (q : plain.Pair) → plain.has a q ≡ plain.has b q

-- flips lead to the members of a list
abbrev pub Moves : List plain.Pair → (changes : List plain.Pair) → List plain.Pair → List plain.Pair → Type 0
Moves old changes new after = Leads old changes new × HaveSame new after

-- whether two lists of flips lead to the same members, from wherever they start
abbrev pub TellsAlike : Bool → List plain.Pair → List plain.Pair → Type 0
TellsAlike alike first second = (old a b : List plain.Pair) → Leads old first a → Leads old second b → alike ≡ plain.same_pairs a b
