-- Sets of pairs in the order of their indexes. The code keeps pairs in an ordered set. Its order tells two pairs apart
-- exactly where the definitions do, so that a look-up finds what `has` finds, and a change of the set at one pair is a
-- flip. Whether a pair with an index is there is found in the range that begins at the first place where such a pair
-- can stand.
use Rattle.std.proofs.Common.{◌≡◌, ◌+◌, ◌<◌, List, [], ◌∷◌, Bool, true, false, cond, refl, sym, ap, ◌∙◌, subst, take, get_or, length, true≢false}
use Rattle.std.specs.Prelude.{ℕ, not, ◌&&◌, ◌||◌, Some, slice_get, IfSome}
use Rattle.std.specs.declared.cmp.Ordering.{Ordering}
use Rattle.std.specs.declared.cmp.Ordering.TheVariants.{Less, Equal, Greater}
use Rattle.std.specs.declared.ops.Bound.TheVariants.{Included, Unbounded}
use Rattle.std.specs.Borrow.{Bor}
use Rattle.std.specs.List.{list_any}
use Rattle.std.specs.Ordering.{is_eq, is_gt, nat_cmp, ordering_then, ordering_reverse}
use Rattle.std.specs.Cmp.{tied_then}
use Rattle.std.specs.Cmp.Lexicographic.{slice_cmp}
use Rattle.std.specs.BTreeMap.{is_at}
use Rattle.std.specs.BTreeMap.Range.{IsLeBy}
use Rattle.std.specs.BTreeSet.{BTreeSet, contains, IsKeyRangeOf, IsKeyInRange}
use Rattle.std.proofs.lemmas.Bool.{false_from_ne_true, true_from_ne_false}
use Rattle.std.proofs.lemmas.Cmp.{nat_list_cmp_total, tied_itself}
use Rattle.std.proofs.lemmas.Map.Text.{is_eq-slice_cmp}
use Rattle.task_ast.specs.declared.tree.Atom.{Atom}
use Rattle.task_ast.specs.declared.tree.Atom.TheVariants as atom
use Rattle.task_ast.specs.meaning.Tree.{Name}
use Rattle.task_ast.specs.meaning.Names.{is_name}
use Rattle.task_ast.specs.meaning.Held as plain
use Rattle.lock_checker.specs.declared.pair.LockIndex.{LockIndex}
use Rattle.lock_checker.specs.declared.pair.LockIndex.TheVariants.{Number, Variable}
use Rattle.lock_checker.specs.declared.pair.Pair.{Pair}
use Rattle.lock_checker.specs.inner.Pairs.{atom_of, pair_of, pairs_of, differ, IsFlipped, Leads}
use Rattle.std.proofs.lemmas.List.{map-append, take_more}
use Rattle.lock_checker.proofs.ChangeLemmas.{lead_one, leads_on}
use Rattle.lock_checker.proofs.SamePairs.{equal_bools, same_atom_is, same_pair_is, same_pair_itself, member_of, member_passes}
use Rattle.lock_checker.specs.contracts.pair.PairOrd.TheImpl as pair_ord
use Rattle.lock_checker.specs.contracts.pair.LockIndexOrd.TheImpl as index_ord
use Rattle.lock_checker.specs.contracts.pair.LockIndexPartialEq.TheImpl as index_eq

abbrev pub pair_cmp : Pair → Pair → Ordering
pair_cmp = pair_ord.ghosts.cmp

abbrev pub index_cmp : LockIndex → LockIndex → Ordering
index_cmp = index_ord.ghosts.cmp

and_turned : (a b : Bool) → (a && b) ≡ (b && a)
and_turned true true = refl
and_turned true false = refl
and_turned false true = refl
and_turned false false = refl

-- indexes that the order cannot tell apart are one atom
same_index : (i j : LockIndex) → is_eq (index_cmp i j) ≡ plain.same_atom (atom_of i) (atom_of j)
same_index (Number v) (Number w) = refl
same_index (Variable x) (Variable y) = is_eq-slice_cmp x.now y.now
same_index (Number v) (Variable y) = refl
same_index (Variable x) (Number w) = refl

-- what `==` answers at a variable
pub index_eq-told : (x : Bor Name) (i : LockIndex) → index_eq.ghosts.eq (Variable x) i ≡ plain.same_atom (atom.Var x.now) (atom_of i)
index_eq-told x (Number v) = refl
index_eq-told x (Variable y) = refl

-- so are pairs
same_key : (p k : Pair) → is_at (pair_cmp p) k ≡ plain.same_pair (pair_of p) (pair_of k)
same_key p k =
    sym (tied_then (index_cmp p.index k.index) (slice_cmp nat_cmp p.array.now k.array.now))
    ∙ and_turned (is_eq (index_cmp p.index k.index)) (is_eq (slice_cmp nat_cmp p.array.now k.array.now))
    ∙ ap (λ b. b && is_eq (index_cmp p.index k.index)) (is_eq-slice_cmp p.array.now k.array.now)
    ∙ ap (λ b. is_name p.array.now k.array.now && b) (same_index p.index k.index)

-- what the set finds
pub has_told : (p : Pair) (keys : List Pair) → list_any (is_at (pair_cmp p)) keys ≡ plain.has (pairs_of keys) (pair_of p)
has_told p [] = refl
has_told p (k ∷ keys) =
    ap (λ b. b || list_any (is_at (pair_cmp p)) keys) (same_key p k)
    ∙ ap (λ b. plain.same_pair (pair_of p) (pair_of k) || b) (has_told p keys)

-- a pair of the code for each pair
abbrev pub borrowed : Name → Bor Name
borrowed x = record { ref_ptr = (0, 0); now = x }

abbrev key_index : Atom → LockIndex
key_index (atom.Num v) = Number v
key_index (atom.Var x) = Variable (borrowed x)

abbrev key_of : plain.Pair → Pair
key_of p = record { index = key_index p.1; array = borrowed p.0 }

key_atom : (i : Atom) → atom_of (key_index i) ≡ i
key_atom (atom.Num v) = refl
key_atom (atom.Var x) = refl

key_pair : (p : plain.Pair) → pair_of (key_of p) ≡ p
key_pair p = ap (λ i. (p.0, i)) (key_atom p.1)

found_told : (p : plain.Pair) (keys : List Pair) → list_any (is_at (pair_cmp (key_of p))) keys ≡ plain.has (pairs_of keys) p
found_told p keys = has_told (key_of p) keys ∙ ap (plain.has (pairs_of keys)) (key_pair p)

pub same_pair-turned : (p q : plain.Pair) → plain.same_pair p q ≡ plain.same_pair q p
same_pair-turned p q =
    equal_bools (plain.same_pair p q) (plain.same_pair q p) (λ h. ap (plain.same_pair q) (same_pair_is p q h) ∙ same_pair_itself q)
    (λ h. ap (plain.same_pair p) (same_pair_is q p h) ∙ same_pair_itself p)

-- the set whose look-ups changed at one pair
pub flipped : (p : Pair) (old new : List Pair) (b : Bool) → list_any (is_at (pair_cmp p)) old ≡ b
    → ((k : Pair) → list_any (is_at (pair_cmp k)) new ≡ cond (is_at (pair_cmp p) k) (not b) (list_any (is_at (pair_cmp k)) old))
    → IsFlipped (pairs_of old) (pair_of p) (pairs_of new)
flipped p old new b was changed q =
    sym (found_told q new) ∙ changed (key_of q)
    ∙ ap (λ t. cond t (not b) (list_any (is_at (pair_cmp (key_of q))) old))
    (same_key p (key_of q) ∙ ap (plain.same_pair (pair_of p)) (key_pair q) ∙ same_pair-turned (pair_of p) q)
    ∙ ap (λ h. cond (plain.same_pair q (pair_of p)) (not b) h) (found_told q old)
    ∙ by (plain.same_pair q (pair_of p)) refl
  where
    by : (t : Bool) → plain.same_pair q (pair_of p) ≡ t
        → cond t (not b) (plain.has (pairs_of old) q) ≡ differ t (plain.has (pairs_of old) q)
    by true is = ap not (sym was ∙ has_told p old ∙ ap (plain.has (pairs_of old)) (sym (same_pair_is q (pair_of p) is)))
    by false is = refl

module _ (x : Bor Name) where
  -- the first place in the order where a pair with this index can stand
  abbrev least : Pair
  least = record { index = Variable x; array = borrowed [] }

  abbrev key_with : Name → Pair
  key_with a = record { index = Variable x; array = borrowed a }

  low_end : (o : Ordering) (a : Name) → o ≡ Equal → is_gt (ordering_then o (slice_cmp nat_cmp [] a)) ≡ false
  low_end o [] is = ap (λ c. is_gt (ordering_then c Equal)) is
  low_end o (b ∷ a) is = ap (λ c. is_gt (ordering_then c Less)) is

  from_least : (a : Name) → is_gt (pair_cmp least (key_with a)) ≡ false
  from_least a = low_end (slice_cmp nat_cmp x.now x.now) a (tied_itself nat_list_cmp_total x.now)

  -- a pair with another index that is not before the first place is after all pairs with this one
  other_after : (k : Pair) (a : Name) → plain.same_atom (atom.Var x.now) (atom_of k.index) ≡ false → is_gt (pair_cmp least k) ≡ false
      → is_gt (pair_cmp k (key_with a)) ≡ true
  other_after k a other from = by k.index other from
    where
      by : (i : LockIndex) → plain.same_atom (atom.Var x.now) (atom_of i) ≡ false
          → is_gt (ordering_then (index_cmp (Variable x) i) (slice_cmp nat_cmp [] k.array.now)) ≡ false
          → is_gt (ordering_then (index_cmp i (Variable x)) (slice_cmp nat_cmp k.array.now a)) ≡ true
      by (Number v) other from = absurd (true≢false from)
      by (Variable y) other from = turned (slice_cmp nat_cmp x.now y.now) refl (is_eq-slice_cmp x.now y.now ∙ other) from
        where
          turned : (o : Ordering) → slice_cmp nat_cmp x.now y.now ≡ o → is_eq (slice_cmp nat_cmp x.now y.now) ≡ false
              → is_gt (ordering_then (slice_cmp nat_cmp x.now y.now) (slice_cmp nat_cmp [] k.array.now)) ≡ false
              → is_gt (ordering_then (slice_cmp nat_cmp y.now x.now) (slice_cmp nat_cmp k.array.now a)) ≡ true
          turned Less is apart from =
              ap (λ o. is_gt (ordering_then o (slice_cmp nat_cmp k.array.now a)))
              (nat_list_cmp_total.antisymm y.now x.now ∙ ap ordering_reverse is)
          turned Equal is apart from = absurd (true≢false (sym (ap is_eq is) ∙ apart))
          turned Greater is apart from =
              absurd (true≢false (sym (ap (λ o. is_gt (ordering_then o (slice_cmp nat_cmp [] k.array.now))) is) ∙ from))

  module _ (set : BTreeSet Pair) (found : List Pair) (range : IsKeyRangeOf pair_cmp (Included least) Unbounded set found) where
    -- a pair with this index is in the range
    member_in_range : list_any (plain.is_index x.now) (pairs_of set.keys) ≡ true → (a : Name) × (contains pair_cmp set (key_with a) ≡ true)
    member_in_range h =
        let m = member_of (plain.is_index x.now) (pairs_of set.keys) h in
        let is : pair_of (key_with m.0.0) ≡ m.0 = ap (λ i. (m.0.0, i)) (same_atom_is (atom.Var x.now) m.0.1 m.2) in
        (m.0.0, has_told (key_with m.0.0) set.keys ∙ ap (plain.has (pairs_of set.keys)) is ∙ m.1)

    -- nothing is there
    pub no_index : found ≡ [] → false ≡ list_any (plain.is_index x.now) (pairs_of set.keys)
    no_index is =
        sym (false_from_ne_true (list_any (plain.is_index x.now) (pairs_of set.keys))
        (λ h. let m = member_in_range h in true≢false (sym m.1 ∙ range.5 is (key_with m.0) (from_least m.0, tt))))

    -- the first there
    pub first_tells : (k : Pair) (rest : List Pair) → found ≡ k ∷ rest
        → plain.is_index x.now (pair_of k) ≡ list_any (plain.is_index x.now) (pairs_of set.keys)
    first_tells k rest is = equal_bools (plain.is_index x.now (pair_of k)) (list_any (plain.is_index x.now) (pairs_of set.keys)) there back
      where
        first : slice_get found 0 ≡ Some k
        first = ap (λ l. slice_get l 0) is

        inside : IsKeyInRange pair_cmp (Included least) Unbounded set k
        inside = subst (λ o. IfSome o (IsKeyInRange pair_cmp (Included least) Unbounded set)) first range.1

        there : plain.is_index x.now (pair_of k) ≡ true → list_any (plain.is_index x.now) (pairs_of set.keys) ≡ true
        there h = member_passes (plain.is_index x.now) (pairs_of set.keys) (pair_of k) (sym (has_told k set.keys) ∙ inside.1) h

        back : list_any (plain.is_index x.now) (pairs_of set.keys) ≡ true → plain.is_index x.now (pair_of k) ≡ true
        back h =
            let m = member_in_range h in
            let before : is_gt (pair_cmp k (key_with m.0)) ≡ false =
            subst (λ o. IfSome o (λ f. IsLeBy pair_cmp f (key_with m.0))) first (range.2 (key_with m.0) (from_least m.0, tt) m.1) in
            true_from_ne_false (plain.is_index x.now (pair_of k)) (λ other. true≢false (sym (other_after k m.0 other inside.0.0) ∙ before))

-- one more of a list of flips
pub leads_more : (old mid new : List plain.Pair) (changes : List Pair) (i : ℕ) (d : Pair) → i < length changes
    → Leads old (pairs_of (take i changes)) mid → IsFlipped mid (pair_of (get_or changes i d)) new
    → Leads old (pairs_of (take (i + 1) changes)) new
leads_more old mid new changes i d within leads flipped =
    subst (λ l. Leads old l new) (sym (ap pairs_of (take_more changes i d within)
    ∙ map-append pair_of (take i changes) (get_or changes i d ∷ [])))
    (leads_on old mid new (pairs_of (take i changes)) (pair_of (get_or changes i d) ∷ []) leads
    (lead_one mid new (pair_of (get_or changes i d)) flipped))
