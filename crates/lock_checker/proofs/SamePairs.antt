-- Sets of pairs with the same members.
use Rattle.std.proofs.Common.{◌≡◌, List, [], ◌∷◌, ◌++◌, Bool, true, false, refl, sym, ap, ◌∙◌, subst, true≢false}
use Rattle.std.specs.Prelude.{cond, not, ◌&&◌, ◌||◌}
use Rattle.std.specs.List.{list_any, list_all}
use Rattle.std.proofs.lemmas.Bool.Decides.{Decides-int_eq}
use Rattle.task_ast.specs.declared.tree.Atom.{Atom}
use Rattle.task_ast.specs.declared.tree.Atom.TheVariants as atom
use Rattle.task_ast.specs.meaning.Names.{is_name}
use Rattle.task_ast.specs.meaning.Held.{Pair, same_atom, same_pair, has, without, same_pairs}
use Rattle.lock_checker.proofs.TableLemmas.{is_name-is, is_name-itself}

pub record Same (a b : List Pair) : Type 0 where
  pub members : (p : Pair) → has a p ≡ has b p

pub same_refl : (a : List Pair) → Same a a
same_refl a = record { members = λ p. refl }

pub same_sym : {a b : List Pair} → Same a b → Same b a
same_sym h = record { members = λ p. sym (h.members p) }

pub equal_bools : (a b : Bool) → (a ≡ true → b ≡ true) → (b ≡ true → a ≡ true) → a ≡ b
equal_bools true b there back = sym (there refl)
equal_bools false true there back = back refl
equal_bools false false there back = refl

pub and_parts : (a b : Bool) → (a && b) ≡ true → (a ≡ true) × (b ≡ true)
and_parts true b h = (refl, h)
and_parts false b h = absurd (true≢false (sym h))

pub same_atom_is : (i j : Atom) → same_atom i j ≡ true → i ≡ j
same_atom_is (atom.Num v) (atom.Num w) h = ap atom.Num ((Decides-int_eq v w).0 h)
same_atom_is (atom.Var x) (atom.Var y) h = ap atom.Var (is_name-is x y h)
same_atom_is (atom.Num v) (atom.Var y) h = absurd (true≢false (sym h))
same_atom_is (atom.Var x) (atom.Num w) h = absurd (true≢false (sym h))

pub same_atom_itself : (i : Atom) → same_atom i i ≡ true
same_atom_itself (atom.Num v) = (Decides-int_eq v v).1 refl
same_atom_itself (atom.Var x) = is_name-itself x

pub same_pair_is : (p q : Pair) → same_pair p q ≡ true → p ≡ q
same_pair_is p q h =
    let parts = and_parts (is_name p.0 q.0) (same_atom p.1 q.1) h in
    let e = is_name-is p.0 q.0 parts.0 in
    let f = same_atom_is p.1 q.1 parts.1 in
    λ i. (e i, f i)

pub same_pair_itself : (p : Pair) → same_pair p p ≡ true
same_pair_itself p = ap (λ b. b && same_atom p.1 p.1) (is_name-itself p.0) ∙ same_atom_itself p.1

pub or_true : (a : Bool) → (a || true) ≡ true
or_true true = refl
or_true false = refl

-- one that passes is a member
module _ (test : Pair → Bool) where
  abbrev pub Member : List Pair → Type 0
  Member held = (p : Pair) × (has held p ≡ true) × (test p ≡ true)

  later : (x : Pair) (held : List Pair) → Member held → Member (x ∷ held)
  later x held m = (m.0, ap (λ b. same_pair m.0 x || b) m.1 ∙ or_true (same_pair m.0 x), m.2)

  here_or_later : (x : Pair) (held : List Pair) (b : Bool) → test x ≡ b → (b || list_any test held) ≡ true
      → (list_any test held ≡ true → Member held) → Member (x ∷ held)
  here_or_later x held true is h rest = (x, ap (λ c. c || has held x) (same_pair_itself x), is)
  here_or_later x held false is h rest = later x held (rest h)

  pub member_of : (held : List Pair) → list_any test held ≡ true → Member held
  member_of [] h = absurd (true≢false (sym h))
  member_of (x ∷ held) h = here_or_later x held (test x) refl h (member_of held)

  passes_here : (x p : Pair) (held : List Pair) (b : Bool) → same_pair p x ≡ b → (b || has held p) ≡ true → test p ≡ true
      → (has held p ≡ true → list_any test held ≡ true) → list_any test (x ∷ held) ≡ true
  passes_here x p held true is h passes rest = ap (λ b. b || list_any test held) (subst (λ q. test q ≡ true) (same_pair_is p x is) passes)
  passes_here x p held false is h passes rest = ap (λ b. test x || b) (rest h) ∙ or_true (test x)

  pub member_passes : (held : List Pair) (p : Pair) → has held p ≡ true → test p ≡ true → list_any test held ≡ true
  member_passes [] p h passes = absurd (true≢false (sym h))
  member_passes (x ∷ held) p h passes = passes_here x p held (same_pair p x) refl h passes (λ in_rest. member_passes held p in_rest passes)

  any_there : (a b : List Pair) → Same a b → list_any test a ≡ true → list_any test b ≡ true
  any_there a b same h = let m = member_of a h in member_passes b m.0 (sym (same.members m.0) ∙ m.1) m.2

  -- only members count
  pub any_same : (a b : List Pair) → Same a b → list_any test a ≡ list_any test b
  any_same a b same = equal_bools (list_any test a) (list_any test b) (any_there a b same) (any_there b a (same_sym same))

not_not : (b : Bool) → not (not b) ≡ b
not_not true = refl
not_not false = refl

all_is_none : (test : Pair → Bool) (a : List Pair) → list_all test a ≡ not (list_any (λ p. not (test p)) a)
all_is_none test [] = refl
all_is_none test (x ∷ a) = by (test x) (all_is_none test a)
  where
    by : (b : Bool) → list_all test a ≡ not (list_any (λ p. not (test p)) a)
        → (b && list_all test a) ≡ not (not b || list_any (λ p. not (test p)) a)
    by true is = is
    by false is = refl

pub all_same : (test : Pair → Bool) (a b : List Pair) → Same a b → list_all test a ≡ list_all test b
all_same test a b same = all_is_none test a ∙ ap not (any_same (λ p. not (test p)) a b same) ∙ sym (all_is_none test b)

-- two tests of membership that agree are one
has_same : {a b : List Pair} → Same a b → has a ≡ has b
has_same same = λ i p. same.members p i

pub same_pairs_same : (a b c d : List Pair) → Same a c → Same b d → same_pairs a b ≡ same_pairs c d
same_pairs_same a b c d ac bd =
    ap (λ t. list_all t a && list_all (has a) b) (has_same bd) ∙ ap (λ t. list_all (has d) a && list_all t b) (has_same ac)
    ∙ ap (λ r. r && list_all (has c) b) (all_same (has d) a c ac) ∙ ap (λ r. list_all (has d) c && r) (all_same (has c) b d bd)

all_at : (test : Pair → Bool) (a : List Pair) (p : Pair) → list_all test a ≡ true → has a p ≡ true → test p ≡ true
all_at test [] p all h = absurd (true≢false (sym h))
all_at test (x ∷ a) p all h = by (same_pair p x) refl h (λ rest. all_at test a p (and_parts (test x) (list_all test a) all).1 rest)
  where
    by : (b : Bool) → same_pair p x ≡ b → (b || has a p) ≡ true → (has a p ≡ true → test p ≡ true) → test p ≡ true
    by true is h rest = subst (λ q. test q ≡ true) (sym (same_pair_is p x is)) (and_parts (test x) (list_all test a) all).0
    by false is h rest = rest h

-- what the test of two sets says
pub same_from_test : (a b : List Pair) → same_pairs a b ≡ true → Same a b
same_from_test a b h =
    let parts = and_parts (list_all (has b) a) (list_all (has a) b) h in
    record { members = λ p. equal_bools (has a p) (has b p) (all_at (has b) a p parts.0) (all_at (has a) b p parts.1) }

-- what has no members is nothing
pub nothing_same : (a : List Pair) → Same [] a → a ≡ []
nothing_same [] same = refl
nothing_same (x ∷ a) same = absurd (true≢false (sym (ap (λ b. b || has a x) (same_pair_itself x)) ∙ sym (same.members x)))

pub has-append : (a b : List Pair) (p : Pair) → has (a ++ b) p ≡ (has a p || has b p)
has-append [] b p = refl
has-append (x ∷ a) b p = ap (λ r. same_pair p x || r) (has-append a b p) ∙ by (same_pair p x)
  where
    by : (c : Bool) → (c || (has a p || has b p)) ≡ ((c || has a p) || has b p)
    by true = refl
    by false = refl

pub same-append : (a b c : List Pair) → Same a b → Same (a ++ c) (b ++ c)
same-append a b c same = record { members = λ p. has-append a c p ∙ ap (λ r. r || has c p) (same.members p) ∙ sym (has-append b c p) }

-- one that isn't the pair that is taken out
any_and : (held : List Pair) (p q : Pair) → has (without held q) p ≡ list_any (λ x. not (same_pair q x) && same_pair p x) held
any_and [] p q = refl
any_and (x ∷ held) p q = by (same_pair q x) (any_and held p q)
  where
    by : (b : Bool) → has (without held q) p ≡ list_any (λ x. not (same_pair q x) && same_pair p x) held
        → list_any (same_pair p) (cond (not b) (x ∷ without held q) (without held q))
        ≡ ((not b && same_pair p x) || list_any (λ x. not (same_pair q x) && same_pair p x) held)
    by true is = is
    by false is = ap (λ r. same_pair p x || r) is

pub same-without : (a b : List Pair) (q : Pair) → Same a b → Same (without a q) (without b q)
same-without a b q same =
    record { members = λ p. any_and a p q ∙ any_same (λ x. not (same_pair q x) && same_pair p x) a b same ∙ sym (any_and b p q) }
