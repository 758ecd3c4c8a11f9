-- How many members of a changed list pass a test.
use Rattle.std.proofs.Common.{◌≡◌, ℕ, zero, suc, ◌+◌, ◌*◌, ◌<◌, Bool, cond, List, [], ◌∷◌, map, length, Some, refl, ap, arith, count_by}
use Rattle.std.specs.Prelude.{slice_get}
use Rattle.std.proofs.lemmas.List.Sums.{sum_by-append}
use Rattle.std.proofs.Math.Nat.{mul-suc}
use Rattle.task_ast.specs.meaning.Table.{with_nth}

abbrev pub one : Bool → ℕ
one b = cond b 1 0

pub count-cons : {X : Type 0} (p : X → Bool) (x : X) (xs : List X) → count_by p (x ∷ xs) ≡ one (p x) + count_by p xs
count-cons p x xs = let h = sum_by-append (λ y. cond (p y) 1 0) (x ∷ []) xs in omega (arith, h)

-- one member is changed
pub count-with_nth : {X : Type 0} (p : X → Bool) (xs : List X) (n : ℕ) (f : X → X) (x : X) → slice_get xs n ≡ Some x
    → count_by p (with_nth xs n f) + one (p x) ≡ count_by p xs + one (p (f x))
count-with_nth p [] n f x e = absurd (cc e)
count-with_nth p (y ∷ ys) zero f x e =
    let same : y ≡ x = cc e in
    rw (count-cons p (f y) ys, count-cons p y ys, same) (omega arith)
count-with_nth p (y ∷ ys) (suc n) f x e =
    let ih = count-with_nth p ys n f x e in
    rw (count-cons p y (with_nth ys n f), count-cons p y ys) (omega arith)

pub length-with_nth : {X : Type 0} (xs : List X) (n : ℕ) (f : X → X) → length (with_nth xs n f) ≡ length xs
length-with_nth [] n f = refl
length-with_nth (x ∷ xs) zero f = refl
length-with_nth (x ∷ xs) (suc n) f = ap suc (length-with_nth xs n f)

-- one member is changed, and the test doesn't see it
pub count-with_nth-same : {X : Type 0} (p : X → Bool) (f : X → X) → ((x : X) → p (f x) ≡ p x) → (xs : List X) (n : ℕ)
    → count_by p (with_nth xs n f) ≡ count_by p xs
count-with_nth-same p f same [] n = refl
count-with_nth-same p f same (x ∷ xs) zero = rw (count-cons p (f x) xs, count-cons p x xs, same x) refl
count-with_nth-same p f same (x ∷ xs) (suc n) =
    rw (count-cons p x (with_nth xs n f), count-cons p x xs, count-with_nth-same p f same xs n) refl

-- all members are changed, and the test doesn't see it
pub count-map : {X : Type 0} (p : X → Bool) (f : X → X) → ((x : X) → p (f x) ≡ p x) → (xs : List X) → count_by p (map f xs) ≡ count_by p xs
count-map p f same [] = refl
count-map p f same (x ∷ xs) = rw (count-cons p (f x) (map f xs), count-cons p x xs, same x, count-map p f same xs) refl

pub get-map : {X : Type 0} (f : X → X) (xs : List X) (n : ℕ) (x : X) → slice_get xs n ≡ Some x → slice_get (map f xs) n ≡ Some (f x)
get-map f [] n x e = absurd (cc e)
get-map f (y ∷ ys) zero x e = ap Some (ap f (cc e))
get-map f (y ∷ ys) (suc n) x e = get-map f ys n x e

pub get-with_nth : {X : Type 0} (xs : List X) (n : ℕ) (f : X → X) (x : X) → slice_get xs n ≡ Some x
    → slice_get (with_nth xs n f) n ≡ Some (f x)
get-with_nth [] n f x e = absurd (cc e)
get-with_nth (y ∷ ys) zero f x e = ap Some (ap f (cc e))
get-with_nth (y ∷ ys) (suc n) f x e = get-with_nth ys n f x e

-- the first count is the same and the second falls
pub less_second : (m a b c : ℕ) → c < b → m * a + c < m * a + b
less_second m a b c less = let k : ℕ = m * a in omega arith

-- the first count falls by one, and the second is below m
pub less_first : (m a b c : ℕ) → c < m → m * a + c < m * suc a + b
less_first m a b c less = rw (mul-suc m a) (less_plain (m * a) m b c less)
  where
    less_plain : (k m b c : ℕ) → c < m → k + c < k + m + b
    less_plain k m b c less = omega arith
