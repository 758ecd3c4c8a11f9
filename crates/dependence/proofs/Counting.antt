-- Counts of the members of a list that pass a test, and of the numbers below a bound.
use Rattle.std.proofs.Common.{◌≡◌, inl, inr, ℕ, zero, suc, ◌+◌, ◌<◌, ◌≤◌, Bool, true, false, cond, List, [], ◌∷◌, ◌++◌, length, take, get_or, Contains, Some, refl, sym, ap, ◌∙◌, arith, slice_get, count_by}
use Rattle.std.proofs.lemmas.Bool.{cases_eq}
use Rattle.std.proofs.lemmas.List.Sums.{sum_by-append}
use Rattle.task_ast.proofs.Counting.{count-cons}
use Rattle.dependence.specs.Measure.{count_below}

pub count-push : {X : Type 0} (test : X → Bool) (x : X) (xs : List X) → count_by test (xs ++ x ∷ []) ≡ count_by test xs + cond (test x) 1 0
count-push test x xs = let h = sum_by-append (λ y. cond (test y) 1 0) xs (x ∷ []) in omega (arith, h)

pub one-or-none : (b : Bool) → cond b 1 0 ≤ 1
one-or-none true = omega arith
one-or-none false = omega arith

-- fewer pass a stronger test
pub count-weaker : {X : Type 0} (test other : X → Bool) → ((x : X) → other x ≡ true → test x ≡ true) → (xs : List X)
    → count_by other xs ≤ count_by test xs
count-weaker test other weaker [] = omega arith
count-weaker test other weaker (x ∷ xs) =
    rw (count-cons other x xs, count-cons test x xs) (go (other x) refl (count-weaker test other weaker xs))
  where
    go : (b : Bool) → other x ≡ b → count_by other xs ≤ count_by test xs
        → cond (other x) 1 0 + count_by other xs ≤ cond (test x) 1 0 + count_by test xs
    go true e ih = rw (e, weaker x e) (omega arith)
    go false e ih = rw e (omega arith)

-- and fewer still where a member passes the one test alone
pub count-falls : {X : Type 0} (test other : X → Bool) (x : X) → ((y : X) → other y ≡ true → test y ≡ true) → test x ≡ true
    → other x ≡ false
    → (xs : List X) → Contains xs x → count_by other xs < count_by test xs
count-falls test other x weaker passes fails [] h = absurd (let l = h.1 in omega arith)
count-falls test other x weaker passes fails (y ∷ ys) h =
    rw (count-cons other y ys, count-cons test y ys)
    (at h.0 h.1 h.2 (λ k l same. count-falls test other x weaker passes fails ys (k, l, same)))
  where
    more : (b : Bool) → other y ≡ b → count_by other ys < count_by test ys
        → cond (other y) 1 0 + count_by other ys < cond (test y) 1 0 + count_by test ys
    more true e ih = rw (e, weaker y e) (omega arith)
    more false e ih = rw e (omega arith)

    at : (k : ℕ) → k < length (y ∷ ys) → get_or (y ∷ ys) k x ≡ x
        → ((j : ℕ) → j < length ys → get_or ys j x ≡ x → count_by other ys < count_by test ys)
        → cond (other y) 1 0 + count_by other ys < cond (test y) 1 0 + count_by test ys
    at zero l same ih = let le = count-weaker test other weaker ys in rw (same, passes, fails) (omega arith)
    at (suc k) l same ih = more (other y) refl (ih k (omega arith) same)

-- the member that passes after n others have
pub passing-at : {X : Type 0} (test : X → Bool) (xs : List X) (n : ℕ) → n < count_by test xs
    → (k : ℕ) × (x : X) × (slice_get xs k ≡ Some x) × (test x ≡ true) × (count_by test (take k xs) ≡ n)
passing-at test [] n l = absurd (omega arith)
passing-at {X} test (x ∷ xs) n l = go (test x) refl n (rw (count-cons test x xs) at l) (passing-at test xs)
  where
    Found : List X → ℕ → Type 0
    Found ys m = (k : ℕ) × (y : X) × (slice_get ys k ≡ Some y) × (test y ≡ true) × (count_by test (take k ys) ≡ m)

    deeper : (m n : ℕ) → n ≡ cond (test x) 1 0 + m → Found xs m → Found (x ∷ xs) n
    deeper m n e h = (suc h.0, h.1, h.2, h.3, count-cons test x (take h.0 xs) ∙ (ap (λ c. cond (test x) 1 0 + c) h.4 ∙ sym e))

    go : (b : Bool) → test x ≡ b → (m : ℕ) → m < cond (test x) 1 0 + count_by test xs → ((j : ℕ) → j < count_by test xs → Found xs j)
        → Found (x ∷ xs) m
    go true e zero less ih = (0, x, refl, e, refl)
    go true e (suc m) less ih = deeper m (suc m) (rw e (omega arith)) (ih m (let h = rw e at less in omega arith))
    go false e m less ih = deeper m m (rw e (omega arith)) (ih m (let h = rw e at less in omega arith))

pub count_below-all : (test : ℕ → Bool) (n : ℕ) → count_below test n ≤ n
count_below-all test zero = omega arith
count_below-all test (suc n) = let h = count_below-all test n in let b = one-or-none (test n) in omega arith

pub count_below-weaker : (test other : ℕ → Bool) (n : ℕ) → ((k : ℕ) → other k ≡ true → test k ≡ true)
    → count_below other n ≤ count_below test n
count_below-weaker test other zero weaker = omega arith
count_below-weaker test other (suc n) weaker = go (other n) refl (count_below-weaker test other n weaker)
  where
    go : (b : Bool) → other n ≡ b → count_below other n ≤ count_below test n → count_below other (suc n) ≤ count_below test (suc n)
    go true e ih = rw (e, weaker n e) (omega arith)
    go false e ih = rw e (omega arith)

pub count_below-falls : (test other : ℕ → Bool) (n p : ℕ) → p < n → test p ≡ true → other p ≡ false
    → ((k : ℕ) → other k ≡ true → test k ≡ true)
    → count_below other n < count_below test n
count_below-falls test other zero p l t o weaker = absurd (omega arith)
count_below-falls test other (suc n) p l t o weaker =
    elim (cases_eq p n) [
      | inl same ↦
          (let le = count_below-weaker test other n weaker in
          let e : other n ≡ false = ap other (sym same) ∙ o in
          let f : test n ≡ true = ap test (sym same) ∙ t in
          rw (e, f) (omega arith))
      | inr ne ↦ go (other n) refl (count_below-falls test other n p (omega arith) t o weaker)
    ]
  where
    go : (b : Bool) → other n ≡ b → count_below other n < count_below test n → count_below other (suc n) < count_below test (suc n)
    go true e ih = rw (e, weaker n e) (omega arith)
    go false e ih = rw e (omega arith)
