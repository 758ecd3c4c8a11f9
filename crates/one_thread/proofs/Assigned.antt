-- A value is put beside the first of a name.
use Rattle.std.proofs.Common.{◌≡◌, ℕ, zero, suc, ◌<◌, ◌≤◌, ℤ, true, false, cond, List, [], ◌∷◌, ◌++◌, length, take, drop, get_or, set, refl, ap, sym, ◌∙◌, arith}
use Rattle.task_ast.specs.meaning.Tree.{Name}
use Rattle.task_ast.specs.meaning.Names.{is_name}
use Rattle.task_ast.specs.meaning.Control.{with_value}

-- the first i pairs have other names
abbrev pub Passed : ℕ → List (Name × ℤ) → Name → Type 0
Passed i pairs n = (v : ℤ) → with_value pairs n v ≡ take i pairs ++ with_value (drop i pairs) n v

pub passed_next : (pairs : List (Name × ℤ)) (n : Name) (i : ℕ) (p : Name × ℤ) → i < length pairs → p ≡ get_or pairs i p
    → is_name n p.0 ≡ false → Passed i pairs n → Passed (suc i) pairs n
passed_next pairs n i p below is other passed v = passed v ∙ here pairs i below is
  where
    here : (pairs : List (Name × ℤ)) (i : ℕ) → i < length pairs → p ≡ get_or pairs i p
        → take i pairs ++ with_value (drop i pairs) n v ≡ take (suc i) pairs ++ with_value (drop (suc i) pairs) n v
    here [] i below is = absurd (omega arith)
    here (q ∷ pairs) zero below is =
        ap (λ b. cond b ((q.0, v) ∷ pairs) (q ∷ with_value pairs n v)) (ap (λ x. is_name n x.0) (sym is) ∙ other)
    here (q ∷ pairs) (suc i) below is = ap (λ left. q ∷ left) (here pairs i (omega arith) is)

-- where all have other names, nothing is put
pub passed_all : (pairs : List (Name × ℤ)) (n : Name) (v : ℤ) (i : ℕ) → length pairs ≤ i → Passed i pairs n → with_value pairs n v ≡ pairs
passed_all pairs n v i past passed = passed v ∙ all pairs i past
  where
    all : (pairs : List (Name × ℤ)) (i : ℕ) → length pairs ≤ i → take i pairs ++ with_value (drop i pairs) n v ≡ pairs
    all [] zero past = refl
    all [] (suc i) past = refl
    all (p ∷ pairs) zero past = absurd (omega arith)
    all (p ∷ pairs) (suc i) past = ap (λ left. p ∷ left) (all pairs i (omega arith))

-- the first pair of the name has the value
pub assigned_first : (pairs : List (Name × ℤ)) (n : Name) (v : ℤ) (i : ℕ) (p : Name × ℤ) → i < length pairs → p ≡ get_or pairs i p
    → is_name n p.0 ≡ true
    → Passed i pairs n → with_value pairs n v ≡ set pairs i (p.0, v)
assigned_first pairs n v i p below is named passed = passed v ∙ sym (here pairs i below is)
  where
    here : (pairs : List (Name × ℤ)) (i : ℕ) → i < length pairs → p ≡ get_or pairs i p
        → set pairs i (p.0, v) ≡ take i pairs ++ with_value (drop i pairs) n v
    here [] i below is = absurd (omega arith)
    here (q ∷ pairs) zero below is =
        ap (λ x. (x.0, v) ∷ pairs) is
        ∙ sym (ap (λ b. cond b ((q.0, v) ∷ pairs) (q ∷ with_value pairs n v)) (ap (λ x. is_name n x.0) (sym is) ∙ named))
    here (q ∷ pairs) (suc i) below is = ap (λ left. q ∷ left) (here pairs i (omega arith) is)

-- what is read at a place within a list, whatever stands past its end
pub same_there : {X : Type 0} (xs : List X) (i : ℕ) (a b : X) → i < length xs → a ≡ get_or xs i a → b ≡ get_or xs i b → a ≡ b
same_there [] i a b below first second = absurd (omega arith)
same_there (x ∷ xs) zero a b below first second = first ∙ sym second
same_there (x ∷ xs) (suc i) a b below first second = same_there xs i a b (omega arith) first second
