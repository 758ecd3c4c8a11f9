-- A settle sets a control variable by its number.
use Rattle.std.proofs.Common.{◌≡◌, ℕ, zero, suc, ◌<◌, ◌≤◌, ℤ, cond, List, [], ◌∷◌, length, get_or, set, Some, unwrap_or, option_map, refl, ap, sym, ◌∙◌, arith, map}
use Rattle.std.specs.Prelude.{position}
use Rattle.task_ast.specs.meaning.Tree.{Name}
use Rattle.task_ast.specs.meaning.Names.{is_name, slot}
use Rattle.task_ast.specs.meaning.Control.{with_number}
use Rattle.task_ast.proofs.Terms.{position-cons}

pub number_set : (pairs : List (Name × ℤ)) (k : ℕ) (v : ℤ) (p : Name × ℤ) → k < length pairs → p ≡ get_or pairs k p
    → with_number pairs k v ≡ set pairs k (p.0, v)
number_set [] k v p less is = absurd (omega arith)
number_set (q ∷ pairs) zero v p less is = ap (λ x. (x.0, v) ∷ pairs) (sym is)
number_set (q ∷ pairs) (suc k) v p less is = ap (λ l. q ∷ l) (number_set pairs k v p (omega arith) is)

pub number_past : (pairs : List (Name × ℤ)) (k : ℕ) (v : ℤ) → length pairs ≤ k → with_number pairs k v ≡ pairs
number_past [] k v past = refl
number_past (q ∷ pairs) zero v past = absurd (omega arith)
number_past (q ∷ pairs) (suc k) v past = ap (λ l. q ∷ l) (number_past pairs k v (omega arith))

length_firsts : (pairs : List (Name × ℤ)) → length (map (λ n. n.0) pairs) ≡ length pairs
length_firsts [] = refl
length_firsts (q ∷ pairs) = ap suc (length_firsts pairs)

place_firsts : (pairs : List (Name × ℤ)) (x : Name) → position (λ n. is_name x n.0) pairs ≡ position (is_name x) (map (λ n. n.0) pairs)
place_firsts [] x = refl
place_firsts (q ∷ pairs) x =
    position-cons (λ n. is_name x n.0) q pairs ∙ ap (λ o. cond (is_name x q.0) (Some 0) (option_map suc o)) (place_firsts pairs x)
    ∙ sym (position-cons (is_name x) q.0 (map (λ n. n.0) pairs))

-- the number of a control variable
pub number_of : (pairs : List (Name × ℤ)) (x : Name)
    → unwrap_or (position (λ n. is_name x n.0) pairs) (length pairs) ≡ slot (map (λ n. n.0) pairs) x
number_of pairs x =
    ap (λ o. unwrap_or o (length pairs)) (place_firsts pairs x)
    ∙ ap (unwrap_or (position (is_name x) (map (λ n. n.0) pairs))) (sym (length_firsts pairs))
