-- The place of a name among names, and what is set there.
use Rattle.std.proofs.Common.{◌≡◌, ℕ, zero, suc, ◌≤◌, Bool, true, false, ◌||◌, cond, List, [], ◌∷◌, length, Option, Some, None, unwrap_or, option_map, refl, sym, ap, ◌∙◌, arith, map}
use Rattle.std.specs.Prelude.{ℤ, position, slice_set}
use Rattle.std.proofs.lemmas.Bool.{true≢false}
use Rattle.std.proofs.lemmas.List.{set_past}
use Rattle.task_ast.specs.meaning.Tree.{Name}
use Rattle.task_ast.specs.meaning.Names.{is_name, is_among, slot}
use Rattle.task_ast.specs.Names.{seconds}
use Rattle.task_ast.specs.meaning.Control.{with_value, with_number}
use Rattle.task_ast.proofs.Terms.{position-cons}

set_slot : (names : List (Name × ℤ)) (x : Name) (v : ℤ)
    → seconds (with_value names x v) ≡ slice_set (seconds names) (slot (map (λ n. n.0) names) x) v
set_slot [] x v = refl
set_slot (n ∷ names) x v = go (is_name x n.0) refl (set_slot names x v)
  where
    shifted : (o : Option ℕ)
        → n.1 ∷ slice_set (seconds names) (unwrap_or o (length (map (λ n. n.0) names))) v
        ≡ slice_set (n.1 ∷ seconds names) (unwrap_or (option_map suc o) (suc (length (map (λ n. n.0) names)))) v
    shifted None = refl
    shifted (Some k) = refl

    go : (b : Bool) → is_name x n.0 ≡ b → seconds (with_value names x v) ≡ slice_set (seconds names) (slot (map (λ n. n.0) names) x) v
        → seconds (cond (is_name x n.0) ((n.0, v) ∷ names) (n ∷ with_value names x v))
        ≡ slice_set (n.1 ∷ seconds names) (slot (n.0 ∷ map (λ n. n.0) names) x) v
    go true e later = rw (position-cons (is_name x) n.0 (map (λ n. n.0) names), e) refl
    go false e later =
        rw (position-cons (is_name x) n.0 (map (λ n. n.0) names), e)
        (ap (λ values. n.1 ∷ values) later ∙ shifted (position (is_name x) (map (λ n. n.0) names)))

same_names : (names : List (Name × ℤ)) (x : Name) (v : ℤ) → map (λ n. n.0) (with_value names x v) ≡ map (λ n. n.0) names
same_names [] x v = refl
same_names (n ∷ names) x v = go (is_name x n.0) (same_names names x v)
  where
    go : (b : Bool) → map (λ n. n.0) (with_value names x v) ≡ map (λ n. n.0) names
        → map (λ n. n.0) (cond b ((n.0, v) ∷ names) (n ∷ with_value names x v)) ≡ n.0 ∷ map (λ n. n.0) names
    go true later = refl
    go false later = ap (λ names. n.0 ∷ names) later

pub sets_first : (names : List (Name × ℤ)) (x : Name) (v : ℤ)
    → (map (λ n. n.0) (with_value names x v) ≡ map (λ n. n.0) names)
    × (seconds (with_value names x v) ≡ slice_set (seconds names) (slot (map (λ n. n.0) names) x) v)
sets_first names x v = (same_names names x v, set_slot names x v)

number_names : (names : List (Name × ℤ)) (k : ℕ) (v : ℤ) → map (λ n. n.0) (with_number names k v) ≡ map (λ n. n.0) names
number_names [] k v = refl
number_names (n ∷ names) zero v = refl
number_names (n ∷ names) (suc k) v = ap (λ xs. n.0 ∷ xs) (number_names names k v)

number_values : (names : List (Name × ℤ)) (k : ℕ) (v : ℤ) → seconds (with_number names k v) ≡ slice_set (seconds names) k v
number_values [] zero v = refl
number_values [] (suc k) v = refl
number_values (n ∷ names) zero v = refl
number_values (n ∷ names) (suc k) v = ap (λ xs. n.1 ∷ xs) (number_values names k v)

pub sets_number : (names : List (Name × ℤ)) (k : ℕ) (v : ℤ)
    → (map (λ n. n.0) (with_number names k v) ≡ map (λ n. n.0) names) × (seconds (with_number names k v) ≡ slice_set (seconds names) k v)
sets_number names k v = (number_names names k v, number_values names k v)

-- the number of a name is that of its first entry
pub slot_sets : (names : List (Name × ℤ)) (x : Name) (v : ℤ) → with_number names (slot (map (λ n. n.0) names) x) v ≡ with_value names x v
slot_sets [] x v = refl
slot_sets (n ∷ names) x v = go (is_name x n.0) refl (slot_sets names x v)
  where
    shifted : (o : Option ℕ)
        → with_number (n ∷ names) (unwrap_or (option_map suc o) (suc (length (map (λ n. n.0) names)))) v
        ≡ n ∷ with_number names (unwrap_or o (length (map (λ n. n.0) names))) v
    shifted None = refl
    shifted (Some k) = refl

    go : (b : Bool) → is_name x n.0 ≡ b → with_number names (slot (map (λ n. n.0) names) x) v ≡ with_value names x v
        → with_number (n ∷ names) (slot (n.0 ∷ map (λ n. n.0) names) x) v
        ≡ cond (is_name x n.0) ((n.0, v) ∷ names) (n ∷ with_value names x v)
    go true e later = rw (position-cons (is_name x) n.0 (map (λ n. n.0) names), e) refl
    go false e later =
        rw (position-cons (is_name x) n.0 (map (λ n. n.0) names), e)
        (shifted (position (is_name x) (map (λ n. n.0) names)) ∙ ap (λ xs. n ∷ xs) later)

slot_past : (names : List Name) (x : Name) → is_among x names ≡ false → slot names x ≡ length names
slot_past [] x h = refl
slot_past (n ∷ names) x h = go (is_name x n) refl (slot_past names x)
  where
    shifted : (o : Option ℕ) → unwrap_or (option_map suc o) (suc (length names)) ≡ suc (unwrap_or o (length names))
    shifted None = refl
    shifted (Some k) = refl

    go : (b : Bool) → is_name x n ≡ b → (is_among x names ≡ false → slot names x ≡ length names) → slot (n ∷ names) x ≡ suc (length names)
    go true e later = absurd (true≢false (ap (λ b. b || is_among x names) (sym e) ∙ h))
    go false e later =
        rw (position-cons (is_name x) n names, e)
        (shifted (position (is_name x) names) ∙ ap suc (later (ap (λ b. b || is_among x names) (sym e) ∙ h)))

pub undeclared : (registers : List Name) (values : List ℤ) (x : Name) (v : ℤ) → is_among x registers ≡ false
    → length values ≤ length registers
    → slice_set values (slot registers x) v ≡ values
undeclared registers values x v h l = let e = slot_past registers x h in set_past values (slot registers x) v (omega arith)
