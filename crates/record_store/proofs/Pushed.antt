-- What a loop over a list has pushed.
use Rattle.std.proofs.Common.{◌≡◌, ℕ, ◌+◌, ◌<◌, List, [], ◌∷◌, ◌++◌, length, map, take, get_or, ap, sym, ◌∙◌}
use Rattle.std.proofs.lemmas.List.{take_more}
use Rattle.record_store.proofs.Homing.{map_push}

-- one item more, which is that of the list
pub taken_more : {A : Type 0} (xs : List A) (i : ℕ) (x : A) (before later : List A) (y : A) → i < length xs → x ≡ get_or xs i x
    → before ≡ take i xs → y ≡ x → later ≡ before ++ y ∷ [] → later ≡ take (i + 1) xs
taken_more xs i x before later y less is so_far same pushed =
    pushed ∙ (λ j. so_far j ++ (same ∙ is) j ∷ []) ∙ sym (take_more xs i x less)

-- one item more, which is made of that of the list
pub mapped_more : {A B : Type 0} (f : A → B) (xs : List A) (i : ℕ) (x : A) (before later : List B) (y : B) → i < length xs
    → x ≡ get_or xs i x → before ≡ map f (take i xs) → y ≡ f x → later ≡ before ++ y ∷ [] → later ≡ map f (take (i + 1) xs)
mapped_more f xs i x before later y less is so_far made pushed =
    pushed ∙ (λ j. so_far j ++ (made ∙ ap f is) j ∷ []) ∙ sym (map_push f (take i xs) (get_or xs i x))
    ∙ ap (map f) (sym (take_more xs i x less))
