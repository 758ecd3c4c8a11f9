-- A name in quotes, as far as its bytes were added.
use Rattle.std.proofs.Common.{◌≡◌, ◌∙◌, ◌<◌, ◌≤◌, ◌+◌, ℕ, List, [], ◌∷◌, ◌++◌, length, take, get_or, ap, refl, append_assoc}
use Rattle.std.specs.Prelude.{flat_map}
use Rattle.std.proofs.lemmas.Grind.{flat_map-append}
use Rattle.std.proofs.lemmas.List.{append-nil, take_more, take_all}
use Rattle.db_tables.specs.Queries.{doubled, quoted}

pub byte_more : (front name : List ℕ) (i : ℕ) → i < length name
    → (front ++ flat_map doubled (take i name)) ++ doubled (get_or name i 0) ≡ front ++ flat_map doubled (take (i + 1) name)
byte_more front name i low =
    append_assoc front (flat_map doubled (take i name)) (doubled (get_or name i 0))
    ∙ ap (λ text. front ++ text) (sym_more)
  where
    sym_more : flat_map doubled (take i name) ++ doubled (get_or name i 0) ≡ flat_map doubled (take (i + 1) name)
    sym_more =
        rw (take_more name i 0 low, flat_map-append doubled (take i name) (get_or name i 0 ∷ []), append-nil (doubled (get_or name i 0))) refl

-- the last quote
pub quote_end : (sql name : List ℕ) (i : ℕ) → length name ≤ i → ((sql ++ 34 ∷ []) ++ flat_map doubled (take i name)) ++ 34 ∷ [] ≡ sql ++ quoted name
quote_end sql name i past =
    rw (take_all i name past) (append_assoc (sql ++ 34 ∷ []) (flat_map doubled name) (34 ∷ []) ∙ append_assoc sql (34 ∷ []) (flat_map doubled name ++ 34 ∷ []))
