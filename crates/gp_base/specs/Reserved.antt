-- A list with room for more.
use Rattle.std.specs.Prelude.{ℕ, List, refl}
use Rattle.std.specs.Coded.{Coded, code_by, coded×, coded_ℕ, coded_list}

-- the elements, and how many more the room holds
pub record Reserved (T : Type 0) : Type 0 where
  pub items : List T
  pub spare : ℕ

-- it is stored as the pair of its fields
abbrev pub reserved_code : {T : Type 0} → Coded T → Coded (Reserved T)
reserved_code {T} code =
    code_by (List T × ℕ) (coded× (coded_list code) coded_ℕ) (λ r. (r.items, r.spare)) (λ p. record { items = p.0; spare = p.1 }) (λ _. refl)
