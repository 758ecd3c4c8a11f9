-- The visited places of a check, and its first fault.
use Rattle.std.specs.Prelude.{ℕ, Bool, true, false, List, [], ◌∷◌, Option, Some, None}
use Rattle.task_ast.specs.declared.check_kind.CheckKind.{CheckKind}

-- a visited place, and the rules that fail there, the lowest first
pub record Visit : Type 0 where
  pub line : ℕ
  pub fails : List CheckKind

abbrev pub visit : ℕ → List CheckKind → Visit
visit line fails = record { line = line; fails = fails }

-- the rule, where it fails
abbrev pub fails_if : Bool → CheckKind → List CheckKind
fails_if true kind = kind ∷ []
fails_if false kind = []

-- the lowest rule that fails at a place, or else what comes later
abbrev pub fault_at : ℕ → List CheckKind → Option (CheckKind × ℕ) → Option (CheckKind × ℕ)
fault_at line [] later = later
fault_at line (kind ∷ kinds) later = Some (kind, line)

-- the first visit at which a rule fails: the lowest such rule, and the line
abbrev pub first_fault : List Visit → Option (CheckKind × ℕ)
first_fault [] = None
first_fault (v ∷ visits) = fault_at v.line v.fails (first_fault visits)
