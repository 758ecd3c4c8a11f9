-- The least position that is struck, found in one walk over the faults.
use Rattle.std.proofs.Common.{◌≡◌, ℕ, ◌+◌, ◌<◌, ◌≤◌, min, Bool, true, false, List, length, get_or, drop, Option, Some, None, refl, ap, ◌∙◌, arith}
use Rattle.std.specs.Option.{option_map_or}
use Rattle.std.proofs.lemmas.List.{drop_more, drop_all}
use Rattle.gp_base.specs.declared.fault.Fault.{Fault}
use Rattle.dependence.specs.meaning.Restarts.{least_struck}

abbrev pub lesser : ℕ → Option ℕ → ℕ
lesser p other = option_map_or (min p) other p

-- the lesser of what was found so far and of what the rest has
abbrev pub joined : Option ℕ → Option ℕ → Option ℕ
joined None rest = rest
joined (Some p) rest = Some (lesser p rest)

abbrev pub FoundSoFar : (Fault → Bool) → List Fault → ℕ → Option ℕ → Type 0
FoundSoFar test faults i least = joined least (least_struck test (drop i faults)) ≡ least_struck test faults

moved : (p : ℕ) (least rest : Option ℕ) → joined (Some (lesser p least)) rest ≡ joined least (Some (lesser p rest))
moved p None rest = refl
moved p (Some q) None = ap Some (omega arith)
moved p (Some q) (Some r) = ap Some (omega arith)

module _ (test : Fault → Bool) (faults : List Fault) (i : ℕ) (d : Fault) (least : Option ℕ) (l : i < length faults)
    (so_far : FoundSoFar test faults i least) where
  pub found_more : test (get_or faults i d) ≡ true → FoundSoFar test faults (i + 1) (Some (lesser (get_or faults i d).pos least))
  found_more e = moved (get_or faults i d).pos least (least_struck test (drop (i + 1) faults)) ∙ rw (drop_more faults i d l, e) at so_far

  pub found_same : test (get_or faults i d) ≡ false → FoundSoFar test faults (i + 1) least
  found_same e = rw (drop_more faults i d l, e) at so_far

pub found_all : (test : Fault → Bool) (faults : List Fault) (i : ℕ) (least : Option ℕ) → length faults ≤ i → FoundSoFar test faults i least
    → least ≡ least_struck test faults
found_all test faults i None l so_far = rw (drop_all i faults l) at so_far
found_all test faults i (Some p) l so_far = rw (drop_all i faults l) at so_far
