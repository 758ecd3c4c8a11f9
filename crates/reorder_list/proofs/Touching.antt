-- Marks as they grow, and what they tell of conflict.
use Rattle.std.proofs.Common.{◌≡◌, inl, inr, ℕ, ◌+◌, ◌<◌, ◌≤◌, max, List, length, get_or, take, All, refl, sym, subst, arith}
use Rattle.std.specs.Prelude.{slice_index, slice_set}
use Rattle.std.proofs.Math.Nat.{le-max_left, le-max_right}
use Rattle.std.proofs.lemmas.Bool.{cases_eq}
use Rattle.std.proofs.lemmas.Grind.{get_or-set_at}
use Rattle.std.proofs.lemmas.List.{get_or-set_other}
use Rattle.std.proofs.lemmas.List.Elements.{All-contains, All-more, All-weaker}
use Rattle.gp_base.specs.declared.footprint.Loc.{Loc}
use Rattle.gp_base.specs.declared.footprint.Footprint.{Footprint}
use Rattle.dependence.specs.Conflict.{Shared}
use Rattle.reorder_list.specs.declared.touched.Touched.{Touched}
use Rattle.reorder_list.specs.Touching.{bucket_of, mark_of, Grows, KeepsMarks, IsClearPast}

-- no mark falls where one is raised
pub raised : (marks : List ℕ) (at many : ℕ) → at < length marks → Grows marks (slice_set marks at (max (slice_index marks at) many))
raised marks at many within other =
    elim (cases_eq other at) [
      | inl same ↦ rw same
          (let here = get_or-set_at marks at at (max (slice_index marks at) many) 0 refl within in
          let up = le-max_left (slice_index marks at) many in omega arith)
      | inr ne ↦ (let there = get_or-set_other marks at other (max (slice_index marks at) many) 0 ne in omega arith)
    ]

pub grows-then : (first second third : List ℕ) → Grows first second → Grows second third → Grows first third
grows-then first second third one two at = let l = one at in let m = two at in omega arith

-- what has a mark keeps it
pub stays : (before after : List ℕ) (many : ℕ) (locations : List Loc) → Grows before after → All (λ loc. many ≤ mark_of before loc) locations
    → All (λ loc. many ≤ mark_of after loc) locations
stays before after many locations grows =
    All-weaker (λ loc. many ≤ mark_of before loc) (λ loc. many ≤ mark_of after loc)
    (λ loc low. (let up = grows (bucket_of loc) in omega arith)) locations

-- one more location is marked
pub marks-more : (marks : List ℕ) (at many : ℕ) (locations : List Loc) (i : ℕ) (loc : Loc) → at < length marks → at ≡ bucket_of loc
    → i < length locations → loc ≡ get_or locations i loc
    → All (λ loc. many ≤ mark_of marks loc) (take i locations)
    → All (λ loc. many ≤ mark_of (slice_set marks at (max (slice_index marks at) many)) loc) (take (i + 1) locations)
marks-more marks at many locations i loc within is less read so_far =
    let new = slice_set marks at (max (slice_index marks at) many) in
    let P : Loc → Type 0 = λ loc. many ≤ mark_of new loc in
    let here : P loc =
    (let now = get_or-set_at marks at (bucket_of loc) (max (slice_index marks at) many) 0 (sym is) within in
    let up = le-max_right (slice_index marks at) many in omega arith) in
    All-more P locations i loc less (stays marks new many (take i locations) (raised marks at many within) so_far) (subst P read here)

-- one more location has no greater mark than this
pub within-more : (marks : List ℕ) (most more : ℕ) (locations : List Loc) (i : ℕ) (loc : Loc) → most ≤ more → mark_of marks loc ≤ more
    → i < length locations → loc ≡ get_or locations i loc
    → All (λ loc. mark_of marks loc ≤ most) (take i locations)
    → All (λ loc. mark_of marks loc ≤ more) (take (i + 1) locations)
within-more marks most more locations i loc up here less read so_far =
    All-more (λ loc. mark_of marks loc ≤ more) locations i loc less
    (All-weaker (λ loc. mark_of marks loc ≤ most) (λ loc. mark_of marks loc ≤ more) (λ x low. omega arith) (take i locations) so_far)
    (subst (λ x. mark_of marks x ≤ more) read here)

pub within-all : (marks : List ℕ) (most more : ℕ) (locations : List Loc) → most ≤ more → All (λ loc. mark_of marks loc ≤ most) locations
    → All (λ loc. mark_of marks loc ≤ more) locations
within-all marks most more locations up =
    All-weaker (λ loc. mark_of marks loc ≤ most) (λ loc. mark_of marks loc ≤ more) (λ x low. omega arith) locations

pub keeps-marks : (before after : Touched) → Grows before.reads after.reads → Grows before.writes after.writes → KeepsMarks before after
keeps-marks before after reads writes many foot marked =
    record {
      reads = stays before.reads after.reads many foot.reads reads marked.reads;
      writes = stays before.writes after.writes many foot.writes writes marked.writes;
    }

-- locations of which the ones have greater marks than the others are apart
apart : (marks : List ℕ) (many last : ℕ) (left right : List Loc) → All (λ loc. many ≤ mark_of marks loc) left
    → All (λ loc. mark_of marks loc ≤ last) right → last < many → Shared left right → ⊥
apart marks many last left right all_left all_right less h =
    let low = All-contains (λ loc. many ≤ mark_of marks loc) left h.0 all_left h.1 in
    let high = All-contains (λ loc. mark_of marks loc ≤ last) right h.0 all_right h.2 in omega arith

module _ (touched : Touched) (last : ℕ) (foot : Footprint) (writes : All (λ loc. mark_of touched.writes loc ≤ last) foot.writes)
    (reads : All (λ loc. mark_of touched.writes loc ≤ last) foot.reads) (read : All (λ loc. mark_of touched.reads loc ≤ last) foot.writes) where
  -- what has a greater mark than all that the footprint reads and writes is not in conflict with it
  pub clear-past : IsClearPast touched last foot
  clear-past many other marked less (inl h) = apart touched.writes many last other.writes foot.writes marked.writes writes less h
  clear-past many other marked less (inr (inl h)) = apart touched.writes many last other.writes foot.reads marked.writes reads less h
  clear-past many other marked less (inr (inr h)) = apart touched.reads many last other.reads foot.writes marked.reads read less h
