-- Checkpoints at rising cuts, when some are given up or one more comes.
use Rattle.std.proofs.Common.{◌≡◌, inl, inr, ℕ, suc, ◌+◌, ◌<◌, ◌≤◌, List, [], ◌∷◌, ◌++◌, length, map, get_or, All, Contains, subst, arith}
use Rattle.std.specs.List.Sorted.{IsStrictlyIncreasing}
use Rattle.std.proofs.lemmas.Bool.{cases_lt}
use Rattle.std.proofs.lemmas.List.{length_push, length-append, get_or_append_left, get_or_push, map-append}
use Rattle.std.proofs.lemmas.List.Elements.{All-weaker, All-contains, All-contains_itself}
use Rattle.whole_run.specs.declared.parts.backing.Checkpoint.{Checkpoint}
use Rattle.whole_run.specs.inner.Backed.{AreLive}

-- ---- numbers that rise

pub rising-front : (xs ys : List ℕ) → IsStrictlyIncreasing (xs ++ ys) → IsStrictlyIncreasing xs
rising-front xs ys rises k less =
    let long = length-append xs ys in
    let first = get_or_append_left xs ys 0 k (omega arith) in
    let second = get_or_append_left xs ys 0 (k + 1) less in
    let step : get_or (xs ++ ys) k 0 < get_or (xs ++ ys) (k + 1) 0 = rises k (omega arith) in
    omega arith

pub rising-rest : (xs ys : List ℕ) → IsStrictlyIncreasing (xs ++ ys) → IsStrictlyIncreasing ys
rising-rest [] ys rises = rises
rising-rest (x ∷ xs) ys rises =
    rising-rest xs ys
    (λ k less.
    (let next : suc k + 1 ≡ suc (k + 1) = omega arith in
    subst (λ n. get_or (xs ++ ys) k 0 < get_or (x ∷ xs ++ ys) n 0) next (rises (suc k) (omega arith))))

pub rising-push : (xs : List ℕ) (last : ℕ) → IsStrictlyIncreasing xs → All (λ x. x < last) xs → IsStrictlyIncreasing (xs ++ last ∷ [])
rising-push xs last rises below k less =
    let long = length_push xs last in
    elim (cases_lt (k + 1) (length xs)) [
      | inl inside ↦
          (let first = get_or_append_left xs (last ∷ []) 0 k (omega arith) in
          let second = get_or_append_left xs (last ∷ []) 0 (k + 1) inside in
          let step : get_or xs k 0 < get_or xs (k + 1) 0 = rises k inside in
          omega arith)
      | inr end ↦
          (let first = get_or_append_left xs (last ∷ []) 0 k (omega arith) in
          let second = get_or_push xs last 0 (k + 1) (omega arith) in
          let step : get_or xs k 0 < last = below k 0 (omega arith) in
          omega arith)
    ]

-- ---- the cuts of checkpoints

abbrev pub cuts_in : List Checkpoint → List ℕ
cuts_in checkpoints = map (λ (checkpoint : Checkpoint). checkpoint.cut) checkpoints

pub cuts-append : (some rest : List Checkpoint) → cuts_in (some ++ rest) ≡ cuts_in some ++ cuts_in rest
cuts-append some rest = map-append (λ (checkpoint : Checkpoint). checkpoint.cut) some rest

-- no checkpoint of a part at the front lies before a position, and none of some and one more
pub live-front : (p : ℕ) (front rest : List Checkpoint) → AreLive p (front ++ rest) → AreLive p front
live-front p [] rest none = tt
live-front p (x ∷ front) rest none = none

pub live-push : (p : ℕ) (some : List Checkpoint) (last : Checkpoint) → AreLive p some → p ≤ last.cut
    → AreLive p (some ++ last ∷ [])
live-push p [] last none low = low
live-push p (x ∷ some) last none low = none

-- what all of a list meet, all of a part meet
pub all-part : (P : Checkpoint → Type 0) (part whole : List Checkpoint) → ((x : Checkpoint) → Contains part x → Contains whole x)
    → All P whole
    → All P part
all-part P part whole within all =
    All-weaker (Contains part) P (λ x there. All-contains P whole x all (within x there)) part (All-contains_itself part)
