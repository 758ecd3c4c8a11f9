-- A wide row is read in one way, whatever the numbers of another row are.
use Rattle.std.proofs.Common.{◌≡◌, ◌≢◌, ℕ, ℤ, List, [], ◌∷◌, ◌++◌, drop, refl, sym, ap, ◌∙◌, append_assoc}
use Rattle.std.specs.Prelude.{All, codes, flat_map}
use Rattle.std.specs.Fmt.{signed_decimal}
use Rattle.std.proofs.lemmas.List.Elements.{All-nil, All-cons, All-head, All-tail}
use Rattle.restart_log.specs.meaning.Lines.{spaced}
use Rattle.retirement_log.specs.meaning.Rows.{Retirement, group, cell_numbers, row_text, IsWide, IsWideRow}
use Rattle.gp_resume.specs.inner.Fronts.{EndsNumber, IsWideCell, spaced_number}
use Rattle.gp_resume.proofs.Fronts.{cancel}
use Rattle.gp_resume.proofs.Numerals.{number-once}
use Rattle.gp_resume.proofs.RowFronts.{group-apart, line-apart}

-- bytes with which no list of numbers goes on, wide or not
record Halts (rest : List ℕ) : Type 0 where
  ends : EndsNumber rest
  apart : (n : ℤ) (later : List ℕ) → rest ≢ spaced_number n ++ later

-- what comes after a number of a list
behind-one : (values : List ℤ) (rest : List ℕ) → Halts rest → EndsNumber (spaced values ++ rest)
behind-one [] rest halts = halts.ends
behind-one (x ∷ values) rest halts = refl

first-one : (x : ℤ) (values : List ℤ) (rest : List ℕ) → spaced (x ∷ values) ++ rest ≡ spaced_number x ++ (spaced values ++ rest)
first-one x values rest = append_assoc (spaced_number x) (spaced values) rest

numbers-once : (xs ys : List ℤ) (r s : List ℕ) → All IsWide xs → Halts r → Halts s → spaced xs ++ r ≡ spaced ys ++ s → (xs ≡ ys) × (r ≡ s)
numbers-once [] [] r s wide hr hs same = (refl, same)
numbers-once [] (y ∷ ys) r s wide hr hs same = absurd (hr.apart y (spaced ys ++ s) (same ∙ first-one y ys s))
numbers-once (x ∷ xs) [] r s wide hr hs same = absurd (hs.apart x (spaced xs ++ r) (sym same ∙ first-one x xs r))
numbers-once (x ∷ xs) (y ∷ ys) r s wide hr hs same =
    let tails : signed_decimal x ++ (spaced xs ++ r) ≡ signed_decimal y ++ (spaced ys ++ s) =
    cancel (codes " ") (signed_decimal x ++ (spaced xs ++ r))
    (signed_decimal y ++ (spaced ys ++ s)) (sym (first-one x xs r) ∙ (same ∙ first-one y ys s)) in
    let one =
    number-once x y (spaced xs ++ r) (spaced ys ++ s) (All-head IsWide x xs wide) (behind-one xs r hr) (behind-one ys s hs) tails in
    let rest = numbers-once xs ys r s (All-tail IsWide x xs wide) hr hs one.1 in
    ((λ i. one.0 i ∷ rest.0 i), rest.1)

-- ---- groups

group-halts : (rest : List ℕ) → Halts (codes " ;" ++ rest)
group-halts rest = record { ends = refl; apart = λ n later same. group-apart n rest later same }

line-halts : (rest : List ℕ) → Halts (codes "\n" ++ rest)
line-halts rest = record { ends = refl; apart = λ n later same. line-apart n rest later same }

group-once : (xs ys : List ℤ) (r s : List ℕ) → All IsWide xs → Halts r → Halts s → group xs ++ r ≡ group ys ++ s → (xs ≡ ys) × (r ≡ s)
group-once xs ys r s wide hr hs same =
    numbers-once xs ys r s wide hr hs
    (cancel (codes " ;") (spaced xs ++ r) (spaced ys ++ s)
    (sym (append_assoc (codes " ;") (spaced xs) r) ∙ (same ∙ append_assoc (codes " ;") (spaced ys) s)))

-- ---- rows

-- what comes after the cells, after the child, after the registers and after the bytes
abbrev behind_child : Retirement → List ℕ → List ℕ
behind_child r rest = group (flat_map cell_numbers r.cells) ++ (codes "\n" ++ rest)

abbrev behind_regs : Retirement → List ℕ → List ℕ
behind_regs r rest = group r.child ++ behind_child r rest

abbrev behind_bytes : Retirement → List ℕ → List ℕ
behind_bytes r rest = group r.regs ++ behind_regs r rest

abbrev behind_position : Retirement → List ℕ → List ℕ
behind_position r rest = codes " " ++ (signed_decimal r.bytes ++ behind_bytes r rest)

row-parts : (r : Retirement) (rest : List ℕ) → row_text r ++ rest ≡ signed_decimal r.position ++ behind_position r rest
row-parts r rest =
    let p = signed_decimal r.position in
    let b = signed_decimal r.bytes in
    let g = group r.regs in
    let h = group r.child in
    let k = group (flat_map cell_numbers r.cells) in
    append_assoc (p ++ codes " " ++ b) (g ++ h ++ k ++ codes "\n") rest
    ∙ (append_assoc (p ++ codes " ") b ((g ++ h ++ k ++ codes "\n") ++ rest)
    ∙ (append_assoc p (codes " ") (b ++ ((g ++ h ++ k ++ codes "\n") ++ rest))
    ∙ ap (λ t. p ++ (codes " " ++ (b ++ t)))
    (append_assoc (g ++ h ++ k) (codes "\n") rest
    ∙ (append_assoc (g ++ h) k (codes "\n" ++ rest) ∙ append_assoc g h (k ++ (codes "\n" ++ rest))))))

wide-cells : (cells : List (ℤ × ℤ)) → All IsWideCell cells → All IsWide (flat_map cell_numbers cells)
wide-cells [] wide = All-nil IsWide
wide-cells (x ∷ cells) wide =
    let here = All-head IsWideCell x cells wide in
    All-cons IsWide x.0 (x.1 ∷ flat_map cell_numbers cells) here.0
    (All-cons IsWide x.1 (flat_map cell_numbers cells) here.1 (wide-cells cells (All-tail IsWideCell x cells wide)))

cells-once : (xs ys : List (ℤ × ℤ)) → flat_map cell_numbers xs ≡ flat_map cell_numbers ys → xs ≡ ys
cells-once [] [] same = refl
cells-once [] (y ∷ ys) same = absurd (cc same)
cells-once (x ∷ xs) [] same = absurd (cc same)
cells-once (x ∷ xs) (y ∷ ys) same =
    let cell : x.0 ≡ y.0 = cc same in
    let value : x.1 ≡ y.1 = cc same in
    let rest = cells-once xs ys (ap (drop 2) same) in
    λ i. (cell i, value i) ∷ rest i

-- a row is read in one way
pub row-once : (r s : Retirement) (a b : List ℕ) → IsWideRow r → row_text r ++ a ≡ row_text s ++ b → (r ≡ s) × (a ≡ b)
row-once r s a b wide same =
    let first = number-once r.position s.position (behind_position r a) (behind_position s b) wide.position refl refl
    (sym (row-parts r a) ∙ (same ∙ row-parts s b)) in
    let second = number-once r.bytes s.bytes (behind_bytes r a) (behind_bytes s b) wide.bytes refl refl
    (cancel (codes " ") (signed_decimal r.bytes ++ behind_bytes r a) (signed_decimal s.bytes ++ behind_bytes s b) first.1) in
    let regs = group-once r.regs s.regs (behind_regs r a) (behind_regs s b) wide.regs (group-halts (spaced r.child ++ behind_child r a))
    (group-halts (spaced s.child ++ behind_child s b)) second.1 in
    let child = group-once r.child s.child (behind_child r a) (behind_child s b) wide.child
    (group-halts (spaced (flat_map cell_numbers r.cells) ++ (codes "\n" ++ a)))
    (group-halts (spaced (flat_map cell_numbers s.cells) ++ (codes "\n" ++ b))) regs.1 in
    let cells = group-once (flat_map cell_numbers r.cells) (flat_map cell_numbers s.cells) (codes "\n" ++ a) (codes "\n" ++ b)
    (wide-cells r.cells wide.cells) (line-halts a) (line-halts b) child.1 in
    let pairs = cells-once r.cells s.cells cells.0 in (
      (λ i. record { position = first.0 i; bytes = second.0 i; regs = regs.0 i; child = child.0 i; cells = pairs i }),
      cancel (codes "\n") a b cells.1,
    )
