-- What stands at the front of bytes can be found, or there is none.
use Rattle.std.proofs.Common.{◌≡◌, ◌⊎◌, inl, inr, ◌<◌, ◌≤◌, ◌^◌, ℕ, zero, suc, ℤ, pos, negsuc, false, List, [], ◌∷◌, ◌++◌, length, length-append, refl, sym, ap, subst, ◌∙◌, arith}
use Rattle.std.specs.Prelude.{All, codes, flat_map}
use Rattle.std.specs.Fmt.{signed_decimal}
use Rattle.restart_log.specs.meaning.Lines.{spaced}
use Rattle.retirement_log.specs.meaning.Rows.{group, row_text, IsWide, IsWideRow}
use Rattle.gp_base.specs.Fronts.{begins_with_digit}
use Rattle.gp_resume.specs.inner.Fronts.{IsOnlyFront, EndsMany, ReadsMany, EndsNumber, EndsNumbers, EndsCells, IsWideCell, Anything, spaced_number, cell_text, cells_end, head_text}
use Rattle.gp_resume.proofs.Choices.{Choice, is-false, begins, below}
use Rattle.gp_resume.proofs.Fronts.{NoFront, cancel, word-then, no-word, word-then-none, both, both_fit, then-some, then-none, first-none, many-start, many-more, many-end}
use Rattle.gp_resume.proofs.Numerals.{number-front}
use Rattle.gp_resume.proofs.RowFronts.{cells-then-line, cells-then-none, no-cells, no-head, no-regs, no-child, no-end, row-whole}

-- the only text at the front of the bytes, or that there is none
abbrev pub Found : {A : Type 0} → (A → List ℕ) → (A → Type 0) → (List ℕ → Type 0) → List ℕ → Type 0
Found {A} text fits ends bytes = ((read : A × List ℕ) × IsOnlyFront text fits ends bytes read.0 read.1) ⊎ NoFront text fits ends bytes

-- ---- a number

abbrev NumberAt : List ℕ → ℤ → Type 0
NumberAt bytes z = (rest : List ℕ) × (begins_with_digit rest ≡ false) × (bytes ≡ signed_decimal z ++ rest)

number-at : (bytes : List ℕ) (z : ℤ) → Choice (NumberAt bytes z)
number-at bytes z =
    elim (begins (signed_decimal z) bytes) [
      | inl found ↦ elim (is-false (begins_with_digit found.0)) [
        | inl ends ↦ inl (found.0, ends, found.1)
        | inr goes ↦ inr (λ other. goes
            (subst (λ rest. begins_with_digit rest ≡ false) (cancel (signed_decimal z) other.0 found.0 (sym other.2 ∙ found.1)) other.1))
      ]
      | inr not ↦ inr (λ other. not (other.0, other.2))
    ]

abbrev SomeNumber : List ℕ → (ℕ → ℤ) → Type 0
SomeNumber bytes sign = (n : ℕ) × (n < 2 ^ 63) × NumberAt bytes (sign n)

some-number : (bytes : List ℕ) (sign : ℕ → ℤ) → Choice (SomeNumber bytes sign)
some-number bytes sign = below (λ n. NumberAt bytes (sign n)) (2 ^ 63) (λ n. number-at bytes (sign n))

no-number : (bytes : List ℕ) → (SomeNumber bytes pos → ⊥) → (SomeNumber bytes negsuc → ⊥) → NoFront signed_decimal IsWide EndsNumber bytes
no-number bytes no_pos no_neg (pos n) rest l ends same = no_pos (n, l, (rest, ends, same))
no-number bytes no_pos no_neg (negsuc n) rest l ends same = no_neg (n, l, (rest, ends, same))

pub number-found : (bytes : List ℕ) → Found signed_decimal IsWide EndsNumber bytes
number-found bytes =
    elim (some-number bytes pos) [
      | inl found ↦ inl ((pos found.0, found.2.0), number-front bytes found.2.0 (pos found.0) found.1 found.2.1 found.2.2)
      | inr no_pos ↦ elim (some-number bytes negsuc) [
        | inl found ↦ inl ((negsuc found.0, found.2.0), number-front bytes found.2.0 (negsuc found.0) found.1 found.2.1 found.2.2)
        | inr no_neg ↦ inr (no-number bytes no_pos no_neg)
      ]
    ]

-- ---- parts, one after another

module _ {A : Type 0} (text : A → List ℕ) (fits : A → Type 0) (ends : List ℕ → Type 0) (word : List ℕ) where
  word-found : (bytes : List ℕ) → ((rest : List ℕ) → Found text fits ends rest) → Found (λ value. word ++ text value) fits ends bytes
  word-found bytes found =
      elim (begins word bytes) [
        | inl at ↦ elim (found at.0) [
          | inl read ↦ inl (read.0, word-then text fits ends word bytes at.0 read.0.1 read.0.0 at.1 read.1)
          | inr none ↦ inr (word-then-none text fits ends word bytes at.0 at.1 none)
        ]
        | inr not ↦ inr (no-word text fits ends word bytes (λ rest is. not (rest, is)))
      ]

module _ {A B : Type 0} (text : A → List ℕ) (fits : A → Type 0) (ends : List ℕ → Type 0) (next : B → List ℕ) (next_fits : B → Type 0)
    (next_ends : List ℕ → Type 0)
    (apart : (value : B) (rest : List ℕ) → ends (next value ++ rest)) where
  both-found : (bytes : List ℕ) → Found text fits ends bytes → ((rest : List ℕ) → Found next next_fits next_ends rest)
      → Found (both text next) (both_fit fits next_fits) next_ends bytes
  both-found bytes (inr none) found = inr (first-none text fits ends next next_fits next_ends apart bytes none)
  both-found bytes (inl first) found =
      elim (found first.0.1) [
        | inl read ↦ inl (
          ((first.0.0, read.0.0), read.0.1),
          then-some text fits ends next next_fits next_ends apart bytes first.0.1 read.0.1 first.0.0 read.0.0 first.1 read.1,
        )
        | inr none ↦ inr (then-none text fits ends next next_fits next_ends apart bytes first.0.1 first.0.0 first.1 none)
      ]

module _ {A : Type 0} (text : A → List ℕ) (fits : A → Type 0) (ends : List ℕ → Type 0)
    (apart : (value : A) (rest : List ℕ) → ends (text value ++ rest))
    (some : (value : A) → 0 < length (text value)) (found : (bytes : List ℕ) → Found text fits ends bytes) where
  abbrev Many : List ℕ → Type 0
  Many bytes = (read : List A × List ℕ) × IsOnlyFront (flat_map text) (All fits) (EndsMany text fits ends) bytes read.0 read.1

  shorter : (rest later : List ℕ) (value : A) → rest ≡ text value ++ later → length later < length rest
  shorter rest later value is = let size = ap length is in let parts = length-append (text value) later in let one = some value in
      omega (arith, size, parts, one)

  many-from : (fuel : ℕ) (bytes rest : List ℕ) (values : List A) → length rest ≤ fuel → ReadsMany text fits ends bytes values rest
      → Many bytes
  many-from zero bytes rest values short reads =
      elim (found rest) [
        | inl read ↦ absurd (let less = shorter rest read.0.1 read.0.0 read.1.bytes_are in omega (arith, less, short))
        | inr none ↦ ((values, rest), many-end text fits ends apart bytes rest values reads none)
      ]
  many-from (suc fuel) bytes rest values short reads =
      elim (found rest) [
        | inl read ↦
            let less = shorter rest read.0.1 read.0.0 read.1.bytes_are in
            many-from fuel bytes read.0.1 (values ++ read.0.0 ∷ []) (omega (arith, less, short))
            (many-more text fits ends apart bytes rest read.0.1 values read.0.0 reads read.1)
        | inr none ↦ ((values, rest), many-end text fits ends apart bytes rest values reads none)
      ]

  many : (bytes : List ℕ) → Many bytes
  many bytes = many-from (length bytes) bytes bytes [] (omega arith) (many-start text fits ends apart bytes)

-- ---- the parts of a row

spaced-found : (bytes : List ℕ) → Found spaced_number IsWide EndsNumber bytes
spaced-found bytes = word-found signed_decimal IsWide EndsNumber (codes " ") bytes number-found

cell-found : (bytes : List ℕ) → Found cell_text IsWideCell EndsNumber bytes
cell-found bytes =
    both-found spaced_number IsWide EndsNumber spaced_number IsWide EndsNumber (λ value rest. refl) bytes (spaced-found bytes) spaced-found

head-found : (bytes : List ℕ) → Found head_text IsWideCell EndsNumber bytes
head-found bytes =
    both-found signed_decimal IsWide EndsNumber spaced_number IsWide EndsNumber (λ value rest. refl) bytes (number-found bytes) spaced-found

group-found : (bytes : List ℕ) → Found group (All IsWide) EndsNumbers bytes
group-found bytes =
    word-found spaced (All IsWide) EndsNumbers (codes " ;") bytes
    (λ rest. inl (many spaced_number IsWide EndsNumber (λ value later. refl) (λ value. omega arith) spaced-found rest))

cells-found : (bytes : List ℕ) → Found cells_end (All IsWideCell) Anything bytes
cells-found bytes =
    elim (begins (codes " ;") bytes) [
      | inl at ↦ line (at.0) at.1 (many cell_text IsWideCell EndsNumber (λ value later. refl) (λ value. omega arith) cell-found at.0)
      | inr not ↦ inr (no-cells bytes (λ rest is. not (rest, is)))
    ]
  where
    line : (rest : List ℕ) → bytes ≡ codes " ;" ++ rest
        → (read : List (ℤ × ℤ) × List ℕ) × IsOnlyFront (flat_map cell_text) (All IsWideCell) EndsCells rest read.0 read.1
        → Found cells_end (All IsWideCell) Anything bytes
    line rest is read =
        elim (begins (codes "\n") read.0.1) [
          | inl end ↦ inl ((read.0.0, end.0), cells-then-line bytes rest is read.0.0 read.0.1 read.1 end.0 end.1)
          | inr not ↦ inr (cells-then-none bytes rest is read.0.0 read.0.1 read.1 (λ end same. not (end, same)))
        ]

-- the row at the front of the bytes, or that there is none
pub row-found : (bytes : List ℕ) → Found row_text IsWideRow Anything bytes
row-found bytes =
    elim (head-found bytes) [
      | inl head ↦ elim (group-found head.0.1) [
        | inl regs ↦ elim (group-found regs.0.1) [
          | inl child ↦ elim (cells-found child.0.1) [
            | inl cells ↦ inl (
              (
                record { position = head.0.0.0; bytes = head.0.0.1; regs = regs.0.0; child = child.0.0; cells = cells.0.0 },
                cells.0.1,
              ),
              row-whole bytes head.0.1 head.0.0 head.1 regs.0.0 regs.0.1 regs.1 child.0.0 child.0.1 child.1 cells.0.0 cells.0.1 cells.1,
            )
            | inr none ↦ inr (no-end bytes head.0.1 head.0.0 head.1 regs.0.0 regs.0.1 regs.1 child.0.0 child.0.1 child.1 none)
          ]
          | inr none ↦ inr (no-child bytes head.0.1 head.0.0 head.1 regs.0.0 regs.0.1 regs.1 none)
        ]
        | inr none ↦ inr (no-regs bytes head.0.1 head.0.0 head.1 none)
      ]
      | inr none ↦ inr (no-head bytes none)
    ]
