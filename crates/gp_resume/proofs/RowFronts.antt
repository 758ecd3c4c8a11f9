-- Rows at the front of bytes, part by part.
use Rattle.std.proofs.Common.{◌≡◌, ◌≢◌, ◌<◌, ◌||◌, ◌==◌, ℕ, ℤ, true, List, [], ◌∷◌, ◌++◌, length, get_or, refl, sym, ap, subst, ◌∙◌, arith, append_assoc}
use Rattle.std.specs.Prelude.{flat_map, codes, All}
use Rattle.std.specs.Fmt.{signed_decimal}
use Rattle.std.specs.Char.{is_ascii_digit}
use Rattle.std.specs.Str.{all_ascii_digits}
use Rattle.std.proofs.lemmas.Bool.{and_parts}
use Rattle.restart_log.specs.meaning.Lines.{spaced}
use Rattle.retirement_log.specs.meaning.Rows.{Retirement, group, cell_numbers, row_text, IsWide, IsWideRow}
use Rattle.gp_resume.specs.inner.RowsRead.{BeginsWithRow}
use Rattle.gp_resume.specs.inner.Fronts.{IsOnlyFront, EndsNumber, EndsNumbers, EndsCells, IsWideCell, Anything, is_numeral, spaced_number, cell_text, cells_end, head_text}
use Rattle.gp_resume.proofs.Fronts.{NoFront, both, both_fit, then-some, then-none, first-none, word-then, no-word, word-then-none, then-word, then-no-word}
use Rattle.gp_resume.proofs.Printed.{printed-numeral, printed-some}

-- ---- where numbers end

-- a number that is printed begins with a digit or with a minus
pub first-byte : (n : ℤ) (c : ℕ) (rest later : List ℕ) → c ∷ rest ≡ signed_decimal n ++ later → (is_ascii_digit c || c == 45) ≡ true
first-byte n c rest later same = go (signed_decimal n) (printed-numeral n) (printed-some n) same
  where
    go : (ds : List ℕ) → is_numeral ds ≡ true → 0 < length ds → c ∷ rest ≡ ds ++ later → (is_ascii_digit c || c == 45) ≡ true
    go [] numeral some is = absurd (omega (arith, some))
    go (d ∷ ds) numeral some is =
        let first : d ≡ c = ap (λ bytes. get_or bytes 0 0) (sym is) in
        subst (λ x. (is_ascii_digit x || x == 45) ≡ true) first (and_parts (is_ascii_digit d || d == 45) (all_ascii_digits ds) numeral).0

-- no number stands where a group does
pub group-apart : (n : ℤ) (rest later : List ℕ) → codes " ;" ++ rest ≡ spaced_number n ++ later → ⊥
group-apart n rest later same =
    let tails : 59 ∷ rest ≡ signed_decimal n ++ later = cc same in let first = first-byte n 59 rest later tails in cc first

pub group-ends : (rest : List ℕ) → EndsNumbers (codes " ;" ++ rest)
group-ends rest = (refl, λ n later l same. group-apart n rest later same)

-- nor where a line ends
pub line-apart : (n : ℤ) (rest later : List ℕ) → codes "\n" ++ rest ≡ spaced_number n ++ later → ⊥
line-apart n rest later same = let first = ap (λ bytes. get_or bytes 0 0) same in omega (arith, first)

pub line-ends : (rest : List ℕ) → EndsNumbers (codes "\n" ++ rest)
line-ends rest = (refl, λ n later l same. line-apart n rest later same)

-- where no numbers go on, no cells do
pub cells-line-ends : (rest : List ℕ) → EndsCells (codes "\n" ++ rest)
cells-line-ends rest = (
  refl,
  λ cell later fit same. (line-ends rest).1 cell.0 (spaced_number cell.1 ++ later) fit.0
      (same ∙ append_assoc (spaced_number cell.0) (spaced_number cell.1) later),
)

-- ---- the last group

abbrev cells_line : List (ℤ × ℤ) → List ℕ
cells_line cells = flat_map cell_text cells ++ codes "\n"

module _ (bytes rest : List ℕ) (is : bytes ≡ codes " ;" ++ rest) (cells : List (ℤ × ℤ)) (later : List ℕ)
    (read : IsOnlyFront (flat_map cell_text) (All IsWideCell) EndsCells rest cells later) where
  pub cells-then-line : (end : List ℕ) → later ≡ codes "\n" ++ end → IsOnlyFront cells_end (All IsWideCell) Anything bytes cells end
  cells-then-line end more =
      word-then cells_line (All IsWideCell) Anything (codes " ;") bytes rest end cells is
      (then-word (flat_map cell_text) (All IsWideCell) EndsCells (codes "\n") cells-line-ends rest later end cells read more)

  pub cells-then-none : ((end : List ℕ) → later ≢ codes "\n" ++ end) → NoFront cells_end (All IsWideCell) Anything bytes
  cells-then-none none =
      word-then-none cells_line (All IsWideCell) Anything (codes " ;") bytes rest is
      (then-no-word (flat_map cell_text) (All IsWideCell) EndsCells (codes "\n") cells-line-ends rest later cells read none)

pub no-cells : (bytes : List ℕ) → ((rest : List ℕ) → bytes ≢ codes " ;" ++ rest) → NoFront cells_end (All IsWideCell) Anything bytes
no-cells = no-word cells_line (All IsWideCell) Anything (codes " ;")

-- ---- the parts of a row

abbrev Parts : Type 0
Parts = (((ℤ × ℤ) × List ℤ) × List ℤ) × List (ℤ × ℤ)

abbrev parts : Retirement → Parts
parts row = ((((row.position, row.bytes), row.regs), row.child), row.cells)

abbrev row_of : Parts → Retirement
row_of p = record { position = p.0.0.0.0; bytes = p.0.0.0.1; regs = p.0.0.1; child = p.0.1; cells = p.1 }

abbrev one_group : (ℤ × ℤ) × List ℤ → List ℕ
one_group = both head_text group

abbrev one_fits : (ℤ × ℤ) × List ℤ → Type 0
one_fits = both_fit IsWideCell (All IsWide)

abbrev two_groups : ((ℤ × ℤ) × List ℤ) × List ℤ → List ℕ
two_groups = both one_group group

abbrev two_fit : ((ℤ × ℤ) × List ℤ) × List ℤ → Type 0
two_fit = both_fit one_fits (All IsWide)

abbrev parts_text : Parts → List ℕ
parts_text = both two_groups cells_end

abbrev parts_fit : Parts → Type 0
parts_fit = both_fit two_fit (All IsWideCell)

cells-spaced : (cells : List (ℤ × ℤ)) → spaced (flat_map cell_numbers cells) ≡ flat_map cell_text cells
cells-spaced [] = refl
cells-spaced (x ∷ cells) =
    ap (λ t. spaced_number x.0 ++ (spaced_number x.1 ++ t)) (cells-spaced cells)
    ∙ sym (append_assoc (spaced_number x.0) (spaced_number x.1) (flat_map cell_text cells))

text-parts : (row : Retirement) → row_text row ≡ parts_text (parts row)
text-parts row =
    let p = signed_decimal row.position in
    let b = signed_decimal row.bytes in
    let g = group row.regs in
    let h = group row.child in
    let k = group (flat_map cell_numbers row.cells) in
    let head = head_text (row.position, row.bytes) in
    let cells = ap (λ t. codes " ;" ++ (t ++ codes "\n")) (cells-spaced row.cells) in
    ap (λ t. t ++ (g ++ h ++ k ++ codes "\n")) (append_assoc p (codes " ") b)
    ∙ (ap (λ t. head ++ t) (append_assoc (g ++ h) k (codes "\n") ∙ append_assoc g h (k ++ codes "\n"))
    ∙ (sym (append_assoc head g (h ++ (k ++ codes "\n")))
    ∙ (sym (append_assoc (head ++ g) h (k ++ codes "\n")) ∙ ap (λ t. ((head ++ g) ++ h) ++ t) cells)))

parts-fit : (row : Retirement) → IsWideRow row → parts_fit (parts row)
parts-fit row wide = ((((wide.position, wide.bytes), wide.regs), wide.child), wide.cells)

whole-row : (bytes rest : List ℕ) (p : Parts) → IsOnlyFront parts_text parts_fit Anything bytes p rest
    → IsOnlyFront row_text IsWideRow Anything bytes (row_of p) rest
whole-row bytes rest p read =
    record {
      fit = record
          { position = read.fit.0.0.0.0; bytes = read.fit.0.0.0.1; regs = read.fit.0.0.1; child = read.fit.0.1; cells = read.fit.1 };
      bytes_are = read.bytes_are ∙ ap (λ t. t ++ rest) (sym (text-parts (row_of p)));
      only = λ other after wide end same. once other after
          (read.only (parts other) after (parts-fit other wide) end (same ∙ ap (λ t. t ++ after) (text-parts other)));
    }
  where
    once : (other : Retirement) (after : List ℕ) → (parts other ≡ p) × (after ≡ rest) → (other ≡ row_of p) × (after ≡ rest)
    once other after h = (ap row_of h.0, h.1)

no-row : (bytes : List ℕ) → NoFront parts_text parts_fit Anything bytes → NoFront row_text IsWideRow Anything bytes
no-row bytes none row rest wide end same = none (parts row) rest (parts-fit row wide) end (same ∙ ap (λ t. t ++ rest) (text-parts row))

group-behind-number : (values : List ℤ) (rest : List ℕ) → EndsNumber (group values ++ rest)
group-behind-number values rest = refl

group-behind-group : (values : List ℤ) (rest : List ℕ) → EndsNumbers (group values ++ rest)
group-behind-group values rest = group-ends (spaced values ++ rest)

cells-behind-group : (cells : List (ℤ × ℤ)) (rest : List ℕ) → EndsNumbers (cells_end cells ++ rest)
cells-behind-group cells rest = group-ends (cells_line cells ++ rest)

-- no row where no head stands
pub no-head : (bytes : List ℕ) → NoFront head_text IsWideCell EndsNumber bytes → NoFront row_text IsWideRow Anything bytes
no-head bytes none =
    no-row bytes
    (first-none two_groups two_fit EndsNumbers cells_end (All IsWideCell) Anything cells-behind-group bytes
    (first-none one_group one_fits EndsNumbers group (All IsWide) EndsNumbers group-behind-group bytes
    (first-none head_text IsWideCell EndsNumber group (All IsWide) EndsNumbers group-behind-number bytes none)))

module _ (bytes rest : List ℕ) (head : ℤ × ℤ) (first : IsOnlyFront head_text IsWideCell EndsNumber bytes head rest) where
  -- nor where no group comes after it
  pub no-regs : NoFront group (All IsWide) EndsNumbers rest → NoFront row_text IsWideRow Anything bytes
  no-regs none =
      no-row bytes
      (first-none two_groups two_fit EndsNumbers cells_end (All IsWideCell) Anything cells-behind-group bytes
      (first-none one_group one_fits EndsNumbers group (All IsWide) EndsNumbers group-behind-group bytes
      (then-none head_text IsWideCell EndsNumber group (All IsWide) EndsNumbers group-behind-number bytes rest head first none)))

  module _ (regs : List ℤ) (later : List ℕ) (second : IsOnlyFront group (All IsWide) EndsNumbers rest regs later) where
    one : IsOnlyFront one_group one_fits EndsNumbers bytes (head, regs) later
    one = then-some head_text IsWideCell EndsNumber group (All IsWide) EndsNumbers group-behind-number bytes rest later head regs first
        second

    -- nor where no second one does
    pub no-child : NoFront group (All IsWide) EndsNumbers later → NoFront row_text IsWideRow Anything bytes
    no-child none =
        no-row bytes
        (first-none two_groups two_fit EndsNumbers cells_end (All IsWideCell) Anything cells-behind-group bytes
        (then-none one_group one_fits EndsNumbers group (All IsWide) EndsNumbers group-behind-group bytes later (head, regs) one none))

    module _ (child : List ℤ) (last : List ℕ) (third : IsOnlyFront group (All IsWide) EndsNumbers later child last) where
      two : IsOnlyFront two_groups two_fit EndsNumbers bytes ((head, regs), child) last
      two = then-some one_group one_fits EndsNumbers group (All IsWide) EndsNumbers group-behind-group bytes later last (head, regs) child
          one third

      -- nor where no cells do up to the end of the line
      pub no-end : NoFront cells_end (All IsWideCell) Anything last → NoFront row_text IsWideRow Anything bytes
      no-end none =
          no-row bytes
          (then-none two_groups two_fit EndsNumbers cells_end (All IsWideCell) Anything cells-behind-group bytes last
          ((head, regs), child) two none)

      pub row-whole : (cells : List (ℤ × ℤ)) (end : List ℕ) → IsOnlyFront cells_end (All IsWideCell) Anything last cells end
          → IsOnlyFront row_text IsWideRow Anything bytes
          (record { position = head.0; bytes = head.1; regs = regs; child = child; cells = cells }) end
      row-whole cells end fourth =
          whole-row bytes end (((head, regs), child), cells)
          (then-some two_groups two_fit EndsNumbers cells_end (All IsWideCell) Anything cells-behind-group bytes last end
          ((head, regs), child) cells two fourth)

-- no row stands there
pub none-begins : (bytes : List ℕ) → NoFront row_text IsWideRow Anything bytes → BeginsWithRow bytes → ⊥
none-begins bytes none begins = none begins.row begins.rest begins.wide tt begins.bytes_are
