-- The first bytes of a run's own log are answered by rows: those that stand whole in them.
--
-- A line ends a row and stands nowhere else in it. So what is left after the whole rows, a part of the next row, ends no line.
use Rattle.std.proofs.Common.{◌≡◌, ◌≢◌, inl, inr, ◌+◌, ◌-◌, ◌<◌, ◌≤◌, ℕ, ℤ, suc, true, List, [], ◌∷◌, ◌++◌, length, length-append, take, refl, sym, ap, subst, ◌∙◌, arith, append_assoc}
use Rattle.std.specs.Prelude.{All, codes, flat_map, ◌||◌, ◌==◌}
use Rattle.std.specs.Char.{is_ascii_digit}
use Rattle.std.specs.Str.{all_ascii_digits}
use Rattle.std.specs.Fmt.{signed_decimal}
use Rattle.std.proofs.lemmas.Bool.{and_parts, cases_lt}
use Rattle.std.proofs.lemmas.List.{take_all, take-append-le}
use Rattle.std.proofs.lemmas.List.Elements.{All-nil, All-cons, All-append, All-take, All-contains}
use Rattle.std.proofs.Math.Seq.{take-append-add}
use Rattle.task_ast.specs.meaning.Run.{plain_order}
use Rattle.restart_log.specs.meaning.Lines.{spaced}
use Rattle.crew.specs.meaning.Noted.{left_in_order}
use Rattle.retirement_log.specs.meaning.Rows.{Retirement, group, cell_numbers, row_text, log_text}
use Rattle.retirement_log.specs.meaning.Log.{log_rows}
use Rattle.gp_resume.specs.meaning.Reading.{EndsNoLine}
use Rattle.gp_resume.specs.inner.Fronts.{is_numeral}
use Rattle.gp_resume.specs.Laws.{OwnAnswerLaw}
use Rattle.gp_resume.proofs.OwnRows.{own-fit}
use Rattle.gp_resume.proofs.Printed.{printed-numeral}
use Rattle.gp_resume.proofs.Replaying.{length-left, length-rows}

-- ---- a line ends a row and stands nowhere else in it

abbrev IsClear : List ℕ → Type 0
IsClear = All (λ b. b ≢ 10)

no-line : (bytes : List ℕ) → IsClear bytes → EndsNoLine bytes
no-line bytes clear there = All-contains (λ b. b ≢ 10) bytes 10 clear there refl

digit-clear : (d : ℕ) → is_ascii_digit d ≡ true → d ≢ 10
digit-clear d digit is = let never = subst (λ b. is_ascii_digit b ≡ true) is digit in cc never

digits-clear : (ds : List ℕ) → all_ascii_digits ds ≡ true → IsClear ds
digits-clear [] e = All-nil (λ b. b ≢ 10)
digits-clear (d ∷ ds) e =
    let both = and_parts (is_ascii_digit d) (all_ascii_digits ds) e in
    All-cons (λ b. b ≢ 10) d ds (digit-clear d both.0) (digits-clear ds both.1)

first-clear : (c : ℕ) → (is_ascii_digit c || c == 45) ≡ true → c ≢ 10
first-clear c first is = let never = subst (λ b. (is_ascii_digit b || b == 45) ≡ true) is first in cc never

numeral-clear : (ds : List ℕ) → is_numeral ds ≡ true → IsClear ds
numeral-clear [] e = All-nil (λ b. b ≢ 10)
numeral-clear (c ∷ ds) e =
    let both = and_parts (is_ascii_digit c || c == 45) (all_ascii_digits ds) e in
    All-cons (λ b. b ≢ 10) c ds (first-clear c both.0) (digits-clear ds both.1)

number-clear : (n : ℤ) → IsClear (signed_decimal n)
number-clear n = numeral-clear (signed_decimal n) (printed-numeral n)

space-clear : IsClear (codes " ")
space-clear = All-cons (λ b. b ≢ 10) 32 [] (λ e. cc e) (All-nil (λ b. b ≢ 10))

marks-clear : IsClear (codes " ;")
marks-clear = All-cons (λ b. b ≢ 10) 32 (59 ∷ []) (λ e. cc e) (All-cons (λ b. b ≢ 10) 59 [] (λ e. cc e) (All-nil (λ b. b ≢ 10)))

both-clear : (xs ys : List ℕ) → IsClear xs → IsClear ys → IsClear (xs ++ ys)
both-clear xs ys = All-append (λ b. b ≢ 10) xs ys

spaced-clear : (values : List ℤ) → IsClear (spaced values)
spaced-clear [] = All-nil (λ b. b ≢ 10)
spaced-clear (v ∷ values) =
    both-clear (codes " " ++ signed_decimal v) (spaced values) (both-clear (codes " ") (signed_decimal v) space-clear (number-clear v))
    (spaced-clear values)

group-clear : (values : List ℤ) → IsClear (group values)
group-clear values = both-clear (codes " ;") (spaced values) marks-clear (spaced-clear values)

-- a row but for its line end
abbrev row-head : Retirement → List ℕ
row-head r = signed_decimal r.position ++ codes " " ++ signed_decimal r.bytes

abbrev row-groups : Retirement → List ℕ
row-groups r = group r.regs ++ group r.child ++ group (flat_map cell_numbers r.cells)

abbrev row-front : Retirement → List ℕ
row-front r = row-head r ++ row-groups r

head-clear : (r : Retirement) → IsClear (row-head r)
head-clear r =
    both-clear (signed_decimal r.position ++ codes " ") (signed_decimal r.bytes)
    (both-clear (signed_decimal r.position) (codes " ") (number-clear r.position) space-clear) (number-clear r.bytes)

groups-clear : (r : Retirement) → IsClear (row-groups r)
groups-clear r =
    let cells = flat_map cell_numbers r.cells in
    both-clear (group r.regs ++ group r.child) (group cells)
    (both-clear (group r.regs) (group r.child) (group-clear r.regs) (group-clear r.child)) (group-clear cells)

front-is : (r : Retirement) → row_text r ≡ row-front r ++ codes "\n"
front-is r = sym (append_assoc (row-head r) (row-groups r) (codes "\n"))

-- a part of a row, not the whole, ends no line
part-clear : (r : Retirement) (n : ℕ) (later : List ℕ) → n < length (row_text r) → EndsNoLine (take n (row_text r ++ later))
part-clear r n later less =
    let size = ap length (front-is r) ∙ length-append (row-front r) (codes "\n") in
    let within : n ≤ length (row-front r) = omega (arith, size, less) in
    let cut : take n (row_text r ++ later) ≡ take n (row-front r) =
    take-append-le n (row_text r) later (omega (arith, less))
    ∙ (ap (take n) (front-is r) ∙ take-append-le n (row-front r) (codes "\n") within) in
    subst EndsNoLine (sym cut) (no-line (take n (row-front r)) (All-take (λ b. b ≢ 10) n (row-front r)
    (both-clear (row-head r) (row-groups r) (head-clear r) (groups-clear r))))

-- ---- the rows that stand whole in the first bytes

-- so many rows stand whole in the first bytes, and what is left of these ends no line
record AreWhole (rows : List Retirement) (n count : ℕ) : Type 0 where
  within : count ≤ length rows
  rest : List ℕ
  bytes_are : take n (log_text rows) ≡ log_text (take count rows) ++ rest
  ends : EndsNoLine rest
  fewer : length (log_text (take count rows)) ≤ n

nothing-ends : EndsNoLine []
nothing-ends there = let none = there.1 in absurd (omega arith)

whole-rows : (rows : List Retirement) (n : ℕ) → (count : ℕ) × AreWhole rows n count
whole-rows [] n =
    (0, record { within = omega arith; rest = []; bytes_are = take_all n [] (omega arith); ends = nothing-ends; fewer = omega arith })
whole-rows (r ∷ rows) n =
    elim (cases_lt n (length (row_text r))) [
      | inl less ↦ (
        0,
        record {
          within = omega arith;
          rest = take n (row_text r ++ log_text rows);
          bytes_are = refl;
          ends = part-clear r n (log_text rows) less;
          fewer = omega arith;
        },
      )
      | inr more ↦
          let left = n - length (row_text r) in
          let parted : n ≡ length (row_text r) + left = omega (arith, more) in
          let others = whole-rows rows left in
          let whole = others.1 in (
            suc others.0,
            record {
              within = (let few = whole.within in omega (arith, few));
              rest = whole.rest;
              bytes_are =
                  ap (λ m. take m (row_text r ++ log_text rows)) parted
                  ∙ (take-append-add (row_text r) (log_text rows) left
                  ∙ (ap (λ t. row_text r ++ t) whole.bytes_are
                  ∙ sym (append_assoc (row_text r) (log_text (take others.0 rows)) whole.rest)));
              ends = whole.ends;
              fewer =
                  (let size = length-append (row_text r) (log_text (take others.0 rows)) in let few = whole.fewer in
                  omega (arith, size, few, more));
            },
          )
    ]

-- ---- the law

pub own-answer : OwnAnswerLaw
own-answer program inputs limits logged accepted wide =
    let told = left_in_order program inputs limits in
    let found = whole-rows (log_rows told) logged in
    let whole = found.1 in
    let count = length-rows 0 (length (codes "output\n")) told ∙ length-left program inputs limits 0 (plain_order program inputs limits) in
    let within : found.0 ≤ length (plain_order program inputs limits) = (let few = whole.within in omega (arith, few, count)) in (
      found.0,
      within,
      whole.fewer,
      record {
        rest = whole.rest;
        begins =
            record {
              wide = wide found.0 within whole.fewer;
              fit = own-fit program inputs limits accepted found.0;
              bytes_are = whole.bytes_are;
            };
        ends = whole.ends;
      },
    )
