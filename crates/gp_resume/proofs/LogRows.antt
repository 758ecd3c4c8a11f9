-- Rows of a log, one after another, at the front of its bytes.
use Rattle.std.proofs.Common.{◌≡◌, ◌<◌, ◌≤◌, ℕ, suc, List, [], ◌∷◌, ◌++◌, length, length-append, take, refl, sym, ap, subst, ◌∙◌, arith, append_assoc}
use Rattle.std.specs.Prelude.{All, Contains, codes, flat_map}
use Rattle.std.specs.Fmt.{signed_decimal}
use Rattle.std.proofs.lemmas.List.Elements.{All-nil, All-push, All-head, All-tail, Contains-append_left, Contains-append_right}
use Rattle.gp_base.specs.declared.limits.Limits.{Limits}
use Rattle.gp_base.specs.declared.feed.Inputs.{Inputs}
use Rattle.task_ast.specs.meaning.Tree.{Program}
use Rattle.retirement_log.specs.meaning.Rows.{Retirement, group, cell_numbers, groups_text, row_text, log_text, IsWideRow}
use Rattle.gp_resume.specs.meaning.Fitting.{Fit}
use Rattle.gp_resume.specs.meaning.Reading.{EndsNoLine, BeginsWith}
use Rattle.gp_resume.proofs.RowsOnce.{row-once}

-- ---- rows

-- a line ends in a row
pub row-line : (r : Retirement) → Contains (row_text r) 10
row-line r =
    let groups = group r.regs ++ group r.child ++ group (flat_map cell_numbers r.cells) in
    Contains-append_right (signed_decimal r.position ++ codes " " ++ signed_decimal r.bytes) (groups_text r) 10
    (Contains-append_right groups (codes "\n") 10 (0, omega arith, refl))

-- so where none ends, there is no row
pub ends-line : (r : Retirement) (rest bytes : List ℕ) → bytes ≡ row_text r ++ rest → EndsNoLine bytes → ⊥
ends-line r rest bytes is none = none (subst (λ b. Contains b 10) (sym is) (Contains-append_left (row_text r) rest 10 (row-line r)))

-- fewer bytes come after a row
pub row-some : (r : Retirement) (rest bytes : List ℕ) → bytes ≡ row_text r ++ rest → length rest < length bytes
row-some r rest bytes is =
    let size = ap length is in
    let parts = length-append (row_text r) rest in
    let line = (row-line r).1 in
    omega (arith, size, parts, line)

-- ---- logs

pub log-cons : (r : Retirement) (rows : List Retirement) (rest : List ℕ) → log_text (r ∷ rows) ++ rest ≡ row_text r ++ (log_text rows ++ rest)
log-cons r rows rest = append_assoc (row_text r) (log_text rows) rest

-- one more row
pub log-push : (rows : List Retirement) (r : Retirement) (rest : List ℕ) → log_text (rows ++ r ∷ []) ++ rest ≡ log_text rows ++ (row_text r ++ rest)
log-push [] r rest = append_assoc (row_text r) [] rest
log-push (x ∷ rows) r rest =
    log-cons x (rows ++ r ∷ []) rest ∙ (ap (λ t. row_text x ++ t) (log-push rows r rest) ∙ sym (log-cons x rows (row_text r ++ rest)))

-- there are no more rows than bytes
pub few-rows : (rows : List Retirement) (rest bytes : List ℕ) → bytes ≡ log_text rows ++ rest → length rows ≤ length bytes
few-rows [] rest bytes is = omega arith
few-rows (r ∷ rows) rest bytes is =
    let fewer = row-some r (log_text rows ++ rest) bytes (is ∙ log-cons r rows rest) in
    let others = few-rows rows rest (log_text rows ++ rest) refl in
    omega (arith, fewer, others)

-- wide rows at the front of rows are the first of them
pub first-rows : (rows all : List Retirement) (rest later : List ℕ) → All IsWideRow rows → log_text all ≡ (log_text rows ++ rest) ++ later
    → (p : ℕ) × (p ≤ length all) × (rows ≡ take p all)
first-rows [] all rest later wide same = (0, omega arith, refl)
first-rows (r ∷ rows) [] rest later wide same =
    let size = ap length same in
    let parts = length-append (log_text (r ∷ rows) ++ rest) later in
    let fewer = row-some r (log_text rows ++ rest) (log_text (r ∷ rows) ++ rest) (log-cons r rows rest) in
    absurd (omega (arith, size, parts, fewer))
first-rows (r ∷ rows) (s ∷ all) rest later wide same =
    let front : (log_text (r ∷ rows) ++ rest) ++ later ≡ row_text r ++ ((log_text rows ++ rest) ++ later) =
    ap (λ t. t ++ later) (log-cons r rows rest) ∙ append_assoc (row_text r) (log_text rows ++ rest) later in
    let once = row-once r s ((log_text rows ++ rest) ++ later) (log_text all) (All-head IsWideRow r rows wide) (sym front ∙ sym same) in
    let others = first-rows rows all rest later (All-tail IsWideRow r rows wide) (sym once.1) in
    (suc others.0, (let few = others.1 in omega (arith, few)), (let same_rows = others.2 in λ i. once.0 i ∷ same_rows i))

module _ (program : Program) (inputs : Inputs) (limits : Limits) where
  pub no-rows : (bytes : List ℕ) → BeginsWith program inputs limits bytes [] bytes
  no-rows bytes = record { wide = All-nil IsWideRow; fit = tt; bytes_are = refl }

  -- the bytes begin with one more row
  pub next-row : (bytes rest later : List ℕ) (rows : List Retirement) (r : Retirement) → BeginsWith program inputs limits bytes rows rest → IsWideRow r
      → rest ≡ row_text r ++ later
      → Fit program inputs limits (rows ++ r ∷ []) → BeginsWith program inputs limits bytes (rows ++ r ∷ []) later
  next-row bytes rest later rows r begins wide is fit =
      record {
        wide = All-push IsWideRow rows r begins.wide wide;
        fit = fit;
        bytes_are = begins.bytes_are ∙ (ap (λ t. log_text rows ++ t) is ∙ sym (log-push rows r later));
      }
