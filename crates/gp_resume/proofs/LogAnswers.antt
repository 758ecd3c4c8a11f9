-- The bytes of a log come to one thing, and to something.
--
-- Each answer says of some rows that they stand at the front of the bytes and fit, and that no row that fits stands after them
-- (`Settled`). Such rows are found in one way only (`same-rows`), and what stands after them tells which answer it is.
use Rattle.std.proofs.Common.{◌≡◌, ◌⊎◌, inl, inr, ◌<◌, ◌≤◌, ◌+◌, ℕ, zero, suc, List, [], ◌∷◌, ◌++◌, length, refl, sym, ap, subst, ◌∙◌, arith, append_assoc, append-nil}
use Rattle.std.specs.Prelude.{All}
use Rattle.std.proofs.lemmas.List.Elements.{All-head, All-tail}
use Rattle.gp_base.specs.declared.limits.Limits.{Limits}
use Rattle.gp_base.specs.declared.feed.Inputs.{Inputs}
use Rattle.task_ast.specs.meaning.Tree.{Program}
use Rattle.retirement_log.specs.meaning.Rows.{Retirement, row_text, log_text, IsWideRow}
use Rattle.gp_resume.specs.meaning.Fitting.{Fit}
use Rattle.gp_resume.specs.inner.RowsRead.{BeginsWithRow}
use Rattle.gp_resume.specs.meaning.Reading.{EndsNoLine, BeginsWith, LogAnswer, Rows, Broken, Unfit, IsAnswer}
use Rattle.gp_resume.proofs.Choices.{Choice, contains}
use Rattle.gp_resume.proofs.FitChoices.{one-more, fit-upto}
use Rattle.gp_resume.proofs.FoundRows.{row-found}
use Rattle.gp_resume.proofs.LogRows.{ends-line, row-some, log-cons, no-rows, next-row}
use Rattle.gp_resume.proofs.RowsOnce.{row-once}

no-line : (bytes : List ℕ) → Choice (EndsNoLine bytes)
no-line bytes = elim (contains 10 bytes) [ inl some ↦ inr (λ none. none some) | inr none ↦ inl none ]

module _ (program : Program) (inputs : Inputs) (limits : Limits) where
  -- no row that fits stands after the rows
  abbrev Stops : List Retirement → (rest : List ℕ) → Type 0
  Stops rows rest = (r : Retirement) (later : List ℕ) → IsWideRow r → rest ≡ row_text r ++ later → Fit program inputs limits (rows ++ r ∷ []) → ⊥

  -- a row after the rows is one of those that fit
  goes-on : (front : List Retirement) (rest later : List ℕ) (r : Retirement) (more : List Retirement) → Stops (front ++ []) rest → All IsWideRow (r ∷ more)
      → Fit program inputs limits (front ++ r ∷ more) → rest ≡ log_text (r ∷ more) ++ later → ⊥
  goes-on front rest later r more stops wide fit is =
      stops r (log_text more ++ later) (All-head IsWideRow r more wide) (is ∙ log-cons r more later)
      (subst (λ rows. Fit program inputs limits (rows ++ r ∷ [])) (sym (append-nil front))
      (fit-upto program inputs limits front r more fit))

  same-rows : (front rows others : List Retirement) (rest later : List ℕ) → All IsWideRow rows → All IsWideRow others
      → Fit program inputs limits (front ++ rows) → Fit program inputs limits (front ++ others) → Stops (front ++ rows) rest
      → Stops (front ++ others) later
      → log_text rows ++ rest ≡ log_text others ++ later → (rows ≡ others) × (rest ≡ later)
  same-rows front [] [] rest later wr wo fr fo sr so same = (refl, same)
  same-rows front [] (s ∷ others) rest later wr wo fr fo sr so same = absurd (goes-on front rest later s others sr wo fo same)
  same-rows front (r ∷ rows) [] rest later wr wo fr fo sr so same = absurd (goes-on front later rest r rows so wr fr (sym same))
  same-rows front (r ∷ rows) (s ∷ others) rest later wr wo fr fo sr so same =
      let once = row-once r s (log_text rows ++ rest) (log_text others ++ later) (All-head IsWideRow r rows wr)
      (sym (log-cons r rows rest) ∙ (same ∙ log-cons s others later)) in
      let first : (front ++ r ∷ []) ++ rows ≡ front ++ r ∷ rows = append_assoc front (r ∷ []) rows in
      let second : (front ++ r ∷ []) ++ others ≡ front ++ s ∷ others =
      append_assoc front (r ∷ []) others ∙ ap (λ x. front ++ x ∷ others) once.0 in
      let again = same-rows (front ++ r ∷ []) rows others rest later (All-tail IsWideRow r rows wr) (All-tail IsWideRow s others wo)
      (subst (Fit program inputs limits) (sym first) fr) (subst (Fit program inputs limits) (sym second) fo)
      (subst (λ x. Stops x rest) (sym first) sr) (subst (λ x. Stops x later) (sym second) so) once.1 in
      ((λ i. once.0 i ∷ again.0 i), again.1)

  -- ---- answers

  -- what stands after the rows, by the answer
  abbrev Settles : LogAnswer → List Retirement → (rest : List ℕ) → Type 0
  Settles (Rows all) rows rest = (all ≡ rows) × EndsNoLine rest
  Settles (Broken n) rows rest = (n ≡ length rows + 1) × (EndsNoLine rest → ⊥) × (BeginsWithRow rest → ⊥)
  Settles (Unfit n) rows rest = (n ≡ length rows + 1) × BeginsWithRow rest

  record Settled (bytes : List ℕ) (answer : LogAnswer) : Type 0 where
    rows : List Retirement
    rest : List ℕ
    begins : BeginsWith program inputs limits bytes rows rest
    stops : Stops rows rest
    settles : Settles answer rows rest

  settled : (bytes : List ℕ) (answer : LogAnswer) → IsAnswer program inputs limits bytes answer → Settled bytes answer
  settled bytes (Rows rows) is =
      record {
        rows = rows;
        rest = is.rest;
        begins = is.begins;
        stops =
            λ r later wide same fit. ends-line r later is.rest same is.ends;
        settles = (refl, is.ends);
      }
  settled bytes (Broken n) is =
      record {
        rows = is.rows;
        rest = is.rest;
        begins = is.begins;
        stops = λ r later wide same fit. is.no_row r later wide same;
        settles = (is.counted, is.some_line, λ begins. is.no_row begins.row begins.rest begins.wide begins.bytes_are);
      }
  settled bytes (Unfit n) is =
      record {
        rows = is.rows;
        rest = row_text is.row ++ is.rest;
        begins = is.begins;
        stops = λ r later wide same fit. is.unfit
            (subst (λ x. Fit program inputs limits (is.rows ++ x ∷ [])) (sym (row-once is.row r is.rest later is.wide same).0) fit);
        settles = (is.counted, record { row = is.row; wide = is.wide; rest = is.rest; bytes_are = refl });
      }

  row-ends-line : (rest : List ℕ) → BeginsWithRow rest → EndsNoLine rest → ⊥
  row-ends-line rest begins none = ends-line begins.row begins.rest rest begins.bytes_are none

  same-answer : (first second : LogAnswer) (rows : List Retirement) (rest : List ℕ) → Settles first rows rest → Settles second rows rest
      → first ≡ second
  same-answer (Rows all) (Rows others) rows rest a b = ap Rows (a.0 ∙ sym b.0)
  same-answer (Rows all) (Broken m) rows rest a b = absurd (b.1 a.1)
  same-answer (Rows all) (Unfit m) rows rest a b = absurd (row-ends-line rest b.1 a.1)
  same-answer (Broken n) (Rows others) rows rest a b = absurd (a.1 b.1)
  same-answer (Broken n) (Broken m) rows rest a b = ap Broken (a.0 ∙ sym b.0)
  same-answer (Broken n) (Unfit m) rows rest a b = absurd (a.2 b.1)
  same-answer (Unfit n) (Rows others) rows rest a b = absurd (row-ends-line rest a.1 b.1)
  same-answer (Unfit n) (Broken m) rows rest a b = absurd (b.2 a.1)
  same-answer (Unfit n) (Unfit m) rows rest a b = ap Unfit (a.0 ∙ sym b.0)

  pub one-answer : (bytes : List ℕ) (first second : LogAnswer) → IsAnswer program inputs limits bytes first
      → IsAnswer program inputs limits bytes second → first ≡ second
  one-answer bytes first second a b =
      let here = settled bytes first a in
      let there = settled bytes second b in
      let same =
      same-rows [] here.rows there.rows here.rest there.rest here.begins.wide there.begins.wide here.begins.fit there.begins.fit
      here.stops there.stops
      (sym here.begins.bytes_are ∙ there.begins.bytes_are) in
      same-answer first second here.rows here.rest here.settles
      (subst (λ rest. Settles second here.rows rest) (sym same.1)
      (subst (λ rows. Settles second rows there.rest) (sym same.0) there.settles))

  -- ---- an answer

  abbrev Answered : List ℕ → Type 0
  Answered bytes = (answer : LogAnswer) × IsAnswer program inputs limits bytes answer

  abbrev Next : (bytes rest : List ℕ) (rows : List Retirement) → Type 0
  Next bytes rest rows =
      (r : Retirement) × (later : List ℕ) × BeginsWith program inputs limits bytes (rows ++ r ∷ []) later × (length later < length rest)

  answered-or-next : (bytes rest : List ℕ) (rows : List Retirement) → BeginsWith program inputs limits bytes rows rest
      → Answered bytes ⊎ Next bytes rest rows
  answered-or-next bytes rest rows begins =
      elim (no-line rest) [
        | inl ends ↦ inl (Rows rows, record { rest = rest; begins = begins; ends = ends })
        | inr some ↦ elim (row-found rest) [
          | inl read ↦ elim (one-more program inputs limits rows read.0.0 begins.fit) [
            | inl fit ↦ inr (
              read.0.0,
              read.0.1,
              next-row program inputs limits bytes rest read.0.1 rows read.0.0 begins read.1.fit read.1.bytes_are fit,
              row-some read.0.0 read.0.1 rest read.1.bytes_are,
            )
            | inr unfit ↦ inl (
              Unfit (length rows + 1),
              record {
                rows = rows;
                row = read.0.0;
                wide = read.1.fit;
                rest = read.0.1;
                begins = subst (λ b. BeginsWith program inputs limits bytes rows b) read.1.bytes_are begins;
                unfit = unfit;
                counted = refl;
              },
            )
          ]
          | inr none ↦ inl (
            Broken (length rows + 1),
            record {
              rows = rows;
              rest = rest;
              begins = begins;
              some_line = some;
              no_row = λ row after wide same. none row after wide tt same;
              counted = refl;
            },
          )
        ]
      ]

  answered-from : (fuel : ℕ) (bytes rest : List ℕ) (rows : List Retirement) → length rest ≤ fuel → BeginsWith program inputs limits bytes rows rest
      → Answered bytes
  answered-from zero bytes rest rows short begins =
      elim (answered-or-next bytes rest rows begins) [
        | inl answered ↦ answered
        | inr next ↦ absurd (let less = next.3 in omega (arith, less, short))
      ]
  answered-from (suc fuel) bytes rest rows short begins =
      elim (answered-or-next bytes rest rows begins) [
        | inl answered ↦ answered
        | inr next ↦ answered-from fuel bytes next.1 (rows ++ next.0 ∷ []) (let less = next.3 in omega (arith, less, short)) next.2
      ]

  pub some-answer : (bytes : List ℕ) → Answered bytes
  some-answer bytes = answered-from (length bytes) bytes bytes [] (omega arith) (no-rows program inputs limits bytes)
