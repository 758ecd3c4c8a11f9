-- What the first bytes of a run's own log come to, where notes told them; and how much of the text was there before.
use Rattle.std.proofs.Common.{◌≡◌, ◌≤◌, ℕ, zero, suc, List, [], ◌∷◌, ◌++◌, length, take, drop, Option, refl, sym, ap, subst, ◌∙◌, arith, append_assoc}
use Rattle.std.specs.Prelude.{All, codes}
use Rattle.std.proofs.lemmas.List.{length-append, length-take, take-append-drop}
use Rattle.std.proofs.lemmas.Grind.{flat_map-append}
use Rattle.std.proofs.Math.Seq.{take-append_seam}
use Rattle.gp_base.specs.declared.limits.Limits.{Limits}
use Rattle.gp_base.specs.declared.feed.Inputs.{Inputs}
use Rattle.task_ast.specs.declared.effect.Effect.{Effect}
use Rattle.task_ast.specs.meaning.Tree.{Program}
use Rattle.task_ast.specs.meaning.Plain.{Subthread}
use Rattle.task_ast.specs.meaning.Run.{plain_order}
use Rattle.task_ast.specs.Shaped.{IsAccepted}
use Rattle.restart_log.specs.meaning.Lines.{printed, printed_line}
use Rattle.crew.specs.meaning.Noted.{left_in_order}
use Rattle.retirement_log.specs.meaning.Rows.{Retirement, IsWideRow, row_text, log_text}
use Rattle.retirement_log.specs.meaning.Log.{log_rows, log_told, log}
use Rattle.retirement_log.specs.meaning.Telling.{TellsPart}
use Rattle.retirement_log.proofs.Told.{rows_first}
use Rattle.gp_resume.specs.meaning.Reading.{IsLogOf}
use Rattle.gp_resume.specs.meaning.Resumed.{lines_of}
use Rattle.gp_resume.specs.Laws.{own_rows}
use Rattle.gp_resume.proofs.LogRows.{row-some}
use Rattle.gp_resume.proofs.OwnAnswers.{own-answer}
use Rattle.gp_resume.proofs.Replaying.{length-left, length-rows}

-- ---- lists

-- the first bytes of the first bytes of a list, and what stands after them there
pub first_bytes : (kept part : ℕ) (all : List ℕ)
    → (more : List ℕ) × (all ≡ take kept (take part all) ++ more) × (length (take kept (take part all)) ≤ part)
first_bytes kept part all =
    let front = take part all in
    let sizes = length-take kept front in
    let size = length-take part all in (
      drop kept front ++ drop part all,
      sym (take-append-drop part all)
          ∙ (ap (λ bytes. bytes ++ drop part all) (sym (take-append-drop kept front))
          ∙ append_assoc (take kept front) (drop kept front) (drop part all)),
      omega (arith, sizes, size),
    )

-- the first of the first are the first
first_of_first : {X : Type 0} (p k : ℕ) (xs : List X) → p ≤ k → take p (take k xs) ≡ take p xs
first_of_first zero k xs within = refl
first_of_first (suc p) zero xs within = absurd (omega (arith, within))
first_of_first (suc p) (suc k) [] within = refl
first_of_first (suc p) (suc k) (x ∷ xs) within = ap (λ ys. x ∷ ys) (first_of_first p k xs (omega (arith, within)))

-- ---- rows

-- rows that have no more bytes than the first of all are no more
few_whole : (rows : List Retirement) (p k : ℕ) → p ≤ length rows → length (log_text (take p rows)) ≤ length (log_text (take k rows)) → p ≤ k
few_whole rows zero k within few = omega arith
few_whole [] (suc p) k within few = absurd (omega (arith, within))
few_whole (r ∷ rows) (suc p) zero within few =
    let some = row-some r (log_text (take p rows)) (row_text r ++ log_text (take p rows)) refl in absurd (omega (arith, few, some))
few_whole (r ∷ rows) (suc p) (suc k) within few =
    let one = length-append (row_text r) (log_text (take p rows)) in
    let other = length-append (row_text r) (log_text (take k rows)) in
    let rest = few_whole rows p k (omega (arith, within)) (omega (arith, few, one, other)) in
    omega (arith, rest)

-- the log of the first positions is the front of the log of all
log_split : (k : ℕ) (told : List Effect) → (later : List ℕ) × (log_told told ≡ log_told (take k told) ++ later)
log_split k told =
    let rows = log_rows told in
    let later = log_text (drop k rows) in (
      later,
      ap log_text (sym (take-append-drop k rows))
          ∙ (flat_map-append row_text (take k rows) (drop k rows)
          ∙ ap (λ first. log_text first ++ later) (sym (rows_first 0 (length (codes "output\n")) k told))),
    )

-- ---- a log that was told in part

module _ (program : Program) (inputs : Inputs) (limits : Limits) (accepted : IsAccepted program) where
  abbrev told : List Effect
  told = left_in_order program inputs limits

  rows_count : length (log_rows told) ≡ length (plain_order program inputs limits)
  rows_count = length-rows 0 (length (codes "output\n")) told ∙ length-left program inputs limits 0 (plain_order program inputs limits)

  -- what so many positions left has the first of the run's own rows
  first_rows : (k : ℕ) → log_rows (take k told) ≡ own_rows program inputs limits k
  first_rows k = rows_first 0 (length (codes "output\n")) k told

  -- a part of the log of the first positions comes to rows, which are of these
  pub told_answer : (k : ℕ) (start written : Option (List ℕ)) (part : TellsPart start written (take k told)) (bytes more : List ℕ)
      → log_told (take k told) ≡ bytes ++ more → length bytes ≤ part.part
      → (p : ℕ) × (p ≤ length (plain_order program inputs limits)) × (p ≤ k)
      × IsLogOf program inputs limits bytes (own_rows program inputs limits p)
  told_answer k start written part bytes more first shorter = (
    found.0,
    found.1,
    within found.0 found.1 found.2,
    subst (λ bytes. IsLogOf program inputs limits bytes (own_rows program inputs limits found.0)) same found.3,
  )
    where
      all : List ℕ
      all = log_told (take k told)

      same : take (length bytes) (log program inputs limits) ≡ bytes
      same =
          let split = log_split k told in
          ap (take (length bytes)) (split.1 ∙ (ap (λ front. front ++ split.0) first ∙ append_assoc bytes more split.0))
          ∙ take-append_seam bytes (more ++ split.0)

      size : length bytes ≤ length all
      size = let whole = ap length first in let parts = length-append bytes more in omega (arith, whole, parts)

      within : (p : ℕ) → p ≤ length (plain_order program inputs limits) → length (log_text (own_rows program inputs limits p)) ≤ length bytes → p ≤ k
      within p few whole =
          let first : length all ≡ length (log_text (own_rows program inputs limits k)) = ap (λ rows. length (log_text rows)) (first_rows k) in
          few_whole (log_rows told) p k (let count = rows_count in omega (arith, few, count))
          (let within = size in omega (arith, whole, within, first))

      wide : (p : ℕ) → p ≤ length (plain_order program inputs limits) → length (log_text (own_rows program inputs limits p)) ≤ length bytes
          → All IsWideRow (own_rows program inputs limits p)
      wide p few whole =
          let here = within p few whole in
          let rows : log_rows (take p (take k told)) ≡ own_rows program inputs limits p =
          ap log_rows (first_of_first p k told here) ∙ first_rows p in
          let bytes_of : length (log_told (take p (take k told))) ≡ length (log_text (own_rows program inputs limits p)) =
          ap (λ rows. length (log_text rows)) rows in
          subst (All IsWideRow) rows (part.wide p (let short = shorter in omega (arith, whole, short, bytes_of)))

      found : (p : ℕ) × (p ≤ length (plain_order program inputs limits)) × (length (log_text (own_rows program inputs limits p)) ≤ length bytes)
          × IsLogOf program inputs limits (take (length bytes) (log program inputs limits)) (own_rows program inputs limits p)
      found = own-answer program inputs limits (length bytes) accepted wide

-- ---- the text that was there before

-- the lines of the first positions are the front of those of more
pub lines_split : (p k : ℕ) (run : List Subthread) → p ≤ k
    → (later : List ℕ) × (printed (lines_of (take k run)) ≡ printed (lines_of (take p run)) ++ later)
lines_split p k run within =
    let first = take k run in
    let later = printed (lines_of (drop p first)) in (
      later,
      ap (λ r. printed (lines_of r)) (sym (take-append-drop p first))
          ∙ (ap printed (flat_map-append (λ (s : Subthread). s.lines) (take p first) (drop p first))
          ∙ (flat_map-append printed_line (lines_of (take p first)) (lines_of (drop p first))
          ∙ ap (λ r. printed (lines_of r) ++ later) (first_of_first p k run within))),
    )
