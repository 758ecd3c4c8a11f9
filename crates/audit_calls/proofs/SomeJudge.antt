-- How a trace is read, and how its lines are judged, can be decided. Each question is decided by
-- itself, and the answers are put together: whether a text begins with another, whether with a number below the limit
-- (by trying each one), and so whether with a line of each kind. Lines are read from the front, with the length of what
-- is left as the bound of the recursion.
use Rattle.std.proofs.Common.{◌≡◌, ◌≢◌, ◌⊎◌, inl, inr, ◌<◌, ◌≤◌, ◌+◌, ◌^◌, ℕ, zero, suc, Bool, true, false, List, [], ◌∷◌, ◌++◌, length, length-append, refl, sym, ap, subst, ◌∙◌, arith, append_assoc, append-nil}
use Rattle.std.specs.Prelude.{codes, decimal}
use Rattle.std.specs.Bool.{Decides}
use Rattle.std.specs.List.{All}
use Rattle.std.specs.Str.{bytes_eq}
use Rattle.std.specs.declared.result.Result.{Result}
use Rattle.std.specs.declared.result.Result.TheVariants.{Ok, Err}
use Rattle.std.proofs.lemmas.Bool.{cases_eq}
use Rattle.std.proofs.lemmas.Slice.Eq.{bytes_eq-Decides}
use Rattle.std.proofs.lemmas.List.Elements.{All-nil, All-push, All-cons, All-head, All-tail}
use Rattle.gp_base.specs.declared.fault.Fault.{Fault}
use Rattle.gp_base.specs.declared.journal.Restart.{Restart}
use Rattle.dependence.specs.meaning.Restarts.{Dependence, restarts}
use Rattle.dependence.specs.JournalTests.{is_lawful, is_complete}
use Rattle.dependence.proofs.Auditing.{lawful-decides, complete-decides}
use Rattle.gp_audit.specs.declared.line.TraceLine.{TraceLine}
use Rattle.gp_audit.specs.declared.line.TraceLine.TheVariants as line
use Rattle.gp_audit.specs.declared.verdict.Verdict.{Verdict}
use Rattle.gp_audit.specs.declared.verdict.Verdict.TheVariants.{Lawful, Unlawful, Incomplete}
use Rattle.gp_audit.specs.LineTexts.{line_text, lines_text, redo_end, restart_end, IsNarrow, IsNarrowLine, IsNarrowRestart}
use Rattle.gp_audit.specs.meaning.Verdicts.{LawfulLines, IsVerdict}
use Rattle.gp_audit.specs.ToldLines.{events_of, restarts_told, TellLawful, IsToldVerdict}
use Rattle.gp_audit.proofs.Parts.{cancel}
use Rattle.gp_audit.proofs.Restarts.{head, parts, first_apart}
use Rattle.gp_audit.proofs.ToldVerdicts.{told-verdict}
use Rattle.gp_audit.proofs.TraceTexts.{trace-of, broken-of}
use Rattle.gp_audit.proofs.Traces.{text-next, few-lines}
use Rattle.audit_calls.specs.inner.Trials.{Judge}
use Rattle.audit_calls.proofs.Readings.{Reads}

-- it holds, or it doesn't
abbrev Choice : Type 0 → Type 0
Choice P = P ⊎ (P → ⊥)

decided_by : {P : Type 0} (b : Bool) → Decides b P → Choice P
decided_by true decides = inl (decides.0 refl)
decided_by false decides = inr (λ p. let never : false ≡ true = decides.1 p in cc never)

same_choice : {P Q : Type 0} → (P → Q) → (Q → P) → Choice P → Choice Q
same_choice to from (inl is) = inl (to is)
same_choice to from (inr not) = inr (λ q. not (from q))

-- whether a list begins with another
begins : {A : Type 0} → ((a b : A) → Choice (a ≡ b)) → (xs ys : List A) → Choice ((rest : List A) × (ys ≡ xs ++ rest))
begins same [] ys = inl (ys, refl)
begins same (x ∷ xs) [] = inr (λ found. let e = found.1 in cc e)
begins same (x ∷ xs) (y ∷ ys) =
    elim (same x y) [
      | inl heads ↦ elim (begins same xs ys) [
        | inl found ↦ inl (found.0, (let tails = found.1 in λ i. sym heads i ∷ tails i))
        | inr not ↦ inr (λ found. not (found.0, (let e = found.1 in let tails : ys ≡ xs ++ found.0 = cc e in tails)))
      ]
      | inr other ↦ inr (λ found. other (let e = found.1 in let back : y ≡ x = cc e in sym back))
    ]

-- whether a number below the limit has a property that each number has or has not
below : (P : ℕ → Type 0) (n : ℕ) → ((k : ℕ) → Choice (P k)) → Choice ((k : ℕ) × (k < n) × P k)
below P zero choose = inr (λ found. let none = found.1 in absurd (omega (arith, none)))
below P (suc n) choose =
    elim (choose n) [
      | inl here ↦ inl (n, omega arith, here)
      | inr not ↦ elim (below P n choose) [
        | inl found ↦ inl (found.0, (let low = found.1 in omega (arith, low)), found.2)
        | inr none ↦ inr (λ found. elim (cases_eq found.0 n) [
          | inl same ↦ not (subst P same found.2)
          | inr other ↦ none (found.0, (let low = found.1 in omega (arith, low, other)), found.2)
        ])
      ]
    ]

-- verdicts
same_restart : (a b : Restart) → Choice (a ≡ b)
same_restart a b =
    elim (cases_eq a.front b.front) [
      | inl f ↦ elim (cases_eq a.struck b.struck) [
        | inl s ↦ elim (cases_eq a.attempt b.attempt) [
          | inl t ↦ elim (decided_by (bytes_eq a.redo b.redo) (bytes_eq-Decides a.redo b.redo)) [
            | inl r ↦ inl (λ i. record { front = f i; struck = s i; attempt = t i; redo = r i })
            | inr not ↦ inr (λ same. not (ap (λ (x : Restart). x.redo) same))
          ]
          | inr not ↦ inr (λ same. not (ap (λ (x : Restart). x.attempt) same))
        ]
        | inr not ↦ inr (λ same. not (ap (λ (x : Restart). x.struck) same))
      ]
      | inr not ↦ inr (λ same. not (ap (λ (x : Restart). x.front) same))
    ]

module _ (dependence : Dependence) (faults : List Fault) where
  lawful_lines : (lines : List TraceLine) → Choice (TellLawful dependence faults lines)
  lawful_lines lines =
      elim (decided_by (is_lawful dependence faults (events_of lines)) (lawful-decides dependence faults (events_of lines))) [
        | inl lawful ↦ elim (begins same_restart (restarts_told lines) (restarts dependence faults)) [
          | inl first ↦ inl (record { lawful = lawful; first = first })
          | inr not ↦ inr (λ lines. not lines.first)
        ]
        | inr not ↦ inr (λ lines. not lines.lawful)
      ]

  abbrev Judged : List TraceLine → Type 0
  Judged lines = (verdict : Verdict) × IsToldVerdict dependence faults lines verdict

  judged_whole : (lines : List TraceLine) → TellLawful dependence faults lines → Judged lines
  judged_whole lines lawful =
      elim (decided_by (is_complete dependence faults (events_of lines)) (complete-decides dependence faults (events_of lines))) [
        | inl whole ↦ (Lawful, (lawful, whole))
        | inr not ↦ (Incomplete, (lawful, not))
      ]

  judged_from : (before later : List TraceLine) → TellLawful dependence faults before → Judged (before ++ later)
  judged_from before [] lawful = subst Judged (sym (append-nil before)) (judged_whole before lawful)
  judged_from before (next ∷ later) lawful =
      elim (lawful_lines (before ++ next ∷ [])) [
        | inl more ↦ subst Judged (append_assoc before (next ∷ []) later) (judged_from (before ++ next ∷ []) later more)
        | inr never ↦ (
          Unlawful (length before + 1),
          record { before = before; line = next; later = later; lines_are = refl; numbered = refl; lawful = lawful; unlawful = never },
        )
      ]

  judged : (lines : List TraceLine) → Judged lines
  judged lines = judged_from [] lines (record { lawful = tt; first = (restarts dependence faults, refl) })

-- lines
one_number : (text : ℕ → List ℕ) (bytes : List ℕ) → Choice ((n : ℕ) × (n < 2 ^ 32) × ((rest : List ℕ) × (bytes ≡ text n ++ rest)))
one_number text bytes = below (λ n. (rest : List ℕ) × (bytes ≡ text n ++ rest)) (2 ^ 32) (λ n. begins cases_eq (text n) bytes)

two_numbers : (text : ℕ → ℕ → List ℕ) (bytes : List ℕ)
    → Choice ((n : ℕ) × (n < 2 ^ 32) × ((m : ℕ) × (m < 2 ^ 32) × ((rest : List ℕ) × (bytes ≡ text n m ++ rest))))
two_numbers text bytes =
    below (λ n. (m : ℕ) × (m < 2 ^ 32) × ((rest : List ℕ) × (bytes ≡ text n m ++ rest))) (2 ^ 32) (λ n. one_number (text n) bytes)

abbrev IsRedoAt : List ℕ → Type 0
IsRedoAt bytes = (redo : List ℕ) × All IsNarrow redo × ((rest : List ℕ) × (bytes ≡ redo_end redo ++ rest))

no_redo : (redo rest : List ℕ) → [] ≢ redo_end redo ++ rest
no_redo [] rest is = cc is
no_redo (q ∷ redo) rest is = let e = is ∙ first_apart q redo rest in cc e

redo_at : (fuel : ℕ) (bytes : List ℕ) → length bytes ≤ fuel → Choice (IsRedoAt bytes)
redo_at fuel [] short = inr (λ found. no_redo found.0 found.2.0 found.2.1)
redo_at zero (b ∷ bytes) short = absurd (omega (arith, short))
redo_at (suc fuel) (b ∷ bytes) short =
    elim (begins cases_eq (codes "\n") (b ∷ bytes)) [
      | inl found ↦ inl ([], All-nil IsNarrow, found)
      | inr not_end ↦ elim (below First (2 ^ 32) (first_at (λ tail few. redo_at fuel tail few))) [
        | inl found ↦
            let p = found.0 in
            let more = found.2 in
            inl (p ∷ more.0, All-cons IsNarrow p more.0 found.1 more.1, (more.2.0, more.2.1 ∙ sym (first_apart p more.0 more.2.0)))
        | inr none ↦ inr (λ found. none_at not_end none found.0 found.1 found.2.0 found.2.1)
      ]
    ]
  where
    First : ℕ → Type 0
    First p = (redo : List ℕ) × All IsNarrow redo × ((rest : List ℕ) × ((b ∷ bytes) ≡ codes " " ++ (decimal p ++ (redo_end redo ++ rest))))

    first_at : ((tail : List ℕ) → length tail ≤ fuel → Choice (IsRedoAt tail)) → (p : ℕ) → Choice (First p)
    first_at again p =
        elim (begins cases_eq (codes " " ++ decimal p) (b ∷ bytes)) [
          | inl tail ↦
              let size = ap length tail.1 in
              let more = length-append (decimal p) tail.0 in
              same_choice
              (λ found. (
                found.0,
                found.1,
                (
                  found.2.0,
                  (let same = found.2.1 in tail.1 ∙ ap (λ text. codes " " ++ (decimal p ++ text)) same),
                ),
              ))
              (λ found. (
                found.0,
                found.1,
                (
                  found.2.0,
                  cancel (codes " " ++ decimal p) tail.0 (redo_end found.0 ++ found.2.0) (sym tail.1 ∙ found.2.1),
                ),
              ))
              (again tail.0 (omega (arith, size, more, short)))
          | inr not ↦ inr (λ found. not (redo_end found.0 ++ found.2.0, found.2.1))
        ]

    none_at : ((rest : List ℕ) × ((b ∷ bytes) ≡ codes "\n" ++ rest) → ⊥) → ((k : ℕ) × (k < 2 ^ 32) × First k → ⊥) → (redo : List ℕ)
        → All IsNarrow redo → (rest : List ℕ) → (b ∷ bytes) ≡ redo_end redo ++ rest → ⊥
    none_at not_end none [] narrow rest is = not_end (rest, is)
    none_at not_end none (q ∷ redo) narrow rest is =
        none (q, All-head IsNarrow q redo narrow, (redo, All-tail IsNarrow q redo narrow, (rest, is ∙ first_apart q redo rest)))

-- restarts
abbrev IsRedoneAfter : (front struck attempt : ℕ) → List ℕ → Type 0
IsRedoneAfter f s a bytes = (redo : List ℕ) × All IsNarrow redo × ((rest : List ℕ) × (bytes ≡ head f s a ++ (redo_end redo ++ rest)))

after_head : (f s a : ℕ) (bytes : List ℕ) → Choice (IsRedoneAfter f s a bytes)
after_head f s a bytes =
    elim (begins cases_eq (head f s a) bytes) [
      | inl tail ↦
          same_choice {P = IsRedoAt tail.0}
          (λ found. (found.0, found.1, (found.2.0, tail.1 ∙ ap (λ text. head f s a ++ text) found.2.1)))
          (λ found. (found.0, found.1, (found.2.0, cancel (head f s a) tail.0 (redo_end found.0 ++ found.2.0) (sym tail.1 ∙ found.2.1))))
          (redo_at (length tail.0) tail.0 (omega arith))
      | inr not ↦ inr (λ found. not (redo_end found.0 ++ found.2.0, found.2.1))
    ]

abbrev IsRestartAt : List ℕ → Type 0
IsRestartAt bytes = (r : Restart) × IsNarrowRestart r × ((rest : List ℕ) × (bytes ≡ restart_end r ++ rest))

restart_at : (bytes : List ℕ) → Choice (IsRestartAt bytes)
restart_at bytes =
    same_choice
    (λ (found : (f : ℕ) × (f < 2 ^ 32) × ((s : ℕ) × (s < 2 ^ 32) × ((a : ℕ) × (a < 2 ^ 32) × IsRedoneAfter f s a bytes))).
    let struck = found.2 in
    let attempt = struck.2 in
    let redone = attempt.2 in
    let r : Restart = record { front = found.0; struck = struck.0; attempt = attempt.0; redo = redone.0 } in (
      r,
      record { front = found.1; struck = struck.1; attempt = attempt.1; redo = redone.1 },
      (redone.2.0, redone.2.1 ∙ sym (parts r redone.2.0)),
    ))
    (λ found.
    let r = found.0 in
    let narrow = found.1 in (
      r.front,
      narrow.front,
      (
        r.struck,
        narrow.struck,
        (r.attempt, narrow.attempt, (r.redo, narrow.redo, (found.2.0, found.2.1 ∙ parts r found.2.0))),
      ),
    ))
    (below (λ f. (s : ℕ) × (s < 2 ^ 32) × ((a : ℕ) × (a < 2 ^ 32) × IsRedoneAfter f s a bytes)) (2 ^ 32)
    (λ f. below (λ s. (a : ℕ) × (a < 2 ^ 32) × IsRedoneAfter f s a bytes) (2 ^ 32)
    (λ s. below (λ a. IsRedoneAfter f s a bytes) (2 ^ 32) (λ a. after_head f s a bytes))))

restart_line : (bytes : List ℕ)
    → Choice ((r : Restart) × IsNarrowRestart r × ((rest : List ℕ) × (bytes ≡ codes "restart " ++ (restart_end r ++ rest))))
restart_line bytes =
    elim (begins cases_eq (codes "restart ") bytes) [
      | inl tail ↦
          same_choice {P = IsRestartAt tail.0}
          (λ found. (found.0, found.1, (found.2.0, tail.1 ∙ ap (λ text. codes "restart " ++ text) found.2.1)))
          (λ found. (
            found.0,
            found.1,
            (
              found.2.0,
              cancel (codes "restart ") tail.0 (restart_end found.0 ++ found.2.0) (sym tail.1 ∙ found.2.1),
            ),
          ))
          (restart_at tail.0)
      | inr not ↦ inr (λ found. not (restart_end found.0 ++ found.2.0, found.2.1))
    ]

-- the first line of bytes
abbrev After : List ℕ → List ℕ → Type 0
After text bytes = (rest : List ℕ) × (bytes ≡ text ++ rest)

line_at : (bytes : List ℕ) → Choice ((l : TraceLine) × IsNarrowLine l × After (line_text l) bytes)
line_at bytes =
    elim (one_number (λ p. line_text (line.Issue p)) bytes) [
      | inl found ↦ inl (line.Issue found.0, found.1, found.2)
      | inr no_issue ↦ elim (two_numbers (λ p a. line_text (line.Post p a)) bytes) [
        | inl found ↦ inl (line.Post found.0 found.2.0, (found.1, found.2.1), found.2.2)
        | inr no_post ↦ elim (two_numbers (λ p a. line_text (line.Take p a true)) bytes) [
          | inl found ↦ inl (line.Take found.0 found.2.0 true, (found.1, found.2.1), found.2.2)
          | inr no_applied ↦ elim (two_numbers (λ p a. line_text (line.Take p a false)) bytes) [
            | inl found ↦ inl (line.Take found.0 found.2.0 false, (found.1, found.2.1), found.2.2)
            | inr no_stale ↦ elim (one_number (λ p. line_text (line.Retire p)) bytes) [
              | inl found ↦ inl (line.Retire found.0, found.1, found.2)
              | inr no_retire ↦ elim (restart_line bytes) [
                | inl found ↦ inl (line.Restart found.0, found.1, found.2)
                | inr no_restart ↦ inr (λ found. none found.0 found.1 found.2 no_issue no_post no_applied no_stale no_retire no_restart)
              ]
            ]
          ]
        ]
      ]
    ]
  where
    none : (l : TraceLine) → IsNarrowLine l → After (line_text l) bytes
        → ((n : ℕ) × (n < 2 ^ 32) × After (line_text (line.Issue n)) bytes → ⊥)
        → ((n : ℕ) × (n < 2 ^ 32) × ((m : ℕ) × (m < 2 ^ 32) × After (line_text (line.Post n m)) bytes) → ⊥)
        → ((n : ℕ) × (n < 2 ^ 32) × ((m : ℕ) × (m < 2 ^ 32) × After (line_text (line.Take n m true)) bytes) → ⊥)
        → ((n : ℕ) × (n < 2 ^ 32) × ((m : ℕ) × (m < 2 ^ 32) × After (line_text (line.Take n m false)) bytes) → ⊥)
        → ((n : ℕ) × (n < 2 ^ 32) × After (line_text (line.Retire n)) bytes → ⊥)
        → ((r : Restart) × IsNarrowRestart r × ((rest : List ℕ) × (bytes ≡ codes "restart " ++ (restart_end r ++ rest))) → ⊥) → ⊥
    none (line.Issue p) narrow is a b c d e f = a (p, narrow, is)
    none (line.Post p t) narrow is a b c d e f = b (p, narrow.0, (t, narrow.1, is))
    none (line.Take p t true) narrow is a b c d e f = c (p, narrow.0, (t, narrow.1, is))
    none (line.Take p t false) narrow is a b c d e f = d (p, narrow.0, (t, narrow.1, is))
    none (line.Retire p) narrow is a b c d e f = e (p, narrow, is)
    none (line.Restart r) narrow is a b c d e f = f (r, narrow, is)

-- traces
read_from : (fuel : ℕ) (bytes : List ℕ) (lines : List TraceLine) (rest : List ℕ) → length rest ≤ fuel → All IsNarrowLine lines
    → bytes ≡ lines_text lines ++ rest
    → (result : Result (List TraceLine) ℕ) × Reads bytes result
read_from fuel bytes lines [] short narrow is = (
  Ok lines,
  trace-of bytes lines narrow (is ∙ append-nil (lines_text lines)),
)
read_from zero bytes lines (b ∷ rest) short narrow is = absurd (omega (arith, short))
read_from (suc fuel) bytes lines (b ∷ rest) short narrow is =
    elim (line_at (b ∷ rest)) [
      | inl found ↦
          let l = found.0 in
          let later = found.2.0 in
          let size = ap length found.2.1 in
          let more = length-append (line_text l) later in
          let some = few-lines (line_text l) [] (l ∷ []) (sym (append-nil (line_text l ++ []) ∙ append-nil (line_text l))) in
          read_from fuel bytes (lines ++ l ∷ []) later (omega (arith, size, more, some, short))
          (All-push IsNarrowLine lines l narrow found.1) (text-next bytes (b ∷ rest) later lines l is found.2.1)
      | inr none ↦ (
        Err (length lines + 1),
        broken-of bytes (length lines + 1) (record {
          lines = lines;
          narrow = narrow;
          rest = b ∷ rest;
          bytes_are = is;
          some_row = λ nothing. cc nothing;
          no_line = λ l after n same. none (l, n, (after, same));
          counted = refl;
        }),
      )
    ]

pub some_reading : (bytes : List ℕ) → (result : Result (List TraceLine) ℕ) × Reads bytes result
some_reading bytes = read_from (length bytes) bytes [] bytes (omega arith) (All-nil IsNarrowLine) refl

pub some_verdict : (dependence : Dependence) (faults : List Fault) (lines : List TraceLine)
    → (verdict : Verdict) × IsVerdict dependence faults lines verdict
some_verdict dependence faults lines =
    let found = judged dependence faults lines in (found.0, told-verdict dependence faults lines found.0 found.1)

-- and that on lines that are lawful
pub lawful_verdict : (dependence : Dependence) (faults : List Fault) (lines : List TraceLine) → LawfulLines dependence faults lines
    → IsVerdict dependence faults lines Lawful ⊎ IsVerdict dependence faults lines Incomplete
lawful_verdict dependence faults lines lawful =
    elim (decided_by (is_complete dependence faults lawful.events) (complete-decides dependence faults lawful.events)) [
      | inl whole ↦ inl (lawful, whole)
      | inr not ↦ inr (lawful, not)
    ]

pub some_judge : Judge
some_judge =
    record {
      verdict_of = λ dependence faults lines. (some_verdict dependence faults lines).0;
      judges = λ dependence faults lines. (some_verdict dependence faults lines).1;
    }
