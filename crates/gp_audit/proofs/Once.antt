-- A text has the lines of a trace in one way.
use Rattle.std.proofs.Common.{◌≡◌, ◌≢◌, ◌⊎◌, inl, inr, ℕ, Bool, true, false, List, [], ◌∷◌, ◌++◌, length, get_or, Contains, Result, Ok, Err, refl, sym, ap, subst, ◌∙◌, arith, append_assoc}
use Rattle.std.specs.Prelude.{codes, decimal}
use Rattle.std.specs.List.{All}
use Rattle.std.proofs.lemmas.List.Elements.{All-head, All-tail, All-contains, Contains-append_right}
use Rattle.std.proofs.lemmas.List.{append-nil}
use Rattle.gp_base.specs.declared.journal.Restart.{Restart}
use Rattle.gp_audit.specs.declared.line.TraceLine.{TraceLine}
use Rattle.gp_audit.specs.declared.line.TraceLine.TheVariants as line
use Rattle.gp_audit.specs.declared.line.TraceFault.{TraceFault}
use Rattle.gp_audit.specs.declared.line.TraceFault.TheVariants as fault
use Rattle.gp_audit.specs.Reading.{AnswersTrace}
use Rattle.gp_audit.specs.LineTexts.{line_text, lines_text, before_space, at_end, attempt_before, applies_word, redo_end, restart_end, IsNarrow, IsNarrowRestart, IsNarrowLine, BreaksAt}
use Rattle.gp_audit.specs.meaning.Lines.{IsTrace}
use Rattle.gp_audit.proofs.Digits.{number_once}
use Rattle.gp_audit.proofs.FirstWords.{only_issue, only_post, only_take, only_retire, only_restart}
use Rattle.gp_audit.proofs.Parts.{cancel, before_once, attempt_once, space, line_end}
use Rattle.gp_audit.proofs.Restarts.{parts, rest_apart, first_apart}
use Rattle.gp_audit.proofs.TraceTexts.{trace-read, broken-read}

redo_once : (xs ys r s : List ℕ) → All IsNarrow xs → All IsNarrow ys → redo_end xs ++ r ≡ redo_end ys ++ s → (xs ≡ ys) × (r ≡ s)
redo_once [] [] r s nx ny same = (refl, cancel (codes "\n") r s same)
redo_once [] (y ∷ ys) r s nx ny same = absurd (let e = ap (λ l. get_or l 0 0) (same ∙ first_apart y ys s) in omega arith)
redo_once (x ∷ xs) [] r s nx ny same = absurd (let e = ap (λ l. get_or l 0 0) (sym (first_apart x xs r) ∙ same) in omega arith)
redo_once (x ∷ xs) (y ∷ ys) r s nx ny same =
    let bare =
    cancel (codes " ") (decimal x ++ (redo_end xs ++ r)) (decimal y ++ (redo_end ys ++ s))
    (sym (first_apart x xs r) ∙ (same ∙ first_apart y ys s)) in
    let first =
    number_once x y (redo_end xs ++ r) (redo_end ys ++ s) (All-head IsNarrow x xs nx) (All-head IsNarrow y ys ny) (rest_apart xs r)
    (rest_apart ys s) bare in
    let rest = redo_once xs ys r s (All-tail IsNarrow x xs nx) (All-tail IsNarrow y ys ny) first.1 in
    let heads = first.0 in
    let tails = rest.0 in
    ((λ i. heads i ∷ tails i), rest.1)

restart_once : (a b : Restart) (r s : List ℕ) → IsNarrowRestart a → IsNarrowRestart b → restart_end a ++ r ≡ restart_end b ++ s
    → (a ≡ b) × (r ≡ s)
restart_once a b r s na nb same =
    let whole = sym (parts a r) ∙ (same ∙ parts b s) in
    let ra = redo_end a.redo ++ r in
    let rb = redo_end b.redo ++ s in
    let first =
    before_once (codes " ") space a.front b.front ((attempt_before a.struck a.attempt ++ codes "redo") ++ ra)
    ((attempt_before b.struck b.attempt ++ codes "redo") ++ rb) na.front nb.front
    (sym (append_assoc (before_space a.front) (attempt_before a.struck a.attempt ++ codes "redo") ra)
    ∙ (whole ∙ append_assoc (before_space b.front) (attempt_before b.struck b.attempt ++ codes "redo") rb)) in
    let second =
    attempt_once a.struck a.attempt b.struck b.attempt (codes "redo" ++ ra)
    (codes "redo" ++ rb) na.struck na.attempt nb.struck nb.attempt
    (sym (append_assoc (attempt_before a.struck a.attempt) (codes "redo") ra)
    ∙ (first.1 ∙ append_assoc (attempt_before b.struck b.attempt) (codes "redo") rb)) in
    let last = redo_once a.redo b.redo r s na.redo nb.redo (cancel (codes "redo") ra rb second.2) in
    let fronts = first.0 in
    let strucks = second.0 in
    let attempts = second.1 in
    let redos = last.0 in
    ((λ i. record { front = fronts i; struck = strucks i; attempt = attempts i; redo = redos i }), last.1)

word_once : (x y : Bool) (r s : List ℕ) → applies_word x ++ r ≡ applies_word y ++ s → (x ≡ y) × (r ≡ s)
word_once true true r s same = (refl, cancel (codes "applied\n") r s same)
word_once false false r s same = (refl, cancel (codes "stale\n") r s same)
word_once true false r s same = absurd (let e = ap (λ l. get_or l 0 0) same in omega arith)
word_once false true r s same = absurd (let e = ap (λ l. get_or l 0 0) same in omega arith)

line_once : (l m : TraceLine) (r s : List ℕ) → IsNarrowLine l → IsNarrowLine m → line_text l ++ r ≡ line_text m ++ s → (l ≡ m) × (r ≡ s)
line_once (line.Issue p) m r s nl nm same =
    let h = only_issue m (at_end p ++ r) s same in
    let once = before_once (codes "\n") line_end p h.0 r s nl (subst IsNarrowLine h.1 nm) h.2 in
    (ap line.Issue once.0 ∙ sym h.1, once.1)
line_once (line.Retire p) m r s nl nm same =
    let h = only_retire m (at_end p ++ r) s same in
    let once = before_once (codes "\n") line_end p h.0 r s nl (subst IsNarrowLine h.1 nm) h.2 in
    (ap line.Retire once.0 ∙ sym h.1, once.1)
line_once (line.Post p a) m r s nl nm same =
    let h = only_post m ((before_space p ++ at_end a) ++ r) s same in
    let q = h.0 in
    let b = h.1 in
    let narrow = subst IsNarrowLine h.2 nm in
    let first = before_once (codes " ") space p q (at_end a ++ r) (at_end b ++ s) nl.0 narrow.0
    (sym (append_assoc (before_space p) (at_end a) r) ∙ (h.3 ∙ append_assoc (before_space q) (at_end b) s)) in
    let second = before_once (codes "\n") line_end a b r s nl.1 narrow.1 first.1 in
    let ps = first.0 in
    let tries = second.0 in
    ((λ i. line.Post (ps i) (tries i)) ∙ sym h.2, second.1)
line_once (line.Take p a x) m r s nl nm same =
    let h = only_take m ((attempt_before p a ++ applies_word x) ++ r) s same in
    let q = h.0 in
    let b = h.1 in
    let y = h.2 in
    let narrow = subst IsNarrowLine h.3 nm in
    let first = attempt_once p a q b (applies_word x ++ r) (applies_word y ++ s) nl.0 nl.1 narrow.0 narrow.1
    (sym (append_assoc (attempt_before p a) (applies_word x) r) ∙ (h.4 ∙ append_assoc (attempt_before q b) (applies_word y) s)) in
    let second = word_once x y r s first.2 in
    let ps = first.0 in
    let tries = first.1 in
    let xs = second.0 in
    ((λ i. line.Take (ps i) (tries i) (xs i)) ∙ sym h.3, second.1)
line_once (line.Restart a) m r s nl nm same =
    let h = only_restart m (restart_end a ++ r) s same in
    let once = restart_once a h.0 r s nl (subst IsNarrowLine h.1 nm) h.2 in
    (ap line.Restart once.0 ∙ sym h.1, once.1)

-- where lines begin a text of lines, they are the first of those
pub lines_once : (xs ys : List TraceLine) (rest : List ℕ) → All IsNarrowLine xs → All IsNarrowLine ys
    → lines_text xs ≡ lines_text ys ++ rest
    → (zs : List TraceLine) × (xs ≡ ys ++ zs) × (rest ≡ lines_text zs)
lines_once xs [] rest nx ny same = (xs, refl, sym same)
lines_once [] (y ∷ ys) rest nx ny same = absurd (none y same)
  where
    none : (l : TraceLine) → [] ≢ (line_text l ++ lines_text ys) ++ rest
    none (line.Issue p) e = absurd (let n = ap length e in omega arith)
    none (line.Post p a) e = absurd (let n = ap length e in omega arith)
    none (line.Take p a x) e = absurd (let n = ap length e in omega arith)
    none (line.Restart r) e = absurd (let n = ap length e in omega arith)
    none (line.Retire p) e = absurd (let n = ap length e in omega arith)
lines_once (x ∷ xs) (y ∷ ys) rest nx ny same =
    let one =
    line_once x y (lines_text xs) (lines_text ys ++ rest) (All-head IsNarrowLine x xs nx) (All-head IsNarrowLine y ys ny)
    (same ∙ append_assoc (line_text y) (lines_text ys) rest) in
    let more = lines_once xs ys rest (All-tail IsNarrowLine x xs nx) (All-tail IsNarrowLine y ys ny) one.1 in
    let heads = one.0 in
    let tails = more.1 in
    (more.0, (λ i. heads i ∷ tails i), more.2)

no_text : (zs : List TraceLine) → [] ≡ lines_text zs → zs ≡ []
no_text [] e = refl
no_text (line.Issue p ∷ zs) e = absurd (let n = ap length e in omega arith)
no_text (line.Post p a ∷ zs) e = absurd (let n = ap length e in omega arith)
no_text (line.Take p a x ∷ zs) e = absurd (let n = ap length e in omega arith)
no_text (line.Restart r ∷ zs) e = absurd (let n = ap length e in omega arith)
no_text (line.Retire p ∷ zs) e = absurd (let n = ap length e in omega arith)

-- the text of lines is read as these lines
text_once : (lines : List TraceLine) → All IsNarrowLine lines → (result : Result (List TraceLine) TraceFault)
    → AnswersTrace (lines_text lines) result
    → (result ≡ Ok lines) ⊎ (result ≡ Err fault.OutOfMemory)
text_once lines narrow (Ok read) h =
    let text = trace-read (lines_text lines) read h in
    let once = lines_once lines read [] narrow text.0 (text.1 ∙ sym (append-nil (lines_text read))) in
    inl (ap Ok (sym (append-nil read) ∙ (ap (λ zs. read ++ zs) (sym (no_text once.0 once.2)) ∙ sym once.1)))
text_once lines narrow (Err fault.OutOfMemory) h = inr refl
text_once lines narrow (Err (fault.Line row)) h = absurd (broken once.0 once.1 once.2)
  where
    breaks : BreaksAt (lines_text lines) row
    breaks = broken-read (lines_text lines) row h

    once : (zs : List TraceLine) × (lines ≡ breaks.lines ++ zs) × (breaks.rest ≡ lines_text zs)
    once = lines_once lines breaks.lines breaks.rest narrow breaks.narrow breaks.bytes_are

    broken : (zs : List TraceLine) → lines ≡ breaks.lines ++ zs → breaks.rest ≡ lines_text zs → ⊥
    broken [] are text = breaks.some_row text
    broken (z ∷ zs) are text =
        breaks.no_line z (lines_text zs)
        (All-contains IsNarrowLine lines z narrow
        (subst (λ xs. Contains xs z) (sym are) (Contains-append_right breaks.lines (z ∷ zs) z (0, omega arith, refl)))) text

-- so a trace is
pub read_once : (bytes : List ℕ) (lines : List TraceLine) → IsTrace bytes lines → (result : Result (List TraceLine) TraceFault)
    → AnswersTrace bytes result
    → (result ≡ Ok lines) ⊎ (result ≡ Err fault.OutOfMemory)
read_once bytes lines trace result answers =
    let text = trace-read bytes lines trace in
    text_once lines text.0 result (subst (λ b. AnswersTrace b result) text.1 answers)
