-- The text of a finished run has one reading.
use Rattle.std.proofs.Common.{◌≡◌, ◌≢◌, ◌||◌, ◌==◌, ℕ, ℤ, Bool, true, false, List, [], ◌∷◌, ◌++◌, length, take, drop, get_or, refl, sym, ap, ◌∙◌, append_assoc, arith}
use Rattle.std.specs.Prelude.{All, codes, flat_map, Result, Ok, Err, IfOk}
use Rattle.std.specs.Char.{is_ascii_digit}
use Rattle.std.specs.Fmt.{signed_decimal}
use Rattle.std.proofs.lemmas.Bool.{both_ways}
use Rattle.std.proofs.lemmas.List.{length-append}
use Rattle.std.proofs.lemmas.List.Elements.{All-head, All-tail, All-take, All-drop}
use Rattle.gp_base.specs.Fronts.{begins_with_digit}
use Rattle.gp_base.specs.declared.ending.End.{End}
use Rattle.gp_base.specs.declared.ending.End.TheVariants.{Finished, Stuck, Spent}
use Rattle.gp_base.specs.declared.journal.Restart.{Restart}
use Rattle.task_ast.specs.declared.tree.Head.{Head}
use Rattle.task_ast.specs.meaning.Tree.{Name}
use Rattle.task_ast.specs.meaning.Names.{records_of}
use Rattle.task_ast.specs.meaning.Layout.{cut}
use Rattle.reorder_list.specs.declared.report.Report.{Report}
use Rattle.restart_log.specs.meaning.Lines.{spaced, printed_line, printed}
use Rattle.restart_log.specs.meaning.Tail.{record_line, tail_text, restart_lines, counts_section}
use Rattle.retirement_log.specs.meaning.Rows.{IsWide}
use Rattle.call_cases.specs.meaning.Texts.{run_tail}
use Rattle.gp_resume.proofs.Fronts.{cancel}
use Rattle.gp_resume.proofs.Numerals.{number-once}
use Rattle.gp_resume.proofs.Printed.{printed-some}
use Rattle.gp_resume.proofs.RowFronts.{first-byte, line-apart}
use Rattle.run_told.specs.Renders.{rendered}
use Rattle.run_told.specs.Told.{TellsRun}

-- ---- numbers after spaces, up to the end of a line

line-behind : (values : List ℤ) (rest : List ℕ) → begins_with_digit (spaced values ++ (codes "\n" ++ rest)) ≡ false
line-behind [] rest = refl
line-behind (x ∷ values) rest = refl

first-one : (x : ℤ) (values : List ℤ) (rest : List ℕ)
    → spaced (x ∷ values) ++ rest ≡ (codes " " ++ signed_decimal x) ++ (spaced values ++ rest)
first-one x values rest = append_assoc (codes " " ++ signed_decimal x) (spaced values) rest

spaced-once : (xs ys : List ℤ) (r s : List ℕ) → All IsWide xs → spaced xs ++ (codes "\n" ++ r) ≡ spaced ys ++ (codes "\n" ++ s)
    → (xs ≡ ys) × (r ≡ s)
spaced-once [] [] r s wide same = (refl, cancel (codes "\n") r s same)
spaced-once [] (y ∷ ys) r s wide same = absurd (line-apart y r (spaced ys ++ (codes "\n" ++ s)) (same ∙ first-one y ys (codes "\n" ++ s)))
spaced-once (x ∷ xs) [] r s wide same = absurd (line-apart x s (spaced xs ++ (codes "\n" ++ r)) (sym same ∙ first-one x xs (codes "\n" ++ r)))
spaced-once (x ∷ xs) (y ∷ ys) r s wide same =
    let r' = codes "\n" ++ r in
    let s' = codes "\n" ++ s in
    let tails : signed_decimal x ++ (spaced xs ++ r') ≡ signed_decimal y ++ (spaced ys ++ s') =
    cancel (codes " ") (signed_decimal x ++ (spaced xs ++ r'))
    (signed_decimal y ++ (spaced ys ++ s')) (sym (first-one x xs r') ∙ (same ∙ first-one y ys s')) in
    let one =
    number-once x y (spaced xs ++ r') (spaced ys ++ s') (All-head IsWide x xs wide) (line-behind xs r) (line-behind ys s) tails in
    let rest = spaced-once xs ys r s (All-tail IsWide x xs wide) one.1 in
    ((λ i. one.0 i ∷ rest.0 i), rest.1)

-- ---- printed lines

-- whether the bytes begin as a printed number does
begins_as_number : List ℕ → Bool
begins_as_number [] = false
begins_as_number (c ∷ rest) = is_ascii_digit c || c == 45

begins : (y : ℤ) (t bytes : List ℕ) → bytes ≡ signed_decimal y ++ t → begins_as_number bytes ≡ true
unfolding begins_as_number
begins y t [] same = absurd (let none = ap length same in omega (arith, none, printed-some y, length-append {A = ℕ}))
begins y t (c ∷ rest) same = first-byte y c rest t same

no-number : (y : ℤ) (t bytes : List ℕ) → begins_as_number bytes ≡ false → bytes ≡ signed_decimal y ++ t → ⊥
no-number y t bytes none same = both_ways (begins_as_number bytes) none (begins y t bytes same)

-- bytes with which no printed line goes on
record Stops (rest : List ℕ) : Type 0 where
  number : begins_as_number rest ≡ false
  line : (later : List ℕ) → rest ≢ codes "\n" ++ later

line-text : (x : ℤ) (xs : List ℤ) (r : List ℕ) → printed_line (x ∷ xs) ++ r ≡ signed_decimal x ++ (spaced xs ++ (codes "\n" ++ r))
line-text x xs r =
    append_assoc (signed_decimal x) (spaced xs ++ codes "\n") r ∙ ap (λ t. signed_decimal x ++ t) (append_assoc (spaced xs) (codes "\n") r)

no-line : (x : ℤ) (xs : List ℤ) (r s : List ℕ) → codes "\n" ++ s ≡ printed_line (x ∷ xs) ++ r → ⊥
unfolding begins_as_number
no-line x xs r s same = no-number x (spaced xs ++ (codes "\n" ++ r)) (codes "\n" ++ s) refl (same ∙ line-text x xs r)

line-once : (xs ys : List ℤ) (r s : List ℕ) → All IsWide xs → printed_line xs ++ r ≡ printed_line ys ++ s → (xs ≡ ys) × (r ≡ s)
line-once [] [] r s wide same = (refl, cancel (codes "\n") r s same)
line-once [] (y ∷ ys) r s wide same = absurd (no-line y ys s r same)
line-once (x ∷ xs) [] r s wide same = absurd (no-line x xs r s (sym same))
line-once (x ∷ xs) (y ∷ ys) r s wide same =
    let one =
    number-once x y (spaced xs ++ (codes "\n" ++ r)) (spaced ys ++ (codes "\n" ++ s)) (All-head IsWide x xs wide) (line-behind xs r)
    (line-behind ys s) (sym (line-text x xs r) ∙ (same ∙ line-text y ys s)) in
    let rest = spaced-once xs ys r s (All-tail IsWide x xs wide) one.1 in
    ((λ i. one.0 i ∷ rest.0 i), rest.1)

line-apart-from : (ys : List ℤ) (rest later : List ℕ) → Stops rest → rest ≡ printed_line ys ++ later → ⊥
line-apart-from [] rest later stops same = stops.line later same
line-apart-from (y ∷ ys) rest later stops same =
    no-number y (spaced ys ++ (codes "\n" ++ later)) rest stops.number (same ∙ line-text y ys later)

lines-once : (xs ys : List (List ℤ)) (r s : List ℕ) → All (All IsWide) xs → Stops r → Stops s → printed xs ++ r ≡ printed ys ++ s
    → (xs ≡ ys) × (r ≡ s)
lines-once [] [] r s wide hr hs same = (refl, same)
lines-once [] (y ∷ ys) r s wide hr hs same =
    absurd (line-apart-from y r (printed ys ++ s) hr (same ∙ append_assoc (printed_line y) (printed ys) s))
lines-once (x ∷ xs) [] r s wide hr hs same =
    absurd (line-apart-from x s (printed xs ++ r) hs (sym same ∙ append_assoc (printed_line x) (printed xs) r))
lines-once (x ∷ xs) (y ∷ ys) r s wide hr hs same =
    let one =
    line-once x y (printed xs ++ r) (printed ys ++ s) (All-head (All IsWide) x xs wide)
    (sym (append_assoc (printed_line x) (printed xs) r) ∙ (same ∙ append_assoc (printed_line y) (printed ys) s)) in
    let rest = lines-once xs ys r s (All-tail (All IsWide) x xs wide) hr hs one.1 in
    ((λ i. one.0 i ∷ rest.0 i), rest.1)

-- ---- records

record-text : (name : Name) (c : List ℤ) (more r : List ℕ)
    → (record_line (name, c) ++ more) ++ r ≡ name ++ (codes ":" ++ (spaced c ++ (codes "\n" ++ (more ++ r))))
record-text name c more r =
    let m = more ++ r in
    append_assoc (record_line (name, c)) more r
    ∙ (append_assoc ((name ++ codes ":") ++ spaced c) (codes "\n") m
    ∙ (append_assoc (name ++ codes ":") (spaced c) (codes "\n" ++ m) ∙ append_assoc name (codes ":") (spaced c ++ (codes "\n" ++ m))))

records-once : (arrays : List (Name × ℕ)) (xs ys : List ℤ) (r s : List ℕ) → All IsWide xs
    → flat_map record_line (cut arrays xs) ++ r ≡ flat_map record_line (cut arrays ys) ++ s → (cut arrays xs ≡ cut arrays ys) × (r ≡ s)
records-once [] xs ys r s wide same = (refl, same)
records-once (array ∷ arrays) xs ys r s wide same =
    let own = take array.1 xs in
    let other = take array.1 ys in
    let more = flat_map record_line (cut arrays (drop array.1 xs)) in
    let more' = flat_map record_line (cut arrays (drop array.1 ys)) in
    let a = spaced own ++ (codes "\n" ++ (more ++ r)) in
    let b = spaced other ++ (codes "\n" ++ (more' ++ s)) in
    let named : array.0 ++ (codes ":" ++ a) ≡ array.0 ++ (codes ":" ++ b) =
    sym (record-text array.0 own more r) ∙ (same ∙ record-text array.0 other more' s) in
    let first = spaced-once own other (more ++ r) (more' ++ s) (All-take IsWide array.1 xs wide)
    (cancel (codes ":") a b (cancel array.0 (codes ":" ++ a) (codes ":" ++ b) named)) in
    let rest = records-once arrays (drop array.1 xs) (drop array.1 ys) r s (All-drop IsWide array.1 xs wide) first.1 in
    ((λ i. (array.0, first.0 i) ∷ rest.0 i), rest.1)

-- ---- the whole text

records-stop : (rest : List ℕ) → Stops (codes "records\n" ++ rest)
unfolding begins_as_number
records-stop rest =
    record { number = refl; line = λ later same. let first = ap (λ bytes. get_or bytes 0 0) same in omega (arith, first) }

tail-stops : (end : End) (records : List (Name × List ℤ)) (subthreads : ℕ) (restarts : List Restart) (unused : ℕ)
    → Stops (tail_text end records subthreads restarts unused)
unfolding begins_as_number
tail-stops Finished records subthreads restarts unused =
    record { number = refl; line = λ later same. let first = ap (λ bytes. get_or bytes 0 0) same in omega (arith, first) }
tail-stops (Stuck why thread line) records subthreads restarts unused =
    record { number = refl; line = λ later same. let first = ap (λ bytes. get_or bytes 0 0) same in omega (arith, first) }
tail-stops (Spent position) records subthreads restarts unused =
    record { number = refl; line = λ later same. let first = ap (λ bytes. get_or bytes 0 0) same in omega (arith, first) }

tail-split : (records : List (Name × List ℤ)) (subthreads : ℕ) (restarts : List Restart) (unused : ℕ)
    → tail_text Finished records subthreads restarts unused
    ≡ codes "records\n" ++ (flat_map record_line records ++ (codes "restarts\n" ++ (restart_lines 1 restarts ++ counts_section subthreads restarts unused)))
tail-split records subthreads restarts unused =
    let lines = restart_lines 1 restarts in
    let counts = counts_section subthreads restarts unused in
    let own = flat_map record_line records in
    append_assoc ((codes "records\n" ++ own) ++ codes "restarts\n") lines counts
    ∙ (append_assoc (codes "records\n" ++ own) (codes "restarts\n") (lines ++ counts)
    ∙ append_assoc (codes "records\n") own (codes "restarts\n" ++ (lines ++ counts)))

ends-so : (end : End) (arrays : List (Name × ℕ)) (cells own : List ℤ) (records : List (Name × List ℤ)) (subthreads : ℕ)
    (restarts : List Restart) (unused : ℕ) (rest : List ℕ) → All IsWide cells → records ≡ cut arrays own
    → codes "records\n" ++ (flat_map record_line (cut arrays cells) ++ (codes "restarts\n" ++ rest))
    ≡ tail_text end records subthreads restarts unused
    → (end ≡ Finished) × (records ≡ cut arrays cells)
ends-so Finished arrays cells own records subthreads restarts unused rest wide are same =
    let later = codes "restarts\n" ++ (restart_lines 1 restarts ++ counts_section subthreads restarts unused) in
    let split : tail_text Finished records subthreads restarts unused ≡ codes "records\n" ++ (flat_map record_line records ++ later) =
    tail-split records subthreads restarts unused in
    let tails = cancel (codes "records\n") _ _ (same ∙ split) in
    let one = records-once arrays cells own _ later wide (tails ∙ ap (λ rs. flat_map record_line rs ++ later) are) in
    (refl, are ∙ sym one.0)
ends-so (Stuck why thread line) arrays cells own records subthreads restarts unused rest wide are same =
    absurd (let first = ap (λ bytes. get_or bytes 0 0) same in omega (arith, first))
ends-so (Spent position) arrays cells own records subthreads restarts unused rest wide are same =
    absurd (let first = ap (λ bytes. get_or bytes 0 0) same in omega (arith, first))

-- what was rendered again tells how the run went that has this text
pub rendered-tells : (heads : List Head) (lines : List (List ℤ)) (report : Report) (text : List ℕ) → All (All IsWide) lines
    → All IsWide report.records → text ≡ rendered heads lines report → TellsRun heads lines report.records text
rendered-tells heads lines report text wide_lines wide_cells is ran own restarts faults are has =
    let arrays = records_of heads in
    let rest = restart_lines 1 report.journal.restarts ++ counts_section report.subthreads report.journal.restarts report.unused in
    let behind = codes "records\n" ++ (flat_map record_line (cut arrays report.records) ++ (codes "restarts\n" ++ rest)) in
    let split : tail_text Finished (cut arrays report.records) report.subthreads report.journal.restarts report.unused ≡ behind =
    tail-split (cut arrays report.records) report.subthreads report.journal.restarts report.unused in
    let tails = cancel (codes "output\n") (printed ran.lines ++ run_tail ran restarts faults) (printed lines ++ behind)
    (sym has ∙ (is ∙ ap (λ t. codes "output\n" ++ (printed lines ++ t)) split)) in
    let first =
    lines-once lines ran.lines behind (run_tail ran restarts faults) wide_lines (records-stop _)
    (tail-stops ran.end ran.records ran.subthreads restarts _) (sym tails) in
    let last = ends-so ran.end arrays report.records own ran.records ran.subthreads restarts _ rest wide_cells are first.1 in
    record { finished = last.0; printed_lines = sym first.0; left = last.1 }

-- what follows from an answer
pub if_ok : {T E : Type 0} (P Q : T → Type 0) (r : Result T E) → IfOk r P → ((x : T) → P x → Q x) → IfOk r Q
if_ok P Q (Ok x) holds then = then x holds
if_ok P Q (Err e) holds then = tt
