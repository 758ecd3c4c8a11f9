-- The text that was there before and the text that is still to come are the text of one thread.
use Rattle.std.proofs.Common.{◌≡◌, ℕ, zero, suc, ℤ, pos, ◌+◌, ◌≤◌, List, [], ◌∷◌, ◌++◌, length, take, drop, Some, refl, sym, ap, ◌∙◌, arith, append_assoc}
use Rattle.std.specs.Prelude.{codes, slice_get, sum_by}
use Rattle.std.proofs.lemmas.List.{length-append, take-append-drop}
use Rattle.std.proofs.lemmas.List.Sums.{sum_by-cons}
use Rattle.std.proofs.lemmas.Grind.{flat_map-append}
use Rattle.gp_base.specs.declared.limits.Limits.{Limits}
use Rattle.gp_base.specs.declared.feed.Inputs.{Inputs}
use Rattle.gp_base.specs.declared.ending.End.{End}
use Rattle.task_ast.specs.declared.effect.Effect.{Effect}
use Rattle.task_ast.specs.meaning.Tree.{Program}
use Rattle.task_ast.specs.meaning.Names.{records_of}
use Rattle.task_ast.specs.meaning.Layout.{cut}
use Rattle.task_ast.specs.meaning.Plain.{Subthread}
use Rattle.task_ast.specs.meaning.Run.{plain_order, plain_end, plain_records}
use Rattle.restart_log.specs.meaning.Lines.{printed_line, printed}
use Rattle.restart_log.specs.meaning.Tail.{tail_text}
use Rattle.crew.specs.meaning.Noted.{left_at, left_from, left_in_order}
use Rattle.retirement_log.specs.meaning.Rows.{Retirement}
use Rattle.retirement_log.specs.meaning.Log.{size_of, rows_from}
use Rattle.gp_resume.specs.meaning.Resumed.{lines_of, first_line, end, final_records, count, text, bytes_before}
use Rattle.gp_resume.specs.Resuming.{bytes_from}
use Rattle.gp_resume.specs.Laws.{own_rows, text_before, text_of_one, IsRest}
use Rattle.retirement_log.proofs.Placed.{plain_lines}
use Rattle.gp_resume.proofs.Replaying.{length-left, length-own, is-rest}

-- the last row has the bytes of all
bytes-upto : (k b : ℕ) (told : List Effect) (p : ℕ) (start : ℤ) → suc p ≤ length told
    → bytes_from start (take (suc p) (rows_from k b told)) ≡ pos (b + sum_by size_of (take (suc p) told))
bytes-upto k b [] p start l = absurd (omega arith)
bytes-upto k b (e ∷ told) zero start l =
    let one : sum_by size_of (e ∷ []) ≡ size_of e + sum_by size_of [] = sum_by-cons size_of e [] in
    let all : b + size_of e ≡ b + sum_by size_of (e ∷ []) = omega arith in
    ap pos all
bytes-upto k b (e ∷ told) (suc p) start l =
    let first = sum_by-cons size_of e (take (suc p) told) in
    let all : (b + size_of e) + sum_by size_of (take (suc p) told) ≡ b + sum_by size_of (e ∷ take (suc p) told) = omega arith in
    bytes-upto (suc k) (b + size_of e) told p (pos (b + size_of e)) (omega arith) ∙ ap pos all

-- the lines of two runs
printed-split : (xs ys : List Subthread) → printed (lines_of (xs ++ ys)) ≡ printed (lines_of xs) ++ printed (lines_of ys)
printed-split xs ys =
    ap printed (flat_map-append (λ (s : Subthread). s.lines) xs ys) ∙ flat_map-append printed_line (lines_of xs) (lines_of ys)

-- no first line is to come where there is a row
no-first-line : (rows : List Retirement) (p : ℕ) → suc p ≤ length rows → first_line rows ≡ []
no-first-line [] p l = absurd (omega arith)
no-first-line (row ∷ rows) p l = refl

module _ (program : Program) (inputs : Inputs) (limits : Limits) where
  -- what positions left has the bytes of their lines
  lines-size : (k : ℕ) (run : List Subthread)
      → ((i : ℕ) (s : Subthread) → slice_get run i ≡ Some s → s.lines ≡ (left_at program inputs limits (k + i) s).prints) → (p : ℕ)
      → length (printed (lines_of (take p run))) ≡ sum_by size_of (take p (left_from program inputs limits k run))
  lines-size k [] same zero = refl
  lines-size k [] same (suc p) = refl
  lines-size k (x ∷ run) same zero = refl
  lines-size k (x ∷ run) same (suc p) =
      let at : k + 0 ≡ k = omega arith in
      let here : x.lines ≡ (left_at program inputs limits k x).prints =
      same 0 x refl ∙ ap (λ (n : ℕ). (left_at program inputs limits n x).prints) at in
      let again = lines-size (suc k) run (λ i s e. same_later i s (same (suc i) s e)) p in
      ap length (flat_map-append printed_line x.lines (lines_of (take p run)))
      ∙ (length-append (printed x.lines) (printed (lines_of (take p run)))
      ∙ (ap (λ (lines : List (List ℤ)). length (printed lines) + length (printed (lines_of (take p run)))) here
      ∙ (ap (λ (n : ℕ). size_of (left_at program inputs limits k x) + n) again
      ∙ sym (sum_by-cons size_of (left_at program inputs limits k x) (take p (left_from program inputs limits (suc k) run))))))
    where
      same_later : (i : ℕ) (s : Subthread) → s.lines ≡ (left_at program inputs limits (k + suc i) s).prints
          → s.lines ≡ (left_at program inputs limits (suc k + i) s).prints
      same_later i s e = let at : k + suc i ≡ suc k + i = omega arith in e ∙ ap (λ (n : ℕ). (left_at program inputs limits n s).prints) at

  own-lines : (p : ℕ)
      → length (printed (lines_of (take p (plain_order program inputs limits)))) ≡ sum_by size_of (take p (left_in_order program inputs limits))
  own-lines =
      lines-size 0 (plain_order program inputs limits) (plain_lines program inputs limits)

  pub bytes-known : (p : ℕ) → p ≤ length (plain_order program inputs limits)
      → bytes_before (own_rows program inputs limits p) ≡ pos (length (text_before program inputs limits p))
  bytes-known zero l = refl
  bytes-known (suc p) l =
      let told = length-left program inputs limits 0 (plain_order program inputs limits) in
      let lines : List ℕ = printed (lines_of (take (suc p) (plain_order program inputs limits))) in
      bytes-upto 0 (length (codes "output\n")) (left_in_order program inputs limits) p (pos 0) (omega arith)
      ∙ ap pos (ap (λ (n : ℕ). length (codes "output\n") + n) (sym (own-lines (suc p))) ∙ sym (length-append (codes "output\n") lines))

  -- what follows the lines
  abbrev tail_of : End → List ℤ → ℕ → List ℕ
  tail_of end cells count = tail_text end (cut (records_of program.heads) cells) count [] 0

  abbrev own_tail : ℕ → List ℕ
  own_tail p =
      tail_of (end program inputs limits (own_rows program inputs limits p))
      (final_records program inputs limits (own_rows program inputs limits p))
      (count program inputs limits (own_rows program inputs limits p))

  abbrev tail_of_one : List ℕ
  tail_of_one = tail_of (plain_end program inputs limits) (plain_records program inputs limits) (length (plain_order program inputs limits))

  same-tail : (p : ℕ) → IsRest program inputs limits p → own_tail p ≡ tail_of_one
  same-tail p r =
      let rows : List Retirement = own_rows program inputs limits p in
      ap (λ (e : End). tail_of e (final_records program inputs limits rows) (count program inputs limits rows)) r.end
      ∙ (ap (λ (cells : List ℤ). tail_of (plain_end program inputs limits) cells (count program inputs limits rows)) r.final_records
      ∙ ap (λ (n : ℕ). tail_of (plain_end program inputs limits) (plain_records program inputs limits) n) r.count)

  -- the text that is still to come, by the plain run
  text-rest : (p : ℕ) → IsRest program inputs limits p
      → text program inputs limits (own_rows program inputs limits p)
      ≡ first_line (own_rows program inputs limits p) ++ (printed (lines_of (drop p (plain_order program inputs limits))) ++ tail_of_one)
  text-rest p r =
      ap (λ (run : List Subthread). first_line (own_rows program inputs limits p) ++ (printed (lines_of run) ++ own_tail p)) r.rest
      ∙ ap (λ (t : List ℕ). first_line (own_rows program inputs limits p)
      ++ (printed (lines_of (drop p (plain_order program inputs limits))) ++ t)) (same-tail p r)

  pub joined : (p : ℕ) → p ≤ length (plain_order program inputs limits)
      → text_before program inputs limits p ++ text program inputs limits (own_rows program inputs limits p)
      ≡ text_of_one program inputs limits
  joined zero l = text-rest 0 (is-rest program inputs limits 0 l)
  joined (suc p) l =
      ap (λ (t : List ℕ). text_before program inputs limits (suc p) ++ t)
      (text-rest (suc p) (is-rest program inputs limits (suc p) l) ∙ ap (λ (t : List ℕ). t ++ (after_them ++ tail_of_one)) none)
      ∙ (append_assoc (codes "output\n") before_them (after_them ++ tail_of_one)
      ∙ ap (λ (t : List ℕ). codes "output\n" ++ t)
      (sym (append_assoc before_them after_them tail_of_one)
      ∙ ap (λ (t : List ℕ). t ++ tail_of_one)
      (sym (printed-split (take (suc p) run) (drop (suc p) run))
      ∙ ap (λ (s : List Subthread). printed (lines_of s)) (take-append-drop (suc p) run))))
    where
      run : List Subthread
      run = plain_order program inputs limits

      before_them : List ℕ
      before_them = printed (lines_of (take (suc p) run))

      after_them : List ℕ
      after_them = printed (lines_of (drop (suc p) run))

      none : first_line (own_rows program inputs limits (suc p)) ≡ []
      none =
          let known = length-own program inputs limits (suc p) l in
          no-first-line (own_rows program inputs limits (suc p)) p (omega arith)
