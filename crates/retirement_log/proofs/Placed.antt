-- What the rows of a run's log say of the text of that run: rows go by positions, and each has the bytes of the lines before it
-- and of its own.
use Rattle.std.proofs.Common.{◌≡◌, ℕ, zero, suc, ◌+◌, List, [], ◌∷◌, length, take, refl, sym, ap, ◌∙◌, subst, arith, length-append, zero-add}
use Rattle.std.specs.Prelude.{pos, codes, flat_map, slice_get, Some, None}
use Rattle.std.proofs.lemmas.Grind.{flat_map-append}
use Rattle.gp_base.specs.declared.limits.Limits.{Limits}
use Rattle.gp_base.specs.declared.feed.Inputs.{Inputs}
use Rattle.task_ast.specs.meaning.Tree.{Program}
use Rattle.task_ast.specs.meaning.Plain.{Subthread}
use Rattle.task_ast.specs.meaning.Effect.{effect}
use Rattle.task_ast.specs.meaning.Run.{plain_order}
use Rattle.task_ast.specs.Plain.{Plain, tree_machine}
use Rattle.task_ast.proofs.Positions.{step_is}
use Rattle.task_ast.proofs.Runs.{order-is, before-is}
use Rattle.restart_log.specs.meaning.Lines.{printed, printed_line}
use Rattle.crew.specs.meaning.Noted.{left_at, left_from, left_in_order}
use Rattle.retirement_log.specs.meaning.Rows.{Retirement}
use Rattle.retirement_log.specs.meaning.Log.{size_of, log_row, rows_from, log_rows}
use Rattle.retirement_log.specs.Laws.{text_of_first}

-- the bytes of the lines of these subthreads
abbrev lines_size : List Subthread → ℕ
lines_size run = length (printed (flat_map (λ (s : Subthread). s.lines) run))

-- those of the first come first
first_size : (s : Subthread) (run : List Subthread) → lines_size (s ∷ run) ≡ length (printed s.lines) + lines_size run
first_size s run =
    ap length (flat_map-append printed_line s.lines (flat_map (λ (s : Subthread). s.lines) run))
    ∙ length-append (printed s.lines) (printed (flat_map (λ (s : Subthread). s.lines) run))

-- the members of an option are equal where the options are
some_same : {X : Type 0} (x y : X) → Some x ≡ Some y → x ≡ y
some_same x y e = cc

none_some : {X : Type 0} (y : X) → None ≡ Some y → ⊥
none_some y e = cc

module _ (program : Program) (inputs : Inputs) (limits : Limits) where
  -- these subthreads, the first of which has this position, have the lines of what they leave
  abbrev pub HaveLines : ℕ → List Subthread → Type 0
  HaveLines p run = (k : ℕ) (s : Subthread) → slice_get run k ≡ Some s → s.lines ≡ (left_at program inputs limits (p + k) s).prints

  have_rest : (p : ℕ) (s : Subthread) (run : List Subthread) → HaveLines p (s ∷ run) → HaveLines (suc p) run
  have_rest p s run have k other is =
      let at : p + suc k ≡ suc p + k = omega arith in
      subst (λ q. other.lines ≡ (left_at program inputs limits q other).prints) at (have (suc k) other is)

  have_first : (p : ℕ) (s : Subthread) (run : List Subthread) → HaveLines p (s ∷ run) → s.lines ≡ (left_at program inputs limits p s).prints
  have_first p s run have =
      let at : p + 0 ≡ p = omega arith in
      subst (λ q. s.lines ≡ (left_at program inputs limits q s).prints) at (have 0 s refl)

  -- there is a row for each
  rows_count : (p b : ℕ) (run : List Subthread) → length (rows_from p b (left_from program inputs limits p run)) ≡ length run
  rows_count p b [] = refl
  rows_count p b (s ∷ run) = ap suc (rows_count (suc p) (b + size_of (left_at program inputs limits p s)) run)

  -- a row has its place, and the bytes of the lines up to its own
  abbrev IsPlaced : (p b k : ℕ) → List Subthread → Retirement → Type 0
  IsPlaced p b k run row = (row.position ≡ pos (p + k)) × (row.bytes ≡ pos (b + lines_size (take (suc k) run)))

  first_placed : (p b : ℕ) (s : Subthread) (run : List Subthread) → HaveLines p (s ∷ run)
      → IsPlaced p b 0 (s ∷ run) (log_row p (b + size_of (left_at program inputs limits p s)) (left_at program inputs limits p s))
  first_placed p b s run have =
      let at : p ≡ p + 0 = omega arith in
      let own : size_of (left_at program inputs limits p s) ≡ length (printed s.lines) =
      ap (λ lines. length (printed lines)) (sym (have_first p s run have)) in
      let all : lines_size (take 1 (s ∷ run)) ≡ length (printed s.lines) + 0 = first_size s (take 0 run) in
      let sum : b + size_of (left_at program inputs limits p s) ≡ b + lines_size (take 1 (s ∷ run)) = omega arith in
      (ap pos at, ap pos sum)

  placed : (p b : ℕ) (run : List Subthread) → HaveLines p run → (k : ℕ) (row : Retirement)
      → slice_get (rows_from p b (left_from program inputs limits p run)) k ≡ Some row
      → IsPlaced p b k run row
  placed p b [] have k row is = absurd (none_some row is)
  placed p b (s ∷ run) have zero row is = subst (IsPlaced p b 0 (s ∷ run)) (some_same _ row is) (first_placed p b s run have)
  placed p b (s ∷ run) have (suc k) row is =
      let rest = placed (suc p) (b + size_of (left_at program inputs limits p s)) run (have_rest p s run have) k row is in
      let at : suc p + k ≡ p + suc k = omega arith in
      let own : size_of (left_at program inputs limits p s) ≡ length (printed s.lines) =
      ap (λ lines. length (printed lines)) (sym (have_first p s run have)) in
      let all : lines_size (take (suc (suc k)) (s ∷ run)) ≡ length (printed s.lines) + lines_size (take (suc k) run) =
      first_size s (take (suc k) run) in
      let sum : b + size_of (left_at program inputs limits p s) + lines_size (take (suc k) run)
      ≡ b + lines_size (take (suc (suc k)) (s ∷ run)) =
      omega arith in
      (rest.0 ∙ ap pos at, rest.1 ∙ ap pos sum)

  -- the lines of the plain run are those of what its subthreads leave
  pub plain_lines : HaveLines 0 (plain_order program inputs limits)
  plain_lines k s is =
      let there = ap (λ run. slice_get run k) (sym (order-is program inputs limits)) ∙ is in
      subst (λ q. s.lines ≡ (left_at program inputs limits q s).prints) (sym (zero-add k))
      ((step_is (tree_machine program inputs limits) program inputs limits k s there).lines
      ∙ ap (λ (x : Plain). (effect s.thread s.begins.sync s.child s.actions x.state).prints) (sym (before-is program inputs limits k)))

  pub count_is : length (log_rows (left_in_order program inputs limits)) ≡ length (plain_order program inputs limits)
  count_is = rows_count 0 (length (codes "output\n")) (plain_order program inputs limits)

  pub bytes_are : (p : ℕ) (row : Retirement) → slice_get (log_rows (left_in_order program inputs limits)) p ≡ Some row
      → (row.position ≡ pos p) × (row.bytes ≡ pos (length (text_of_first (suc p) program inputs limits)))
  bytes_are p row is =
      let there = placed 0 (length (codes "output\n")) (plain_order program inputs limits) plain_lines p row is in (
        there.0 ∙ ap pos (zero-add p),
        there.1 ∙ ap pos
            (sym (length-append (codes "output\n") (printed
            (flat_map (λ (s : Subthread). s.lines) (take (suc p) (plain_order program inputs limits)))))),
      )
