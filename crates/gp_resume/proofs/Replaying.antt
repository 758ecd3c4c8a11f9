-- The first rows of the plain run's own log lead back into it, and the run goes on from there as it does.
--
-- A row of the run's own log says all that its subthread left, but for the lines, which change no data: so a replayed row leads where the
-- move leads (`replay-step`), and one row after another (`replay`). The steps from there are the rest of the plain run's (`steps-drop`),
-- and they end where it ends (`state-rest`).
use Rattle.std.proofs.Common.{◌≡◌, ℕ, zero, suc, ℤ, pos, ◌+◌, ◌-◌, ◌≤◌, List, [], ◌∷◌, ◌++◌, length, map, take, drop, Option, Some, None, refl, sym, ap, subst, ◌∙◌, arith, get_or}
use Rattle.std.specs.Prelude.{codes, slice_get}
use Rattle.std.proofs.lemmas.List.{take_more, length-take-le, length-drop}
use Rattle.std.proofs.lemmas.Option.{slice_get-get_or, get_or_from_slice_get, slice_get_within}
use Rattle.gp_base.specs.declared.limits.Limits.{Limits}
use Rattle.gp_base.specs.declared.feed.Inputs.{Inputs}
use Rattle.task_ast.specs.declared.effect.Effect.{Effect}
use Rattle.task_ast.specs.declared.sync.SyncOp.{SyncOp}
use Rattle.task_ast.specs.declared.sync.SyncOp.TheVariants as sync
use Rattle.task_ast.specs.meaning.Tree.{Program}
use Rattle.task_ast.specs.meaning.Names.{natural, records_of, cells_in}
use Rattle.task_ast.specs.meaning.State.{State, cell_value}
use Rattle.task_ast.specs.meaning.Action.{Action}
use Rattle.task_ast.specs.meaning.Effect.{effect, after}
use Rattle.task_ast.specs.meaning.Repeat.{Move, Goes, Ends, steps_from, steps, state_from, state_after}
use Rattle.task_ast.specs.meaning.Table.{numbers}
use Rattle.task_ast.specs.meaning.Plain.{Subthread, ending_of}
use Rattle.task_ast.specs.meaning.Run.{Run, plain_opening, plain_move, plain_order, plain_before, plain_records}
use Rattle.task_ast.specs.Plain.{Plain, tree_machine}
use Rattle.task_ast.proofs.Repeats.{state_after_none, step_there, step_reached}
use Rattle.task_ast.proofs.PlainRuns.{count_law}
use Rattle.task_ast.proofs.Positions.{step_is}
use Rattle.task_ast.proofs.Runs.{order-is, before-is}
use Rattle.crew.specs.meaning.Noted.{left_at, left_from, left_in_order}
use Rattle.retirement_log.specs.meaning.Rows.{Retirement}
use Rattle.retirement_log.specs.meaning.Log.{log_row, size_of, rows_from, log_rows}
use Rattle.gp_resume.specs.meaning.Fitting.{left_by, led_by, replayed, run_after, resumed_at}
use Rattle.gp_resume.specs.meaning.Resumed.{steps_left, rest, last, final_records, count}
use Rattle.gp_resume.specs.Laws.{own_rows, IsRest}

-- ---- what goes on step by step, from a step on

module _ {A S E : Type 0} (move : A → Move A S E) where
  ended-steps : (a : A) (end : E) (n : ℕ) → move a ≡ Ends end → steps move n a ≡ []
  unfolding steps
  ended-steps a end zero e = refl
  ended-steps a end (suc n) e = ap (λ m. steps_from move m (steps move n)) e

  ended-state : (a : A) (end : E) (n : ℕ) → move a ≡ Ends end → state_after move n a ≡ a
  unfolding state_after
  ended-state a end zero e = refl
  ended-state a end (suc n) e = ap (λ m. state_from move a m (state_after move n)) e

  -- the steps from where p steps lead are those after the first p
  pub steps-drop : (p n : ℕ) (a : A) → steps move n (state_after move p a) ≡ drop p (steps move (p + n) a)
  unfolding steps state_after
  steps-drop zero n a = let e : n ≡ 0 + n = omega arith in ap (λ m. steps move m a) e
  steps-drop (suc p) n a =
      let e : suc (p + n) ≡ suc p + n = omega arith in
      go (move a) refl (λ b. steps-drop p n b) ∙ ap (λ m. drop (suc p) (steps move m a)) e
    where
      go : (m : Move A S E) → move a ≡ m → ((b : A) → steps move n (state_after move p b) ≡ drop p (steps move (p + n) b))
          → steps move n (state_from move a m (state_after move p)) ≡ drop (suc p) (steps_from move m (steps move (p + n)))
      go (Goes s b) e again = again b
      go (Ends end) e again = ended-steps a end n e

  -- and they lead where all lead
  pub state-rest : (p n : ℕ) (a : A) → state_after move n (state_after move p a) ≡ state_after move (p + n) a
  unfolding state_after
  state-rest zero n a = let e : n ≡ 0 + n = omega arith in ap (λ m. state_after move m a) e
  state-rest (suc p) n a =
      let e : suc (p + n) ≡ suc p + n = omega arith in
      go (move a) refl (λ b. state-rest p n b) ∙ ap (λ m. state_after move m a) e
    where
      go : (m : Move A S E) → move a ≡ m → ((b : A) → state_after move n (state_after move p b) ≡ state_after move (p + n) b)
          → state_after move n (state_from move a m (state_after move p)) ≡ state_from move a m (state_after move (p + n))
      go (Goes s b) e again = again b
      go (Ends end) e again = ended-state a end n e

-- ---- what a row says

-- the cells that a row names are those that were written
pub writes-back : (writes : List (ℕ × ℤ))
    → map (λ cell. (natural cell.0, cell.1)) (map (λ write. let cell : ℤ × ℤ = (pos write.0, write.1) in cell) writes) ≡ writes
writes-back [] = refl
writes-back (w ∷ ws) = ap (λ rest. w ∷ rest) (writes-back ws)

-- an effect is what its row says, but for the lines
left-back : (p bytes t : ℕ) (begins : SyncOp) (child : Option ℕ) (actions : List Action) (state : State)
    → after (left_by (log_row p bytes (effect t begins child actions state)) t child) state
    ≡ after (effect t begins child actions state) state
left-back p bytes t begins None actions state =
    let e : Effect = effect t begins None actions state in
    ap (λ ws. after (record { thread = t; writes = ws; regs = e.regs; child = None; prints = [] }) state) (writes-back e.writes)
left-back p bytes t begins (Some c) actions state =
    let e : Effect = effect t begins (Some c) actions state in
    ap (λ ws. after (record { thread = t; writes = ws; regs = e.regs; child = e.child; prints = [] }) state) (writes-back e.writes)

-- each position left something, and has a row
pub length-left : (program : Program) (inputs : Inputs) (limits : Limits) (k : ℕ) (run : List Subthread)
    → length (left_from program inputs limits k run) ≡ length run
length-left program inputs limits k [] = refl
length-left program inputs limits k (s ∷ run) = ap suc (length-left program inputs limits (suc k) run)

pub length-rows : (k bytes : ℕ) (told : List Effect) → length (rows_from k bytes told) ≡ length told
length-rows k bytes [] = refl
length-rows k bytes (e ∷ told) = ap suc (length-rows (suc k) (bytes + size_of e) told)

-- ---- the run that the rows leave

module _ (program : Program) (inputs : Inputs) (limits : Limits) where
  -- the row of a position leads to the next one
  pub replay-step : (p bytes : ℕ) (s : Subthread) → slice_get (plain_order program inputs limits) p ≡ Some s
      → replayed program inputs limits (plain_before program inputs limits p) (log_row p bytes (left_at program inputs limits p s))
      ≡ plain_before program inputs limits (suc p)
  replay-step p bytes s e =
      let there = step_there (plain_move program inputs limits) (suc limits.subthreads) p (plain_opening program inputs limits) s e in
      let next : Run = there.next in
      let reached : plain_before program inputs limits (suc p) ≡ next =
      step_reached (plain_move program inputs limits) (suc limits.subthreads) p (plain_opening program inputs limits) s e in
      let state : (plain_before program inputs limits (suc p)).state
      ≡ after (left_at program inputs limits p s) (plain_before program inputs limits p).state =
      ap (λ (x : Plain). x.state) (before-is program inputs limits (suc p))
      ∙ ((step_is (tree_machine program inputs limits) program inputs limits p s
      (ap (λ run. slice_get run p) (sym (order-is program inputs limits)) ∙ e)).state
      ∙ ap (λ (x : Plain). after (effect s.thread s.begins.sync s.child s.actions x.state) x.state) (sym (before-is program inputs limits p))) in
      let same_data : after (left_by (log_row p bytes (left_at program inputs limits p s)) s.thread s.child)
      (plain_before program inputs limits p).state ≡ next.state =
      left-back p bytes s.thread s.begins.sync s.child s.actions (plain_before program inputs limits p).state
      ∙ (sym state ∙ ap (λ (x : Run). x.state) reached) in
      ap (led_by (plain_before program inputs limits p) (log_row p bytes (left_at program inputs limits p s))) there.moves
      ∙ (ap (λ (st : State). let y : Run = record next { state = st } in y) same_data ∙ sym reached)

  pub run-push : (x : Run) (rows : List Retirement) (row : Retirement)
      → run_after program inputs limits x (rows ++ row ∷ []) ≡ replayed program inputs limits (run_after program inputs limits x rows) row
  run-push x [] row = refl
  run-push x (r ∷ rows) row = run-push (replayed program inputs limits x r) rows row

  -- a position has the row of what it left
  rows-at : (k b : ℕ) (run : List Subthread) (p : ℕ) (s : Subthread) → slice_get run p ≡ Some s
      → (bytes : ℕ) × (slice_get (rows_from k b (left_from program inputs limits k run)) p
      ≡ Some (log_row (k + p) bytes (left_at program inputs limits (k + p) s)))
  rows-at k b [] p s e = absurd (cc e)
  rows-at k b (x ∷ run) zero s e =
      let same : x ≡ s = cc e in
      let here : k ≡ k + 0 = omega arith in
      let bytes : ℕ = b + size_of (left_at program inputs limits k x) in (
        bytes,
        ap (λ (y : Subthread). Some (log_row k bytes (left_at program inputs limits k y))) same
            ∙ ap (λ (n : ℕ). Some (log_row n bytes (left_at program inputs limits n s))) here,
      )
  rows-at k b (x ∷ run) (suc p) s e =
      let later = rows-at (suc k) (b + size_of (left_at program inputs limits k x)) run p s e in
      let here : suc k + p ≡ k + suc p = omega arith in
      (later.0, later.1 ∙ ap (λ (n : ℕ). Some (log_row n later.0 (left_at program inputs limits n s))) here)

  -- the rows of all positions
  abbrev all : List Retirement
  all = log_rows (left_in_order program inputs limits)

  length-all : length all ≡ length (plain_order program inputs limits)
  length-all =
      length-rows 0 (length (codes "output\n")) (left_in_order program inputs limits)
      ∙ length-left program inputs limits 0 (plain_order program inputs limits)

  pub length-own : (p : ℕ) → p ≤ length (plain_order program inputs limits) → length (own_rows program inputs limits p) ≡ p
  length-own p l = length-take-le p all (omega (arith, length-all))

  pub replay : (p : ℕ) → p ≤ length (plain_order program inputs limits)
      → resumed_at program inputs limits (own_rows program inputs limits p) ≡ plain_before program inputs limits p
  replay zero l = state_after_none (plain_move program inputs limits) (plain_opening program inputs limits)
  replay (suc p) l = go (replay p (omega arith))
    where
      dummy : Subthread
      dummy = record { thread = 0; begins = record { sync = sync.End; line = 0 }; child = None; held = []; actions = []; lines = [] }

      s : Subthread
      s = get_or (plain_order program inputs limits) p dummy

      there : slice_get (plain_order program inputs limits) p ≡ Some s
      there = slice_get-get_or (plain_order program inputs limits) p dummy (omega arith)

      found : (bytes : ℕ) × (slice_get all p ≡ Some (log_row (0 + p) bytes (left_at program inputs limits (0 + p) s)))
      found = rows-at 0 (length (codes "output\n")) (plain_order program inputs limits) p s there

      row : Retirement
      row = log_row p found.0 (left_at program inputs limits p s)

      is : slice_get all p ≡ Some row
      is = let here : 0 + p ≡ p = omega arith in found.1 ∙ ap (λ (n : ℕ). Some (log_row n found.0 (left_at program inputs limits n s))) here

      more : take (suc p) all ≡ take p all ++ row ∷ []
      more =
          let next : suc p ≡ p + 1 = omega arith in
          ap (λ n. take n all) next
          ∙ (take_more all p row (slice_get_within all p row is) ∙ ap (λ r. take p all ++ r ∷ []) (get_or_from_slice_get all p row row is))

      leads : replayed program inputs limits (plain_before program inputs limits p) row ≡ plain_before program inputs limits (suc p)
      leads = replay-step p found.0 s there

      go : resumed_at program inputs limits (own_rows program inputs limits p) ≡ plain_before program inputs limits p
          → resumed_at program inputs limits (own_rows program inputs limits (suc p)) ≡ plain_before program inputs limits (suc p)
      go earlier =
          ap (resumed_at program inputs limits) more
          ∙ (run-push (plain_opening program inputs limits) (take p all) row
          ∙ (ap (λ x. replayed program inputs limits x row) earlier ∙ leads))

  -- ---- what comes after them

  -- the run goes on as the plain run does
  pub is-rest : (p : ℕ) → p ≤ length (plain_order program inputs limits) → IsRest program inputs limits p
  is-rest p l =
      record {
        rest = after_them;
        last = at_end;
        end = ap (λ x. ending_of (plain_move program inputs limits x)) at_end;
        final_records = cells;
        count = counted;
      }
    where
      most : length (plain_order program inputs limits) ≤ limits.subthreads
      most =
          subst (λ run. length run ≤ limits.subthreads) (sym (order-is program inputs limits))
          (count_law (tree_machine program inputs limits) program inputs limits)

      all_steps : p + (suc limits.subthreads - p) ≡ suc limits.subthreads
      all_steps = omega (arith, most)

      left : steps_left program inputs limits (own_rows program inputs limits p) ≡ suc limits.subthreads - p
      left = ap (λ (k : ℕ). suc limits.subthreads - k) (length-own p l)

      after_them : rest program inputs limits (own_rows program inputs limits p) ≡ drop p (plain_order program inputs limits)
      after_them =
          ap (λ (k : ℕ). steps (plain_move program inputs limits) k (resumed_at program inputs limits (own_rows program inputs limits p))) left
          ∙ (ap (steps (plain_move program inputs limits) (suc limits.subthreads - p)) (replay p l)
          ∙ (steps-drop (plain_move program inputs limits) p (suc limits.subthreads - p) (plain_opening program inputs limits)
          ∙ ap (λ (k : ℕ). drop p (steps (plain_move program inputs limits) k (plain_opening program inputs limits))) all_steps))

      at_end : last program inputs limits (own_rows program inputs limits p) ≡ plain_before program inputs limits (suc limits.subthreads)
      at_end =
          ap (λ (k : ℕ). state_after (plain_move program inputs limits) k (resumed_at program inputs limits (own_rows program inputs limits p)))
          left
          ∙ (ap (state_after (plain_move program inputs limits) (suc limits.subthreads - p)) (replay p l)
          ∙ (state-rest (plain_move program inputs limits) p (suc limits.subthreads - p) (plain_opening program inputs limits)
          ∙ ap (λ (k : ℕ). state_after (plain_move program inputs limits) k (plain_opening program inputs limits)) all_steps))

      cells : final_records program inputs limits (own_rows program inputs limits p) ≡ plain_records program inputs limits
      cells = ap (λ (x : Run). map (cell_value x.state) (numbers 0 (cells_in (records_of program.heads)))) at_end

      counted : count program inputs limits (own_rows program inputs limits p) ≡ length (plain_order program inputs limits)
      counted =
          let known : length (own_rows program inputs limits p) ≡ p = length-own p l in
          let later : length (rest program inputs limits (own_rows program inputs limits p)) ≡ length (plain_order program inputs limits) - p =
          ap length after_them ∙ length-drop p (plain_order program inputs limits) in
          omega arith
