-- Where the plain run goes, the run of the general turn does, and back; and rows that are replayed keep the token at a thread.
use Rattle.std.proofs.Common.{◌≡◌, List, [], ◌∷◌, refl, sym, ap, ◌∙◌}
use Rattle.gp_base.specs.declared.limits.Limits.{Limits}
use Rattle.gp_base.specs.declared.feed.Inputs.{Inputs}
use Rattle.gp_base.specs.declared.ending.End.{End}
use Rattle.task_ast.specs.meaning.Tree.{Program}
use Rattle.task_ast.specs.meaning.Effect.{after}
use Rattle.task_ast.specs.meaning.Repeat.{Move, Goes, Ends}
use Rattle.task_ast.specs.meaning.Plain.{Subthread}
use Rattle.task_ast.specs.meaning.Run.{Run, plain_move, plain_opening}
use Rattle.task_ast.specs.Plain.{Plain, move}
use Rattle.task_ast.specs.laws.Runs.{plain_for, move_for, IsInside}
use Rattle.task_ast.proofs.Runs.{move-is, opening-inside, run-inside}
use Rattle.retirement_log.specs.meaning.Rows.{Retirement}
use Rattle.gp_resume.specs.meaning.Fitting.{left_by, led_by, replayed, run_after, resumed_at}

module _ (program : Program) (inputs : Inputs) (limits : Limits) where
  -- where the plain run goes, the other goes
  pub goes : (x y : Run) (s : Subthread) → IsInside x → plain_move program inputs limits x ≡ Goes s y
      → move program inputs limits (plain_for program limits x) ≡ Goes s (plain_for program limits y)
  goes x y s inside is = move-is program inputs limits x inside ∙ ap (move_for program limits) is

  -- and where the other goes, or has ended, the plain run does
  pub goes-so : (x : Run) (s : Subthread) (z : Plain) → IsInside x → move program inputs limits (plain_for program limits x) ≡ Goes s z
      → (y : Run) × (plain_move program inputs limits x ≡ Goes s y) × (plain_for program limits y ≡ z)
  goes-so x s z inside is = go (plain_move program inputs limits x) refl (move-is program inputs limits x inside)
    where
      go : (m : Move Run Subthread End) → plain_move program inputs limits x ≡ m
          → move program inputs limits (plain_for program limits x) ≡ move_for program limits m
          → (y : Run) × (plain_move program inputs limits x ≡ Goes s y) × (plain_for program limits y ≡ z)
      go (Goes r y) same there =
          let both : Goes r (plain_for program limits y) ≡ Goes s z = sym there ∙ is in
          let step : r ≡ s = cc both in
          (y, same ∙ ap (λ t. Goes t y) step, cc both)
      go (Ends e) same there = let never : Ends e ≡ Goes s z = sym there ∙ is in absurd (cc never)

  pub ends-so : (x : Run) (end : End) → IsInside x → move program inputs limits (plain_for program limits x) ≡ Ends end
      → plain_move program inputs limits x ≡ Ends end
  ends-so x end inside is = go (plain_move program inputs limits x) refl (move-is program inputs limits x inside)
    where
      go : (m : Move Run Subthread End) → plain_move program inputs limits x ≡ m
          → move program inputs limits (plain_for program limits x) ≡ move_for program limits m
          → plain_move program inputs limits x ≡ Ends end
      go (Goes r y) same there =
          let never : Goes r (plain_for program limits y) ≡ Ends end = sym there ∙ is in absurd (cc never)
      go (Ends e) same there =
          let both : Ends e ≡ Ends end = sym there ∙ is in
          let ending : e ≡ end = cc both in
          same ∙ ap Ends ending

  -- a row keeps the token at a thread
  pub replayed-inside : (x : Run) (row : Retirement) → IsInside x → IsInside (replayed program inputs limits x row)
  replayed-inside x row inside =
      go (plain_move program inputs limits x) (λ y s is. (run-inside program inputs limits).1 x y s inside is)
    where
      go : (m : Move Run Subthread End) → ((y : Run) (s : Subthread) → m ≡ Goes s y → IsInside y) → IsInside (led_by x row m)
      go (Goes s y) stays = stays y s refl
      go (Ends e) stays = inside

  after-inside : (x : Run) (rows : List Retirement) → IsInside x → IsInside (run_after program inputs limits x rows)
  after-inside x [] inside = inside
  after-inside x (row ∷ rows) inside = after-inside (replayed program inputs limits x row) rows (replayed-inside x row inside)

  pub resumed-inside : (rows : List Retirement) → IsInside (resumed_at program inputs limits rows)
  resumed-inside rows = after-inside (plain_opening program inputs limits) rows (opening-inside program inputs limits)

  -- where a row leads, it leads the other
  pub leads : (x y : Run) (s : Subthread) (z : Plain) (row : Retirement) → plain_move program inputs limits x ≡ Goes s y
      → plain_for program limits y ≡ z
      → plain_for program limits (replayed program inputs limits x row) ≡ record z { state = after (left_by row s.thread s.child) x.state }
  leads x y s z row is there =
      ap (λ m. plain_for program limits (led_by x row m)) is
      ∙ ap (λ (w : Plain). let led : Plain = record w { state = after (left_by row s.thread s.child) x.state } in led) there
