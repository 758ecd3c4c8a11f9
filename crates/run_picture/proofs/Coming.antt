-- How a run comes to each of its positions, and which control variables its threads have there.
use Rattle.std.proofs.Common.{◌≡◌, ℕ, zero, suc, ◌+◌, ◌<◌, List, [], ◌∷◌, ◌++◌, length, map, drop, get_or, refl, sym, ap, ap₂, ◌∙◌, add-one, append_assoc, arith}
use Rattle.std.specs.Prelude.{Some, None, unwrap_or, slice_get, option_map}
use Rattle.std.proofs.lemmas.List.{drop_more}
use Rattle.std.proofs.lemmas.Option.{slice_get-map}
use Rattle.gp_base.specs.declared.limits.Limits.{Limits}
use Rattle.gp_base.specs.declared.feed.Inputs.{Inputs}
use Rattle.task_ast.specs.declared.tree.Program.{Program as Code}
use Rattle.task_ast.specs.meaning.Control.{Point}
use Rattle.task_ast.specs.meaning.Repeat.{state_from}
use Rattle.task_ast.specs.meaning.Run.{Thread, plain_before}
use Rattle.task_ast.specs.meaning.Tree.{Program}
use Rattle.task_ast.specs.Plain.{Plain, move, opening}
use Rattle.task_ast.specs.Position.{before}
use Rattle.task_ast.specs.View.{plain_program}
use Rattle.task_ast.specs.laws.Runs.{plain_for}
use Rattle.task_ast.proofs.Repeats.{state_after_next, state_after_none}
use Rattle.task_ast.proofs.Runs.{before-is}
use Rattle.one_thread.specs.declared.threads.Run.{Run}
use Rattle.one_thread.specs.declared.run.Step.{Step}
use Rattle.one_thread.specs.declared.walk.Walk.{Walk}
use Rattle.one_thread.specs.Runs.{Holds}
use Rattle.one_thread.specs.Moves.{Went}
use Rattle.one_thread.specs.Walking.{point_of}
use Rattle.one_thread.proofs.Running.{ahead-start}
use Rattle.run_picture.specs.inner.Drawn.{values_from}
use Rattle.run_picture.specs.meaning.Attempts.{Values}
use Rattle.run_picture.specs.meaning.Picture.{values_before}

-- the variables of the points of threads
names-at : (threads : List Thread)
    → map (λ (p : Point). p.names) (map (λ (th : Thread). th.at) threads) ≡ map (λ (th : Thread). th.at.names) threads
names-at [] = refl
names-at (th ∷ threads) = ap (λ rest. th.at.names ∷ rest) (names-at threads)

-- the variables of a thread of the code, and of one that is not there
pub read-some : (walks : List Walk) (thread : ℕ) (walk : Walk) → slice_get walks thread ≡ Some walk
    → (point_of walk).names ≡ unwrap_or (slice_get (map (λ (p : Point). p.names) (map point_of walks)) thread) []
read-some walks thread walk is =
    sym (ap (λ o. unwrap_or o []) (slice_get-map (λ (p : Point). p.names) (map point_of walks) thread
    ∙ ap (option_map (λ (p : Point). p.names)) (slice_get-map point_of walks thread ∙ ap (option_map point_of) is)))

pub read-none : (walks : List Walk) (thread : ℕ) → slice_get walks thread ≡ None
    → [] ≡ unwrap_or (slice_get (map (λ (p : Point). p.names) (map point_of walks)) thread) []
read-none walks thread is =
    sym (ap (λ o. unwrap_or o []) (slice_get-map (λ (p : Point). p.names) (map point_of walks) thread
    ∙ ap (option_map (λ (p : Point). p.names)) (slice_get-map point_of walks thread ∙ ap (option_map point_of) is)))

module _ (code : Code) (inputs : Inputs) (limits : Limits) where
  -- the code's run stands for the plain run before a position
  pub record Comes (at : ℕ) (run : Run) : Type 0 where
    pub plain : Plain
    pub holds : Holds code inputs limits run plain
    pub alike : length run.threads.items ≡ length run.table.seats.items
    pub here : plain ≡ before (plain_program code) inputs limits at

  pub comes-start : (run : Run) → Holds code inputs limits run (opening (plain_program code) inputs limits) → Comes 0 run
  comes-start run holds =
      record {
        plain = opening (plain_program code) inputs limits;
        holds = holds;
        alike = (ahead-start code inputs limits run holds).alike;
        here = state_after_none (move (plain_program code) inputs limits) (opening (plain_program code) inputs limits);
      }

  pub comes-more : (at : ℕ) (step : Step) (old new : Run) (comes : Comes at old) → Went code inputs limits comes.plain step new → Comes (at + 1) new
  comes-more at step old new comes went =
      let goes = move (plain_program code) inputs limits in
      let start = opening (plain_program code) inputs limits in
      let next : before (plain_program code) inputs limits (suc at) ≡ went.then =
      state_after_next goes at start ∙ ap (λ (p : Plain). state_from goes p (goes p) (λ b. b)) (sym comes.here)
      ∙ ap (λ m. state_from goes comes.plain m (λ b. b)) went.moves in
      record {
        plain = went.then;
        holds = went.holds;
        alike = went.alike;
        here = sym next ∙ ap (before (plain_program code) inputs limits) (sym (add-one at));
      }

  -- the control variables of a thread of the code's run there
  there : (at thread : ℕ) (run : Run) → Comes at run
      → unwrap_or (slice_get (map (λ (p : Point). p.names) (map point_of run.threads.items)) thread) []
      ≡ values_before (plain_program code) inputs limits at thread
  there at thread run comes =
      let program = plain_program code in
      let read : List Point → Values = λ points. unwrap_or (slice_get (map (λ (p : Point). p.names) points) thread) [] in
      ap read (comes.holds.points ∙ ap (λ (p : Plain). p.points) (comes.here ∙ sym (before-is program inputs limits at)))
      ∙ ap (λ names. unwrap_or (slice_get names thread) []) (names-at (plain_before program inputs limits at).threads)

  -- those of one step more were taken
  pub values-next : (at : ℕ) (steps : List Step) (step : Step) (run : Run) (known now all : List Values) (values : Values) → at < length steps
      → step ≡ get_or steps at step → Comes at run
      → known ++ values_from (plain_program code) inputs limits at (drop at steps) ≡ all
      → values ≡ unwrap_or (slice_get (map (λ (p : Point). p.names) (map point_of run.threads.items)) step.thread) []
      → now ≡ known ++ values ∷ []
      → now ++ values_from (plain_program code) inputs limits (at + 1) (drop (at + 1) steps) ≡ all
  values-next at steps step run known now all values less is comes so_far read taken =
      let rest = drop (at + 1) steps in
      let from : ℕ → List Step → List Values = values_from (plain_program code) inputs limits in
      let first : drop at steps ≡ step ∷ rest = drop_more steps at step less ∙ ap (λ s. s ∷ rest) (sym is) in
      ap (λ l. l ++ from (at + 1) rest) taken ∙ append_assoc known (values ∷ []) (from (at + 1) rest)
      ∙ ap₂ (λ v p. known ++ v ∷ from p rest) (read ∙ there at step.thread run comes) (add-one at)
      ∙ sym (ap (λ left. known ++ from at left) first)
      ∙ so_far
