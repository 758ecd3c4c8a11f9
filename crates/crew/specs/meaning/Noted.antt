-- What notes are taken of: what the subthreads of the plain run leave, and what a run with threads tells of it.
use Rattle.std.specs.Prelude.{ℕ, suc, List, [], ◌∷◌}
use Rattle.gp_base.specs.declared.limits.Limits.{Limits}
use Rattle.gp_base.specs.declared.feed.Inputs.{Inputs}
use Rattle.task_ast.specs.declared.effect.Effect.{Effect}
use Rattle.task_ast.specs.meaning.Tree.{Program}
use Rattle.task_ast.specs.meaning.Effect.{effect}
use Rattle.task_ast.specs.meaning.Plain.{Subthread}
use Rattle.task_ast.specs.meaning.Run.{plain_order, plain_before}

module _ (program : Program) (inputs : Inputs) (limits : Limits) where
  -- what a subthread leaves that stands at this position of the plain run
  abbrev pub left_at : ℕ → Subthread → Effect
  left_at p s = effect s.thread s.begins.sync s.child s.actions (plain_before program inputs limits p).state

  abbrev pub left_from : ℕ → List Subthread → List Effect
  left_from p [] = []
  left_from p (s ∷ rest) = left_at p s ∷ left_from (suc p) rest

  -- what each subthread of the plain run leaves, in order
  abbrev pub left_in_order : List Effect
  left_in_order = left_from 0 (plain_order program inputs limits)
