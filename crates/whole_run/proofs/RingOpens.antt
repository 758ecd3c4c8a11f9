-- The ring and the places before the first event.
use Rattle.std.proofs.Common.{◌≡◌, ℕ, zero, suc, ◌<◌, [], ◌∷◌, Some, None, refl, sym, ◌∙◌, subst, arith, option_and_then}
use Rattle.std.specs.Prelude.{slice_get}
use Rattle.task_ast.specs.declared.sync.SyncOp.{SyncOp}
use Rattle.task_ast.specs.declared.sync.SyncOp.TheVariants as sync
use Rattle.task_ast.specs.declared.sync.Next.{Next}
use Rattle.task_ast.specs.meaning.Control.{Point}
use Rattle.task_ast.specs.Position.{point_in}
use Rattle.task_ast.specs.Table.{new_seat}
use Rattle.task_ast.specs.meaning.Plain.{start_point, main_task}
use Rattle.task_ast.specs.Plain.{opening, tree_machine, move_by}
use Rattle.task_ast.proofs.Repeats.{state_after_none}
use Rattle.task_ast.proofs.Standings.{own_stands}
use Rattle.dependence.specs.meaning.Journal.{initial_stage, WasTaken}
use Rattle.task_ast.specs.laws.Standing.{Stands}
use Rattle.whole_run.specs.View.{Batch, program_in}
use Rattle.whole_run.specs.inner.RingStands.{plain_before, point_before, RingStands}
use Rattle.whole_run.proofs.Options.{some_none, some_same}

no_last : (t : ℕ) → option_and_then (λ s. s.last) (slice_get (new_seat ∷ []) t) ≡ None
no_last zero = refl
no_last (suc t) = refl

module _ (batch : Batch) {Place : Type 0} (IsPlace : (thread : ℕ) → SyncOp → Place → Point → Type 0) (place : Place)
    (starts : IsPlace 0 sync.Start place (start_point (main_task (program_in batch)) 0 [])) where
  first : opening (program_in batch) batch.inputs batch.limits ≡ plain_before batch 0
  first = state_after_none (move_by (tree_machine (program_in batch) batch.inputs batch.limits))
      (opening (program_in batch) batch.inputs batch.limits)

  unknown : (t : ℕ) → t < 1 → option_and_then (λ s. s.next) (slice_get (new_seat ∷ []) t) ≡ None
      → (q : ℕ) × (option_and_then (λ s. s.last) (slice_get (new_seat ∷ []) t) ≡ Some q) × (WasTaken initial_stage q → ⊥)
  unknown zero l none = absurd (some_none none)
  unknown (suc t) l none = absurd (omega arith)

  place_is : (t : ℕ) (other : Place) (next : Next) → slice_get (place ∷ []) t ≡ Some other
      → option_and_then (λ s. s.next) (slice_get (new_seat ∷ []) t) ≡ Some next → IsPlace t next.sync other (point_before batch 0 t)
  place_is zero other next here known =
      subst (λ (n : Next). IsPlace 0 n.sync other (point_before batch 0 0)) (some_same known)
      (subst (λ x. IsPlace 0 sync.Start other (point_in (program_in batch) batch.inputs batch.limits x 0)) first
      (subst (λ x. IsPlace 0 sync.Start x (start_point (main_task (program_in batch)) 0 [])) (some_same here) starts))
  place_is (suc t) other next here known = absurd (some_none (sym here))

  pub ring_opens : RingStands batch IsPlace initial_stage (opening (program_in batch) batch.inputs batch.limits).table (place ∷ [])
  ring_opens =
      record {
        stands = subst (λ x. Stands (program_in batch) batch.inputs batch.limits 0 x.table) (sym first)
            (own_stands (program_in batch) batch.inputs batch.limits 0 (omega arith));
        learnt = record { unknown = unknown; known = λ t q last some. absurd (some_none (sym last ∙ no_last t)) };
        places_are = refl;
        place_is = place_is;
      }
