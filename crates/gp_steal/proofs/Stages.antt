-- What the stage of a desk says.
use Rattle.std.proofs.Common.{◌≡◌, ℕ, ◌≤◌, ◌∙◌, arith}
use mathlib.Core.Option as maybe
use Rattle.desk_board.specs.declared.view.Slot.{Slot}
use Rattle.gp_steal.specs.Rule.{Stage, waiting, claimed, done, collected, AtStage}

module _ {J W R : Type 0} (is_run : W → J → R → Type 0) (with : W) where
  abbrev pub Stands : J → ℕ → maybe.Option (maybe.Option (Slot J R)) → ℕ → ℕ → ℕ → Stage → Type 0
  Stands = AtStage is_run with

  -- a desk that a step does not touch
  pub stage_stays : (job : J) (w w' : ℕ) (home home' : maybe.Option (maybe.Option (Slot J R))) (d d' h h' t t' : ℕ) → w' ≡ w → home' ≡ home
      → d' ≡ d → h' ≡ h → t' ≡ t
      → (stage : Stage) → Stands job w home d h t stage → Stands job w' home' d' h' t' stage
  stage_stays job w w' home home' d d' h h' t t' ew eo ed eh et waiting x = (ew ∙ x.0, eo ∙ x.1, ed ∙ x.2, eh ∙ x.3, et ∙ x.4)
  stage_stays job w w' home home' d d' h h' t t' ew eo ed eh et claimed x = (ew ∙ x.0, eo ∙ x.1, ed ∙ x.2, eh ∙ x.3, et ∙ x.4)
  stage_stays job w w' home home' d d' h h' t t' ew eo ed eh et done x =
      (ew ∙ x.0, (x.1.0, eo ∙ x.1.1, x.1.2), ed ∙ x.2, eh ∙ x.3, et ∙ x.4)
  stage_stays job w w' home home' d d' h h' t t' ew eo ed eh et collected x = (ew ∙ x.0, eo ∙ x.1, ed ∙ x.2, eh ∙ x.3, et ∙ x.4)

  module _ (job : J) (w : ℕ) (home : maybe.Option (maybe.Option (Slot J R))) (d h t : ℕ) where
    pub is_waiting : w ≡ 0 → (stage : Stage) → Stands job w home d h t stage → Stands job w home d h t waiting
    is_waiting e waiting x = x
    is_waiting e claimed x = let z = x.0 in absurd (omega arith)
    is_waiting e done x = let z = x.0 in absurd (omega arith)
    is_waiting e collected x = let z = x.0 in absurd (omega arith)

    pub is_claimed : 1 ≤ h → (stage : Stage) → Stands job w home d h t stage → Stands job w home d h t claimed
    is_claimed l waiting x = let z = x.3 in absurd (omega arith)
    is_claimed l claimed x = x
    is_claimed l done x = let z = x.3 in absurd (omega arith)
    is_claimed l collected x = let z = x.3 in absurd (omega arith)

    pub is_done : 2 ≤ w → t ≡ 0 → (stage : Stage) → Stands job w home d h t stage → Stands job w home d h t done
    is_done l n waiting x = let z = x.0 in absurd (omega arith)
    is_done l n claimed x = let z = x.0 in absurd (omega arith)
    is_done l n done x = x
    is_done l n collected x = let z = x.4 in absurd (omega arith)

    -- a desk that was claimed and is not held is done or collected
    pub past_done : 1 ≤ w → h ≡ 0 → (stage : Stage) → Stands job w home d h t stage → 2 ≤ w
    past_done l n waiting x = let z = x.0 in absurd (omega arith)
    past_done l n claimed x = let z = x.3 in absurd (omega arith)
    past_done l n done x = let z = x.0 in omega arith
    past_done l n collected x = let z = x.0 in omega arith

    pub word_low : (stage : Stage) → Stands job w home d h t stage → w ≤ 3
    word_low waiting x = let z = x.0 in omega arith
    word_low claimed x = let z = x.0 in omega arith
    word_low done x = let z = x.0 in omega arith
    word_low collected x = let z = x.0 in omega arith

    pub claimed_at_most : (stage : Stage) → Stands job w home d h t stage → d ≤ 1
    claimed_at_most waiting x = let z = x.2 in omega arith
    claimed_at_most claimed x = let z = x.2 in omega arith
    claimed_at_most done x = let z = x.2 in omega arith
    claimed_at_most collected x = let z = x.2 in omega arith

    pub claimed_past : 1 ≤ w → (stage : Stage) → Stands job w home d h t stage → d ≡ 1
    claimed_past l waiting x = let z = x.0 in absurd (omega arith)
    claimed_past l claimed x = x.2
    claimed_past l done x = x.2
    claimed_past l collected x = x.2

    -- where the desk's word is 1, it is held as often as it was claimed; where it is held, its word is 1
    pub held_from : (stage : Stage) → Stands job w home d h t stage → w ≡ 1 → d ≤ h
    held_from waiting x e = let z = x.0 in absurd (omega arith)
    held_from claimed x e = let z = x.2 in let y = x.3 in omega arith
    held_from done x e = let z = x.0 in absurd (omega arith)
    held_from collected x e = let z = x.0 in absurd (omega arith)

    pub held_claimed : (stage : Stage) → Stands job w home d h t stage → 1 ≤ h → w ≡ 1
    held_claimed waiting x l = let z = x.3 in absurd (omega arith)
    held_claimed claimed x l = x.0
    held_claimed done x l = let z = x.3 in absurd (omega arith)
    held_claimed collected x l = let z = x.3 in absurd (omega arith)

    -- the clerk took exactly what has word 3, once
    pub taken_at_most : (stage : Stage) → Stands job w home d h t stage → t ≤ 1
    taken_at_most waiting x = let z = x.4 in omega arith
    taken_at_most claimed x = let z = x.4 in omega arith
    taken_at_most done x = let z = x.4 in omega arith
    taken_at_most collected x = let z = x.4 in omega arith

    pub taken_three : (stage : Stage) → Stands job w home d h t stage → 1 ≤ t → w ≡ 3
    taken_three waiting x l = let z = x.4 in absurd (omega arith)
    taken_three claimed x l = let z = x.4 in absurd (omega arith)
    taken_three done x l = let z = x.4 in absurd (omega arith)
    taken_three collected x l = x.0

    pub three_taken : (stage : Stage) → Stands job w home d h t stage → w ≡ 3 → 1 ≤ t
    three_taken waiting x e = let z = x.0 in absurd (omega arith)
    three_taken claimed x e = let z = x.0 in absurd (omega arith)
    three_taken done x e = let z = x.0 in absurd (omega arith)
    three_taken collected x e = let z = x.4 in omega arith
