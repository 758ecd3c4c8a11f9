-- What the stage of a desk says.
use Rattle.std.proofs.Common.{◌≡◌, ℕ, ◌<◌, ◌≤◌, ◌∙◌, arith}
use mathlib.Core.Option.{some, none, some-injective, some-ne-none}
use mathlib.Core.Option as maybe
use Rattle.desk_board.specs.declared.view.Slot.{Slot}
use Rattle.desk_board.specs.Rule.{Stage, waiting, drawn, done, collected, AtStage}

module _ {J W R : Type 0} (is_run : W → J → R → Type 0) (with : W) where
  abbrev pub Stands : ℕ → J → ℕ → ℕ → maybe.Option (maybe.Option (Slot J R)) → ℕ → ℕ → ℕ → Stage → Type 0
  Stands = AtStage is_run with

  -- a desk that a step does not touch
  pub stage_stays : (k : ℕ) (job : J) (c c' w w' : ℕ) (home home' : maybe.Option (maybe.Option (Slot J R))) (d d' h h' t t' : ℕ) → c ≤ c'
      → (c ≤ k → c' ≤ k) → w' ≡ w → home' ≡ home → d' ≡ d → h' ≡ h → t' ≡ t
      → (stage : Stage) → Stands k job c w home d h t stage → Stands k job c' w' home' d' h' t' stage
  stage_stays k job c c' w w' home home' d d' h h' t t' up down ew eo ed eh et waiting x =
      (down x.0, ew ∙ x.1, eo ∙ x.2, ed ∙ x.3, eh ∙ x.4, et ∙ x.5)
  stage_stays k job c c' w w' home home' d d' h h' t t' up down ew eo ed eh et drawn x =
      let l = x.0 in
      (omega arith, ew ∙ x.1, eo ∙ x.2, ed ∙ x.3, eh ∙ x.4, et ∙ x.5)
  stage_stays k job c c' w w' home home' d d' h h' t t' up down ew eo ed eh et done x =
      let l = x.0 in
      (omega arith, ew ∙ x.1, (x.2.0, eo ∙ x.2.1, x.2.2), ed ∙ x.3, eh ∙ x.4, et ∙ x.5)
  stage_stays k job c c' w w' home home' d d' h h' t t' up down ew eo ed eh et collected x =
      let l = x.0 in
      (omega arith, ew ∙ x.1, eo ∙ x.2, ed ∙ x.3, eh ∙ x.4, et ∙ x.5)

  module _ (k : ℕ) (job : J) (c w : ℕ) (home : maybe.Option (maybe.Option (Slot J R))) (d h t : ℕ) where
    pub is_waiting : c ≤ k → (stage : Stage) → Stands k job c w home d h t stage → Stands k job c w home d h t waiting
    is_waiting l waiting x = x
    is_waiting l drawn x = let z = x.0 in absurd (omega arith)
    is_waiting l done x = let z = x.0 in absurd (omega arith)
    is_waiting l collected x = let z = x.0 in absurd (omega arith)

    pub is_drawn : 1 ≤ h → (stage : Stage) → Stands k job c w home d h t stage → Stands k job c w home d h t drawn
    is_drawn l waiting x = let z = x.4 in absurd (omega arith)
    is_drawn l drawn x = x
    is_drawn l done x = let z = x.4 in absurd (omega arith)
    is_drawn l collected x = let z = x.4 in absurd (omega arith)

    pub is_done : 1 ≤ w → t ≡ 0 → (stage : Stage) → Stands k job c w home d h t stage → Stands k job c w home d h t done
    is_done l n waiting x = let z = x.1 in absurd (omega arith)
    is_done l n drawn x = let z = x.1 in absurd (omega arith)
    is_done l n done x = x
    is_done l n collected x = let z = x.5 in absurd (omega arith)

    pub past_done : k < c → h ≡ 0 → (stage : Stage) → Stands k job c w home d h t stage → 1 ≤ w
    past_done l n waiting x = let z = x.0 in absurd (omega arith)
    past_done l n drawn x = let z = x.4 in absurd (omega arith)
    past_done l n done x = let z = x.1 in omega arith
    past_done l n collected x = let z = x.1 in omega arith

    pub word_low : (stage : Stage) → Stands k job c w home d h t stage → w ≤ 2
    word_low waiting x = let z = x.1 in omega arith
    word_low drawn x = let z = x.1 in omega arith
    word_low done x = let z = x.1 in omega arith
    word_low collected x = let z = x.1 in omega arith

    pub drawn_at_most : (stage : Stage) → Stands k job c w home d h t stage → d ≤ 1
    drawn_at_most waiting x = let z = x.3 in omega arith
    drawn_at_most drawn x = let z = x.3 in omega arith
    drawn_at_most done x = let z = x.3 in omega arith
    drawn_at_most collected x = let z = x.3 in omega arith

    pub drawn_past : k < c → (stage : Stage) → Stands k job c w home d h t stage → d ≡ 1
    drawn_past l waiting x = let z = x.0 in absurd (omega arith)
    drawn_past l drawn x = x.3
    drawn_past l done x = x.3
    drawn_past l collected x = x.3

    pub is_below : 1 ≤ d → (stage : Stage) → Stands k job c w home d h t stage → k < c
    is_below l waiting x = let z = x.3 in absurd (omega arith)
    is_below l drawn x = x.0
    is_below l done x = x.0
    is_below l collected x = x.0

    -- where the desk's word is 0 and it was drawn, it is held; where it is held, its word is 0
    pub held_from : (stage : Stage) → Stands k job c w home d h t stage → w ≡ 0 → d ≤ h
    held_from waiting x e = let z = x.3 in omega arith
    held_from drawn x e = let z = x.3 in let y = x.4 in omega arith
    held_from done x e = let z = x.1 in absurd (omega arith)
    held_from collected x e = let z = x.1 in absurd (omega arith)

    pub held_to_do : (stage : Stage) → Stands k job c w home d h t stage → 1 ≤ h → w ≡ 0
    held_to_do waiting x l = x.1
    held_to_do drawn x l = x.1
    held_to_do done x l = let z = x.4 in absurd (omega arith)
    held_to_do collected x l = let z = x.4 in absurd (omega arith)

    -- the clerk took exactly what has word 2, once
    pub taken_at_most : (stage : Stage) → Stands k job c w home d h t stage → t ≤ 1
    taken_at_most waiting x = let z = x.5 in omega arith
    taken_at_most drawn x = let z = x.5 in omega arith
    taken_at_most done x = let z = x.5 in omega arith
    taken_at_most collected x = let z = x.5 in omega arith

    pub taken_two : (stage : Stage) → Stands k job c w home d h t stage → 1 ≤ t → w ≡ 2
    taken_two waiting x l = let z = x.5 in absurd (omega arith)
    taken_two drawn x l = let z = x.5 in absurd (omega arith)
    taken_two done x l = let z = x.5 in absurd (omega arith)
    taken_two collected x l = x.1

    pub two_taken : (stage : Stage) → Stands k job c w home d h t stage → w ≡ 2 → 1 ≤ t
    two_taken waiting x e = let z = x.1 in absurd (omega arith)
    two_taken drawn x e = let z = x.1 in absurd (omega arith)
    two_taken done x e = let z = x.1 in absurd (omega arith)
    two_taken collected x e = let z = x.5 in omega arith
