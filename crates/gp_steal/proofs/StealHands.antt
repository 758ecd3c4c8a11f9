-- The hands of a board whose desks are claimed: what cutting and joining asks of them.
use Rattle.std.proofs.Common.{ℕ, ◌⊎◌, inl, inr, max, ◌<◌, List, refl, ⊎_elim, arith}
use Rattle.std.specs.Prelude.{None}
use Rattle.std.proofs.lemmas.Bool.{cases_lt}
use Rattle.gp_steal.specs.declared.view.Hand.{Hand}
use Rattle.gp_steal.specs.Rule.{waiting, no_hand, first_hand, TriesOk, steal_kind}
use Rattle.gp_steal.specs.Told.{hand_kept, hand_given, hand_both}
use Rattle.desk_board.proofs.Seats.{HandLaws}
use Rattle.gp_steal.proofs.Stages.{stage_stays}

-- where nothing was swept and nothing tried
fresh : (m : ℕ) (words : List ℕ) → TriesOk m words 0 None
fresh m words = record { within = omega arith; below = λ k l. absurd (omega arith); last = tt }

-- what is below the greater of two numbers is below one of them
lower : (k a b : ℕ) → k < max a b → (k < a) ⊎ (k < b)
lower k a b l = elim (cases_lt k a) [ inl m ↦ inl m | inr m ↦ inr (omega arith) ]

both_sound : (m : ℕ) (words : List ℕ) (h g : Hand) → TriesOk m words h.swept h.tried → TriesOk m words g.swept g.tried
    → TriesOk m words (max h.swept g.swept) h.tried
both_sound m words h g a b = record {
  within = (let x = a.within in let y = b.within in omega arith);
  below = λ k l. ⊎_elim (λ z. a.below k z) (λ z. b.below k z) (lower k h.swept g.swept l);
  last = a.last;
}

pub hand_laws : {J W R : Type 0} (is_run : W → J → R → Type 0)
    → HandLaws (steal_kind is_run) no_hand first_hand hand_kept (λ _. hand_given) hand_both (λ _. 0)
hand_laws is_run = record {
  none_is = (refl, refl, refl, refl);
  first_is = (refl, refl, refl);
  kept_is = λ h. (refl, refl, refl);
  given_is = λ h. (refl, refl, refl);
  both_is = λ h g. (refl, refl, refl);
  cut_live = λ h big. omega arith;
  both_live = λ h g. omega arith;
  none_ok = fresh;
  first_ok = fresh;
  kept_ok = λ m words h ok. ok;
  given_ok = λ m words h ok. fresh m words;
  both_ok = both_sound;
  beside_stays = λ m s views' less still. still;
  desk_stays = λ with s views' k job got held taken was.
      (was.0, stage_stays is_run with job _ _ _ _ _ _ _ _ _ _ refl refl got held taken was.0 was.1);
  begins = λ plan none. none;
  waits = λ plan k job none word home. (waiting, (word, home, refl, refl, refl));
}
