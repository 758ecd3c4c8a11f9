-- The hands of a board whose desks are drawn: what cutting and joining asks of them.
use Rattle.std.proofs.Common.{get_or, refl, arith}
use Rattle.desk_board.specs.Rule.{waiting, live, no_hand, first_hand, board_kind}
use Rattle.desk_board.specs.Told.{hand_kept, hand_given, hand_both}
use Rattle.desk_board.proofs.Hands.{live_cut, live_both, ended_either}
use Rattle.desk_board.proofs.Seats.{HandLaws}
use Rattle.desk_board.proofs.Stages.{stage_stays}

pub hand_laws : {J W R : Type 0} (is_run : W → J → R → Type 0)
    → HandLaws (board_kind is_run) no_hand first_hand hand_kept hand_given hand_both live
hand_laws is_run = record {
  none_is = (refl, refl, refl, refl);
  first_is = (refl, refl, refl);
  kept_is = λ h. (refl, refl, refl);
  given_is = λ h. (refl, refl, refl);
  both_is = λ h g. (refl, refl, refl);
  cut_live = live_cut;
  both_live = live_both;
  none_ok = λ m words. tt;
  first_ok = λ m words. tt;
  kept_ok = λ m words h ok. ok;
  given_ok = λ m words h ok. ok;
  both_ok = λ m words h g a b. ended_either h.ticket g.ticket m (get_or words 0 0) a b;
  beside_stays = λ m s views' less low. omega (arith, less, low);
  desk_stays = λ with s views' k job got held taken was. (
    was.0,
    stage_stays is_run with k job _ _ _ _ _ _ _ _ _ _ _ _ (omega arith) (λ l. l) refl refl got held taken was.0 was.1,
  );
  begins = λ plan none. omega (arith, none);
  waits = λ plan k job none word home. (waiting, (omega (arith, none), word, home, refl, refl, refl));
}
