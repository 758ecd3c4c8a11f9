-- A pass holds the desk that it has just claimed, and no longer once its run is put back.
use Rattle.std.proofs.Common.{◌≡◌, ℕ, ◌+◌, Bool, List, [], ◌∷◌, ◌++◌, Contains, not, cond, sym, subst, ap, ◌∙◌, eq-eqb}
use Rattle.std.proofs.lemmas.List.Elements.{Contains-push}
use Rattle.gp_steal.specs.declared.view.Hand.{Hand}
use Rattle.desk_board.specs.Told.{without}
use Rattle.gp_steal.specs.Told.{hand_claimed, hand_finished, swept_after}

pub held_now : (before after : Hand) (desk k : ℕ) → after ≡ hand_claimed desk before → k ≡ desk → Contains after.held k
held_now before after desk k is same =
    subst (λ (h : Hand). Contains h.held k) (sym is)
    (subst (λ (d : ℕ). Contains (before.held ++ d ∷ []) k) same (Contains-push before.held k))

pub idle_again : (desk k : ℕ) (before claimed after : Hand) → claimed ≡ hand_claimed desk before → k ≡ desk
    → after ≡ hand_finished k claimed → before.held ≡ [] → after.held ≡ []
idle_again desk k before claimed after claims same finishes idle =
    ap (λ (h : Hand). h.held) finishes ∙ ap (λ (h : Hand). without k h.held) claims
    ∙ ap (λ (l : List ℕ). without k (l ++ desk ∷ [])) idle ∙ ap (λ b. cond (not b) (desk ∷ []) []) (eq-eqb desk k (sym same))

-- a try of the desk at the swept number sweeps on by one
pub swept_on : (desk swept now : ℕ) → desk ≡ swept → now ≡ swept_after desk swept → now ≡ swept + 1
swept_on desk swept now same is = is ∙ ap (λ (b : Bool). let n : ℕ = cond b (swept + 1) swept in n) (eq-eqb desk swept same)
