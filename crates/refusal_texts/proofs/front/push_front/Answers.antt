use Rattle.refusal_texts.proofs.Joined.{five}
use Rattle.refusal_texts.proofs.front.push_front.Goals as goal

pub returns : goal.returns
returns c =
    five _ _ _ _ _ _ _ _ _ _ _ c.in_ok-push_place.ensures c.in_ok-extend_from_slice.ensures.items c.in_ok-extend_from_slice-2.ensures.items
    c.in_ok-push_marked.ensures c.in_ok-push_rule.ensures
