use Rattle.std.proofs.Common.{◌∙◌, ◌++◌, ℕ, List, ap}
use Rattle.refusal_texts.proofs.front.push_refusal.Goals as goal

pub returns : goal.returns
returns c = record {
  message = c.args.message.now;
  more = c.args.hints.now;
  text = c.in_ok-extend_from_slice.ensures.items ∙ ap (λ (l : List ℕ). l ++ c.args.hints.now) c.in_ok-push_front.ensures;
}
