use Rattle.refusal_texts.proofs.checking.push_check_refusal.Goals as goal

pub returns : goal.returns
returns c = record {
  at = c.shown_at-at.result;
  says = c.says.result.now;
  stands = rw c.as_slice.ensures at c.shown_at-at.ensures;
  refusal = rw (c.kind_number.ensures, c.from.ensures) at c.in_ok-push_refusal.ensures;
}
