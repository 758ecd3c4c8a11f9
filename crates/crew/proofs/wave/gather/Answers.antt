use Rattle.std.proofs.Common.{◌∷◌, Ok, IsOk, refl, sym, ap, ◌∙◌, append_assoc}
use Rattle.std.proofs.lemmas.List.{append-nil, nil_from_length}
use Rattle.std.proofs.lemmas.List.Elements.{All-nil, All-cons}
use Rattle.crew.proofs.wave.gather.Goals as goal

pub loop-part-init : goal.loop-part-init
loop-part-init c =
    let gives = c.into_iter-part-iterator.ensures.into_iter_gives.0 in
    record { joined = rw (c.new-runs.ensures.items, gives) refl; all_ok = λ ok. rw gives at ok }

pub loop-done-init : goal.loop-done-init
loop-done-init c =
    let front = c.in-Some.ensures.steps.0 ∙ ap (λ part. part ∷ c.next.new.self.rest.items) c.in_ok-part.was in
    let whole = c.into_iter-done-iterator.ensures.into_iter_gives.0 ∙ c.into_vec-done-items.ensures in
    record {
      joined = rw whole (rw front at c.loop-part.invariant.joined);
      all_ok = λ ok. c.loop-part.invariant.all_ok (rw front (All-cons IsOk (Ok c.in_ok-part.field-0) c.next.new.self.rest.items refl ok));
    }

pub loop-done-preserved : goal.loop-done-preserved
loop-done-preserved c =
    let front = c.in-Some-done.ensures.steps.0 in
    record {
      joined = rw (c.in_ok-push.ensures.items, append_assoc) (rw front at c.loop-done.invariant.joined);
      all_ok = c.loop-done.invariant.all_ok;
    }

pub loop-part-preserved : goal.loop-part-preserved
loop-part-preserved c =
    let rest = c.loop-done.done-iterator.rest in
    let none = nil_from_length rest.items (sym rest.ok.0 ∙ c.in-None-done.ensures.steps.0) in
    record { joined = rw none at c.loop-done.invariant.joined; all_ok = c.loop-done.invariant.all_ok }

pub returns : goal.returns
returns c =
    let rest = c.loop-part.part-iterator.rest in
    let none = nil_from_length rest.items (sym rest.ok.0 ∙ c.in-None.ensures.steps.0) in
    record {
      each_ok = c.loop-part.invariant.all_ok (rw none (All-nil IsOk));
      whole = rw c.from_vec.ensures (sym (append-nil c.loop-part.runs.items) ∙ (rw none at c.loop-part.invariant.joined));
    }
