use Rattle.std.proofs.Common.{subst}
use Rattle.whole_run.specs.inner.Backing.{SlotsOnly}
use Rattle.whole_run.proofs.parts.backing.restored.Goals as goal

pub returns : goal.returns
returns c =
    let found = c.in-Some.ensures.found in
    record {
      checkpoint = c.in-Some.checkpoint.now;
      there = found.0;
      at_cut = found.1;
      slots = subst (λ s. SlotsOnly s c.pad.new.store) c.in_ok-store.ensures c.in_ok-pad.ensures.slots;
      wide = c.in_ok-pad.ensures.many;
    }
