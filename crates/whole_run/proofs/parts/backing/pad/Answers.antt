use Rattle.std.proofs.Common.{subst, sym, ap, length, [], ◌∷◌, arith, length-append}
use Rattle.whole_run.specs.inner.Backing.{SlotsOnly}
use Rattle.whole_run.proofs.CheckpointLists.{slots-more}
use Rattle.whole_run.proofs.parts.backing.pad.Goals as goal

pub returns-in_err-reserve_thread-clause-slots : goal.returns-in_err-reserve_thread-clause-slots
returns-in_err-reserve_thread-clause-slots c =
    subst (SlotsOnly c.args.store.now) (sym c.in_err-reserve_thread.ensures.err) c.loop.invariant.slots

pub loop-preserved : goal.loop-preserved
loop-preserved c =
    let grown = c.in_ok-reserve_thread.ensures.ok in
    record {
      slots = slots-more c.args.store.now c.loop.store c.reserve_thread.new.self c.loop.invariant.slots grown;
      many = (
          let many = c.loop.invariant.many in
          omega (arith, ap (λ s. length s.threads) grown, length-append c.loop.store.threads ([] ∷ []))
          );
    }
