use Rattle.std.proofs.Common.{inl}
use Rattle.whole_run.specs.inner.Kept.{batch_in}
use Rattle.whole_run.proofs.IssuesKept.{few_places, kept_same, kept_ready}
use Rattle.whole_run.proofs.parts.issuing.make_ready.Goals as goal

pub prepare-requires-clause-few : goal.prepare-requires-clause-few
prepare-requires-clause-few c =
    few_places (batch_in c.args.plan.now) c.reserve_room.new.parts
    (kept_same (batch_in c.args.plan.now) c.args.parts.now c.reserve_room.new.parts c.reserve_room.ensures.same
    (inl c.reserve_room.ensures.store) c.requires.kept)

pub returns-in-Err-clause-kept : goal.returns-in-Err-clause-kept
returns-in-Err-clause-kept c =
    kept_ready (batch_in c.args.plan.now) c.args.parts.now c.reserve_room.new.parts c.reserve_slot.new.store c.reserve_room.ensures.same
    c.reserve_room.ensures.store c.reserve_slot.ensures.grown c.requires.kept

pub returns-in-Ok-clause-kept : goal.returns-in-Ok-clause-kept
returns-in-Ok-clause-kept c =
    kept_ready (batch_in c.args.plan.now) c.args.parts.now c.reserve_room.new.parts c.reserve_slot.new.store c.reserve_room.ensures.same
    c.reserve_room.ensures.store c.reserve_slot.ensures.grown c.requires.kept
