use Rattle.std.proofs.Common.{refl, ◌∙◌, arith}
use Rattle.pipe_crew.proofs.flight.launch.Goals as goal

pub returns-clause-flight : goal.returns-clause-flight
returns-clause-flight g c =
    let laid = c.in_ok-flight.ensures in
    let sent = c.in_ok-send_passes.ensures in
    record {
      stands =
          record { pass = sent.of; idle = sent.held; clerk = laid.stands.clerk; taken = laid.stands.taken; within = laid.stands.within };
      with = laid.with ∙ c.deref.ensures;
      few = (let share = sent.share in omega arith);
      some = rw (laid.none, laid.jobs) c.requires.some;
    }

pub returns-clause-left : goal.returns-clause-left
returns-clause-left g c = let laid = c.in_ok-flight.ensures in rw (laid.none, laid.jobs) refl
