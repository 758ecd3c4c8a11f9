use Rattle.one_thread.proofs.Walks.{came-step, came-halt, halted, step-less}
use Rattle.one_thread.proofs.walk.Walk.stretch.Goals as goal

pub loop-went-smaller : goal.loop-went-smaller
loop-went-smaller g c = step-less c.loop-went.self c.step.new.self (rw c.in-On.is at c.in_ok-went.ensures)

pub loop-went-preserved : goal.loop-went-preserved
loop-went-preserved g c =
    came-step c.args.self.now c.loop-went.self c.step.new.self c.loop-went.invariant (rw c.in-On.is at c.in_ok-went.ensures)

pub returns-in_default : goal.returns-in_default
returns-in_default g c = record {
  came =
      came-halt c.args.self.now c.loop-went.self c.step.new.self c.in_ok-went.went c.loop-went.invariant
      c.in_ok-went.ensures c.in_default.not-On;
  halts = halted c.loop-went.self c.step.new.self c.in_ok-went.went c.in_ok-went.ensures c.in_default.not-On;
}
