use Rattle.std.proofs.Common.{sym, subst}
use Rattle.gp_base.proofs.Written.{prefix_none}
use Rattle.call_cases.specs.meaning.Answers.{change_of}
use Rattle.call_cases.specs.Answers.{line_no_memory, memory_line}
use Rattle.batch_calls.specs.inner.Ran.{StopsWith}
use Rattle.batch_calls.proofs.run.stop_with.Goals as goal

pub returns-in-WriteFault : goal.returns-in-WriteFault
returns-in-WriteFault g c =
    let err = change_of g.E.Sink.written g.E.Sink.faults c.args.err.now c.tell_line.new.err in
    subst (λ why. StopsWith why err c.tell_line.result) (sym c.in-WriteFault.is) c.tell_line.ensures

pub returns-in-OutOfMemory : goal.returns-in-OutOfMemory
returns-in-OutOfMemory g c =
    let err = change_of g.E.Sink.written g.E.Sink.faults c.args.err.now c.args.err.now in
    subst (λ why. StopsWith why err 1) (sym c.in-OutOfMemory.is)
    (line_no_memory (prefix_none (g.E.Sink.written c.args.err.now) memory_line))
