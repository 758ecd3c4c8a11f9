use Rattle.std.proofs.Common.{inl, inr, refl, subst, OnErr}
use Rattle.std.proofs.KnownBytes.{Appends-nil}
use Rattle.call_cases.specs.meaning.Answers.{TakesPart}
use Rattle.call_cases.specs.Answers.{memory_line, run_no_memory}
use Rattle.batch_calls.proofs.crews.outcome_of_one.Goals as goal

pub returns-in-Err-OutOfMemory-clause-ends : goal.returns-in-Err-OutOfMemory-clause-ends
returns-in-Err-OutOfMemory-clause-ends g c text due out put =
    run_no_memory (subst (λ r. OnErr r (TakesPart out text)) c.in-Err-OutOfMemory.is put.part)
    (memory_line, inr (inl refl), (0, Appends-nil (g.E.Sink.written c.args.err.now)))
