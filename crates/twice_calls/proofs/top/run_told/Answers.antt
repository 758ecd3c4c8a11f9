use Rattle.std.proofs.Common.{refl}
use Rattle.call_cases.specs.meaning.Answers.{change_of}
use Rattle.twice_calls.proofs.top.run_told.Goals as goal

pub returns-clause-headline : goal.returns-clause-headline
returns-clause-headline g c =
    let told = c.tell.ensures.behind in (
      change_of g.E.Sink.written g.E.Sink.faults c.args.err.now c.run_rechecked-outcome.new.err,
      record {
        written = refl;
        faults = refl;
        later = c.tell.ensures.later;
        lines = told.0;
        are_told = told.1;
        behind = told.2;
      },
      c.run_rechecked-outcome.ensures.headline,
    )
