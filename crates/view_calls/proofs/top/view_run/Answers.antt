use Rattle.std.proofs.Common.{ap, refl}
use Rattle.command_line.specs.meaning.Words.{texts}
use Rattle.call_cases.specs.meaning.Answers.{change_of, no_journal}
use Rattle.call_cases.specs.Decided.{program_in, files_read}
use Rattle.call_cases.proofs.Headlines.{run_headline, refused_headline}
use Rattle.view_calls.specs.meaning.Commands.{commands}
use Rattle.view_calls.specs.Sights.{with_trace, sight_of, viewed_in}
use Rattle.view_calls.specs.inner.Layouts.{no_layout}
use Rattle.view_calls.proofs.Showing.{commands_sound}
use Rattle.view_calls.proofs.ViewCases.{nothing_read}
use Rattle.view_calls.proofs.top.view_run.Goals as goal

pub returns-in-Ok-clause-headline : goal.returns-in-Ok-clause-headline
returns-in-Ok-clause-headline g c =
    let viewing = c.in-Ok.viewing in
    let shown = c.show.ensures in (
      shown.0,
      run_headline (commands shown.0) (commands_sound shown.0) (texts c.args.words.now) (g.H.Shelf.files c.args.shelf.now)
          (g.H.Shelf.failed c.args.shelf.now) (g.H.Shelf.failed c.read_view.new.shelf)
          (change_of g.O.Sink.written g.O.Sink.faults c.args.out.now c.show.new.out)
          (change_of g.E.Sink.written g.E.Sink.faults c.args.err.now c.show.new.err) c.show.result no_journal
          (with_trace (files_read viewing.request.asked (program_in viewing.request)) viewing.trace) (sight_of viewing)
          (viewed_in viewing) refl c.in-Ok.ensures.viewed c.in-Ok.ensures.case c.in-Ok.ensures.shelf
          (λ none. (refl, refl)) (λ begins. cc begins) shown.1,
    )

pub returns-in-Err-clause-headline : goal.returns-in-Err-clause-headline
returns-in-Err-clause-headline g c = (
  no_layout,
  refused_headline (commands no_layout) (commands_sound no_layout) (texts c.args.words.now) (g.H.Shelf.files c.args.shelf.now)
      (g.H.Shelf.failed c.args.shelf.now) (g.H.Shelf.failed c.read_view.new.shelf)
      (g.O.Sink.written c.args.out.now) (g.O.Sink.faults c.args.out.now)
      (change_of g.E.Sink.written g.E.Sink.faults c.args.err.now c.refuse.new.err) c.refuse.result no_journal c.in-Err.refusal
      c.in-Err.ensures.no_command (nothing_read no_layout (texts c.args.words.now) (λ none. ap g.H.Shelf.failed (c.in-Err.ensures.unread none)))
      c.in-Err.ensures.case c.in-Err.ensures.shelf (refl, refl) c.refuse.ensures,
)
