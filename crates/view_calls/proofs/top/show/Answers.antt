use Rattle.std.proofs.Common.{◌≡◌, ℕ, List, subst}
use Rattle.std.specs.declared.option.Option.{Option}
use Rattle.gp_base.specs.declared.sink.SinkFault.TheVariants.{OutOfMemory}
use Rattle.gp_base.proofs.Written.{prefix_none}
use Rattle.call_cases.specs.declared.lines.Tool.TheVariants.{GprsView}
use Rattle.call_cases.specs.meaning.Answers.{change_of}
use Rattle.call_cases.specs.Answers.{RunEndsOf}
use Rattle.std.specs.Prelude.{[], unwrap_or}
use Rattle.view_calls.specs.meaning.Commands.{absent_line}
use Rattle.view_calls.specs.meaning.Sights.{view_of, absent_by, status_by, sight_text}
use Rattle.view_calls.specs.Sights.{sight_of}
use Rattle.view_calls.specs.inner.Layouts.{no_layout}
use Rattle.view_calls.proofs.Showing.{stopped_ends}
use Rattle.view_calls.proofs.top.show.Goals as goal

pub returns-in-Ok : goal.returns-in-Ok
returns-in-Ok g c =
    let shown = c.in-Ok.ensures in
    let out = change_of g.O.Sink.written g.O.Sink.faults c.args.out.now c.show_text.new.out in
    let err = change_of g.E.Sink.written g.E.Sink.faults c.args.err.now c.show_text.new.err in
    let position = c.args.viewing.now.position in (
      shown.0,
      subst (λ (view : Option (List ℕ)). let due = status_by (absent_by view position) in
          RunEndsOf GprsView (unwrap_or view []) (absent_line due position) due out err c.show_text.result) shown.1 c.show_text.ensures,
    )

pub returns-in-Err : goal.returns-in-Err
returns-in-Err g c =
    let sight = sight_of c.args.viewing.now in
    let out = change_of g.O.Sink.written g.O.Sink.faults c.args.out.now c.args.out.now in
    let err = change_of g.E.Sink.written g.E.Sink.faults c.args.err.now c.stop_by.new.err in (
      no_layout,
      stopped_ends (view_of no_layout sight) sight.position out err OutOfMemory c.stop_by.result
          (prefix_none (g.O.Sink.written c.args.out.now) (sight_text no_layout sight)) (λ is. absurd (cc is)) c.stop_by.ensures,
    )
