use Rattle.std.proofs.Common.{subst, List}
use Rattle.std.specs.declared.option.Option.TheVariants.{Some}
use Rattle.gp_audit.specs.declared.line.TraceLine.{TraceLine}
use Rattle.call_cases.specs.Decided.{program_in, files_read, work_of}
use Rattle.call_cases.specs.Refusals.{RefusesShelf}
use Rattle.view_calls.specs.meaning.Commands.{MayRead}
use Rattle.view_calls.proofs.ViewCases.{run_refuses, run_viewed, run_reads, lines_viewed, trace_refuses, trace_reads}
use Rattle.view_calls.proofs.reading.read_viewed.Goals as goal

pub returns-in-Err-clause-shelf : goal.returns-in-Err-clause-shelf
returns-in-Err-clause-shelf g c =
    run_reads c.args.viewed (g.H.Shelf.failed c.args.shelf.now)
    (g.H.Shelf.failed c.read_asked.new.shelf) c.in-Err.refusal c.in-Err.ensures.shelf

pub returns-in-Err-clause-case : goal.returns-in-Err-clause-case
returns-in-Err-clause-case g c =
    run_refuses c.args.viewed (g.H.Shelf.files c.args.shelf.now) c.in-Err.refusal c.in-Err.ensures.case

pub returns-in-None-clause-case : goal.returns-in-None-clause-case
returns-in-None-clause-case g c =
    let request = c.in-Ok.request in
    run_viewed c.args.viewed c.in-None.is (g.H.Shelf.files c.args.shelf.now) (files_read request.asked (program_in request))
    (work_of request) c.in-Ok.ensures.case

pub returns-in-Ok-trace_lines-clause-case : goal.returns-in-Ok-trace_lines-clause-case
returns-in-Ok-trace_lines-clause-case g c =
    let request = c.in-Ok.request in
    let names = files_read request.asked (program_in request) in
    lines_viewed c.args.viewed c.in-Some.file c.in-Some.is names (work_of request) (g.H.Shelf.files c.args.shelf.now)
    (g.H.Shelf.files c.read_asked.new.shelf) c.in-Ok-trace_lines.lines
    c.in-Ok.ensures.kept c.in-Ok.ensures.case (c.in-Ok-trace_lines.ensures.told names c.args.viewed.position)

pub returns-in-Err-trace_lines-clause-shelf : goal.returns-in-Err-trace_lines-clause-shelf
returns-in-Err-trace_lines-clause-shelf g c =
    subst (λ before. RefusesShelf MayRead (Some c.args.viewed) before
    (g.H.Shelf.failed c.trace_lines.new.shelf) c.in-Err-trace_lines.refusal) c.in-Ok.ensures.shelf
    (trace_reads c.args.viewed (g.H.Shelf.failed c.read_asked.new.shelf)
    (g.H.Shelf.failed c.trace_lines.new.shelf) c.in-Some.file c.in-Some.is (List TraceLine) c.in-Err-trace_lines.refusal
    c.in-Err-trace_lines.ensures.failed)

pub returns-in-Err-trace_lines-clause-case : goal.returns-in-Err-trace_lines-clause-case
returns-in-Err-trace_lines-clause-case g c =
    let request = c.in-Ok.request in
    let names = files_read request.asked (program_in request) in
    trace_refuses c.args.viewed c.in-Some.file c.in-Some.is names (work_of request) (g.H.Shelf.files c.args.shelf.now)
    (g.H.Shelf.files c.read_asked.new.shelf) c.in-Err-trace_lines.refusal
    c.in-Ok.ensures.kept c.in-Ok.ensures.case (c.in-Err-trace_lines.ensures.told names c.args.viewed.position)
