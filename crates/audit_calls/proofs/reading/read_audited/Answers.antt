use Rattle.std.proofs.Common.{◌∙◌, ◌≤◌, List, ap, sym, subst}
use Rattle.std.specs.declared.option.Option.TheVariants.{Some}
use Rattle.gp_base.specs.declared.limits.TheConstants.{MOST_SUBTHREADS}
use Rattle.gp_audit.specs.declared.line.TraceLine.{TraceLine}
use Rattle.command_line.specs.declared.asked.Asked.{Asked}
use Rattle.call_cases.specs.Decided.{program_in, files_read, work_of}
use Rattle.call_cases.specs.Refusals.{RefusesShelf}
use Rattle.audit_calls.specs.meaning.AuditCommands.{MayRead}
use Rattle.audit_calls.proofs.TrialCases.{run_refuses, lines_judged, trace_refuses, run_reads, trace_reads}
use Rattle.audit_calls.proofs.reading.read_audited.Goals as goal

pub returns-in-Err-clause-shelf : goal.returns-in-Err-clause-shelf
returns-in-Err-clause-shelf g c =
    run_reads c.args.audited (g.H.Shelf.failed c.args.shelf.now)
    (g.H.Shelf.failed c.read_asked.new.shelf) c.in-Err.refusal c.in-Err.ensures.shelf

pub returns-in-Err-clause-case : goal.returns-in-Err-clause-case
returns-in-Err-clause-case g c =
    λ judge. run_refuses c.args.audited (g.H.Shelf.files c.args.shelf.now) c.in-Err.refusal c.in-Err.ensures.case

pub returns-in-Ok-trace_lines-clause-shelf : goal.returns-in-Ok-trace_lines-clause-shelf
returns-in-Ok-trace_lines-clause-shelf g c = c.in-Ok-trace_lines.ensures.failed ∙ c.in-Ok.ensures.shelf

pub returns-in-Ok-trace_lines-clause-case : goal.returns-in-Ok-trace_lines-clause-case
returns-in-Ok-trace_lines-clause-case g c = λ judge.
    let request = c.in-Ok.request in
    lines_judged judge c.args.audited (g.H.Shelf.files c.args.shelf.now) (g.H.Shelf.files c.read_asked.new.shelf)
    (files_read request.asked (program_in request)) (work_of request)
    c.in-Ok-trace_lines.lines c.in-Ok.ensures.kept c.in-Ok.ensures.case
    (c.in-Ok-trace_lines.ensures.told judge (files_read request.asked (program_in request)) (work_of request))

pub returns-in-Ok-trace_lines-clause-short : goal.returns-in-Ok-trace_lines-clause-short
returns-in-Ok-trace_lines-clause-short g c = record {
  subthreads = subst (λ (asked : Asked). asked.limits.subthreads ≤ MOST_SUBTHREADS) (sym c.in-Ok.ensures.asked) c.requires.few_subthreads;
  lines = c.in-Ok-trace_lines.ensures.few;
}

pub returns-in-Ok-trace_lines-clause-audited : goal.returns-in-Ok-trace_lines-clause-audited
returns-in-Ok-trace_lines-clause-audited g c =
    ap (λ (asked : Asked). record { run = asked; trace = c.args.audited.trace }) c.in-Ok.ensures.asked

pub returns-in-Err-trace_lines-clause-shelf : goal.returns-in-Err-trace_lines-clause-shelf
returns-in-Err-trace_lines-clause-shelf g c =
    subst (λ before. RefusesShelf MayRead (Some c.args.audited) before
    (g.H.Shelf.failed c.trace_lines.new.shelf) c.in-Err-trace_lines.refusal) c.in-Ok.ensures.shelf
    (trace_reads c.args.audited (g.H.Shelf.failed c.read_asked.new.shelf) (g.H.Shelf.failed c.trace_lines.new.shelf)
    (List TraceLine) c.in-Err-trace_lines.refusal c.in-Err-trace_lines.ensures.failed)

pub returns-in-Err-trace_lines-clause-case : goal.returns-in-Err-trace_lines-clause-case
returns-in-Err-trace_lines-clause-case g c = λ judge.
    let request = c.in-Ok.request in
    trace_refuses judge c.args.audited (g.H.Shelf.files c.args.shelf.now) (g.H.Shelf.files c.read_asked.new.shelf)
    (files_read request.asked (program_in request)) (work_of request)
    c.in-Err-trace_lines.refusal c.in-Ok.ensures.kept c.in-Ok.ensures.case
    (c.in-Err-trace_lines.ensures.told judge (files_read request.asked (program_in request)) (work_of request))
