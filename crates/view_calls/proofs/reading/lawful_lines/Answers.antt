use Rattle.std.proofs.Common.{List, sym, ◌∙◌}
use Rattle.gp_audit.specs.declared.line.TraceLine.{TraceLine}
use Rattle.call_cases.specs.Decided.{work_of}
use Rattle.call_cases.specs.meaning.Lines.{input_line}
use Rattle.audit_calls.proofs.Readings.{input_unread}
use Rattle.view_calls.proofs.Readings.{lines_told, unlawful_told}
use Rattle.view_calls.proofs.reading.lawful_lines.Goals as goal

pub returns-in-Ok-Some-clause-told : goal.returns-in-Ok-Some-clause-told
returns-in-Ok-Some-clause-told c = λ names position text within is.
    let given = c.in-Ok-Some.ensures in
    unlawful_told names c.args.name.now position (work_of c.args.request.now) text c.args.lines given.0 c.in-Ok-Some.number
    c.refused_input.result within is given.1 (sym given.2 ∙ c.in-Ok-Some.field-0-is) c.refused_input.ensures

pub returns-in-Ok-Some-clause-unread : goal.returns-in-Ok-Some-clause-unread
returns-in-Ok-Some-clause-unread c = λ names failed.
    input_unread (List TraceLine) names failed (input_line c.args.name.now 1 c.in-Ok-Some.number) c.refused_input.result
    c.refused_input.ensures

pub returns-in-Ok-None-clause-told : goal.returns-in-Ok-None-clause-told
returns-in-Ok-None-clause-told c = λ names position text within is.
    let given = c.in-Ok-None.ensures in
    lines_told names c.args.name.now position (work_of c.args.request.now) text c.args.lines given.0 within is given.1
    (sym given.2 ∙ c.in-Ok-None.field-0-is)
