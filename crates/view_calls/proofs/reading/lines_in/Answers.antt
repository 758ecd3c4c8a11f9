use Rattle.std.proofs.Common.{List}
use Rattle.gp_audit.specs.declared.line.TraceLine.{TraceLine}
use Rattle.call_cases.specs.Decided.{work_of}
use Rattle.call_cases.specs.meaning.Lines.{input_line}
use Rattle.audit_calls.proofs.Readings.{few_read, input_unread}
use Rattle.view_calls.proofs.Readings.{row_told}
use Rattle.view_calls.proofs.reading.lines_in.Goals as goal

pub lawful_lines-requires-clause-few : goal.lawful_lines-requires-clause-few
lawful_lines-requires-clause-few c = few_read c.args.text.now c.in-Ok.lines c.requires.short c.in-Ok.ensures

pub returns-in-Ok-clause-told : goal.returns-in-Ok-clause-told
returns-in-Ok-clause-told c = λ names position.
    c.lawful_lines.ensures.told names position c.args.text.now c.requires.short c.in-Ok.ensures

pub returns-in-Err-Line-clause-told : goal.returns-in-Err-Line-clause-told
returns-in-Err-Line-clause-told c = λ names position.
    let broken = rw c.in-Err-Line.field-0-is at c.in-Err-Line.ensures in
    row_told names c.args.name.now position (work_of c.args.request.now) c.args.text.now c.in-Err-Line.row c.refused_input.result
    c.requires.short broken c.refused_input.ensures

pub returns-in-Err-Line-clause-unread : goal.returns-in-Err-Line-clause-unread
returns-in-Err-Line-clause-unread c = λ names failed.
    input_unread (List TraceLine) names failed (input_line c.args.name.now 1 c.in-Err-Line.row) c.refused_input.result
    c.refused_input.ensures
