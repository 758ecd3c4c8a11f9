use Rattle.std.proofs.Common.{List}
use Rattle.gp_audit.specs.declared.line.TraceLine.{TraceLine}
use Rattle.call_cases.specs.meaning.Lines.{input_line}
use Rattle.audit_calls.proofs.Readings.{lines_told, row_told, few_read, input_unread}
use Rattle.audit_calls.proofs.reading.lines_in.Goals as goal

pub returns-in-Ok-clause-told : goal.returns-in-Ok-clause-told
returns-in-Ok-clause-told c =
    λ judge names work. lines_told judge names c.args.name.now work c.args.text.now c.in-Ok.lines c.requires c.in-Ok.ensures

pub returns-in-Ok-clause-few : goal.returns-in-Ok-clause-few
returns-in-Ok-clause-few c = few_read c.args.text.now c.in-Ok.lines c.requires c.in-Ok.ensures

pub returns-in-Err-Line-clause-told : goal.returns-in-Err-Line-clause-told
returns-in-Err-Line-clause-told c = λ judge names work.
    let broken = rw c.in-Err-Line.field-0-is at c.in-Err-Line.ensures in
    row_told judge names c.args.name.now work c.args.text.now c.in-Err-Line.row c.refused_input.result c.requires
    broken c.refused_input.ensures

pub returns-in-Err-Line-clause-unread : goal.returns-in-Err-Line-clause-unread
returns-in-Err-Line-clause-unread c =
    λ names failed. input_unread (List TraceLine) names failed
    (input_line c.args.name.now 9 c.in-Err-Line.row) c.refused_input.result c.refused_input.ensures
