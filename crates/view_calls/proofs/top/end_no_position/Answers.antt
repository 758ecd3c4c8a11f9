use Rattle.std.proofs.Common.{subst, codes, ◌++◌, ◌∙◌}
use Rattle.call_cases.specs.declared.lines.Tool.TheVariants.{GprsView}
use Rattle.call_cases.specs.meaning.Lines.{tool_line}
use Rattle.call_cases.specs.meaning.Answers.{change_of}
use Rattle.call_cases.specs.Answers.{LineEnds}
use Rattle.view_calls.proofs.top.end_no_position.Goals as goal

pub returns : goal.returns
returns g c =
    let err = change_of g.E.Sink.written g.E.Sink.faults c.args.err.now c.tell_about.new.err in
    subst (λ n. LineEnds 5 (tool_line GprsView (codes "no position " ++ (n ++ codes "\n"))) err c.tell_about.result)
    (c.as_bytes-number.ensures.value ∙ c.format.ensures.text) c.tell_about.ensures
