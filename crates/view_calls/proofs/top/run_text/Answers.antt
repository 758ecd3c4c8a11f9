use Rattle.std.proofs.Common.{◌≡◌, List, Bor, ◌∙◌}
use Rattle.std.specs.Prelude.{option_map}
use Rattle.std.proofs.lemmas.Result.{IfOk-weaker}
use Rattle.gp_audit.specs.declared.line.TraceLine.{TraceLine}
use Rattle.call_cases.specs.Decided.{work_of}
use Rattle.run_picture.specs.meaning.Elements.{Layout}
use Rattle.view_calls.specs.meaning.Sights.{text_for}
use Rattle.view_calls.specs.inner.Layouts.{no_layout}
use Rattle.view_calls.proofs.Layouts.{order_for}
use Rattle.view_calls.proofs.top.run_text.Goals as goal

pub returns-in_default : goal.returns-in_default
returns-in_default c =
    let command = c.args.request.now.asked.command in
    let work = work_of c.args.request.now in
    let trace = option_map (λ (lines : Bor (List TraceLine)). lines.now) c.args.trace in
    IfOk-weaker c.order_text.result _ (λ text. (layout : Layout) × (text ≡ text_for layout command work trace))
    (λ text is. (no_layout, is ∙ order_for command c.in_default.not-Run work trace)) c.order_text.ensures
