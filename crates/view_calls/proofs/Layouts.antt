-- What is shown without a layout.
use Rattle.std.proofs.Common.{◌≡◌, List, refl}
use Rattle.std.specs.declared.option.Option.{Option}
use Rattle.gp_audit.specs.declared.line.TraceLine.{TraceLine}
use Rattle.command_line.specs.declared.asked.Command.{Command}
use Rattle.command_line.specs.declared.asked.Command.TheVariants as command
use Rattle.call_cases.specs.meaning.Work.{ToDo}
use Rattle.run_views.specs.meaning.OrderText.{order_text}
use Rattle.view_calls.specs.meaning.Sights.{text_for}
use Rattle.view_calls.specs.inner.Layouts.{no_layout}

-- the order of a run is no picture
pub order_for : (asked : Command) → (asked ≡ command.Run → ⊥) → (work : ToDo) (trace : Option (List TraceLine))
    → order_text work.program work.inputs work.limits ≡ text_for no_layout asked work trace
order_for command.Run other work trace = absurd (other refl)
order_for asked other work trace = refl
