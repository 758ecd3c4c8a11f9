use Rattle.std.proofs.Common.{ap, ◌∙◌}
use Rattle.std.proofs.lemmas.List.{map-set}
use Rattle.task_code.specs.View.{plain_instr, plain_instrs}
use Rattle.task_code.proofs.control.patch.Goals as goal

pub returns : goal.returns
returns c =
    ap plain_instrs c.set.ensures ∙ map-set plain_instr c.args.code.now c.args.at (record { does = c.args.does; line = c.args.line })
