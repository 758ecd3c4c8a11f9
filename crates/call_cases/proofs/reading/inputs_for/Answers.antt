use Rattle.std.proofs.Common.{ap, sym, subst, ◌∙◌}
use Rattle.task_ast.specs.View.{plain_program}
use Rattle.lock_checker.specs.Accepted.{program_of}
use Rattle.call_cases.specs.inner.Loading.{AreReadable}
use Rattle.call_cases.proofs.Readable.{readable}
use Rattle.call_cases.proofs.reading.inputs_for.Goals as goal

pub read_inputs-requires : goal.read_inputs-requires
read_inputs-requires g c =
    subst AreReadable (sym (c.as_slice.ensures ∙ ap (λ p. p.heads) c.program.ensures))
    (readable (plain_program (program_of c.args.checked.now)) c.args.checked.now.accepted.faultless)
