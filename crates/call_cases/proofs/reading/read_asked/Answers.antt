use Rattle.std.proofs.Common.{◌≡◌, Some, IfSome, subst}
use Rattle.gp_base.specs.meaning.Files.{bytes_of}
use Rattle.call_cases.specs.meaning.RunCommands.{asking}
use Rattle.call_cases.specs.meaning.Case.{IsCaseOf}
use Rattle.call_cases.specs.Decided.{case_of}
use Rattle.call_cases.specs.Refusals.{AnswersCase}
use Rattle.call_cases.proofs.Refused.{there_read}
use Rattle.call_cases.proofs.reading.read_asked.Goals as goal

pub returns-in-Ok-clause-case : goal.returns-in-Ok-clause-case
returns-in-Ok-clause-case g c =
    there_read (g.H.Shelf.files c.args.shelf.now) (g.H.Shelf.files c.read_program.new.shelf) c.args.asked c.in-Ok.text
    (λ files. AnswersCase case_of (IsCaseOf asking c.args.asked files) c.read_beside.result) c.in-Ok.ensures.kept c.in-Ok.ensures.case
    (subst (λ text. IfSome (g.H.Shelf.files c.read_program.new.shelf) (λ files. bytes_of files c.args.asked.program ≡ Some text
    → AnswersCase case_of (IsCaseOf asking c.args.asked files) c.read_beside.result)) c.as_slice.ensures c.read_beside.ensures.case)
