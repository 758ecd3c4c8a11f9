use Rattle.task_ast.specs.View.{plain_program}
use Rattle.task_parser.specs.meaning.Spelling.{Spells}
use Rattle.task_parser.proofs.ShapedSpelling.{spelled_is_shaped}
use Rattle.pipe_tests.proofs.crews.idle_work.Goals as goal

pub check-requires : goal.check-requires
check-requires c =
    let text = c.as_slice-text.result.now in
    let program = plain_program c.in_ok-program.program in
    let spells : Spells text program =
    record { tokens = c.in_ok-tokens.tokens; lexes = c.in_ok-tokens.ensures.tokens; stands = c.in_ok-program.ensures.found } in
    record { shaped = spelled_is_shaped text program spells }
