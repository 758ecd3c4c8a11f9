use Rattle.task_ast.specs.View.{plain_program}
use Rattle.task_parser.specs.meaning.Spelling.{Spells}
use Rattle.task_parser.proofs.ShapedSpelling.{spelled_is_shaped}
use Rattle.explain_calls.proofs.refused.push_parsed.Goals as goal

pub check-requires : goal.check-requires
check-requires c =
    let spells : Spells c.args.text.now (plain_program c.in-Ok.program) =
    record { tokens = c.args.tokens.now; lexes = c.requires.lexed; stands = c.in-Ok.ensures.found } in
    record { shaped = spelled_is_shaped c.args.text.now (plain_program c.in-Ok.program) spells }
