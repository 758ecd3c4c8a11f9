use Rattle.std.proofs.Common.{sym, subst}
use Rattle.task_ast.specs.View.{plain_program}
use Rattle.task_parser.specs.meaning.Spelling.{Spells}
use Rattle.task_parser.proofs.ShapedSpelling.{spelled_is_shaped}
use Rattle.call_cases.proofs.Refused.{decided_lexing, decided_parsing, decided_checking}
use Rattle.call_cases.proofs.reading.program_in.Goals as goal

pub returns-in-Err : goal.returns-in-Err
returns-in-Err c =
    decided_lexing c.args.asked.now c.args.bytes.now c.in-Err.fault c.refused_lexing.result c.refused_lexing.ensures c.in-Err.ensures.fault

pub returns-in-Err-parse : goal.returns-in-Err-parse
returns-in-Err-parse c =
    decided_parsing c.args.asked.now c.args.bytes.now c.in-Ok.tokens c.in-Err-parse.fault c.refused_parsing.result c.refused_parsing.ensures
    c.in-Ok.ensures.tokens c.in-Err-parse.ensures.fault

pub check-requires : goal.check-requires
check-requires c =
    let spells : Spells c.args.bytes.now (plain_program c.in-Ok-parse.program) =
    record { tokens = c.in-Ok.tokens; lexes = c.in-Ok.ensures.tokens; stands = c.in-Ok-parse.ensures.found } in
    record { shaped = spelled_is_shaped c.args.bytes.now (plain_program c.in-Ok-parse.program) spells }

pub returns : goal.returns
returns c =
    let spells : Spells c.args.bytes.now (plain_program c.in-Ok-parse.program) =
    record { tokens = c.in-Ok.tokens; lexes = c.in-Ok.ensures.tokens; stands = c.in-Ok-parse.ensures.found } in
    decided_checking c.args.asked.now c.args.bytes.now
    (plain_program c.in-Ok-parse.program) c.in-Err-check.fault c.refused_checking.result c.refused_checking.ensures spells
    c.in-Err-check.ensures.fault

pub returns-in-Ok-check : goal.returns-in-Ok-check
returns-in-Ok-check c =
    let spells : Spells c.args.bytes.now (plain_program c.in-Ok-parse.program) =
    record { tokens = c.in-Ok.tokens; lexes = c.in-Ok.ensures.tokens; stands = c.in-Ok-parse.ensures.found } in
    subst (λ p. Spells c.args.bytes.now (plain_program p)) (sym c.in-Ok-check.ensures.same) spells
