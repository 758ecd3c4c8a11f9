-- Each piece fits in its text, however it was read.
use Rattle.std.proofs.Common.{arith, ◌≡◌}
use Rattle.std.proofs.lemmas.Grind.{common_steps}
use Rattle.task_parser.specs.meaning.Pieces.{piece_of}
use Rattle.task_parser.proofs.LexPieces.{piece_fits}
use Rattle.task_parser.proofs.lexer.piece_of.Goals as goal

pub returns-then-first-eq36-clause-within : goal.returns-then-first-eq36-clause-within
returns-then-first-eq36-clause-within c =
    let is : c.register_piece.result ≡ piece_of c.args.text.now = grind (arith, common_steps) in
    rw is (piece_fits c.args.text.now c.requires.some)

pub returns-then-first-eq34-clause-within : goal.returns-then-first-eq34-clause-within
returns-then-first-eq34-clause-within c =
    let is : c.quoted_piece.result ≡ piece_of c.args.text.now = grind (arith, common_steps) in
    rw is (piece_fits c.args.text.now c.requires.some)

pub returns-else-first-eq34-clause-within : goal.returns-else-first-eq34-clause-within
returns-else-first-eq34-clause-within c =
    let is : c.mark_piece.result ≡ piece_of c.args.text.now = grind (arith, common_steps) in
    rw is (piece_fits c.args.text.now c.requires.some)
