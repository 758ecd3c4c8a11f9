use Rattle.std.proofs.Common.{◌≡◌, ◌++◌, take}
use Rattle.text_pieces.specs.Pieces.{pieces_text}
use Rattle.text_pieces.proofs.push_pieces.Given as goal

-- the pieces so far are appended
abbrev pub invariant-loop-piece : goal.invariant-loop-piece
invariant-loop-piece l = l.text.items ≡ l.fn.text.items ++ pieces_text (take l.piece-index l.pieces)
