-- What a text is that is put together from pieces.
use Rattle.std.specs.Prelude.{ℕ, List, flat_map}
use Rattle.std.specs.Fmt.{decimal, signed_decimal}
use Rattle.text_pieces.specs.declared.Piece.{Piece}
use Rattle.text_pieces.specs.declared.Piece.TheVariants as piece

abbrev pub piece_text : Piece → List ℕ
piece_text (piece.Word word) = word.now
piece_text (piece.Number number) = decimal number
piece_text (piece.Signed number) = signed_decimal number

abbrev pub pieces_text : List Piece → List ℕ
pieces_text = flat_map piece_text
