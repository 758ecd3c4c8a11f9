-- Where a token of a line stands.
use Rattle.std.specs.Prelude.{◌≡◌, ◌&&◌, ℕ, List, [], Contains, length, nat_le, slice_range, if◌then◌else◌}
use Rattle.task_parser.specs.declared.token.Token.{Token}

-- the bytes of a token, or none where they are no part of the text
abbrev pub bytes_of : List ℕ → Token → List ℕ
bytes_of text token = if nat_le token.from token.to && nat_le token.to (length text) then slice_range text token.from token.to else []

-- a token of the line begins at the place
pub record BeginsAt (tokens : List Token) (line at : ℕ) : Type 0 where
  pub token : Token
  pub stands : Contains tokens token
  pub in_line : token.line ≡ line
  pub begins : token.from ≡ at
