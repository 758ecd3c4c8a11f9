-- What an empty sink took.
use Rattle.std.proofs.Common.{◌≡◌, ℕ, List, [], ◌++◌, Option, Some, ap, ◌∙◌}
use Rattle.std.specs.Prelude.{unwrap_or}
use Rattle.std.specs.Io.KnownBytes.{Appends}

pub taken_whole : (before after text : List ℕ) → Some before ≡ Some [] → Appends (Some before) (Some after) text → after ≡ text
taken_whole before after text empty took = took ∙ ap (λ (o : Option (List ℕ)). unwrap_or o [] ++ text) empty
