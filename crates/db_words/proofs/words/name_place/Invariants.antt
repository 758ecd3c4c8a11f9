use Rattle.std.proofs.Common.{◌≡◌, ◌+◌, drop}
use Rattle.command_line.specs.meaning.Words.{texts}
use Rattle.db_words.specs.Names.{name_place}
use Rattle.db_words.proofs.words.name_place.Given as goal

-- none of those so far is the option
abbrev pub invariant-loop-word : goal.invariant-loop-word
invariant-loop-word l = (l.place ≡ l.word-index) × (name_place (texts l.words) ≡ l.word-index + name_place (texts (drop l.word-index l.words)))
