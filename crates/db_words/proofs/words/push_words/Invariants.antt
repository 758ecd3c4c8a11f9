use Rattle.std.proofs.Common.{◌≡◌, ◌++◌, take}
use Rattle.command_line.specs.meaning.Words.{texts}
use Rattle.db_words.proofs.words.push_words.Given as goal

-- those so far are there
abbrev pub invariant-loop-word : goal.invariant-loop-word
invariant-loop-word l = texts l.own.items ≡ texts l.fn.own.items ++ texts (take l.word-index l.words)
