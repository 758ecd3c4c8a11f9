use Rattle.std.proofs.Common.{◌≡◌, ◌++◌, drop}
use Rattle.command_line.specs.meaning.Words.{texts}
use Rattle.view_calls.proofs.words.push_words.Given as goal

-- the words so far were appended
abbrev pub invariant-loop-word : goal.invariant-loop-word
invariant-loop-word l = texts l.to.items ++ texts (drop l.word-index l.words) ≡ texts l.fn.to.items ++ texts l.words
