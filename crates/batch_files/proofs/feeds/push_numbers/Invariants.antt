use Rattle.std.proofs.Common.{◌≡◌, ◌++◌, ℤ, List, Some, take}
use Rattle.csv.specs.Records.{fields_of}
use Rattle.batch_files.specs.meaning.Feeds.{numbers_of}
use Rattle.batch_files.proofs.feeds.push_numbers.Given as goal

-- the numbers of the fields so far were pushed
abbrev pub invariant-loop-field : goal.invariant-loop-field
invariant-loop-field l = record {
  numbers : List ℤ;
  read : numbers_of (take l.field (fields_of l.row)) ≡ Some numbers;
  pushed : l.cells.items ≡ l.fn.cells.items ++ numbers;
}
