use Rattle.std.proofs.Common.{◌≡◌, ℕ, ◌<◌}
use Rattle.csv.specs.Records.{fields_of}
use Rattle.batch_files.specs.meaning.Numbers.{field_number}
use Rattle.row_places.proofs.fields.are_alike.Given as goal

abbrev pub invariant-loop-field : goal.invariant-loop-field
invariant-loop-field l = (k : ℕ) → k < l.field → field_number (fields_of l.one) k ≡ field_number (fields_of l.other) k
