use Rattle.std.proofs.Common.{ℕ, ◌<◌}
use Rattle.std.specs.Prelude.{IsSome}
use Rattle.csv.specs.Records.{fields_of}
use Rattle.batch_files.specs.meaning.Numbers.{field_number}
use Rattle.row_places.proofs.fields.bad_field.Given as goal

abbrev pub invariant-loop-field : goal.invariant-loop-field
invariant-loop-field l = (k : ℕ) → k < l.field → IsSome (field_number (fields_of l.row) k)
