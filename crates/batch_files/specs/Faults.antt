-- What the reader of a file of faults gives.
use Rattle.std.specs.Prelude.{◌≡◌, List, length}
use Rattle.gp_base.specs.declared.fault.Fault.{Fault}
use Rattle.batch_files.specs.meaning.Rows.{Row}
use Rattle.batch_files.specs.meaning.Faults.{faults_of}

-- one fault of each row
abbrev pub AreFaults : List Row → List Fault → Type 0
AreFaults rows faults = (faults ≡ faults_of rows) × (length faults ≡ length rows)
