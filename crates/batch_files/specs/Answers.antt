-- How an answer stands to what a file means.
use Rattle.std.specs.Prelude.{◌≡◌, ◌++◌, ℕ, ℤ, ⊤, List, Option, Some, None, Result, Ok, Err}
use Rattle.batch_files.specs.declared.fault.FileKind.{FileKind}
use Rattle.batch_files.specs.declared.fault.FileKind.TheVariants.{Number}
use Rattle.batch_files.specs.declared.fault.FileFault.{FileFault}
use Rattle.batch_files.specs.declared.fault.FileFault.TheVariants as file
use Rattle.batch_files.specs.declared.fault.RowFault.{RowFault}
use Rattle.batch_files.specs.declared.fault.RowFault.TheVariants as row
use Rattle.batch_files.specs.meaning.Rows.{Broken}

-- the fault tells the row that is broken, or memory ran out
abbrev pub Tells : FileFault → Option Broken → Type 0
Tells (file.Bad kind row) broken = broken ≡ Some (kind, row)
Tells file.OutOfMemory broken = ⊤

-- the fault is what the file means, or memory ran out
abbrev pub Explains : {T : Type 0} → FileFault → Result T Broken → Type 0
Explains (file.Bad kind row) meant = meant ≡ Err (kind, row)
Explains file.OutOfMemory meant = ⊤

-- the answer, as it is seen, is what the file means, or memory ran out
abbrev pub Answers : {A T : Type 0} → (A → T) → Result A FileFault → Result T Broken → Type 0
Answers see (Ok value) meant = meant ≡ Ok (see value)
Answers see (Err fault) meant = Explains fault meant

-- the fault of a file by that of its row, which has this number
abbrev pub fault_at : RowFault → ℕ → FileFault
fault_at (row.Breaks kind) number = file.Bad kind number
fault_at row.OutOfMemory number = file.OutOfMemory

-- a row that breaks no rule was put in, or the rule that it breaks was told, or memory ran out
abbrev pub PutsRow : Option FileKind → Type 0 → Result Unit RowFault → Type 0
PutsRow broken Put (Ok done) = (broken ≡ None) × Put
PutsRow broken Put (Err (row.Breaks kind)) = broken ≡ Some kind
PutsRow broken Put (Err row.OutOfMemory) = ⊤

-- the same of all rows of a file
abbrev pub PutsAll : {T : Type 0} → Option Broken → (T → Type 0) → Result T FileFault → Type 0
PutsAll broken Full (Ok table) = (broken ≡ None) × Full table
PutsAll broken Full (Err fault) = Tells fault broken

-- the numbers of a row were put at the end of a list, or a field that is none was told, or memory ran out
abbrev pub PushesNumbers : Option (List ℤ) → (before now : List ℤ) → Result Unit RowFault → Type 0
PushesNumbers numbers before now (Ok done) = (all : List ℤ) × (numbers ≡ Some all) × (now ≡ before ++ all)
PushesNumbers numbers before now (Err (row.Breaks kind)) = (kind ≡ Number) × (numbers ≡ None)
PushesNumbers numbers before now (Err row.OutOfMemory) = ⊤
