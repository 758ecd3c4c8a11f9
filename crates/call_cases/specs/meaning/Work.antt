-- What there is to be done for a call, or with what line it is refused.
use Rattle.std.specs.Prelude.{ℕ, Bool, true, false, List, [], ◌∷◌, ◌++◌}
use Rattle.gp_base.specs.declared.fault.Fault.{Fault}
use Rattle.gp_base.specs.declared.feed.Inputs.{Inputs}
use Rattle.gp_base.specs.declared.limits.Limits.{Limits}
use Rattle.task_ast.specs.meaning.Tree.{Name, Program}
use Rattle.command_line.specs.declared.asked.Command.{Command}
use Rattle.command_line.specs.declared.asked.Command.TheVariants.{Run, Check, Soak, Ckpt, Log}
use Rattle.command_line.specs.declared.asked.Asked.{Asked}

-- the files of a shelf, each by its name
abbrev pub Files : Type 0
Files = List (Name × List ℕ)

-- what a call comes to, or a part of it, where what there may be to do is a value of T
pub data Case (T : Type 0) : Type 0 where
  -- refused with this status and this line, after these files were read
  Refused : (status : ℕ) → List Name → (line : List ℕ) → Case T
  -- this is to be done, after these files were read, in this order
  Go : List Name → T → Case T

-- after these files the next is not there; its line is due once a read of it failed
abbrev pub absent_case : {T : Type 0} → List Name → Name → Case T
absent_case names name = Refused 7 (names ++ name ∷ []) []

-- the same where this file is read before
abbrev pub after_file : {T : Type 0} → Name → Case T → Case T
after_file name (Refused status names line) = Refused status (name ∷ names) line
after_file name (Go names work) = Go (name ∷ names) work

-- What is to be done: a command on an accepted program, from these inputs, with these faults, under these limits, and
-- whether the run is traced.
pub record ToDo : Type 0 where
  pub command : Command
  pub program : Program
  pub inputs : Inputs
  pub faults : List Fault
  pub limits : Limits
  pub trace : Bool

-- the command runs its program, and does not only check it
abbrev pub runs : Command → Bool
runs Check = false
runs command = true

-- what is to be done for what is asked, on this program, from these inputs and with these faults
abbrev pub work_for : Asked → Program → Inputs → List Fault → ToDo
work_for asked program inputs faults = record {
  command = asked.command;
  program = program;
  inputs = inputs;
  faults = faults;
  limits = asked.limits;
  trace = asked.trace;
}

-- the command makes its files itself
abbrev pub makes_files : Command → Bool
makes_files (Soak soak) = true
makes_files command = false

-- the command runs its program over a journal
abbrev pub is_journalled : Command → Bool
is_journalled Run = true
is_journalled (Soak soak) = true
is_journalled (Ckpt every) = true
is_journalled Log = true
is_journalled command = false
