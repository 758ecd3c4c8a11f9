-- What the words `run PROGRAM --faults LIST` come to, by the theorem of `run`, and an example of such a call.
use Rattle.std.specs.Prelude.{◌≡◌, ℕ, ◌==◌, Bool, false, List, [], ◌∷◌, Some, codes}
use Rattle.gp_base.specs.declared.fault.Fault.{Fault}
use Rattle.gp_base.specs.declared.feed.Inputs.{Inputs}
use Rattle.gp_base.specs.declared.limits.TheConstants.{DEFAULT_TURNS, DEFAULT_SUBTHREADS, DEFAULT_WORKERS}
use Rattle.task_ast.specs.meaning.Tree.{Name, Program}
use Rattle.command_line.specs.declared.asked.Asked.{Asked}
use Rattle.command_line.specs.declared.asked.Command.TheVariants.{Run}
use Rattle.command_line.specs.declared.asked.CrewKind.TheVariants.{Wave}
use Rattle.call_cases.specs.meaning.Headline.{Call}
use Rattle.call_cases.specs.meaning.PlainText.{plain_ran}
use Rattle.call_cases.specs.meaning.RunCommands.{end_status}
use Rattle.call_cases.specs.meaning.Work.{Files, work_for}
use Rattle.batch_calls.specs.meaning.RunTheorem.{published, IsBatch, Ends, RunsBatch}

-- the words `run PROGRAM --faults LIST`
abbrev pub run_words : (program list : Name) → List (List ℕ)
run_words program list = codes "run" ∷ program ∷ codes "--faults" ∷ list ∷ []

-- what they ask for
abbrev pub run_asked : (program list : Name) → Asked
run_asked program list = record {
  command = Run;
  program = program;
  faults = Some list;
  limits = record { turns = DEFAULT_TURNS; subthreads = DEFAULT_SUBTHREADS };
  crew = Wave;
  workers = DEFAULT_WORKERS;
  trace = false;
}

-- the name begins with `-` (45), as an option does
abbrev pub is_like_option : Name → Bool
is_like_option [] = false
is_like_option (byte ∷ rest) = byte == 45

-- A call of these words, over files in which they name a batch, publishes it and leaves no trace, or is stopped.
abbrev pub RunLaw : Type 0
RunLaw =
    (call : Call) (files : Files) (file list : Name) (program : Program) (inputs : Inputs) (faults : List Fault)
    → RunsBatch call → call.files ≡ Some files → call.words ≡ run_words file list → is_like_option file ≡ false → is_like_option list ≡ false
    → IsBatch (run_asked file list) files program inputs faults
    → let batch = work_for (run_asked file list) program inputs faults in
    Ends (published batch) (end_status (plain_ran batch).end) [] call

-- a program that prints 7, and a fault that strikes the first attempt of its one subthread
abbrev pub example_files : Files
example_files = (codes "seven.gp", codes "task main() { print 7; }") ∷ (codes "faults.csv", codes "0,0,0,1\n") ∷ []

-- what it publishes: the lines of its run without faults, and that the fault made it redo the subthread
abbrev pub example_text : List ℕ
example_text =
    codes "output\n7\nrecords\nrestarts\n1: front 1 struck 0 try 0 redo 0\ncounts\nsubthreads 1\nrestarts 1\nredone 1\nunused 0\n"

-- So a call of these words over these files publishes this text with status 0, or is stopped: the theorem says it of some call.
abbrev pub RunExample : Type 0
RunExample =
    (call : Call) → RunsBatch call → call.files ≡ Some example_files → call.words ≡ run_words (codes "seven.gp") (codes "faults.csv")
    → Ends example_text 0 [] call
