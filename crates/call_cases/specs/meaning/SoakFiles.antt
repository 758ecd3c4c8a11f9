-- The files of a call.
use Rattle.soak_batch.specs.meaning.Files.{soak_files}
use Rattle.command_line.specs.declared.asked.Command.{Command}
use Rattle.command_line.specs.declared.asked.Command.TheVariants.{Soak}
use Rattle.call_cases.specs.meaning.Work.{Files}

-- the files that a command is done over: those of the shelf, but for a batch that the program makes
abbrev pub files_of : Command → Files → Files
files_of (Soak batch) files = soak_files batch.moves batch.start
files_of command files = files
