-- The lines on the error stream, each but for the name of the program that writes it, with which it begins.
use Rattle.std.specs.Prelude.{ℕ, List, [], ◌++◌, codes, decimal}
use Rattle.task_ast.specs.meaning.Tree.{Name}
use Rattle.task_ast.specs.declared.check_kind.CheckKind.{CheckKind}
use Rattle.task_ast.specs.declared.check_kind.CheckKind.TheVariants as check
use Rattle.batch_files.specs.declared.fault.FileKind.{FileKind}
use Rattle.batch_files.specs.declared.fault.FileKind.TheVariants as file
use Rattle.task_parser.specs.declared.fault.LexFault.{LexFault}
use Rattle.task_parser.specs.declared.fault.LexFault.TheVariants as lex
use Rattle.task_parser.specs.declared.fault.ParseFault.{ParseFault}
use Rattle.task_parser.specs.declared.fault.ParseFault.TheVariants as parse
use Rattle.call_cases.specs.declared.lines.Tool.{Tool}
use Rattle.call_cases.specs.declared.lines.Tool.TheVariants.{Gprs, GprsView}

-- the name of a program
abbrev pub tool_name : Tool → List ℕ
tool_name Gprs = codes "gprs: "
tool_name GprsView = codes "gprs_view: "

-- a line that it writes
abbrev pub tool_line : Tool → (line : List ℕ) → List ℕ
tool_line tool line = tool_name tool ++ line

-- words of no command
abbrev pub usage_line : Tool → List ℕ
usage_line Gprs = codes "usage: run | one | check | soak\n"
usage_line GprsView = codes "usage: order | why | timeline | explain\n"

-- a file that could not be read
abbrev pub read_fault_line : Name → List ℕ
read_fault_line name = codes "read fault " ++ name ++ codes "\n"

-- memory ran out
abbrev pub out_of_memory_line : List ℕ
out_of_memory_line = codes "out of memory\n"

-- a write that failed
abbrev pub write_fault_line : List ℕ
write_fault_line = codes "write fault\n"

-- a fault by its kind, at a place of this sort, where the stage of reading comes to it
abbrev pub fault_line : (stage : List ℕ) → (kind : ℕ) → (place : List ℕ) → (at : ℕ) → List ℕ
fault_line stage kind place at =
    stage ++ codes " " ++ decimal kind ++ codes " at " ++ place ++ codes " " ++ decimal at ++ codes "\n"

-- a fault of lexing
abbrev pub lex_line : LexFault → List ℕ
lex_line (lex.BadByte at) = fault_line (codes "lex") 1 (codes "byte") at
lex_line (lex.NumberTooBig at) = fault_line (codes "lex") 2 (codes "byte") at
lex_line lex.TooLong = codes "lex 3\n"
lex_line lex.OutOfMemory = []

-- a fault of parsing
abbrev pub parse_line : ParseFault → List ℕ
parse_line (parse.Unexpected at) = fault_line (codes "parse") 1 (codes "byte") at
parse_line (parse.TooDeep at) = fault_line (codes "parse") 2 (codes "byte") at
parse_line parse.OutOfMemory = []

-- the number of a rule
abbrev pub rule_number : CheckKind → ℕ
rule_number check.UnknownName = 1
rule_number check.DoubleName = 2
rule_number check.WrongCount = 3
rule_number check.DataInControl = 4
rule_number check.NotHeld = 5
rule_number check.HeldTwice = 6
rule_number check.HeldAtEnd = 7
rule_number check.BranchesDiffer = 8
rule_number check.IndexChangedWhileHeld = 9
rule_number check.SizesDiffer = 10
rule_number check.TooMany = 11

-- a rule that a program breaks, at a line of its text
abbrev pub check_line : CheckKind → (line : ℕ) → List ℕ
check_line kind line = fault_line (codes "check") (rule_number kind) (codes "line") line

-- a file that is refused by a rule at a row
abbrev pub input_line : Name → (kind row : ℕ) → List ℕ
input_line name kind row = codes "input " ++ name ++ codes " kind " ++ decimal kind ++ codes " row " ++ decimal row ++ codes "\n"

-- the number of a rule of files
abbrev pub kind_number : FileKind → ℕ
kind_number file.Fields = 1
kind_number file.Number = 2
kind_number file.Range = 3
kind_number file.Twice = 4
kind_number file.TooMany = 5
