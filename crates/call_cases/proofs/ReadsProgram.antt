-- Where words are those of a command, the first file that is read is the program's.
use Rattle.std.proofs.Common.{ℕ, List, [], ◌∷◌, arith, refl, sym, subst}
use Rattle.std.specs.List.{Contains}
use Rattle.std.specs.declared.option.Option.{Option}
use Rattle.std.specs.declared.option.Option.TheVariants.{None, Some}
use Rattle.task_ast.specs.meaning.Tree.{Name, Program}
use Rattle.task_ast.specs.meaning.Check.{check_fault}
use Rattle.task_ast.specs.declared.check_kind.CheckKind.{CheckKind}
use Rattle.task_parser.specs.meaning.Spelling.{Meaning, Stands, LexFails, ParseFails}
use Rattle.call_cases.specs.meaning.Work.{Files, Case, Refused, Go, after_file}
use Rattle.call_cases.specs.meaning.Commands.{Asking}
use Rattle.call_cases.specs.meaning.Case.{IsCaseOf, no_program, of_text, IsCheckedCase, IsMeantCase, names_read}

pub first : (name : Name) (names : List Name) → Contains (name ∷ names) name
first name names = (0, omega arith, refl)

reads_supplied : {T : Type 0} (program : Name) (supplied : Case T) → Contains (names_read (after_file program supplied)) program
reads_supplied program (Go names work) = first program names
reads_supplied program (Refused status names line) = first program names

module _ {A T : Type 0} (asking : Asking A T) (files : Files) (asked : A) where
  abbrev Reads : Case T → Type 0
  Reads case = Contains (names_read case) (asking.program asked)

  reads_checked : (program : Program) (fault : Option (CheckKind × ℕ)) (case : Case T) → IsCheckedCase asking files asked program fault case
      → Reads case
  reads_checked program (Some fault) case is = subst Reads (sym is) (first (asking.program asked) [])
  reads_checked program None case (given, supplies, is) = subst Reads (sym is) (reads_supplied (asking.program asked) given)

  reads_meant : (meaning : Meaning) (case : Case T) → IsMeantCase asking files asked meaning case → Reads case
  reads_meant (LexFails fault) case is = subst Reads (sym is) (first (asking.program asked) [])
  reads_meant (ParseFails fault) case is = subst Reads (sym is) (first (asking.program asked) [])
  reads_meant (Stands program) case is = reads_checked program (check_fault program) case is

pub reads_program : {A T : Type 0} (asking : Asking A T) (files : Files) (asked : A) (case : Case T) → IsCaseOf asking asked files case
    → Contains (names_read case) (asking.program asked)
reads_program asking files asked case (no_program absent) = first (asking.program asked) []
reads_program asking files asked case (of_text meaning there means is) = reads_meant asking files asked meaning case is
