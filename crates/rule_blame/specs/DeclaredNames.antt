-- What is declared in one space of names, each with its line.
use Rattle.std.specs.Prelude.{◌≡◌, ℕ, Bool, true, false, List, [], ◌∷◌, ◌++◌, Contains, map}
use Rattle.task_ast.specs.declared.tree.Head.{Head}
use Rattle.task_ast.specs.declared.tree.Param.{Param}
use Rattle.task_ast.specs.declared.tree.Param.TheVariants as param
use Rattle.task_ast.specs.declared.tree.VarLine.{VarLine}
use Rattle.task_ast.specs.meaning.Tree.{Name, TaskText, Program}
use Rattle.task_ast.specs.meaning.Names.{head_name}
use Rattle.task_ast.specs.meaning.Declarations.{head_line}

abbrev pub Entry : Type 0
Entry = Name × ℕ

-- the heads and the tasks of a program
abbrev pub globals : Program → List Entry
globals program = map (λ (h : Head). (head_name h, head_line h)) program.heads ++ map (λ (t : TaskText). (t.name, t.line)) program.tasks

-- the dollar variables among these, or the control variables
abbrev pub entries_of : (dollar : Bool) (line : ℕ) → List Param → List Entry
entries_of dollar line [] = []
entries_of true line (param.Reg x ∷ params) = (x, line) ∷ entries_of true line params
entries_of false line (param.Ctl x ∷ params) = (x, line) ∷ entries_of false line params
entries_of dollar line (p ∷ params) = entries_of dollar line params

abbrev pub line_entries : (dollar : Bool) → List VarLine → List Entry
line_entries dollar [] = []
line_entries dollar (vars ∷ lines) = entries_of dollar vars.line vars.names ++ line_entries dollar lines

-- the variables of a task, but for `$ret`
abbrev pub variables : (dollar : Bool) → TaskText → List Entry
variables dollar task = entries_of dollar task.line task.params ++ line_entries dollar task.vars

-- the name is declared in a line, and was before in another
pub record IsTwice (entries : List Entry) (name : Name) (first line : ℕ) : Type 0 where
  pub before : List Entry
  pub after : List Entry
  pub parts : entries ≡ before ++ (name, line) ∷ after
  pub earlier : Contains before (name, first)
