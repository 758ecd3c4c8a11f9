-- What a thread's actions do to the data at hand.
use Rattle.std.specs.Prelude.{◌≡◌, zero, suc, ℤ, pos, negsuc, List, [], ◌∷◌, ◌++◌, map, replicate, slice_set, Option, Some}
use Rattle.task_ast.specs.declared.env.Env.{Env}
use Rattle.task_ast.specs.meaning.Action.{Action, Set, Load, Store, Say, Choose, Child, Give, Bring, Arm, NoAction, OneAction}
use Rattle.task_ast.specs.meaning.State.{number_at}
use Rattle.task_ast.specs.meaning.Footprint.{Named, naming, arm_naming}
use Rattle.task_ast.specs.meaning.Control.{Setting}
use Rattle.task_ast.specs.View.{plain_program}
use Rattle.task_ast.specs.declared.tree.Program.{Program}
use Rattle.one_thread.specs.declared.data.Data.{Data}

-- the first unless the value is 0
abbrev pub first_unless : ℤ → Data → Data → Data
first_unless (pos zero) first second = second
first_unless (pos (suc n)) first second = first
first_unless (negsuc n) first second = first

-- where `$ret` of the thread that is joined has this value
module _ (joined : ℤ) where
  abbrev mutual
    -- the data after one action
    pub worked : Action → Data → Data
    worked (Set k t) d = record d { registers = slice_set d.registers k (t d.registers) }
    worked (Load c k) d = record d { registers = slice_set d.registers k (number_at d.cells c) }
    worked (Store c t) d = record d { cells = slice_set d.cells c (t d.registers) }
    worked (Say ts) d = record d { lines = d.lines ++ map (λ t. t d.registers) ts ∷ [] }
    worked (Choose t a b) d = first_unless (t d.registers) (arm_worked a d) (arm_worked b d)
    worked (Child count) d = record d { child = replicate count (pos 0) }
    worked (Give k t) d = record d { child = slice_set d.child k (t d.registers) }
    worked (Bring k) d = record d { registers = slice_set d.registers k joined }

    -- after the actions of an arm, in order
    pub arm_worked : Arm → Data → Data
    arm_worked NoAction d = d
    arm_worked (OneAction a arm) d = arm_worked arm (worked a d)

  -- the data after one action of a subthread, with the record cells that it names
  abbrev pub recorded : Action → Data → Data
  recorded a d = record (worked a d) { named = naming a d.named }

  -- after these actions, in order
  abbrev pub all_worked : List Action → Data → Data
  all_worked [] d = d
  all_worked (a ∷ actions) d = all_worked actions (recorded a d)

-- the program and the feeds under which expressions are read
abbrev pub setting_in : Program → Env → Setting
setting_in program env = record { program = plain_program program; feeds = env.feeds }

-- what an action that is resolved does
abbrev pub Works : Option Action → Data → Data → Type 0
Works o old new = (joined : ℤ) (a : Action) → o ≡ Some a → new ≡ worked joined a old

-- what the actions of a block that are resolved do
abbrev pub ArmWorks : Option Arm → Data → Data → Type 0
ArmWorks o old new = (joined : ℤ) (arm : Arm) → o ≡ Some arm → new ≡ arm_worked joined arm old

-- the record cells that an action which is resolved names are recorded
abbrev pub Notes : Option Action → Named → Named → Type 0
Notes o old new = (a : Action) → o ≡ Some a → new ≡ naming a old

-- those that the actions of a block which are resolved name
abbrev pub ArmNotes : Option Arm → Named → Named → Type 0
ArmNotes o old new = (arm : Arm) → o ≡ Some arm → new ≡ arm_naming arm old
