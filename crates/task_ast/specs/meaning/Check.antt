-- Which programs are accepted, and which fault is answered.
use Rattle.std.specs.Prelude.{ℕ, Bool, false, not, ◌||◌, List, [], ◌∷◌, ◌++◌, map, Option, is_none, length, zip, ◌==◌}
use Rattle.std.specs.Option.{option_map_or}
use Rattle.std.specs.List.{list_any}
use Rattle.task_ast.specs.declared.check_kind.CheckKind.{CheckKind}
use Rattle.task_ast.specs.declared.check_kind.CheckKind.TheVariants.{UnknownName, WrongCount, DataInControl, NotHeld, HeldTwice, HeldAtEnd, BranchesDiffer, IndexChangedWhileHeld}
use Rattle.task_ast.specs.meaning.Tree.{Name, Stmt, At, What, SetCtl, While, If, Lock, Unlock, Fork, Join, Barrier, Settle, SetReg, Read, Write, Print, When, Block, Nothing, Then, TaskText, Program}
use Rattle.task_ast.specs.meaning.Names.{named, arrays_over, barriers_of, head_name, task_named}
use Rattle.task_ast.specs.meaning.Visit.{Visit, visit, fails_if, first_fault}
use Rattle.task_ast.specs.meaning.Declarations.{Scope, is_control, is_register, is_lock, is_atom, has_unknown, has_data, has_data_index, is_misplaced, head_visits, task_visits, main_visit}
use Rattle.task_ast.specs.meaning.Held.{Pair, has, same_pairs, is_index, held_after, held_at_end}

-- the lock array that a record stands under
abbrev pub array_over : Scope → Name → Option Name
array_over s r = named r (arrays_over s.program.heads)

abbrev pub is_barrier : Scope → Name → Bool
is_barrier s b = not (is_none (named b (barriers_of s.program.heads)))

module _ (s : Scope) where
  -- the rules that fail at a statement's beginning
  abbrev pub fails_at : What → List Pair → List CheckKind
  fails_at (SetCtl x e) held =
      fails_if (not (is_control s x) || has_unknown s e) UnknownName
      ++ fails_if (has_data e) DataInControl
      ++ fails_if (list_any (is_index x) held) IndexChangedWhileHeld
  fails_at (While e b) held = fails_if (has_unknown s e) UnknownName ++ fails_if (has_data e) DataInControl
  fails_at (If e a b) held = fails_if (has_unknown s e) UnknownName ++ fails_if (has_data e) DataInControl
  fails_at (Lock a i) held = fails_if (not (is_lock s a) || not (is_atom s i)) UnknownName ++ fails_if (has held (a, i)) HeldTwice
  fails_at (Unlock a i) held = fails_if (not (is_lock s a) || not (is_atom s i)) UnknownName ++ fails_if (not (has held (a, i))) NotHeld
  fails_at (Fork t es x) held =
      fails_if (is_none (task_named s.program t) || (list_any (has_unknown s) es || option_map_or (λ y. not (is_control s y)) x false)) UnknownName
      ++ fails_if (option_map_or (λ task. not (length task.params == length es)) (task_named s.program t) false) WrongCount
      ++ fails_if (option_map_or (λ task. list_any is_misplaced (zip task.params es)) (task_named s.program t) false) DataInControl
      ++ fails_if (option_map_or (λ y. list_any (is_index y) held) x false) IndexChangedWhileHeld
  fails_at (Join e x) held = fails_if (has_unknown s e || option_map_or (λ y. not (is_register s y)) x false) UnknownName ++ fails_if (has_data e) DataInControl
  fails_at (Barrier b) held = fails_if (not (is_barrier s b)) UnknownName
  fails_at (Settle x c) held =
      fails_if (not (is_register s x) || not (is_control s c)) UnknownName ++ fails_if (list_any (is_index c) held) IndexChangedWhileHeld
  fails_at (SetReg x e) held = fails_if (not (is_register s x) || has_unknown s e) UnknownName ++ fails_if (has_data_index e) DataInControl
  fails_at (Read r i x) held =
      fails_if (is_none (array_over s r) || (not (is_atom s i) || not (is_register s x))) UnknownName
      ++ fails_if (option_map_or (λ a. not (has held (a, i))) (array_over s r) false) NotHeld
  fails_at (Write r i e) held =
      fails_if (is_none (array_over s r) || (not (is_atom s i) || has_unknown s e)) UnknownName
      ++ fails_if (has_data_index e) DataInControl
      ++ fails_if (option_map_or (λ a. not (has held (a, i))) (array_over s r) false) NotHeld
  fails_at (Print es) held = fails_if (list_any (has_unknown s) es) UnknownName ++ fails_if (list_any has_data_index es) DataInControl
  fails_at (When e a b) held = fails_if (has_unknown s e) UnknownName ++ fails_if (has_data_index e) DataInControl

  -- the rules that fail at a statement's end
  abbrev pub fails_after : What → List Pair → List CheckKind
  fails_after (While e b) held = fails_if (not (same_pairs (held_at_end b held) held)) BranchesDiffer
  fails_after (If e a b) held = fails_if (not (same_pairs (held_at_end a held) (held_at_end b held))) BranchesDiffer
  fails_after _ held = []

  abbrev mutual
    -- the visits of a statement, from the pairs held before it
    pub visits_of : Stmt → List Pair → List Visit
    visits_of (At line w) held = visit line (fails_at w held) ∷ visits_inside w held ++ visit line (fails_after w held) ∷ []

    pub visits_inside : What → List Pair → List Visit
    visits_inside (While e b) held = visits_in b held
    visits_inside (If e a b) held = visits_in a held ++ visits_in b held
    visits_inside (When e a b) held = visits_in a held ++ visits_in b held
    visits_inside _ held = []

    pub visits_in : Block → List Pair → List Visit
    visits_in Nothing held = []
    visits_in (Then st b) held = visits_of st held ++ visits_in b (held_after st held)

-- something is held at the end of a task's body
abbrev pub held_fails : List Pair → List CheckKind
held_fails [] = []
held_fails (p ∷ held) = HeldAtEnd ∷ []

-- the visits of a task's body
abbrev pub body_visits : Program → TaskText → List Visit
body_visits program task =
    visits_in (record { program = program; task = task }) task.body [] ++ visit task.line (held_fails (held_at_end task.body [])) ∷ []

abbrev pub bodies_visits : Program → List TaskText → List Visit
bodies_visits program [] = []
bodies_visits program (task ∷ tasks) = body_visits program task ++ bodies_visits program tasks

-- all visits: the heads, the head of each task, the task `main`, the bodies
abbrev pub program_visits : Program → List Visit
program_visits program =
    head_visits program [] program.heads
    ++ task_visits (map head_name program.heads) program.tasks
    ++ main_visit program ∷ bodies_visits program program.tasks

-- the first fault of a program
abbrev pub check_fault : Program → Option (CheckKind × ℕ)
check_fault program = first_fault (program_visits program)
