-- What the heads and the tasks of a program declare, by name.
use Rattle.std.specs.Prelude.{ℕ, ℤ, pos, negsuc, ◌+◌, Bool, cond, List, [], ◌∷◌, ◌++◌, Option, Some, None, nat_lt, bytes_eq, codes, option_map, position, find, unwrap_or, length}
use Rattle.std.specs.List.{list_any}
use Rattle.std.specs.Map.{lookup}
use Rattle.task_ast.specs.declared.tree.Head.{Head}
use Rattle.task_ast.specs.declared.tree.Head.TheVariants.{LockHead, BarrierHead, RecHead, FeedHead}
use Rattle.task_ast.specs.declared.tree.Param.{Param}
use Rattle.task_ast.specs.declared.tree.Param.TheVariants as param
use Rattle.task_ast.specs.declared.tree.VarLine.{VarLine}
use Rattle.task_ast.specs.meaning.Tree.{Name, TaskText, Program}

abbrev pub is_name : Name → Name → Bool
is_name = bytes_eq

abbrev pub is_among : Name → List Name → Bool
is_among x names = list_any (is_name x) names

-- a size as a number; a negative one counts as 0
abbrev pub natural : ℤ → ℕ
natural (pos n) = n
natural (negsuc n) = 0

-- the lock arrays in declared order, with their sizes
abbrev pub locks_of : List Head → List (Name × ℕ)
locks_of [] = []
locks_of (LockHead name size line ∷ heads) = (name, natural size) ∷ locks_of heads
locks_of (head ∷ heads) = locks_of heads

-- the records in declared order, with their sizes
abbrev pub records_of : List Head → List (Name × ℕ)
records_of [] = []
records_of (RecHead name size by from line ∷ heads) = (name, natural size) ∷ records_of heads
records_of (head ∷ heads) = records_of heads

-- the records, with the lock arrays that they stand under
abbrev pub arrays_over : List Head → List (Name × Name)
arrays_over [] = []
arrays_over (RecHead name size by from line ∷ heads) = (name, by) ∷ arrays_over heads
arrays_over (head ∷ heads) = arrays_over heads

-- the barriers in declared order, with their stated numbers
abbrev pub barriers_of : List Head → List (Name × ℕ)
barriers_of [] = []
barriers_of (BarrierHead name number line ∷ heads) = (name, natural number) ∷ barriers_of heads
barriers_of (head ∷ heads) = barriers_of heads

-- the feeds in declared order
abbrev pub feeds_of : List Head → List Name
feeds_of [] = []
feeds_of (FeedHead name fields from line ∷ heads) = name ∷ feeds_of heads
feeds_of (head ∷ heads) = feeds_of heads

abbrev pub head_name : Head → Name
head_name (LockHead name size line) = name
head_name (BarrierHead name number line) = name
head_name (RecHead name size by from line) = name
head_name (FeedHead name fields from line) = name

-- what stands beside a name
abbrev pub named : {T : Type 0} → Name → List (Name × T) → Option T
named x pairs = lookup (is_name x) pairs

-- the place of a name among these, or their number where it isn't there: so a write to a register that isn't there changes nothing
abbrev pub slot : List Name → Name → ℕ
slot names x = unwrap_or (position (is_name x) names) (length names)

-- the place of an index, where it is below the size
abbrev pub place : ℕ → ℤ → Option ℕ
place size (pos n) = cond (nat_lt n size) (Some n) None
place size (negsuc n) = None

-- the number of an array's cell among the cells of all arrays, in declared order
abbrev pub cell_number : List (Name × ℕ) → Name → ℤ → Option ℕ
cell_number [] name index = None
cell_number (array ∷ arrays) name index =
    cond (is_name name array.0) (place array.1 index) (option_map (λ n. array.1 + n) (cell_number arrays name index))

-- how many cells the arrays have
abbrev pub cells_in : List (Name × ℕ) → ℕ
cells_in [] = 0
cells_in (array ∷ arrays) = array.1 + cells_in arrays

-- the control variables among these
abbrev pub controls : List Param → List Name
controls [] = []
controls (param.Ctl x ∷ params) = x ∷ controls params
controls (param.Reg x ∷ params) = controls params

-- the data variables among these
abbrev pub datas : List Param → List Name
datas [] = []
datas (param.Ctl x ∷ params) = datas params
datas (param.Reg x ∷ params) = x ∷ datas params

abbrev pub declared_in : List VarLine → List Param
declared_in [] = []
declared_in (vars ∷ lines) = vars.names ++ declared_in lines

abbrev pub controls_of : TaskText → List Name
controls_of task = controls (task.params ++ declared_in task.vars)

abbrev pub ret : Name
ret = codes "ret"

-- the registers of a task: `$ret`, then its data variables in declared order
abbrev pub registers_of : TaskText → List Name
registers_of task = ret ∷ datas (task.params ++ declared_in task.vars)

abbrev pub is_task : Name → TaskText → Bool
is_task x task = is_name x task.name

-- the first task of this name, and its number in text order
abbrev pub task_named : Program → Name → Option TaskText
task_named program x = find (is_task x) program.tasks

abbrev pub task_number : Program → Name → Option ℕ
task_number program x = position (is_task x) program.tasks
