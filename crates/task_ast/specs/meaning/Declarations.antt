-- The check rules on names, counts and sizes.
use Rattle.std.specs.Prelude.{ℕ, ◌+◌, ◌==◌, Bool, true, false, not, ◌&&◌, ◌||◌, List, [], ◌∷◌, ◌++◌, map, length, is_none, is_some, nat_lt, codes}
use Rattle.std.specs.Option.{option_map_or}
use Rattle.gp_base.specs.declared.limits.TheConstants.{MOST_CELLS, MOST_THREADS, MOST_FIELDS, MOST_VARIABLES}
use Rattle.task_ast.specs.declared.check_kind.CheckKind.TheVariants.{UnknownName, DoubleName, WrongCount, SizesDiffer, TooMany}
use Rattle.task_ast.specs.declared.tree.Atom.{Atom}
use Rattle.task_ast.specs.declared.tree.Atom.TheVariants as atom
use Rattle.task_ast.specs.declared.tree.Head.{Head}
use Rattle.task_ast.specs.declared.tree.Head.TheVariants.{LockHead, BarrierHead, RecHead, FeedHead}
use Rattle.task_ast.specs.declared.tree.Param.{Param}
use Rattle.task_ast.specs.declared.tree.Param.TheVariants as param
use Rattle.task_ast.specs.declared.tree.VarLine.{VarLine}
use Rattle.task_ast.specs.meaning.Tree.{Name, Expr, Ctl, Reg, Rows, Cell, Neg, Not, Chain, Links, NoLinks, Link, TaskText, Program}
use Rattle.task_ast.specs.meaning.Names.{is_name, is_among, natural, named, locks_of, records_of, feeds_of, head_name, controls, datas, controls_of, registers_of, cells_in, ret, task_named}
use Rattle.task_ast.specs.meaning.Visit.{Visit, visit, fails_if}

-- the program, and the task whose statements are visited
pub record Scope : Type 0 where
  pub program : Program
  pub task : TaskText

abbrev pub is_control : Scope → Name → Bool
is_control s x = is_among x (controls_of s.task)

abbrev pub is_register : Scope → Name → Bool
is_register s x = is_among x (registers_of s.task)

abbrev pub is_feed : Scope → Name → Bool
is_feed s x = is_among x (feeds_of s.program.heads)

abbrev pub is_lock : Scope → Name → Bool
is_lock s x = is_some (named x (locks_of s.program.heads))

abbrev pub is_atom : Scope → Atom → Bool
is_atom s (atom.Num v) = true
is_atom s (atom.Var x) = is_control s x

abbrev mutual
  -- a part of the expression passes the test: itself, or what it is made of
  pub some_part : (Expr → Bool) → Expr → Bool
  some_part test (Cell f row field) = test (Cell f row field) || (some_part test row || some_part test field)
  some_part test (Neg e) = test (Neg e) || some_part test e
  some_part test (Not e) = test (Not e) || some_part test e
  some_part test (Chain e links) = test (Chain e links) || (some_part test e || some_member test links)
  some_part test e = test e

  pub some_member : (Expr → Bool) → Links → Bool
  some_member test NoLinks = false
  some_member test (Link op e links) = some_part test e || some_member test links

-- the name that stands here isn't declared as what its place needs
abbrev pub is_undeclared : Scope → Expr → Bool
is_undeclared s (Ctl x) = not (is_control s x)
is_undeclared s (Reg x) = not (is_register s x)
is_undeclared s (Rows f) = not (is_feed s f)
is_undeclared s (Cell f row field) = not (is_feed s f)
is_undeclared s e = false

-- a name in the expression isn't declared so
abbrev pub has_unknown : Scope → Expr → Bool
has_unknown s e = some_part (is_undeclared s) e

abbrev pub is_data_variable : Expr → Bool
is_data_variable (Reg x) = true
is_data_variable e = false

-- a data variable stands in the expression
abbrev pub has_data : Expr → Bool
has_data e = some_part is_data_variable e

-- a data variable stands in the row or the field of this cell
abbrev pub is_at_data : Expr → Bool
is_at_data (Cell f row field) = has_data row || has_data field
is_at_data e = false

-- a data variable stands in an index of a cell
abbrev pub has_data_index : Expr → Bool
has_data_index e = some_part is_at_data e

-- a control argument has data in it, or a data argument has data in an index
abbrev pub is_misplaced : Param × Expr → Bool
is_misplaced (param.Ctl x, e) = has_data e
is_misplaced (param.Reg x, e) = has_data_index e

abbrev pub head_line : Head → ℕ
head_line (LockHead name size line) = line
head_line (BarrierHead name number line) = line
head_line (RecHead name size by from line) = line
head_line (FeedHead name fields from line) = line

-- the size of an array or a record, the number of a barrier, the fields of a feed
abbrev pub count_of : Head → ℕ
count_of (LockHead name size line) = natural size
count_of (BarrierHead name number line) = natural number
count_of (RecHead name size by from line) = natural size
count_of (FeedHead name fields from line) = natural fields

-- a record's lock array isn't declared
abbrev pub lacks_array : List Head → Head → Bool
lacks_array heads (RecHead name size by from line) = is_none (named by (locks_of heads))
lacks_array heads head = false

-- a record's size isn't that of its lock array
abbrev pub sizes_differ : List Head → Head → Bool
sizes_differ heads (RecHead name size by from line) = option_map_or (λ other. not (natural size == other)) (named by (locks_of heads)) false
sizes_differ heads head = false

-- a limit is passed at this head, after those before it
abbrev pub passes_limit : List Head → Head → Bool
passes_limit before (LockHead name size line) = nat_lt MOST_CELLS (cells_in (locks_of before) + natural size)
passes_limit before (BarrierHead name number line) = nat_lt MOST_THREADS (natural number)
passes_limit before (RecHead name size by from line) = nat_lt MOST_CELLS (cells_in (records_of before) + natural size)
passes_limit before (FeedHead name fields from line) = nat_lt MOST_FIELDS (natural fields)

-- the visit of a head that has these before it
abbrev pub head_visit : Program → List Head → Head → Visit
head_visit program before head =
    visit (head_line head) (
    fails_if (lacks_array program.heads head) UnknownName
    ++ fails_if (is_among (head_name head) (map head_name before)) DoubleName
    ++ fails_if (count_of head == 0) WrongCount
    ++ fails_if (sizes_differ program.heads head) SizesDiffer
    ++ fails_if (passes_limit before head) TooMany)

abbrev pub head_visits : Program → List Head → List Head → List Visit
head_visits program before [] = []
head_visits program before (head ∷ heads) = head_visit program before head ∷ head_visits program (before ++ head ∷ []) heads

-- the name was declared before in its space
abbrev pub is_declared : List Param → Param → Bool
is_declared before (param.Ctl x) = is_among x (controls before)
is_declared before (param.Reg x) = is_among x (ret ∷ datas before)

-- one of the names was declared before it in its space
abbrev pub has_double : List Param → List Param → Bool
has_double before [] = false
has_double before (x ∷ names) = is_declared before x || has_double (before ++ x ∷ []) names

-- with `$ret` there are more variables than a task may have
abbrev pub are_many : List Param → Bool
are_many names = nat_lt MOST_VARIABLES (length names + 1)

-- the visits of a task's var lines, after these names
abbrev pub vars_visits : List Param → List VarLine → List Visit
vars_visits before [] = []
vars_visits before (vars ∷ lines) =
    visit vars.line (fails_if (has_double before vars.names) DoubleName ++ fails_if (are_many (before ++ vars.names)) TooMany)
    ∷ vars_visits (before ++ vars.names) lines

abbrev pub main : Name
main = codes "main"

abbrev pub has_params : List Param → Bool
has_params [] = false
has_params (x ∷ params) = true

-- the visit of a task's name and parameters, after these names of heads and tasks
abbrev pub task_visit : List Name → TaskText → Visit
task_visit before task =
    visit task.line (
    fails_if (is_among task.name before || has_double [] task.params) DoubleName
    ++ fails_if (is_name task.name main && has_params task.params) WrongCount
    ++ fails_if (are_many task.params) TooMany)

abbrev pub task_visits : List Name → List TaskText → List Visit
task_visits before [] = []
task_visits before (task ∷ tasks) =
    task_visit before task ∷ vars_visits task.params task.vars ++ task_visits (before ++ task.name ∷ []) tasks

-- there is a task `main`
abbrev pub main_visit : Program → Visit
main_visit program = visit 1 (fails_if (is_none (task_named program main)) UnknownName)
