-- What a blame says of a line of a program.
use Rattle.std.specs.Prelude.{◌≡◌, ◌≢◌, ◌<◌, ◌+◌, ℕ, Bool, true, false, not, List, [], ◌∷◌, ◌++◌, Contains, None, Some, length, take}
use Rattle.gp_base.specs.declared.limits.TheConstants.{MOST_CELLS, MOST_THREADS, MOST_FIELDS, MOST_VARIABLES}
use Rattle.task_ast.specs.declared.tree.Atom.{Atom}
use Rattle.task_ast.specs.declared.tree.Head.{Head}
use Rattle.task_ast.specs.declared.tree.Head.TheVariants.{LockHead, BarrierHead, RecHead, FeedHead}
use Rattle.task_ast.specs.meaning.Tree.{Name, What, SetCtl, While, If, Lock, Unlock, Fork, Settle, Read, Write, TaskText, Program}
use Rattle.task_ast.specs.meaning.Names.{natural, named, is_name, is_among, ret, locks_of, records_of, cells_in, head_name, datas, declared_in, task_named}
use Rattle.task_ast.specs.meaning.Declarations.{Scope, head_line, count_of, main, has_params}
use Rattle.task_ast.specs.meaning.Check.{array_over}
use Rattle.task_ast.specs.meaning.Held.{Pair, has, is_index, held_at_end}
use Rattle.rule_blame.specs.declared.uses.Role.{Role}
use Rattle.rule_blame.specs.declared.uses.Role.TheVariants as role
use Rattle.rule_blame.specs.declared.blames.Many.{Many}
use Rattle.rule_blame.specs.declared.blames.Many.TheVariants as many
use Rattle.rule_blame.specs.declared.blames.Blame.{Blame}
use Rattle.rule_blame.specs.declared.blames.Blame.TheVariants as blame
use Rattle.rule_blame.specs.declared.held.Taken.{Taken}
use Rattle.rule_blame.specs.Uses.{names_in, is_declared}
use Rattle.rule_blame.specs.Points.{Point, points_in}
use Rattle.rule_blame.specs.DeclaredNames.{globals, variables, IsTwice}

abbrev pub lock_of : Taken → Pair
lock_of taken = (taken.array.now, taken.index.now)

-- ---- what is said of a statement

abbrev pub MisCounts : Scope → What → Name → (takes gets : ℕ) → Type 0
MisCounts s (Fork t es x) task takes gets =
    (callee : TaskText) × (t ≡ task) × (task_named s.program t ≡ Some callee) × (takes ≡ length callee.params) × (gets ≡ length es) × (takes ≢ gets)
MisCounts s what task takes gets = ⊥

abbrev pub Touches : What → Name → Atom → Type 0
Touches (Read r i x) cells index = (r ≡ cells) × (i ≡ index)
Touches (Write r i e) cells index = (r ≡ cells) × (i ≡ index)
Touches what cells index = ⊥

abbrev pub Sets : What → Name → Type 0
Sets (SetCtl x e) name = x ≡ name
Sets (Fork t es (Some x)) name = x ≡ name
Sets (Settle x c) name = c ≡ name
Sets what name = ⊥

-- the pair is among the one and not among the other; or the other way round, where it isn't so of the first
abbrev pub IsApart : (one other : List Pair) → Pair → (first : Bool) → Type 0
IsApart one other pair first = (has one pair ≡ first) × (has other pair ≡ not first)

abbrev pub EndsApart : What → List Pair → Pair → Bool → Type 0
EndsApart (If e a b) held pair first = IsApart (held_at_end a held) (held_at_end b held) pair first
EndsApart what held pair first = ⊥

abbrev pub TurnsApart : What → List Pair → Pair → Bool → Type 0
TurnsApart (While e b) held pair before = IsApart held (held_at_end b held) pair before
TurnsApart what held pair before = ⊥

-- the use of the name stands among those of the statement
abbrev pub IsUsed : Scope → What → Role → Name → Bool → Type 0
IsUsed s what role name decides = Contains (names_in s.program what) (record { role = role; name = name; decides = decides })

abbrev pub IsTrueOf : Scope → Point → Blame → Type 0
IsTrueOf s p (blame.Unknown role name task) =
    (decides : Bool) × IsUsed s p.what role name.now decides × (is_declared s role name.now ≡ false) × (task.now ≡ s.task.name)
IsTrueOf s p (blame.Counts task takes gets) = MisCounts s p.what task.now takes gets
IsTrueOf s p (blame.Data name) = IsUsed s p.what role.Data name.now true
IsTrueOf s p (blame.Unguarded cells index array) =
    Touches p.what cells.now index.now × (array_over s cells.now ≡ Some array.now) × (has p.held (array.now, index.now) ≡ false)
IsTrueOf s p (blame.NotTaken array index) = (p.what ≡ Unlock array.now index.now) × (has p.held (array.now, index.now) ≡ false)
IsTrueOf s p (blame.TakenTwice taken) = (p.what ≡ Lock taken.array.now taken.index.now) × (has p.held (lock_of taken) ≡ true)
IsTrueOf s p (blame.OneBranch taken first) = EndsApart p.what p.held (lock_of taken) first
IsTrueOf s p (blame.OneTurn taken before) = TurnsApart p.what p.held (lock_of taken) before
IsTrueOf s p (blame.IndexSet name taken) =
    Sets p.what name.now × (has p.held (lock_of taken) ≡ true) × (is_index name.now (lock_of taken) ≡ true)
IsTrueOf s p other = ⊥

-- it is true of a statement in the line
pub record AtStatement (program : Program) (line : ℕ) (told : Blame) : Type 0 where
  pub task : TaskText
  pub among : Contains program.tasks task
  pub point : Point
  pub stands : Contains (points_in task.body []) point
  pub in_line : point.line ≡ line
  pub is : IsTrueOf (record { program = program; task = task }) point told

-- ---- what is said of a head

pub record AtHead (program : Program) (line : ℕ) (P : Head → Type 0) : Type 0 where
  pub head : Head
  pub among : Contains program.heads head
  pub in_line : head_line head ≡ line
  pub is : P head

abbrev pub StandsUnder : Head → (cells : Name) (size : ℕ) (array : Name) → Type 0
StandsUnder (RecHead name number by from line) cells size array = (name ≡ cells) × (natural number ≡ size) × (by ≡ array)
StandsUnder head cells size array = ⊥

abbrev pub NeedsArray : List Head → Name → Head → Type 0
NeedsArray heads array (RecHead name number by from line) = (by ≡ array) × (named by (locks_of heads) ≡ None)
NeedsArray heads array head = ⊥

abbrev pub many_of : Head → Many
many_of (LockHead name size line) = many.LockCells
many_of (BarrierHead name number line) = many.Threads
many_of (RecHead name size by from line) = many.RecordCells
many_of (FeedHead name fields from line) = many.Fields

-- how many there may be of that
abbrev pub limit_of : Head → ℕ
limit_of (LockHead name size line) = MOST_CELLS
limit_of (BarrierHead name number line) = MOST_THREADS
limit_of (RecHead name size by from line) = MOST_CELLS
limit_of (FeedHead name fields from line) = MOST_FIELDS

-- how many there are with a head, after those before it
abbrev pub count_with : List Head → Head → ℕ
count_with before (LockHead name size line) = cells_in (locks_of before) + natural size
count_with before (BarrierHead name number line) = natural number
count_with before (RecHead name size by from line) = cells_in (records_of before) + natural size
count_with before (FeedHead name fields from line) = natural fields

-- a head passes the limit of what it has
pub record HeadPasses (program : Program) (line : ℕ) (what : Many) (name : Name) (count : ℕ) : Type 0 where
  pub before : List Head
  pub head : Head
  pub after : List Head
  pub parts : program.heads ≡ before ++ head ∷ after
  pub in_line : head_line head ≡ line
  pub named_so : head_name head ≡ name
  pub of_that : many_of head ≡ what
  pub counted : count_with before head ≡ count
  pub passes : limit_of head < count

-- ---- what is said of a task

pub record AtTask (program : Program) (P : TaskText → Type 0) : Type 0 where
  pub task : TaskText
  pub among : Contains program.tasks task
  pub is : P task

abbrev pub TakesSome : (line : ℕ) → TaskText → Type 0
TakesSome line task = (task.line ≡ line) × (is_name task.name main ≡ true) × (has_params task.params ≡ true)

abbrev pub Keeps : (line : ℕ) → Pair → Name → TaskText → Type 0
Keeps line pair name task = (task.line ≡ line) × (task.name ≡ name) × (has (held_at_end task.body []) pair ≡ true)

abbrev pub HasReturn : TaskText → Type 0
HasReturn task = is_among ret (datas (task.params ++ declared_in task.vars)) ≡ true

-- the variables up to one of the lines of a task, with `$ret`
abbrev pub HasVariables : Name → (count : ℕ) → TaskText → Type 0
HasVariables name count task =
    (lines : ℕ) × (task.name ≡ name) × (length (task.params ++ declared_in (take lines task.vars)) + 1 ≡ count) × (MOST_VARIABLES < count)

-- ---- what is said of a line

abbrev pub IsManyTrue : Program → (line : ℕ) → Many → Name → (count : ℕ) → Type 0
IsManyTrue program line many.Variables name count = AtTask program (HasVariables name count)
IsManyTrue program line what name count = HeadPasses program line what name count

abbrev pub IsTrue : Program → (line : ℕ) → Blame → Type 0
IsTrue program line blame.NoMain = task_named program main ≡ None
IsTrue program line (blame.NoArray array) = AtHead program line (NeedsArray program.heads array.now)
IsTrue program line (blame.Twice name first) = IsTwice (globals program) name.now first line
IsTrue program line (blame.VariableTwice dollar name first) = AtTask program (λ task. IsTwice (variables dollar task) name.now first line)
IsTrue program line blame.Return = AtTask program HasReturn
IsTrue program line (blame.NoSize name) = AtHead program line (λ head. (head_name head ≡ name.now) × (count_of head ≡ 0))
IsTrue program line blame.MainTakes = AtTask program (TakesSome line)
IsTrue program line (blame.KeptAtEnd taken task) = AtTask program (Keeps line (lock_of taken) task.now)
IsTrue program line (blame.Sizes cells size array other) =
    AtHead program line (λ head. StandsUnder head cells.now size array.now) × (named array.now (locks_of program.heads) ≡ Some other) × (size ≢ other)
IsTrue program line (blame.TooMany what name count) = IsManyTrue program line what name.now count
IsTrue program line told = AtStatement program line told
