-- The boxes of a picture: one for each attempt of a subthread, with what became of it.
use Rattle.std.specs.Prelude.{ℕ, zero, suc, ℤ, ◌-◌, cond, ◌&&◌, nat_eq, nat_lt, if◌then◌else◌, Option, Some, None, List, [], ◌∷◌, ◌++◌, flat_map, codes, decimal}
use Rattle.std.specs.Fmt.{signed_decimal}
use Rattle.gp_base.specs.declared.journal.Restart.{Restart}
use Rattle.task_ast.specs.declared.sync.SyncOp.{SyncOp}
use Rattle.task_ast.specs.declared.sync.SyncOp.TheVariants as sync
use Rattle.task_ast.specs.declared.tree.Head.{Head}
use Rattle.task_ast.specs.meaning.Tree.{Name}
use Rattle.task_ast.specs.meaning.Names.{locks_of}
use Rattle.task_ast.specs.meaning.Plain.{Subthread}
use Rattle.dependence.specs.meaning.Restarts.{redoes}
use Rattle.gp_audit.specs.declared.line.TraceLine.{TraceLine}
use Rattle.gp_audit.specs.declared.line.TraceLine.TheVariants as line
use Rattle.run_views.specs.meaning.Order.{thread_text, order_line}
use Rattle.run_picture.specs.declared.attempts.Fate.{Fate}
use Rattle.run_picture.specs.declared.attempts.Fate.TheVariants.{Stays, Struck, Undone}
use Rattle.run_picture.specs.declared.elements.Element.{Element}
use Rattle.run_picture.specs.declared.told.Told.{Told}
use Rattle.run_picture.specs.declared.told.Told.TheVariants.{Untold, Taken, Stale, Unrun}

-- what is told of each attempt of each position
abbrev pub Tells : Type 0
Tells = (position attempt : ℕ) → Told

-- what is told of an attempt with this line of a trace, where the lines before it told this
abbrev pub told_by : (position attempt : ℕ) → Told → TraceLine → Told
told_by p attempt before (line.Take taken of applies) = cond (nat_eq taken p && nat_eq of attempt) (cond applies Taken Stale) before
told_by p attempt before line = before

-- the same with these lines
abbrev pub told_from : (position attempt : ℕ) → Told → List TraceLine → Told
told_from p attempt before [] = before
told_from p attempt before (line ∷ lines) = told_from p attempt (told_by p attempt before line) lines

-- what a trace tells of an attempt: its result was applied, or came after a restart that redid the attempt, or it was not run
abbrev pub told_of : Option (List TraceLine) → Tells
told_of None p attempt = Untold
told_of (Some lines) p attempt = told_from p attempt Unrun lines

-- the control variables of a thread, with their values
abbrev pub Values : Type 0
Values = List (Name × ℤ)

-- the index of a cell in its array, by its number among the cells of these arrays
abbrev pub index_in : List (Name × ℕ) → (cell : ℕ) → ℕ
index_in [] cell = cell
index_in (array ∷ arrays) cell = if nat_lt cell array.1 then cell else index_in arrays (cell - array.1)

-- how a subthread begins, in short: a letter, and the index of the lock in its array, or the number of the thread
abbrev pub mark : List Head → SyncOp → (child : Option ℕ) → List ℕ
mark heads sync.Start child = codes "S"
mark heads (sync.Lock lock) child = codes "L " ++ decimal (index_in (locks_of heads) lock)
mark heads (sync.Unlock lock) child = codes "U " ++ decimal (index_in (locks_of heads) lock)
mark heads (sync.Fork task arguments) child = codes "F " ++ thread_text child
mark heads (sync.Join thread) child = codes "J " ++ signed_decimal thread
mark heads (sync.Barrier barrier) child = codes "B"
mark heads (sync.Settle register control) child = codes "="
mark heads sync.End child = []
mark heads sync.BadIndex child = []
mark heads sync.Spent child = []

-- the class of an attempt by what became of it
abbrev pub fate_class : (attempt : ℕ) → Fate → List ℕ
fate_class attempt Stays = cond (nat_eq attempt 0) (codes "kept") (codes "again")
fate_class attempt (Struck number) = codes "struck"
fate_class attempt (Undone number) = codes "undone"

-- the class of one whose result came after the restart: one that was struck stays so
abbrev pub stale_class : Fate → List ℕ
stale_class Stays = codes "stale"
stale_class (Struck number) = codes "struck"
stale_class (Undone number) = codes "stale"

-- the class of an attempt by what became of it and what is told of it
abbrev pub class_of : (attempt : ℕ) → Fate → Told → List ℕ
class_of attempt fate Untold = fate_class attempt fate
class_of attempt fate Taken = fate_class attempt fate
class_of attempt fate Stale = stale_class fate
class_of attempt fate Unrun = codes "unrun"

-- what became of it, in words
abbrev pub fate_text : Fate → List ℕ
fate_text Stays = codes " kept"
fate_text (Struck number) = codes " struck by " ++ decimal number
fate_text (Undone number) = codes " undone by " ++ decimal number

-- what is told of it, in words
abbrev pub told_text : Told → List ℕ
told_text Untold = []
told_text Taken = []
told_text Stale = codes ", its result came after the restart"
told_text Unrun = codes ", not run"

-- control variables with their values: as `row = 2, who = 0`, in a line of its own, where there are some
abbrev pub value_text : Name × ℤ → List ℕ
value_text x = x.0 ++ codes " = " ++ signed_decimal x.1

abbrev pub values_line : Values → List ℕ
values_line [] = []
values_line (x ∷ values) = value_text x ++ flat_map (λ y. codes ", " ++ value_text y) values ++ codes "\n"

-- what the box of an attempt says when it is pointed at: the line of the subthread in the order, the control variables of its thread before
-- it, what became of the attempt, and what is told of it
unfoldable pub title : List Head → (position : ℕ) → Subthread → Values → (attempt : ℕ) → Fate → Told → List ℕ
title heads p s values attempt fate told =
    order_line heads p s ++ values_line values ++ codes "attempt " ++ decimal attempt ++ fate_text fate ++ told_text told

-- the box of an attempt of the subthread at a position
unfoldable pub attempt_box : List Head → (position : ℕ) → Subthread → Values → (attempt : ℕ) → Fate → Told → Element
attempt_box heads p s values attempt fate told =
    record {
      class = class_of attempt fate told;
      title = title heads p s values attempt fate told;
      words = mark heads s.begins.sync s.child;
    }

-- what becomes of an attempt that a restart of this number redoes
abbrev pub ended_by : (position number : ℕ) → Restart → Fate
ended_by p number r = cond (nat_eq r.struck p) (Struck number) (Undone number)

-- the boxes of a subthread from this attempt and the restart of this number on: one for each restart that redoes it, and one for the
-- attempt that stays
abbrev pub boxes : List Head → Tells → (position : ℕ) → Subthread → Values → (attempt number : ℕ) → List Restart → List Element
boxes heads tells p s values attempt number [] = attempt_box heads p s values attempt Stays (tells p attempt) ∷ []
boxes heads tells p s values attempt number (r ∷ later) =
    cond (redoes p r)
    (attempt_box heads p s values attempt (ended_by p number r) (tells p attempt) ∷ []
    ++ boxes heads tells p s values (suc attempt) (suc number) later)
    (boxes heads tells p s values attempt (suc number) later)
