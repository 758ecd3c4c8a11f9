-- Walks of a task from its beginning.
use Rattle.std.specs.Prelude.{◌≡◌, ◌<◌, ℕ, List, [], map, unwrap_or}
use Rattle.task_ast.specs.meaning.Effect.{Doing}
use Rattle.subthread.specs.declared.ground.Ground.{Ground}
use Rattle.subthread.specs.declared.ground.Cursor.{Cursor}
use Rattle.subthread.specs.declared.ground.Doing as code
use Rattle.subthread.specs.declared.task.Work.{Work}
use Rattle.subthread.specs.declared.task.Task.{Task}
use Rattle.subthread.specs.declared.task.Done.{Done}
use Rattle.subthread.specs.declared.cells.Change.{Change}
use Rattle.subthread.specs.declared.attempts.Walk.{Walk}
use Rattle.subthread.specs.declared.attempts.Left.{Left}
use Rattle.subthread.specs.declared.flaw.Flaw.{Flaw}
use Rattle.subthread.specs.declared.flaw.Made.{Made}
use Rattle.subthread.specs.Tasks.{under_of}
use Rattle.subthread.specs.meaning.Flaws.{Strikes}
use Rattle.subthread.specs.inner.Hand.{written_to}
use Rattle.subthread.specs.inner.Running.{doing_of, Holds}
use Rattle.subthread.specs.inner.Leaving.{Walked, EndsAs}

-- where a task stands before anything is done, and what it was given
abbrev pub cursor_at : Task → Cursor
cursor_at task = record { pc = task.at.pc; ctl = task.ctl }

abbrev pub before_all : Task → Doing
before_all task = record { registers = task.given.regs; child = []; written = []; lines = [] }

-- the walk of a task came to the end of its body, and has its cells at hand
pub record IsWalk (work : Work) (task : Task) (ground : Ground) (walk : Walk) : Type 0 where
  pub walked : Walked work task (walk.next, walk.foot) (cursor_at task) (before_all task) walk.cursor (doing_of walk.doing)
  pub holds : Holds ground walk.doing

-- a walk came to where another one did, of which this was kept: in as many steps, by the same locations
pub record IsSameControl (walk : Walk) (left : Left) : Type 0 where
  pub steps : walk.doing.steps ≡ left.steps
  pub cursor : walk.cursor ≡ left.cursor
  pub next : walk.next ≡ left.next
  pub foot : walk.foot ≡ left.foot

-- it left the same registers and lines
pub record IsSameData (doing : code.Doing) (left : Left) : Type 0 where
  pub regs : doing.regs ≡ left.regs
  pub child : doing.child ≡ left.child
  pub lines : doing.lines ≡ left.lines

-- a walk that made these changes left what was kept of another one (any two, also such as no task has)
pub record IsSame (changes : List Change) (walk : Walk) (left : Left) : Type 0 where
  pub control : IsSameControl walk left
  pub effect : IsSameData walk.doing left
  pub cells : changes ≡ left.changes.items

-- what a walk comes to, and what is kept of it
abbrev pub made_of : Walk → Made
made_of walk =
    record {
      pc = walk.cursor.pc;
      ctl = walk.cursor.ctl;
      regs = walk.doing.regs;
      child = walk.doing.child;
      writes = walk.doing.cells.written;
      lines = walk.doing.lines;
      next = walk.next;
      foot = walk.foot;
    }

abbrev pub made_in : Left → Made
made_in left =
    record {
      pc = left.cursor.pc;
      ctl = left.cursor.ctl;
      regs = left.regs;
      child = left.child;
      writes = map written_to left.changes.items;
      lines = left.lines;
      next = left.next;
      foot = left.foot;
    }

-- what the walks of a task come to on a machine that doesn't err
abbrev pub IsRight : Work → Task → Made → Type 0
IsRight work task made =
    Walked work task (made.next, made.foot) (cursor_at task) (before_all task) (record { pc = made.pc; ctl = made.ctl })
    (record { registers = made.regs; child = made.child; written = made.writes; lines = made.lines })

-- the flaws of the machine by which the walks of a work err; where they are made once, there are none
abbrev pub flaws_of : Work → List Flaw
flaws_of work = unwrap_or work.recheck []

-- what the walk of this number comes to: what a flaw of the machine makes of it, or where none strikes it, what is right
pub data Makes (work : Work) (task : Task) (walk : ℕ) (made : Made) : Type 0 where
  erring : Strikes (flaws_of work) task.pos task.attempt walk made → Makes work task walk made
  right : ((other : Made) → Strikes (flaws_of work) task.pos task.attempt walk other → ⊥) → IsRight work task made → Makes work task walk made

-- two of its three walks come to this
pub record IsAgreed (work : Work) (task : Task) (made : Made) : Type 0 where
  pub one : ℕ
  pub other : ℕ
  pub apart : one < other
  pub among : other < 3
  pub of_one : Makes work task one made
  pub of_other : Makes work task other made

-- what the run of a task leaves is what two of its walks come to
pub record Agrees (work : Work) (task : Task) (done : Done) : Type 0 where
  pub made : Made
  pub agreed : IsAgreed work task made
  pub ends : EndsAs (under_of work) task.given.bundles task (record { pc = made.pc; ctl = made.ctl }) made.next made.foot
      (record { registers = made.regs; child = made.child; written = made.writes; lines = made.lines }) done
