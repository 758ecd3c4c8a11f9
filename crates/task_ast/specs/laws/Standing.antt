-- How a thread table that knows less stands to the plain run, and what its turns tell.
use Rattle.std.specs.Prelude.{◌≡◌, ℕ, suc, ◌<◌, ◌≤◌, length, Option, Some, None, slice_get}
use Rattle.gp_base.specs.declared.limits.Limits.{Limits}
use Rattle.gp_base.specs.declared.feed.Inputs.{Inputs}
use Rattle.gp_base.specs.declared.ending.End.{End}
use Rattle.task_ast.specs.declared.sync.Next.{Next}
use Rattle.task_ast.specs.meaning.Tree.{Program}
use Rattle.task_ast.specs.meaning.Repeat.{Again, More, Done}
use Rattle.task_ast.specs.Table.{Table, next_of, last_in, learning, owned}
use Rattle.task_ast.specs.Turn.{Turn, Issue, Needs, Ended, turn, next_issue}
use Rattle.task_ast.specs.Reached.{Reached}
use Rattle.task_ast.specs.laws.Less.{KnowsLess, IssuesAlike}
use Rattle.task_ast.specs.meaning.Plain.{Subthread}
use Rattle.task_ast.specs.Plain.{Machine, before_by, order_by, end_by, tree_machine, order}
use Rattle.task_ast.specs.meaning.Position.{last_below}
use Rattle.task_ast.specs.Position.{before, LeftBy, body_at}

-- the tables that passes lead to
pub data PassesTo (start : Table) : Table → Type 0 where
  at_once : PassesTo start start
  by_turn : {table after : Table} → PassesTo start table → turn table ≡ More after → PassesTo start after

module _ {P : Type 0} (machine : Machine P) (program : Program) (inputs : Inputs) (limits : Limits) where
  -- so many subthreads were issued, and the table is that of the run after some passes, of which less is known
  pub record StandsBy (p : ℕ) (table : Table) : Type 0 where
    pub whole : Table
    pub passed : PassesTo (before_by machine program inputs limits p).table whole
    pub less : KnowsLess table whole
    pub reached : Reached table
    pub within : p ≤ length (order_by machine program inputs limits)

  -- the subthread at p is the one that the turn of this table issues
  pub record IsIssuedBy (p : ℕ) (table : Table) (t : ℕ) (next : Next) (child : Option ℕ) (after : Table) : Type 0 where
    pub subthread : Subthread
    pub position : slice_get (order_by machine program inputs limits) p ≡ Some subthread
    pub thread : subthread.thread ≡ t
    pub begins : subthread.begins ≡ next
    pub child_is : subthread.child ≡ child
    pub held : subthread.held ≡ owned after t
    pub stands : StandsBy (suc p) after

  -- what a turn tells of the run
  pub data TurnTellsBy (p : ℕ) (table : Table) : Again Table Turn → Type 0 where
    passes : {after : Table} → StandsBy p after → TurnTellsBy p table (More after)
    issues : {t : ℕ} {next : Next} {child : Option ℕ} {after : Table} → IsIssuedBy p table t next child after
        → TurnTellsBy p table (Done (Issue t next child after))
    needs : {t : ℕ} → t < length table.seats → next_of table t ≡ None → TurnTellsBy p table (Done (Needs t))
    ends : {ending : End} → p ≡ length (order_by machine program inputs limits) → end_by machine program inputs limits ≡ ending
        → TurnTellsBy p table (Done (Ended ending))

  -- what a table that stands so has of the run's own
  pub record AgreesBy (p : ℕ) (table : Table) : Type 0 where
    pub limit : table.limit ≡ limits.subthreads
    pub issued : table.issued ≡ p
    pub threads : length table.seats ≡ length (before_by machine program inputs limits p).table.seats
    pub owners : table.owners ≡ (before_by machine program inputs limits p).table.owners
    pub lasts : (t : ℕ) → last_below (order_by machine program inputs limits) t p ≡ last_in table t
    pub left : (t q : ℕ) → last_in table t ≡ Some q → LeftBy machine program inputs limits (before_by machine program inputs limits p) t q

module _ (program : Program) (inputs : Inputs) (limits : Limits) where
  -- the same of the run on the tree
  abbrev pub Stands : (position : ℕ) → Table → Type 0
  Stands p table = StandsBy (tree_machine program inputs limits) program inputs limits p table

  abbrev pub TurnTells : (position : ℕ) → Table → Again Table Turn → Type 0
  TurnTells p table answer = TurnTellsBy (tree_machine program inputs limits) program inputs limits p table answer

  abbrev pub Agrees : (position : ℕ) → Table → Type 0
  Agrees p table = AgreesBy (tree_machine program inputs limits) program inputs limits p table

-- the run's own table stands so at each position
abbrev pub OwnLaw : Type 0
OwnLaw =
    (program : Program) (inputs : Inputs) (limits : Limits) (p : ℕ) → p ≤ length (order program inputs limits)
    → Stands program inputs limits p (before program inputs limits p).table

-- a table that stands so counts as the run does, has its threads, owners and last subthreads, and each of these leads to its
-- thread's next synchronisation and point
abbrev pub AgreesLaw : Type 0
AgreesLaw =
    (program : Program) (inputs : Inputs) (limits : Limits) (p : ℕ) (table : Table) → Stands program inputs limits p table
    → Agrees program inputs limits p table

-- its turns issue the run's subthreads in order, and find its end
abbrev pub TurnsLaw : Type 0
TurnsLaw =
    (program : Program) (inputs : Inputs) (limits : Limits) (p : ℕ) (table : Table) → Stands program inputs limits p table
    → TurnTells program inputs limits p table (turn table)

-- its next issue is the run's, or it needs a next synchronisation that is unknown
abbrev pub FrontLaw : Type 0
FrontLaw =
    (program : Program) (inputs : Inputs) (limits : Limits) (p : ℕ) (table : Table) → Stands program inputs limits p table
    → IssuesAlike table (next_issue table) (next_issue (before program inputs limits p).table)

-- a table that learns what a thread's last subthread left stands as before
abbrev pub LearnLaw : Type 0
LearnLaw =
    (program : Program) (inputs : Inputs) (limits : Limits) (p : ℕ) (table : Table) → Stands program inputs limits p table
    → (t q : ℕ) (s : Subthread) → last_in table t ≡ Some q → next_of table t ≡ None → slice_get (order program inputs limits) q ≡ Some s
    → Stands program inputs limits p (learning table t (body_at program inputs limits q s).next)
