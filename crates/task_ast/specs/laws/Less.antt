-- A thread table that knows less than another: some next synchronisations are unknown in it.
use Rattle.std.specs.Prelude.{◌≡◌, ◌⊎◌, ℕ, ◌<◌, ⊤, List, [], ◌∷◌, length, Option, None}
use Rattle.gp_base.specs.declared.ending.End.{End}
use Rattle.task_ast.specs.declared.sync.Next.{Next}
use Rattle.task_ast.specs.meaning.Repeat.{Again, More, Done}
use Rattle.task_ast.specs.meaning.Table.{Away}
use Rattle.task_ast.specs.Table.{Seat, Table, next_of}
use Rattle.task_ast.specs.Turn.{Turn, Issue, Needs, Ended, turn, next_issue}
use Rattle.task_ast.specs.Reached.{Reached}

-- the next synchronisation is unknown, so the thread has not arrived at it
pub record IsUnknown (seat : Seat) : Type 0 where
  pub next : seat.next ≡ None
  pub stand : seat.stand ≡ Away

-- the seats are equal, but that the next synchronisation may be unknown in the one
pub record SeatLess (less more : Seat) : Type 0 where
  pub next : (less.next ≡ more.next) ⊎ IsUnknown less
  pub last : less.last ≡ more.last
  pub passed : less.passed ≡ more.passed
  pub stand : less.stand ≡ more.stand

-- each seat of the one knows less than that of the other
abbrev pub SeatsLess : List Seat → List Seat → Type 0
SeatsLess [] [] = ⊤
SeatsLess (l ∷ less) (m ∷ more) = SeatLess l m × SeatsLess less more
SeatsLess _ _ = ⊥

-- the tables are equal, but that some next synchronisations are unknown in the one
pub record KnowsLess (less more : Table) : Type 0 where
  pub seats : SeatsLess less.seats more.seats
  pub limit : less.limit ≡ more.limit
  pub barriers : less.barriers ≡ more.barriers
  pub owners : less.owners ≡ more.owners
  pub token : less.token ≡ more.token
  pub issued : less.issued ≡ more.issued

-- both turns answer the same, and the one leaves a table that knows less; or the one needs what it doesn't know
pub data Alike (table : Table) : Again Table Turn → Again Table Turn → Type 0 where
  passes : {less more : Table} → KnowsLess less more → Alike table (More less) (More more)
  issues : {t : ℕ} {next : Next} {child : Option ℕ} {less more : Table} → KnowsLess less more
      → Alike table (Done (Issue t next child less)) (Done (Issue t next child more))
  needs : {t : ℕ} {other : Again Table Turn} → t < length table.seats → next_of table t ≡ None → Alike table (Done (Needs t)) other
  ends : {ending : End} → Alike table (Done (Ended ending)) (Done (Ended ending))

-- the turn of a table that knows less is the turn of the whole table, or needs a next synchronisation that is unknown
abbrev pub LessLaw : Type 0
LessLaw = (less more : Table) → Reached less → KnowsLess less more → Alike less (turn less) (turn more)

-- the next issues, or the ends, are the same, where the one needs nothing that it doesn't know
pub data IssuesAlike (table : Table) : Turn → Turn → Type 0 where
  issues : {t : ℕ} {next : Next} {child : Option ℕ} {less more : Table} → KnowsLess less more
      → IssuesAlike table (Issue t next child less) (Issue t next child more)
  needs : {t : ℕ} {other : Turn} → t < length table.seats → next_of table t ≡ None → IssuesAlike table (Needs t) other
  ends : {ending : End} → IssuesAlike table (Ended ending) (Ended ending)

-- a table that knows less issues next what the whole table issues next, or needs a next synchronisation that is unknown
abbrev pub NextLaw : Type 0
NextLaw = (less more : Table) → Reached less → KnowsLess less more → IssuesAlike less (next_issue less) (next_issue more)
