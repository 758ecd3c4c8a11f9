-- What the parts of the check answer.
use Rattle.std.specs.Prelude.{◌≡◌, List, [], ◌∷◌, ◌++◌, Option, Some, None, Result, Ok, Err, Vec}
use Rattle.std.specs.declared.alloc.Global.{Global}
use Rattle.task_ast.specs.declared.check_kind.CheckKind.{CheckKind}
use Rattle.task_ast.specs.meaning.Held as plain
use Rattle.task_ast.specs.meaning.Visit.{Visit, visit, first_fault}
use Rattle.task_ast.specs.meaning.Tree.{Stmt, At}
use Rattle.task_ast.specs.meaning.Declarations.{Scope}
use Rattle.task_ast.specs.meaning.Check.{visits_inside, fails_after}
use Rattle.lock_checker.specs.declared.fault.CheckFault.{CheckFault}
use Rattle.lock_checker.specs.Accepted.{Told}
use Rattle.lock_checker.specs.declared.pair.Pair.{Pair}
use Rattle.lock_checker.specs.inner.Pairs.{pairs_of, Leads, HaveSame, Moves}

-- the lowest of the rules that fail at a place
abbrev pub lowest : List CheckKind → Option CheckKind
lowest [] = None
lowest (kind ∷ kinds) = Some kind

-- an answer to these visits, which start at some pairs: none fails, and the changes lead to what is held after them; or
-- the first fault
abbrev pub Walks : Result (Vec Pair Global) CheckFault → (old new : List plain.Pair) → List Visit → List plain.Pair → Type 0
Walks (Ok changes) old new visits after = (first_fault visits ≡ None) × Moves old (pairs_of changes.items) new after
Walks (Err fault) old new visits after = Told fault (first_fault visits)

-- the same, where the pairs are again those at the start
abbrev pub WalksAside : Result (Vec Pair Global) CheckFault → (old new : List plain.Pair) → List Visit → List plain.Pair → Type 0
WalksAside (Ok changes) old new visits after = (first_fault visits ≡ None) × HaveSame new old × Leads old (pairs_of changes.items) after
WalksAside (Err fault) old new visits after = Told fault (first_fault visits)

-- the visits of a statement after its first
abbrev pub later_visits : Scope → Stmt → List plain.Pair → List Visit
later_visits s (At line w) held = visits_inside s w held ++ visit line (fails_after s w held) ∷ []

-- an answer to these visits without pairs
abbrev pub Passes : {T : Type 0} → Result T CheckFault → List Visit → Type 0
Passes (Ok value) visits = first_fault visits ≡ None
Passes (Err fault) visits = Told fault (first_fault visits)
