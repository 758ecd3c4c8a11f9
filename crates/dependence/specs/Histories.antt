-- An effect leaves what it names, and its history gives that back.
use Rattle.std.specs.Prelude.{◌≡◌, ℕ, [], ◌∷◌, option_map, unwrap_or}
use Rattle.task_ast.specs.declared.effect.Effect.{Effect}
use Rattle.task_ast.specs.meaning.State.{Location, CellOf, State, cell_value}
use Rattle.task_ast.specs.meaning.Effect.{after}
use Rattle.task_ast.specs.History.{named, old_of}

-- each cell of the state has one value
abbrev pub HasCells : State → Type 0
HasCells state = (c : ℕ) → state (CellOf c) ≡ cell_value state c ∷ []

-- an effect leaves what it names, and all else as it was
abbrev pub AfterLaw : Type 0
AfterLaw = (e : Effect) (state : State) (place : Location) → after e state place ≡ unwrap_or (named e place) (state place)

-- a history holds the old value of each place that the effect names, and names no other
abbrev pub HistoryLaw : Type 0
HistoryLaw =
    (e : Effect) (state : State) → HasCells state → (place : Location)
    → named (old_of e state) place ≡ option_map (λ value. state place) (named e place)

-- undone right after an effect, the history gives the state back
abbrev pub UndoLaw : Type 0
UndoLaw = (e : Effect) (state : State) → HasCells state → after (old_of e state) (after e state) ≡ state
