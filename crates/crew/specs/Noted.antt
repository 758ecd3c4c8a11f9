-- What a run with threads tells of itself to those who take notes.
use Rattle.std.specs.Prelude.{◌≡◌, ℕ, List, [], ◌∷◌, ◌++◌, Option, Some, nat_eq, cond, length}
use Rattle.task_ast.specs.declared.effect.Effect.{Effect}
use Rattle.task_ast.specs.Position.{before}

-- what notes tell: the known bytes of the log as it began and as it is, what the last result of each position left that
-- was noted, and what the positions left that have retired, in order from the first
abbrev pub Telling : Type 1
Telling = (start written : Option (List ℕ)) → (left : ℕ → Option Effect) → (told : List Effect) → Type 0

-- with what this position left
abbrev pub with_left : ℕ → Effect → (ℕ → Option Effect) → ℕ → Option Effect
with_left p e left q = cond (nat_eq q p) (Some e) (left q)

-- the result was noted
abbrev pub NotesResult : (before after : Telling) → ℕ → Effect → Type 0
NotesResult before after p e =
    (start written : Option (List ℕ)) (left : ℕ → Option Effect) (told : List Effect) → before start written left told
    → after start written (with_left p e left) told

-- nothing was noted
abbrev pub NotesNothing : (before after : Telling) → Type 0
NotesNothing before after =
    (start written : Option (List ℕ)) (left : ℕ → Option Effect) (told : List Effect) → before start written left told
    → after start written left told

-- the next position, of which it was noted what it left, was told to the log, which then has these bytes
abbrev pub NotesRetired : (before after : Telling) → (written later : Option (List ℕ)) → ℕ → Type 0
NotesRetired before after written later p =
    (start : Option (List ℕ)) (left : ℕ → Option Effect) (told : List Effect) (e : Effect) → before start written left told
    → p ≡ length told → left p ≡ Some e → after start later left (told ++ e ∷ [])

-- it was not told whole
abbrev pub NotesPart : (before : Telling) → (part : (start written : Option (List ℕ)) → List Effect → Type 0)
    → (written later : Option (List ℕ)) → ℕ → Type 0
NotesPart before part written later p =
    (start : Option (List ℕ)) (left : ℕ → Option Effect) (told : List Effect) (e : Effect) → before start written left told
    → p ≡ length told → left p ≡ Some e → part start later (told ++ e ∷ [])
