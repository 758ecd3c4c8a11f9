-- Control variables and registers: what reads them, and what sets them by name.
use Rattle.std.specs.Prelude.{◌≡◌, ◌≤◌, ℕ, ℤ, false, List, length, slice_set, IsFalse, map}
use Rattle.task_ast.specs.declared.env.Env.{Env}
use Rattle.task_ast.specs.meaning.Tree.{Name, Expr}
use Rattle.task_ast.specs.meaning.Names.{is_among, slot}
use Rattle.task_ast.specs.Names.{seconds}
use Rattle.task_ast.specs.meaning.Declarations.{has_data}
use Rattle.task_ast.specs.meaning.Value.{value}
use Rattle.task_ast.specs.meaning.Control.{with_value, with_number}

-- an expression without data variables has one value whatever the registers hold
abbrev pub ControlValueLaw : Type 0
ControlValueLaw =
    (e : Expr) (env : Env) (registers : List (Name × ℤ)) → IsFalse (has_data e) → value e (record env { regs = registers }) ≡ value e env

-- setting a name sets the first entry of that name alone, if there is one, and leaves the names
abbrev pub FirstEntryLaw : Type 0
FirstEntryLaw =
    (names : List (Name × ℤ)) (x : Name) (v : ℤ)
    → (map (λ n. n.0) (with_value names x v) ≡ map (λ n. n.0) names)
    × (seconds (with_value names x v) ≡ slice_set (seconds names) (slot (map (λ n. n.0) names) x) v)

-- setting a variable by its number leaves the names, and the number of a name is that of its first entry
abbrev pub NumberLaw : Type 0
NumberLaw =
    (names : List (Name × ℤ)) (k : ℕ) (v : ℤ)
    → (map (λ n. n.0) (with_number names k v) ≡ map (λ n. n.0) names) × (seconds (with_number names k v) ≡ slice_set (seconds names) k v)

abbrev pub SlotLaw : Type 0
SlotLaw = (names : List (Name × ℤ)) (x : Name) (v : ℤ) → with_number names (slot (map (λ n. n.0) names) x) v ≡ with_value names x v

-- a write to a register that isn't declared changes nothing
abbrev pub UndeclaredLaw : Type 0
UndeclaredLaw =
    (registers : List Name) (values : List ℤ) (x : Name) (v : ℤ) → is_among x registers ≡ false → length values ≤ length registers
    → slice_set values (slot registers x) v ≡ values
