-- An effect reads and writes nothing but what its subthread may touch.
use Rattle.std.specs.Prelude.{◌≡◌, ℕ, Bool, true, List, [], ◌∷◌, Option, None, ⊤, IsTrue}
use Rattle.std.specs.Ordering.{nat_cmp}
use Rattle.std.specs.FinMap.{find}
use Rattle.task_ast.specs.meaning.Action.{Action, Load, Store, Choose, Arm, NoAction, OneAction}
use Rattle.task_ast.specs.declared.sync.SyncOp.{SyncOp}
use Rattle.task_ast.specs.meaning.State.{State, RegistersOf, CellOf}
use Rattle.task_ast.specs.meaning.Effect.{effect, joined_ret}

abbrev mutual
  -- each cell that the action names passes the test
  pub NamesOnly : (ℕ → Bool) → Action → Type 0
  NamesOnly test (Load c k) = IsTrue (test c)
  NamesOnly test (Store c t) = IsTrue (test c)
  NamesOnly test (Choose t a b) = ArmNamesOnly test a × ArmNamesOnly test b
  NamesOnly test _ = ⊤

  -- each cell that an arm names passes the test
  pub ArmNamesOnly : (ℕ → Bool) → Arm → Type 0
  ArmNamesOnly test NoAction = ⊤
  ArmNamesOnly test (OneAction a arm) = NamesOnly test a × ArmNamesOnly test arm

-- each cell that one of the actions names passes the test
abbrev pub AllName : (ℕ → Bool) → List Action → Type 0
AllName test [] = ⊤
AllName test (a ∷ actions) = NamesOnly test a × AllName test actions

abbrev mutual
  -- each cell that the action writes passes the test
  pub WritesOnly : (ℕ → Bool) → Action → Type 0
  WritesOnly test (Store c t) = IsTrue (test c)
  WritesOnly test (Choose t a b) = ArmWritesOnly test a × ArmWritesOnly test b
  WritesOnly test _ = ⊤

  pub ArmWritesOnly : (ℕ → Bool) → Arm → Type 0
  ArmWritesOnly test NoAction = ⊤
  ArmWritesOnly test (OneAction a arm) = WritesOnly test a × ArmWritesOnly test arm

-- each cell that one of the actions writes passes the test
abbrev pub AllWrite : (ℕ → Bool) → List Action → Type 0
AllWrite test [] = ⊤
AllWrite test (a ∷ actions) = WritesOnly test a × AllWrite test actions

-- two states agree at the thread's registers, at `$ret` of the thread that it joins, and at the cells that pass the test
pub record AgreeAt (test : ℕ → Bool) (t : ℕ) (begins : SyncOp) (left right : State) : Type 0 where
  pub registers : left (RegistersOf t) ≡ right (RegistersOf t)
  pub joined : joined_ret begins left ≡ joined_ret begins right
  pub cells : (c : ℕ) → test c ≡ true → left (CellOf c) ≡ right (CellOf c)

-- states that agree there give one effect
abbrev pub ReadsLaw : Type 0
ReadsLaw =
    (test : ℕ → Bool) (t : ℕ) (begins : SyncOp) (child : Option ℕ) (actions : List Action) (left right : State)
    → AllName test actions → AgreeAt test t begins left right → effect t begins child actions left ≡ effect t begins child actions right

-- and a cell that is written passes the test
abbrev pub WithinLaw : Type 0
WithinLaw =
    (test : ℕ → Bool) (t : ℕ) (begins : SyncOp) (child : Option ℕ) (actions : List Action) (state : State)
    → AllWrite test actions → (c : ℕ) → (find nat_cmp c (effect t begins child actions state).writes ≡ None → ⊥) → test c ≡ true
