-- What a body does to data: indices and control values are resolved, registers have their numbers.
use Rattle.std.specs.Prelude.{ℕ, ℤ, pos, List, Option, option_map, unwrap_or, zip}
use Rattle.task_ast.specs.declared.env.Env.{Env}
use Rattle.task_ast.specs.meaning.Tree.{Name, Expr}
use Rattle.task_ast.specs.meaning.Value.{value}

-- a value that depends on the registers alone
abbrev pub OfRegisters : Type 0
OfRegisters = List ℤ → ℤ

mutual
  -- one thing that a body, or the synchronisation before it, does to registers, cells and lines
  pub data Action : Type 0 where
    Set : (register : ℕ) → OfRegisters → Action
    Load : (cell register : ℕ) → Action
    Store : (cell : ℕ) → OfRegisters → Action
    Say : List OfRegisters → Action
    Choose : OfRegisters → Arm → Arm → Action
    -- the child of a fork has so many registers, which are 0
    Child : (registers : ℕ) → Action
    -- a fork's data argument, for a register of the child
    Give : (register : ℕ) → OfRegisters → Action
    -- `$ret` of the joined thread
    Bring : (register : ℕ) → Action

  -- the actions of one arm of a `when`
  pub data Arm : Type 0 where
    NoAction : Arm
    OneAction : Action → Arm → Arm

-- the value of an expression with its control values and cells looked up, from the registers of these names; none where a cell is outside its feed
abbrev pub of_registers : List Name → Expr → Env → Option OfRegisters
of_registers names e env = option_map (λ _ values. unwrap_or (value e (record env { regs = zip names values })) (pos 0)) (value e env)
