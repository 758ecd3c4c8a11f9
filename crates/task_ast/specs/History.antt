-- What an effect names, and the effect that undoes it: a history, as a history buffer keeps it (J. E. Smith and A. R. Pleszkun,
-- Implementation of precise interrupts in pipelined processors, ISCA 1985).
use Rattle.std.specs.Prelude.{◌≡◌, ℕ, ℤ, true, List, [], map, Option, Some, None, is_some, option_map, cond, nat_eq, ◌∷◌}
use Rattle.std.specs.Ordering.{nat_cmp}
use Rattle.std.specs.FinMap.{find}
use Rattle.task_ast.specs.declared.effect.Effect.{Effect}
use Rattle.task_ast.specs.meaning.State.{Location, RegistersOf, CellOf, State, cell_value}

-- the registers that are left to a thread where it is the child
abbrev pub named_child : Option (ℕ × List ℤ) → ℕ → Option (List ℤ)
named_child None t = None
named_child (Some child) t = cond (nat_eq t child.0) (Some child.1) None

-- what an effect leaves at a place, where it names that place
abbrev pub named : Effect → Location → Option (List ℤ)
named e (RegistersOf t) = cond (nat_eq t e.thread) (Some e.regs) (named_child e.child t)
named e (CellOf c) = option_map (λ v. v ∷ []) (find nat_cmp c e.writes)

-- the effect names this place
abbrev pub IsNamed : Effect → Location → Type 0
IsNamed e place = is_some (named e place) ≡ true

-- a cell with its value in the state
abbrev pub old_write : State → ℕ × ℤ → ℕ × ℤ
old_write state w = (w.0, cell_value state w.0)

-- a child with its registers in the state
abbrev pub old_child : State → ℕ × List ℤ → ℕ × List ℤ
old_child state child = (child.0, state (RegistersOf child.0))

-- the same places with their values in the state, and no lines: what gives back all that the effect overwrites there
abbrev pub old_of : Effect → State → Effect
old_of e state =
    record {
      thread = e.thread;
      writes = map (old_write state) e.writes;
      regs = state (RegistersOf e.thread);
      child = option_map (old_child state) e.child;
      prints = [];
    }
