-- What a subthread's actions do to the data. It reads and writes within its footprint, in the sense of A. J. Bernstein's conditions (1966).
use Rattle.std.specs.Prelude.{ℕ, ℤ, pos, List, [], ◌∷◌, ◌++◌, Option, Some, None, unwrap_or, option_map, slice_set, map, replicate, cond, nat_eq}
use Rattle.std.specs.Ordering.{nat_cmp}
use Rattle.std.specs.FinMap.{put, find}
use Rattle.task_ast.specs.declared.effect.Effect.{Effect}
use Rattle.task_ast.specs.declared.sync.SyncOp.{SyncOp}
use Rattle.task_ast.specs.declared.sync.SyncOp.TheVariants as sync
use Rattle.task_ast.specs.meaning.Value.{branch}
use Rattle.task_ast.specs.meaning.Action.{Action, Set, Load, Store, Say, Choose, Child, Give, Bring, Arm, NoAction, OneAction}
use Rattle.task_ast.specs.meaning.State.{State, RegistersOf, CellOf, number_at, cell_value}

-- what a subthread did so far; the cells written stand in rising order, each with its last value
pub record Doing : Type 0 where
  pub registers : List ℤ
  pub child : List ℤ
  pub written : List (ℕ × ℤ)
  pub lines : List (List ℤ)

-- a subthread that found these cells, and `$ret` of the thread that it joined
module _ (cells : ℕ → ℤ) (joined : ℤ) where
  -- the value of a cell, as written so far
  abbrev pub cell_now : Doing → ℕ → ℤ
  cell_now d c = unwrap_or (find nat_cmp c d.written) (cells c)

  abbrev mutual
    -- after one action
    pub done : Action → Doing → Doing
    done (Set k t) d = record d { registers = slice_set d.registers k (t d.registers) }
    done (Load c k) d = record d { registers = slice_set d.registers k (cell_now d c) }
    done (Store c t) d = record d { written = put nat_cmp c (t d.registers) d.written }
    done (Say ts) d = record d { lines = d.lines ++ map (λ t. t d.registers) ts ∷ [] }
    done (Choose t a b) d = branch (t d.registers) (arm_done a d) (arm_done b d)
    done (Child count) d = record d { child = replicate count (pos 0) }
    done (Give k t) d = record d { child = slice_set d.child k (t d.registers) }
    done (Bring k) d = record d { registers = slice_set d.registers k joined }

    -- after the actions of an arm, in order
    pub arm_done : Arm → Doing → Doing
    arm_done NoAction d = d
    arm_done (OneAction a arm) d = arm_done arm (done a d)

  -- after these actions, in order
  abbrev pub all_done : List Action → Doing → Doing
  all_done [] d = d
  all_done (a ∷ actions) d = all_done actions (done a d)

-- `$ret` of the thread that is joined
abbrev pub joined_ret : SyncOp → State → ℤ
joined_ret (sync.Join (pos h)) state = number_at (state (RegistersOf h)) 0
joined_ret _ state = pos 0

-- what a subthread finds: its thread's registers, `$ret` of the thread that it joins, the cells
pub record Found : Type 0 where
  pub registers : List ℤ
  pub joined : ℤ
  pub cells : ℕ → ℤ

-- what a subthread of this thread, which begins so, finds in a state
abbrev pub found_in : (thread : ℕ) → (begins : SyncOp) → State → Found
found_in t begins state = record { registers = state (RegistersOf t); joined = joined_ret begins state; cells = cell_value state }

-- the effect of a subthread's actions on what it found
abbrev pub effect_on : (thread : ℕ) → (child : Option ℕ) → List Action → Found → Effect
effect_on t child actions found =
    let d = all_done found.cells found.joined actions (record { registers = found.registers; child = []; written = []; lines = [] }) in
    record { thread = t; writes = d.written; regs = d.registers; child = option_map (λ c. (c, d.child)) child; prints = d.lines }

-- the effect of a subthread of this thread, which begins so, on a state
abbrev pub effect : (thread : ℕ) → (begins : SyncOp) → (child : Option ℕ) → List Action → State → Effect
effect t begins child actions state = effect_on t child actions (found_in t begins state)

-- what a thread's registers become, where it is the child
abbrev pub left_to : Option (ℕ × List ℤ) → ℕ → List ℤ → List ℤ
left_to None t before = before
left_to (Some child) t before = cond (nat_eq t child.0) child.1 before

-- the state after an effect
abbrev pub after : Effect → State → State
after e before (RegistersOf t) = cond (nat_eq t e.thread) e.regs (left_to e.child t (before (RegistersOf t)))
after e before (CellOf c) = unwrap_or (option_map (λ v. v ∷ []) (find nat_cmp c e.writes)) (before (CellOf c))
