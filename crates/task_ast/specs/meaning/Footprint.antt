-- What a subthread reads and what it writes: the input and output sets of A. J. Bernstein's conditions (Analysis of programs for
-- parallel processing, IEEE Transactions on Electronic Computers, 1966).
use Rattle.std.specs.Prelude.{ℕ, pos, cond, nat_eq, nat_lt, List, [], ◌∷◌, ◌++◌, Option, Some, None, map}
use Rattle.gp_base.specs.declared.footprint.Loc.{Loc}
use Rattle.gp_base.specs.declared.footprint.Loc.TheVariants as loc
use Rattle.gp_base.specs.declared.footprint.Footprint.{Footprint}
use Rattle.task_ast.specs.declared.sync.SyncOp.{SyncOp}
use Rattle.task_ast.specs.declared.sync.SyncOp.TheVariants as sync
use Rattle.task_ast.specs.meaning.Action.{Action, Load, Store, Choose, Arm, NoAction, OneAction}

-- a join reads the registers of the thread that it joins
abbrev pub joined_registers : SyncOp → List Loc
joined_registers (sync.Join (pos h)) = loc.Regs h ∷ []
joined_registers _ = []

-- a fork writes the registers of the child
abbrev pub child_registers : Option ℕ → List Loc
child_registers None = []
child_registers (Some c) = loc.Regs c ∷ []

-- a rising list with this member, once
abbrev pub with_cell : ℕ → List ℕ → List ℕ
with_cell c [] = c ∷ []
with_cell c (d ∷ cells) = cond (nat_lt c d) (c ∷ d ∷ cells) (cond (nat_eq c d) (d ∷ cells) (d ∷ with_cell c cells))

-- the record cells that actions read, and those that they write, in rising order
pub record Named : Type 0 where
  pub reads : List ℕ
  pub writes : List ℕ

abbrev mutual
  -- with those that an action names; of a choice both arms count
  pub naming : Action → Named → Named
  naming (Load c k) n = record { reads = with_cell c n.reads; writes = n.writes }
  naming (Store c t) n = record { reads = n.reads; writes = with_cell c n.writes }
  naming (Choose t a b) n = arm_naming b (arm_naming a n)
  naming _ n = n

  pub arm_naming : Arm → Named → Named
  arm_naming NoAction n = n
  arm_naming (OneAction a arm) n = arm_naming arm (naming a n)

abbrev pub all_naming : List Action → Named → Named
all_naming [] n = n
all_naming (a ∷ actions) n = all_naming actions (naming a n)

-- the record cells that actions name
abbrev pub named_by : List Action → Named
named_by actions = all_naming actions (record { reads = []; writes = [] })

-- a subthread reads and writes the record cells that its actions name so, and writes its thread's registers
abbrev pub footprint : (thread : ℕ) → (begins : SyncOp) → (child : Option ℕ) → List Action → Footprint
footprint t begins child actions =
    record {
      reads = joined_registers begins ++ map loc.Rec (named_by actions).reads;
      writes = loc.Regs t ∷ child_registers child ++ map loc.Rec (named_by actions).writes;
    }
