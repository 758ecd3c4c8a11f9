-- What a subthread may touch by the locks that it holds.
use Rattle.std.specs.Prelude.{ℕ, List, ◌∷◌, ◌++◌, Option, map}
use Rattle.gp_base.specs.declared.footprint.Loc.TheVariants as loc
use Rattle.gp_base.specs.declared.footprint.Footprint.{Footprint}
use Rattle.task_ast.specs.declared.sync.SyncOp.{SyncOp}
use Rattle.task_ast.specs.meaning.Footprint.{child_registers, joined_registers}

-- what it may touch by its locks: it writes its thread's registers and what stands under the locks that it holds
abbrev pub lock_footprint : (thread : ℕ) → (begins : SyncOp) → (child : Option ℕ) → (held : List ℕ) → Footprint
lock_footprint t begins child held =
    record { reads = joined_registers begins; writes = loc.Regs t ∷ child_registers child ++ map loc.Lock held }
