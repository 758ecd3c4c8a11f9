-- What a step of a transaction keeps, whatever it does.
use Rattle.std.specs.Prelude.{Bool, IsTrue}
use Rattle.sqlite.specs.Store.{Ghosts}
use Rattle.sqlite.specs.State.{HasCleanDisk, KeepsCommit, Survives}
use Rattle.sqlite.specs.Held.{Held, state}

module _ {S : Type 0} (g : Ghosts S) where
  -- The last commit stays, a step that was answered leaves the transaction open, and a crash finds nothing new.
  pub record IsStep (old new : Held S) (answered : Bool) : Type 0 where
    pub survives : Survives (state g old) (state g new) (λ _. ⊥)
    pub kept : HasCleanDisk (state g new) → IsTrue old.in_transaction → KeepsCommit (state g old) (state g new)
    pub inside : HasCleanDisk (state g new) → IsTrue old.in_transaction → IsTrue answered → IsTrue new.in_transaction
