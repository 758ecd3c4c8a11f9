-- What is asked of a way of redoing, and with which mask an attempt runs.
use Rattle.std.specs.Prelude.{ℕ, ◌<◌, ◌&&◌, cond, nat_eq, ℤ, pos, List, [], ◌∷◌, Contains}
use Rattle.gp_base.specs.declared.fault.Fault.{Fault}
use Rattle.gp_base.specs.declared.journal.Restart.{Restart}
use Rattle.dependence.specs.meaning.Restarts.{Dependence, attempt_of}

-- a position that is struck is redone itself
abbrev pub RedoesStruck : Dependence → Type 0
RedoesStruck dependence = (struck front : ℕ) → struck < front → Contains (dependence.redo struck front) struck

-- the mask of the fault that names the position and the attempt, or 0
abbrev pub mask_of : List Fault → (position attempt : ℕ) → ℤ
mask_of [] position attempt = pos 0
mask_of (fault ∷ rest) position attempt =
    cond (nat_eq fault.pos position && nat_eq fault.attempt attempt) fault.mask (mask_of rest position attempt)

-- the mask of p's attempt after these restarts
abbrev pub mask_now : List Fault → List Restart → ℕ → ℤ
mask_now faults made p = mask_of faults p (attempt_of made p)
