-- Which faults a run may be given.
use Rattle.std.specs.Prelude.{◌≢◌, ◌<◌, ◌≤◌, ◌^◌, pos, FitsSigned}
use Rattle.std.specs.Int.{w64}
use Rattle.gp_base.specs.declared.limits.TheConstants.{LONGEST_DELAY}
use Rattle.gp_base.specs.declared.fault.Fault.{Fault}

-- a position and an attempt of 32 bits, a delay that is not too long, and a mask of 64 bits that changes something
pub record IsInRange (fault : Fault) : Type 0 where
  pub position : fault.pos < 2 ^ 32
  pub attempt : fault.attempt < 2 ^ 32
  pub delay : fault.delay ≤ LONGEST_DELAY
  pub some_mask : fault.mask ≢ pos 0
  pub mask : FitsSigned w64 fault.mask
