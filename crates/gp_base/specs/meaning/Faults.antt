-- Which lists of faults a run may be given.
use Rattle.std.specs.Prelude.{Bool, ◌&&◌, nat_eq}
use Rattle.gp_base.specs.declared.fault.Fault.{Fault}

-- whether two faults strike the same attempt of the same position
abbrev pub strikes_same : Fault → Fault → Bool
strikes_same fault other = nat_eq fault.pos other.pos && nat_eq fault.attempt other.attempt
