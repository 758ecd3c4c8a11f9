use Rattle.std.proofs.Common.{◌≤◌, All, take}
use Rattle.reorder_list.specs.Touching.{mark_of}
use Rattle.reorder_list.proofs.touched.greatest_mark.Given as goal

abbrev pub invariant-loop-loc : goal.invariant-loop-loc
invariant-loop-loc l = All (λ loc. mark_of l.marks loc ≤ l.greatest) (take l.loc-index l.locations)
