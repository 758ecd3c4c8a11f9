use Rattle.std.proofs.Common.{◌≡◌, ◌≤◌, All, length, take}
use Rattle.reorder_list.specs.Touching.{mark_of, Grows}
use Rattle.reorder_list.proofs.touched.mark_each.Given as goal

abbrev pub invariant-loop-loc : goal.invariant-loop-loc
invariant-loop-loc l =
    record {
      size : length l.marks ≡ 4096;
      marked : All (λ loc. l.mark ≤ mark_of l.marks loc) (take l.loc-index l.locations);
      grows : Grows l.fn.marks l.marks;
    }
