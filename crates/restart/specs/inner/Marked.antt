-- All that is redone is marked.
use Rattle.std.specs.Prelude.{◌≡◌, ℕ, ◌+◌, List, Some, slice_get}
use Rattle.gp_base.specs.declared.footprint.Footprint.{Footprint}
use Rattle.reorder_list.specs.declared.entry.Entry.{Entry}
use Rattle.reorder_list.specs.Entries.{known_foot}
use Rattle.reorder_list.specs.declared.touched.Touched.{Touched}
use Rattle.reorder_list.specs.Touching.{IsMarked}

-- what each of these positions touches, where that is known, is marked with its place among them, from 1 on
abbrev pub AllMarked : List Entry → (redo : List ℕ) → Touched → Type 0
AllMarked entries redo touched =
    (k q : ℕ) (foot : Footprint) → slice_get redo k ≡ Some q → known_foot entries q ≡ Some foot → IsMarked touched (k + 1) foot
