-- What touches locations, by buckets of them: the mark of a bucket is the greatest of what touches a location of it.
use Rattle.std.specs.Prelude.{ℕ, ◌+◌, ◌*◌, ◌%◌, ◌<◌, ◌≤◌, List, All, slice_index}
use Rattle.gp_base.specs.declared.footprint.Loc.{Loc}
use Rattle.gp_base.specs.declared.footprint.Loc.TheVariants.{Regs, Lock, Rec}
use Rattle.gp_base.specs.declared.footprint.Footprint.{Footprint}
use Rattle.dependence.specs.Conflict.{Conflict}
use Rattle.reorder_list.specs.declared.touched.TheConstants.{BUCKETS}
use Rattle.reorder_list.specs.declared.touched.Touched.{Touched}

-- the bucket of the location of a kind with this number
abbrev pub bucket : (kind number : ℕ) → ℕ
bucket kind number = (number * 3 + kind) % BUCKETS

abbrev pub bucket_of : Loc → ℕ
bucket_of (Regs thread) = bucket 0 thread
bucket_of (Lock lock) = bucket 1 lock
bucket_of (Rec cell) = bucket 2 cell

-- the mark of the bucket of a location
abbrev pub mark_of : List ℕ → Loc → ℕ
mark_of marks loc = slice_index marks (bucket_of loc)

-- no mark falls
abbrev pub Grows : (before after : List ℕ) → Type 0
Grows before after = (at : ℕ) → slice_index before at ≤ slice_index after at

-- what the footprint touches has this mark or a greater one
pub record IsMarked (touched : Touched) (mark : ℕ) (foot : Footprint) : Type 0 where
  pub reads : All (λ loc. mark ≤ mark_of touched.reads loc) foot.reads
  pub writes : All (λ loc. mark ≤ mark_of touched.writes loc) foot.writes

-- what was marked stays so
abbrev pub KeepsMarks : (before after : Touched) → Type 0
KeepsMarks before after = (mark : ℕ) (foot : Footprint) → IsMarked before mark foot → IsMarked after mark foot

-- what has a greater mark than this is not in conflict with the footprint
abbrev pub IsClearPast : Touched → (last : ℕ) → Footprint → Type 0
IsClearPast touched last foot = (mark : ℕ) (other : Footprint) → IsMarked touched mark other → last < mark → ¬ Conflict other foot
