use Rattle.std.proofs.Common.{◌≡◌, ◌≤◌, ℕ, max, List, All, subst, arith}
use Rattle.std.proofs.Math.Nat.{le-max_left, le-max_right}
use Rattle.gp_base.specs.declared.footprint.Loc.{Loc}
use Rattle.reorder_list.specs.Touching.{mark_of}
use Rattle.reorder_list.proofs.Touching.{within-all, clear-past}
use Rattle.reorder_list.proofs.touched.Touched.last.Goals as goal

pub returns : goal.returns
returns c =
    let touched = c.args.self.now in
    let foot = c.args.foot.now in
    let last = c.max-2.result in
    let writes = c.greatest_mark-writes.result in
    let reads = c.greatest_mark-reads.result in
    let read = c.greatest_mark-read.result in
    let both : c.max.result ≡ max writes reads = c.max.ensures in
    let all : last ≡ max c.max.result read = c.max-2.ensures in
    let most = le-max_left c.max.result read in
    let Under : List ℕ → ℕ → List Loc → Type 0 = λ marks most list. All (λ loc. mark_of marks loc ≤ most) list in
    clear-past touched last foot
    (within-all touched.writes writes last foot.writes (let up = le-max_left writes reads in omega arith)
    (subst (Under touched.writes writes) c.as_slice.ensures c.greatest_mark-writes.ensures))
    (within-all touched.writes reads last foot.reads (let up = le-max_right writes reads in omega arith)
    (subst (Under touched.writes reads) c.as_slice-2.ensures c.greatest_mark-reads.ensures))
    (within-all touched.reads read last foot.writes (let up = le-max_right c.max.result read in omega arith)
    (subst (Under touched.reads read) c.as_slice-3.ensures c.greatest_mark-read.ensures))
