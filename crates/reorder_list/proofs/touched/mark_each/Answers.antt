use Rattle.std.proofs.Common.{◌<◌, ◌≤◌, All, List, max, length, subst, length-set, ◌∙◌, arith}
use Rattle.std.specs.Prelude.{slice_index, slice_set}
use Rattle.std.proofs.lemmas.List.{take_all}
use Rattle.gp_base.specs.declared.footprint.Loc.{Loc}
use Rattle.reorder_list.specs.Touching.{mark_of}
use Rattle.reorder_list.proofs.Touching.{raised, grows-then, marks-more}
use Rattle.reorder_list.proofs.touched.mark_each.Goals as goal

pub loop-loc-preserved : goal.loop-loc-preserved
loop-loc-preserved c =
    let marks = c.loop-loc.marks in
    let at = c.bucket_of-bucket.result in
    let size = c.loop-loc.invariant.size in
    let within : at < length marks = (let l = c.bucket_of-bucket.ensures.within in omega arith) in
    rw c.max.ensures (record {
      size = length-set marks at (max (slice_index marks at) c.args.mark) ∙ size;
      marked =
          marks-more marks at c.args.mark c.args.locations.now c.loop-loc.loc-index c.loc-item.result within
          c.bucket_of-bucket.ensures.is c.loop-loc-test.true c.loc-item.is c.loop-loc.invariant.marked;
      grows = grows-then c.args.marks.now marks (slice_set marks at (max (slice_index marks at) c.args.mark)) c.loop-loc.invariant.grows
          (raised marks at c.args.mark within);
    })

pub returns-clause-marked : goal.returns-clause-marked
returns-clause-marked c =
    let P : List Loc → Type 0 = λ list. All (λ loc. c.args.mark ≤ mark_of c.loop-loc.marks loc) list in
    subst P (take_all c.loop-loc.loc-index c.args.locations.now c.loop-loc-test.false) c.loop-loc.invariant.marked
