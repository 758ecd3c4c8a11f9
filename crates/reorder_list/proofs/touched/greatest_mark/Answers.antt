use Rattle.std.proofs.Common.{◌≡◌, ◌≤◌, max, List, All, refl, subst, arith}
use Rattle.std.specs.Prelude.{slice_index}
use Rattle.std.proofs.Math.Nat.{le-max_left, le-max_right}
use Rattle.std.proofs.lemmas.List.{take_all}
use Rattle.gp_base.specs.declared.footprint.Loc.{Loc}
use Rattle.reorder_list.specs.Touching.{mark_of}
use Rattle.reorder_list.proofs.Touching.{within-more}
use Rattle.reorder_list.proofs.touched.greatest_mark.Goals as goal

pub loop-loc-preserved : goal.loop-loc-preserved
loop-loc-preserved c =
    let marks = c.args.marks.now in
    let most = c.loop-loc.greatest in
    let mark = slice_index marks c.bucket_of.result in
    let loc = c.loc-item.result in
    let is : c.max-greatest.result ≡ max most mark = c.max-greatest.ensures in
    let at : mark_of marks loc ≡ mark = rw c.bucket_of.ensures.is refl in
    within-more marks most c.max-greatest.result c.args.locations.now c.loop-loc.loc-index loc
    (let up = le-max_left most mark in omega arith) (let up = le-max_right most mark in omega arith)
    c.loop-loc-test.true c.loc-item.is c.loop-loc.invariant

pub returns : goal.returns
returns c =
    let P : List Loc → Type 0 = λ list. All (λ loc. mark_of c.args.marks.now loc ≤ c.loop-loc.greatest) list in
    subst P (take_all c.loop-loc.loc-index c.args.locations.now c.loop-loc-test.false) c.loop-loc.invariant
