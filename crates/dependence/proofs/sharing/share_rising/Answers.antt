use Rattle.std.proofs.Common.{◌≡◌, ◌∙◌, Some, length, refl, sym}
use Rattle.std.specs.Prelude.{slice_get}
use Rattle.std.proofs.lemmas.Bool.{both_ways}
use Rattle.std.proofs.lemmas.Option.{slice_get_read, slice_get_past}
use Rattle.dependence.proofs.Merging.{below-next, stands-nowhere, nowhere-more, none-shared}
use Rattle.dependence.proofs.sharing.share_rising.Goals as goal
use Rattle.dependence.proofs.sharing.share_rising.Goals.{else-place-right-via-then-place-right+else-is_same, else-place-right-via-else-place-right}

pub place_from-place-requires-clause-before : goal.place_from-place-requires-clause-before
place_from-place-requires-clause-before c =
    c.loop-loc.invariant.below c.loc-item.result
    (slice_get_read c.args.left.now (length c.args.left.now) c.loop-loc.loc-index c.loc-item.result refl
    c.loop-loc-test.true c.loc-item.is)

pub loop-loc-preserved : goal.loop-loc-preserved
loop-loc-preserved c =
    let left = c.args.left.now in
    let right = c.args.right.now in
    let loc = c.loc-item.result in
    let here = slice_get_read left (length left) c.loop-loc.loc-index loc refl c.loop-loc-test.true c.loc-item.is in
    let apart : slice_get right c.place_from-place.result ≡ Some loc → ⊥ = elim c.else-place-right.branch [
      | else-place-right-via-then-place-right+else-is_same w ↦
          λ there. (let both = sym (slice_get_read right
          (length right) c.place_from-place.result w.index-right-place.result refl w.if-place-right.true w.index-right-place.is)
          ∙ there in
          let same : w.index-right-place.result ≡ loc = cc both in
          both_ways w.is_same.result w.if-is_same.false (w.is_same.ensures.1 same))
      | else-place-right-via-else-place-right w ↦
          λ there. (let past = sym (slice_get_past right c.place_from-place.result w.if-place-right.false) ∙ there in cc past)
    ] in
    record {
      within = c.place_from-place.ensures.within;
      below =
          λ y next. below-next left right c.place_from-place.result c.loop-loc.loc-index loc y c.requires.left here next
          c.place_from-place.ensures.below;
      nowhere = nowhere-more left right c.loop-loc.loc-index loc c.loop-loc.invariant.nowhere here
          (stands-nowhere right c.place_from-place.result loc c.requires.right c.place_from-place.ensures.below
          c.place_from-place.ensures.found apart);
    }

pub returns : goal.returns
returns c = (
  λ wrong. absurd (cc wrong),
  λ shared. absurd (none-shared c.args.left.now c.args.right.now c.loop-loc.loc-index c.loop-loc-test.false
      c.loop-loc.invariant.nowhere shared),
)
