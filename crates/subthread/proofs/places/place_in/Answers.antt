use Rattle.std.proofs.Common.{rules, subst, sym, ℕ}
use Rattle.std.specs.List.Sorted.{IsStrictlyIncreasing}
use Rattle.std.specs.Result.{result_ok}
use Rattle.std.proofs.lemmas.List.{map-id}
use Rattle.std.proofs.lemmas.List.Sorted.{answers_always}
use Rattle.subthread.specs.Places.{IsPlaceIn}
use Rattle.subthread.proofs.Searched.{searched}
use Rattle.subthread.proofs.places.place_in.Goals as goal

pub returns : goal.returns
returns c =
    let facts = c.binary_search_by_key.ensures in
    let by_key = facts.position (λ (n : ℕ). n) (answers_always _ _ _ (λ f a r g called. search rules)) in
    let same = map-id c.args.cells.now in
    subst (IsPlaceIn c.args.cells.now c.args.cell) (sym c.ok.ensures.value)
    (subst (λ cells. IsPlaceIn cells c.args.cell (result_ok c.binary_search_by_key.result)) same
    (searched (λ (n : ℕ). n) c.args.cells.now
    (subst IsStrictlyIncreasing (sym same) c.requires) _ c.binary_search_by_key.result facts.bound by_key))
