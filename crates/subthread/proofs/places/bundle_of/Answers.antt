use Rattle.std.proofs.Common.{rules, map, subst, sym}
use Rattle.std.specs.Result.{result_ok}
use Rattle.std.proofs.lemmas.List.Sorted.{answers_always}
use Rattle.record_store.specs.Lent.{lock_in}
use Rattle.subthread.specs.Places.{IsPlaceIn}
use Rattle.subthread.proofs.Searched.{searched}
use Rattle.subthread.proofs.places.bundle_of.Goals as goal

pub returns : goal.returns
returns c =
    let facts = c.binary_search_by_key.ensures in
    let by_key = facts.position lock_in (answers_always _ _ _ (λ f a r g called. search rules)) in
    subst (IsPlaceIn (map lock_in c.args.bundles.now) c.args.lock) (sym c.ok.ensures.value)
    (subst (λ n. IsPlaceIn (map lock_in c.args.bundles.now) n (result_ok c.binary_search_by_key.result)) c.lock.view_is
    (searched lock_in c.args.bundles.now c.requires _ c.binary_search_by_key.result facts.bound by_key))
