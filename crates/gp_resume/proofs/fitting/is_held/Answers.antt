use Rattle.std.proofs.Common.{rules, ◌↔◌, ℕ, subst, sym}
use Rattle.std.specs.Prelude.{IsTrue}
use Rattle.std.specs.List.{Contains}
use Rattle.std.specs.List.Sorted.{IsStrictlyIncreasing}
use Rattle.std.specs.Result.{result_ok}
use Rattle.std.proofs.lemmas.List.{map-id}
use Rattle.std.proofs.lemmas.List.Sorted.{answers_always}
use Rattle.subthread.specs.Places.{IsPlaceIn}
use Rattle.subthread.proofs.Searched.{searched}
use Rattle.gp_resume.proofs.UnderHeld.{placed-held}
use Rattle.gp_resume.proofs.fitting.is_held.Goals as goal

pub returns : goal.returns
returns c =
    let facts = c.binary_search_by_key.ensures in
    let found = c.binary_search_by_key.result in
    let by_key = facts.position (λ (n : ℕ). n) (answers_always _ _ _ (λ f a r g called. search rules)) in
    let same = map-id c.args.held.now in
    let place : IsPlaceIn c.args.held.now c.args.lock (result_ok found) =
    subst (λ n. IsPlaceIn c.args.held.now n (result_ok found)) c.lock.view_is
    (subst (λ locks. IsPlaceIn locks c.lock.inside.0 (result_ok found)) same
    (searched (λ (n : ℕ). n) c.args.held.now (subst IsStrictlyIncreasing (sym same) c.requires) _ found facts.bound by_key)) in
    subst (λ b. IsTrue b ↔ Contains c.args.held.now c.args.lock) (sym c.is_ok.ensures.value)
    (placed-held c.args.held.now c.args.lock found place)
