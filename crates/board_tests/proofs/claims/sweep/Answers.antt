use Rattle.std.proofs.Common.{ℕ, List, ◌∷◌, ◌++◌, [], Contains, sym, ap, subst}
use Rattle.std.proofs.lemmas.List.Elements.{Contains-push}
use Rattle.gp_steal.specs.Held.{hand}
use Rattle.board_tests.proofs.claims.sweep.Goals as goal

pub finish-requires-clause-held : goal.finish-requires-clause-held
finish-requires-clause-held g c κs within =
    let claimed = c.in-Some.ensures in
    let held : List ℕ = (hand c.loop-pass.pass).held in
    subst (λ (xs : List ℕ). Contains xs c.in-Some.desk.number) (sym (ap (λ h. h.held) claimed.hand))
    (subst (λ n. Contains (held ++ n ∷ []) c.in-Some.desk.number) claimed.desk.0 (Contains-push held c.in-Some.desk.number))
