-- Conflict of two steps, as a test.
use Rattle.std.proofs.Common.{◌≡◌, ◌↔◌, ℕ, ◌<◌, Bool, true, false, List, length, get_or, refl}
use Rattle.std.specs.Prelude.{IsTrue}
use Rattle.std.proofs.lemmas.Bool.{false≢true}
use Rattle.std.proofs.lemmas.List.{get_or-map}
use Rattle.one_thread.specs.declared.run.Step.{Step}
use Rattle.dependence.specs.meaning.Conflict.{conflicting, clash_in, idle_foot}
use Rattle.dependence.specs.Conflict.{Conflict}
use Rattle.dependence.proofs.Conflicting.{conflicting-is}
use Rattle.gp_audit.specs.Steps.{feet_in}

-- two tests of one thing
same_test : {P : Type 0} (a b : Bool) → (a ≡ true) ↔ P → (b ≡ true) ↔ P → a ≡ b
same_test true true f g = refl
same_test false false f g = refl
same_test true false f g = absurd (false≢true (g.1 (f.0 refl)))
same_test false true f g = absurd (false≢true (f.1 (g.0 refl)))

pub clash-is : (steps : List Step) (p q : ℕ) (d e : Step) (b : Bool) → p < length steps → q < length steps
    → IsTrue b ↔ Conflict (get_or steps p d).foot (get_or steps q e).foot → b ≡ clash_in (feet_in steps) p q
clash-is steps p q d e b lp lq is =
    rw (get_or-map (λ (s : Step). s.foot) steps p d idle_foot lp, get_or-map (λ (s : Step). s.foot) steps q e idle_foot lq)
    (same_test b (conflicting (get_or steps p d).foot (get_or steps q e).foot) is
    (conflicting-is (get_or steps p d).foot (get_or steps q e).foot))
