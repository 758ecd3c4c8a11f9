-- Who holds a lock.
use Rattle.std.proofs.Common.{◌≡◌, ℕ, ◌++◌, Some, codes, decimal, Bool, false, true, sym, refl, ◌∙◌, ap, List, ◌==◌, if◌then◌else◌}
use Rattle.std.proofs.lemmas.Bool.{eqb-true}
use Rattle.run_views.specs.meaning.Waits.{other_text, holder_text}

other-holds : (t u : ℕ) → (t ≡ u → ⊥) → (t == u) ≡ false
other-holds t u other = go (t == u) refl
  where
    go : (b : Bool) → (t == u) ≡ b → (t == u) ≡ false
    go false e = e
    go true e = absurd (other (eqb-true t u e))

pub holder-is : (t u : ℕ) → (t ≡ u → ⊥) → other_text u ≡ holder_text t (Some u)
holder-is t u other =
    sym (ap (λ (b : Bool). if b then codes ", which it holds itself" else other_text u) (other-holds t u other))
