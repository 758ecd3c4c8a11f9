-- Flaws of which each makes its walk end at an instruction of the walk's number are alike in no two walks.
use Rattle.std.proofs.Common.{◌≡◌, ℕ, List, ap, sym, ◌∙◌, subst}
use Rattle.std.specs.Prelude.{All}
use Rattle.subthread.specs.declared.flaw.Flaw.{Flaw}
use Rattle.subthread.specs.declared.flaw.Made.{Made}
use Rattle.subthread.specs.meaning.Flaws.{Strikes, Spares}

pub numbered_spares : (flaws : List Flaw) → All (λ (f : Flaw). f.made.pc ≡ f.walk) flaws → Spares flaws
numbered_spares flaws numbered p a j k made one other = sym (place j one) ∙ place k other
  where
    place : (walk : ℕ) → Strikes flaws p a walk made → made.pc ≡ walk
    place walk strikes = subst (λ (f : Flaw). f.made.pc ≡ f.walk) strikes.2 (numbered strikes.0 _ strikes.1)
