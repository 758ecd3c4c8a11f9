-- Positions without a column, one after another.
use Rattle.std.proofs.Common.{◌≡◌, ℕ, zero, suc, ◌+◌, ◌-◌, ◌<◌, Bool, false, cond, List, ap, refl, ap₂, ◌∙◌, arith}
use Rattle.gp_base.specs.declared.journal.Restart.{Restart}
use Rattle.run_picture.specs.meaning.Attempts.{Tells}
use Rattle.run_picture.specs.meaning.Picture.{has_column, hidden, is_unrun, unrun_from}

-- a position without a column is passed
pub hidden_next : (shows : ℕ → Bool) (restarts : List Restart) (first positions at : ℕ) → at < positions
    → has_column shows restarts (first + at) ≡ false
    → hidden shows restarts (positions - at) (first + at) ≡ suc (hidden shows restarts (positions - (at + 1)) (first + (at + 1)))
hidden_next shows restarts first positions at less is = go (positions - at) refl
  where
    go : (n : ℕ) → positions - at ≡ n
        → hidden shows restarts n (first + at) ≡ suc (hidden shows restarts (positions - (at + 1)) (first + (at + 1)))
    go zero none = absurd (omega arith)
    go (suc n) more =
        ap (λ b. cond b 0 (suc (hidden shows restarts n (suc (first + at))))) is
        ∙ ap₂ (λ left p. suc (hidden shows restarts left p)) (omega arith) (omega arith)

-- one that may not have been run is counted
pub unrun_next : (tells : Tells) (first positions at : ℕ) → at < positions
    → unrun_from tells (positions - at) (first + at)
    ≡ cond (is_unrun (tells (first + at) 0)) 1 0 + unrun_from tells (positions - (at + 1)) (first + (at + 1))
unrun_next tells first positions at less = go (positions - at) refl
  where
    go : (n : ℕ) → positions - at ≡ n
        → unrun_from tells n (first + at)
        ≡ cond (is_unrun (tells (first + at) 0)) 1 0 + unrun_from tells (positions - (at + 1)) (first + (at + 1))
    go zero none = absurd (omega arith)
    go (suc n) more =
        ap₂ (λ left p. cond (is_unrun (tells (first + at) 0)) 1 0 + unrun_from tells left p) (omega arith) (omega arith)
