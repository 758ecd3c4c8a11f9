use Rattle.std.proofs.Common.{◌≡◌, ℕ, ◌<◌, get_or}
use Rattle.subthread.specs.declared.flaw.Flaw.{Flaw}
use Rattle.subthread.proofs.flaw.flaw_among.Given as goal

-- none before this one strikes the walk
abbrev pub invariant-seeking : goal.invariant-seeking
invariant-seeking l =
    (k : ℕ) (d : Flaw) → k < l.at
    → ((get_or l.flaws k d).pos ≡ l.pos) × ((get_or l.flaws k d).attempt ≡ l.attempt) × ((get_or l.flaws k d).walk ≡ l.walk) → ⊥
