use Rattle.std.proofs.Common.{◌≡◌, ℕ, drop}
use Rattle.run_picture.specs.meaning.Attempts.{told_from}
use Rattle.run_picture.specs.declared.told.Told.TheVariants.{Unrun}
use Rattle.run_picture.specs.inner.Tellings.{found}
use Rattle.run_picture.proofs.told.told_in.Given as goal

-- what is told so far, and what the lines that are left tell beside it, is all
abbrev pub invariant-loop-line : goal.invariant-loop-line
invariant-loop-line l =
    (position attempt : ℕ) → told_from position attempt (found l.tellings position attempt) (drop l.line-index l.lines)
    ≡ told_from position attempt Unrun l.lines
