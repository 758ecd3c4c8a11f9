-- Which line of a trace is the first that is not lawful.
use Rattle.std.specs.Prelude.{ℕ, Option, None, Some}
use Rattle.gp_audit.specs.declared.verdict.Verdict.{Verdict}
use Rattle.gp_audit.specs.declared.verdict.Verdict.TheVariants.{Lawful, Unlawful, Incomplete}

-- the first line that is not lawful, by its number from 1, where there is one
abbrev pub unlawful_in : Verdict → Option ℕ
unlawful_in Lawful = None
unlawful_in (Unlawful number) = Some number
unlawful_in Incomplete = None
