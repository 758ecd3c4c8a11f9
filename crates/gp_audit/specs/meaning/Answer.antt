-- How a verdict is told.
use Rattle.std.specs.Prelude.{ℕ, List, ◌++◌, codes, decimal}
use Rattle.gp_audit.specs.declared.verdict.Verdict.{Verdict}
use Rattle.gp_audit.specs.declared.verdict.Verdict.TheVariants.{Lawful, Unlawful, Incomplete}

abbrev pub verdict_text : Verdict → List ℕ
verdict_text Lawful = codes "lawful\n"
verdict_text (Unlawful number) = codes "unlawful " ++ decimal number ++ codes "\n"
verdict_text Incomplete = codes "incomplete\n"

abbrev pub verdict_status : Verdict → ℕ
verdict_status Lawful = 0
verdict_status (Unlawful number) = 9
verdict_status Incomplete = 10
