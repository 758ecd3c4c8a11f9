-- Tasks that were claimed, counted by the way.
use Rattle.std.specs.Prelude.{ℕ, ◌+◌}
use Rattle.steal_crew.specs.declared.counts.Counts.{Counts}

-- how many were claimed in all
abbrev pub sum_of : Counts → ℕ
sum_of counts = counts.own + counts.stolen + counts.swept

-- the same of three numbers
abbrev pub sum_of_three : ℕ × ℕ × ℕ → ℕ
sum_of_three counts = counts.0 + counts.1 + counts.2
