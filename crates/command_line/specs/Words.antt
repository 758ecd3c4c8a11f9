-- Which ranges the numbers of a command line keep.
use Rattle.std.specs.Prelude.{◌≤◌, ◌<◌, ⊤}
use Rattle.gp_base.specs.declared.limits.TheConstants.{LEAST_MOVES, MOST_MOVES, MOST_SUBTHREADS, MOST_WORKERS}
use Rattle.command_line.specs.declared.asked.Asked.{Asked}
use Rattle.command_line.specs.declared.asked.Command.{Command}
use Rattle.command_line.specs.declared.asked.Command.TheVariants as command
use Rattle.command_line.specs.declared.ckpt_words.TheConstants.{LEAST_EVERY, MOST_EVERY}

-- the number of a command lies within its range: how many moves a batch has that is made, and after how many subthreads
-- there is a checkpoint
abbrev pub IsWithinRanges : Command → Type 0
IsWithinRanges (command.Soak soak) = (LEAST_MOVES ≤ soak.moves) × (soak.moves ≤ MOST_MOVES)
IsWithinRanges (command.Ckpt every) = (LEAST_EVERY ≤ every) × (every ≤ MOST_EVERY)
IsWithinRanges command = ⊤

-- some subthread may begin and no more than may at most, there is a worker and no more than there may be
pub record IsWithinLimits (asked : Asked) : Type 0 where
  pub ranges : IsWithinRanges asked.command
  pub some_subthread : 0 < asked.limits.subthreads
  pub few_subthreads : asked.limits.subthreads ≤ MOST_SUBTHREADS
  pub some_worker : 1 ≤ asked.workers
  pub few_workers : asked.workers ≤ MOST_WORKERS
