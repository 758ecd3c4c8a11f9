-- What a run over files in memory is.
use Rattle.std.specs.Prelude.{◌≡◌, ℕ, List, []}
use Rattle.call_cases.specs.declared.lines.Tool.TheVariants.{Gprs}
use Rattle.call_cases.specs.meaning.Work.{Files, ToDo, Case}
use Rattle.call_cases.specs.meaning.Case.{IsCase, status_of, text_of, due_of}
use Rattle.call_cases.specs.meaning.Headline.{HasCaseLine}
use Rattle.call_cases.specs.meaning.RunCommands.{commands, asking, IsWhole}
use Rattle.memory_batch.specs.declared.run.Ended.{Ended}

-- what these words come to over these files has this status, and this text
pub record IsRunTo (words : List (List ℕ)) (files : Files) (ended : Ended) : Type 0 where
  pub case : Case ToDo
  pub is_case : IsCase asking words files case
  pub ends : status_of commands case ≡ ended.status
  pub writes : ended.text ≡ text_of commands case

-- what these words come to over these files is refused with this status, and with the line that was told
pub record IsRefusedTo (words : List (List ℕ)) (files : Files) (ended : Ended) : Type 0 where
  pub case : Case ToDo
  pub is_case : IsCase asking words files case
  pub ends : status_of commands case ≡ ended.status
  pub tells : ended.told ≡ due_of Gprs case []

-- Where a run finished, is stuck or is spent, its status and its text are those of the run of one thread over these files; where the batch is
-- refused, its line is that of the refusal.
pub record IsRunOver (words : List (List ℕ)) (files : Files) (ended : Ended) : Type 0 where
  pub whole : IsWhole ended.status → IsRunTo words files ended
  pub refused : HasCaseLine ended.status → IsRefusedTo words files ended
