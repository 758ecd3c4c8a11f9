-- What each value of the record of promises meets.
use Rattle.std.specs.Prelude.{◌≡◌, ◌⊎◌, ◌<◌, ℕ, List, Option}
use Rattle.gp_base.specs.declared.journal.Journal.{Journal}
use Rattle.call_cases.specs.meaning.Answers.{IsEmpty}
use Rattle.call_cases.specs.Answers.{unwritten}
use Rattle.call_cases.specs.meaning.Commands.{Commands}
use Rattle.call_cases.specs.meaning.Laws.{HasOneCase}

-- a status that is none of a refusal and none of a stop
abbrev pub IsApart : ℕ → Type 0
IsApart status = (status ≡ 0) ⊎ (status ≡ 5) ⊎ (status ≡ 6) ⊎ (8 < status)

-- What each value of the record meets: what is done to its end has a status of such an end, which is no status of a
-- refusal or of a stop; a journal of no event is a lawful one, with nothing written; and a call has one case.
pub record AreSound {A T : Type 0} (commands : Commands A T) : Type 0 where
  pub ends : (work : T) → commands.whole (commands.status work)
  pub apart : (status : ℕ) → commands.whole status → IsApart status
  pub begins : (work : T) (journal : Journal) → IsEmpty journal → commands.lawful work journal
  pub unbegun : (work : T) (journal : Journal) (written : Option (List ℕ)) (faults : ℕ) → IsEmpty journal
      → commands.retired work journal (unwritten written faults)
  pub once : HasOneCase commands.asking
