-- The commands of `gprs_run` are sound, and so are those that differ in what words ask for, or in a log, alone.
use Rattle.std.proofs.Common.{◌≡◌, ℕ, suc, Bool, true, false, if◌then◌else◌, List, [], refl, sym, ap, ◌∙◌, subst, inl, inr}
use Rattle.std.specs.declared.option.Option.{Option}
use Rattle.gp_base.specs.declared.ending.End.{End}
use Rattle.gp_base.specs.declared.ending.End.TheVariants.{Finished, Stuck, Spent}
use Rattle.gp_base.specs.declared.journal.Event.{Event}
use Rattle.gp_base.specs.declared.journal.Restart.{Restart}
use Rattle.gp_base.specs.declared.journal.Journal.{Journal}
use Rattle.gp_base.proofs.Written.{prefix_none, Keeps-same}
use Rattle.command_line.specs.meaning.Words.{asked_by}
use Rattle.command_line.specs.declared.asked.Command.{Command}
use Rattle.command_line.specs.declared.asked.Command.TheVariants as command
use Rattle.call_cases.specs.meaning.Work.{ToDo, runs}
use Rattle.call_cases.specs.meaning.Answers.{IsEmpty}
use Rattle.call_cases.specs.Answers.{unwritten}
use Rattle.call_cases.specs.meaning.PlainText.{plain_ran}
use Rattle.call_cases.specs.meaning.Journals.{IsJournalOf, TakesRetired, TakesRetiredFor, retired_in, lines_before}
use Rattle.call_cases.specs.meaning.Commands.{Asking, Commands, MayLog}
use Rattle.call_cases.specs.Commands.{IsApart, AreSound}
use Rattle.call_cases.specs.meaning.Laws.{HasOneCase}
use Rattle.call_cases.proofs.OneCase.{run_case}
use Rattle.call_cases.specs.meaning.RunCommands.{IsWhole, end_status, work_status, commands}

-- the status that a work calls for is one of a whole text
end_whole : (e : End) → IsWhole (end_status e)
end_whole Finished = inl refl
end_whole (Stuck why thread line) = inr (inl refl)
end_whole (Spent position) = inr (inr refl)

work_whole : (command : Command) (work : ToDo) → IsWhole (work_status command work)
work_whole command work = go (runs command)
  where
    go : (b : Bool) → IsWhole (if b then end_status (plain_ran work).end else 0)
    go true = end_whole (plain_ran work).end
    go false = inl refl

pub whole_apart : (status : ℕ) → IsWhole status → IsApart status
whole_apart status (inl is) = inl is
whole_apart status (inr (inl is)) = inr (inl is)
whole_apart status (inr (inr is)) = inr (inr (inl is))

-- a run that has not begun has a journal of no event
abbrev journal_by : List Event → List Restart → Journal
journal_by events restarts = record { events = events; restarts = restarts }

empty_by : (journal : Journal) → IsEmpty journal → journal ≡ journal_by [] []
empty_by journal empty = ap (λ e. journal_by e journal.restarts) empty.0 ∙ ap (λ r. journal_by [] r) empty.1

pub empty_journal_of : (work : ToDo) (journal : Journal) → IsEmpty journal → IsJournalOf work journal
empty_journal_of work journal empty =
    subst (IsJournalOf work) (sym (empty_by journal empty))
    (record { lawful = tt; first = (_, refl); counted = refl })

pub none_retired : (work : ToDo) (journal : Journal) → IsEmpty journal → retired_in work journal ≡ 0
none_retired work journal empty = ap (λ j. retired_in work j) (empty_by journal empty)

pub retired_none : (work : ToDo) (journal : Journal) (written : Option (List ℕ)) (faults : ℕ) → IsEmpty journal
    → TakesRetired work journal (unwritten written faults)
retired_none work journal written faults empty = go work.command
  where
    go : (c : Command) → TakesRetiredFor c work journal (unwritten written faults)
    go command.Run = (inl (none_retired work journal empty), inr (prefix_none written (lines_before work (suc (retired_in work journal)))))
    go command.One = (inl (none_retired work journal empty), inr (prefix_none written (lines_before work (suc (retired_in work journal)))))
    go command.Check =
        (inl (none_retired work journal empty), inr (prefix_none written (lines_before work (suc (retired_in work journal)))))
    go (command.Soak batch) = inr (Keeps-same written)
    go (command.Ckpt every) =
        (inl (none_retired work journal empty), inr (prefix_none written (lines_before work (suc (retired_in work journal)))))
    go command.Log = (inl (none_retired work journal empty), inr (prefix_none written (lines_before work (suc (retired_in work journal)))))

pub commands_sound : AreSound commands
commands_sound =
    record {
      ends = λ work. work_whole work.command work;
      apart = whole_apart;
      begins = empty_journal_of;
      unbegun = retired_none;
      once = run_case asked_by;
    }

pub sound_for : {A T : Type 0} (commands : Commands A T) (asking : Asking A T) → HasOneCase asking → AreSound commands
    → AreSound (record commands { asking = asking })
sound_for commands asking once sound =
    record { ends = sound.ends; apart = sound.apart; begins = sound.begins; unbegun = sound.unbegun; once = once }

pub sound_with : {A T : Type 0} (commands : Commands A T) (log : MayLog T) → AreSound commands → AreSound (record commands { log = log })
sound_with commands log sound =
    record { ends = sound.ends; apart = sound.apart; begins = sound.begins; unbegun = sound.unbegun; once = sound.once }
