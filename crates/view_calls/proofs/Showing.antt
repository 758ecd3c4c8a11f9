-- How what is asked to be shown ends.
use Rattle.std.proofs.Common.{◌≡◌, ℕ, List, [], refl, sym, ap, subst, inl, inr}
use Rattle.std.specs.Prelude.{unwrap_or}
use Rattle.std.specs.declared.option.Option.{Option}
use Rattle.std.specs.declared.option.Option.TheVariants.{None, Some}
use Rattle.std.specs.Io.KnownBytes.{Appends}
use Rattle.gp_base.specs.declared.sink.SinkFault.{SinkFault}
use Rattle.gp_base.specs.declared.sink.SinkFault.TheVariants.{Failed}
use Rattle.gp_base.specs.declared.sink.SinkFault.TheVariants as sink
use Rattle.call_cases.specs.declared.lines.Tool.TheVariants.{GprsView}
use Rattle.call_cases.specs.Commands.{IsApart, AreSound}
use Rattle.call_cases.specs.meaning.Answers.{Change, TakesAll, TakesPart, Fails}
use Rattle.call_cases.specs.Answers.{LineEnds, RunEndsOf, finished, StopsBy}
use Rattle.call_cases.proofs.Headlines.{none_taken, run_of_failed, run_of_memory, run_of_whole}
use Rattle.run_picture.specs.meaning.Elements.{Layout}
use Rattle.view_calls.proofs.ViewCases.{view_case}
use Rattle.view_calls.specs.meaning.Commands.{IsShown, no_position_line, absent_line, commands}
use Rattle.view_calls.specs.meaning.Sights.{status_by, absent_by, view_of}

absent_shown : (absent : Option ℕ) → IsShown (status_by absent)
absent_shown None = inl refl
absent_shown (Some position) = inr refl

shown_apart : (status : ℕ) → IsShown status → IsApart status
shown_apart status (inl is) = inl is
shown_apart status (inr is) = inr (inl is)

pub commands_sound : (layout : Layout) → AreSound (commands layout)
commands_sound layout =
    record {
      ends = λ sight. absent_shown (absent_by (view_of layout sight) sight.position);
      apart = shown_apart;
      begins = λ sight journal empty. tt;
      unbegun = λ sight journal written faults empty. tt;
      once = view_case;
    }

-- nothing is told where something is shown
absent_none : (position : Option ℕ) → absent_line 0 position ≡ []
absent_none None = refl
absent_none (Some position) = refl

-- the position that is not there is the one that is asked for
absent_asked : (view : Option (List ℕ)) (asked : Option ℕ) (position : ℕ) → absent_by view asked ≡ Some position → asked ≡ Some position
absent_asked None asked position is = is
absent_asked (Some text) asked position is = absurd (let never : None ≡ Some position = is in cc never)

module _ (view : Option (List ℕ)) (position : Option ℕ) (out err : Change) where
  abbrev ShowsAt : ℕ → ℕ → Type 0
  ShowsAt due status = RunEndsOf GprsView (unwrap_or view []) (absent_line due position) due out err status

  pub shown_ends : absent_by view position ≡ None → TakesAll out (unwrap_or view []) → err.written' ≡ err.written
      → ShowsAt (status_by (absent_by view position)) 0
  shown_ends none all kept =
      subst (λ due. ShowsAt due 0) (sym (ap status_by none))
      (finished all (subst (TakesAll err) (sym (absent_none position))
      (subst (λ w. Appends err.written w []) (sym kept) (none_taken err.written))))

  pub absent_ends : (at status : ℕ) → absent_by view position ≡ Some at → TakesAll out (unwrap_or view [])
      → LineEnds 5 (no_position_line at) err status → ShowsAt (status_by (absent_by view position)) status
  absent_ends at status is all ends =
      subst (λ due. ShowsAt due status) (sym (ap status_by is))
      (subst (λ asked. RunEndsOf GprsView (unwrap_or view []) (absent_line 5 asked) 5 out err status)
      (sym (absent_asked view position at is))
      (run_of_whole GprsView (unwrap_or view []) (no_position_line at) 5 out err status all ends))

  pub stopped_ends : (fault : SinkFault) (status : ℕ) → TakesPart out (unwrap_or view []) → (fault ≡ Failed → Fails out)
      → StopsBy GprsView fault err status → ShowsAt (status_by (absent_by view position)) status
  stopped_ends Failed status part fails ends =
      run_of_failed GprsView (unwrap_or view []) (absent_line (status_by (absent_by view position)) position) (status_by (absent_by view position))
      out err status part
      (fails refl) ends
  stopped_ends sink.OutOfMemory status part fails ends =
      run_of_memory GprsView (unwrap_or view []) (absent_line (status_by (absent_by view position)) position) (status_by (absent_by view position))
      out err status part
      ends
