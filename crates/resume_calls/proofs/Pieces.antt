-- The text that is still to come, written in pieces.
use Rattle.std.proofs.Common.{◌≡◌, ℕ, List, [], ◌∷◌, ◌++◌, codes, refl, sym, ap, subst, ◌∙◌, arith}
use Rattle.std.specs.List.{Contains}
use Rattle.std.specs.declared.option.Option.{Option}
use Rattle.std.specs.declared.result.Result.TheVariants.{Ok, Err}
use Rattle.std.specs.Io.KnownBytes.{Appends}
use Rattle.std.specs.Fmt.{signed_decimal}
use Rattle.std.specs.Prelude.{flat_map}
use Rattle.std.proofs.lemmas.List.Elements.{Contains-append_left, Contains-append_right}
use Rattle.gp_base.specs.meaning.Sinks.{AppendsPrefix}
use Rattle.gp_base.specs.declared.feed.Inputs.{Inputs}
use Rattle.gp_base.specs.declared.limits.Limits.{Limits}
use Rattle.gp_base.proofs.Written.{Appends-append, prefix_first, prefix_second, prefix_whole, prefix_none, Rose-later}
use Rattle.task_ast.specs.meaning.Tree.{Program}
use Rattle.task_ast.specs.meaning.Names.{records_of}
use Rattle.task_ast.specs.meaning.Layout.{cut}
use Rattle.reorder_list.specs.declared.report.Report.{Report}
use Rattle.restart_log.specs.meaning.Lines.{printed}
use Rattle.restart_log.specs.meaning.Tail.{tail_text}
use Rattle.retirement_log.specs.meaning.Rows.{Retirement, group, cell_numbers, groups_text, row_text, log_text}
use Rattle.gp_resume.specs.declared.stop.ResumeStop.{ResumeStop}
use Rattle.gp_resume.specs.declared.stop.ResumeStop.TheVariants.{LogLine, LogFit, WriteFault, OutOfMemory}
use Rattle.gp_resume.specs.meaning.Reading.{EndsNoLine, IsLogOf}
use Rattle.gp_resume.specs.meaning.Resumed as rest
use Rattle.gp_resume.specs.Resuming.{AnswersLog, IsRefused, ReportsRest, DrivesRest}
use Rattle.call_cases.specs.meaning.Answers.{Change}
use Rattle.call_cases.specs.meaning.RunCommands.{end_status}
use Rattle.call_cases.proofs.Headlines.{none_taken}
use Rattle.resume_calls.specs.inner.Resting.{PutsFirst, PutsTail, Resumes}

-- a line ends in a row
row_ends : (row : Retirement) → Contains (row_text row) 10
row_ends row =
    Contains-append_right (signed_decimal row.position ++ codes " " ++ signed_decimal row.bytes) (groups_text row) 10
    (Contains-append_right (group row.regs ++ group row.child ++ group (flat_map cell_numbers row.cells))
    (codes "\n") 10 (0, omega arith, refl))

-- what was done to a stream
abbrev between : (before after : Option (List ℕ)) → (faults faults' : ℕ) → Change
between before after faults faults' = record { written = before; written' = after; faults = faults; faults' = faults' }

module _ (program : Program) (inputs : Inputs) (limits : Limits) (bytes : List ℕ) where
  abbrev IsLog : List Retirement → Type 0
  IsLog rows = IsLogOf program inputs limits bytes rows

  -- a log in which no line ends has no row, and only such a log has none
  unlined : EndsNoLine bytes → IsLog []
  unlined none =
      record {
        rest = bytes;
        begins = record { wide = λ k d below. absurd (omega (arith, below)); fit = tt; bytes_are = refl };
        ends = none;
      }

  lined : (row : Retirement) (rows : List Retirement) → IsLog (row ∷ rows) → EndsNoLine bytes → ⊥
  lined row rows log none =
      none (subst (λ text. Contains text 10) (sym log.begins.bytes_are)
      (Contains-append_left (log_text (row ∷ rows)) log.rest 10 (Contains-append_left (row_text row) (log_text rows) 10 (row_ends row))))

  rowless : IsLog [] → EndsNoLine bytes
  rowless log = subst EndsNoLine (sym log.begins.bytes_are) log.ends

  -- the answer to a log that is not refused, and the same of another type
  has_rows : (T : Type 0) (stop : ResumeStop) → (IsRefused {T = T} (Err stop) → ⊥) → (rows : List Retirement) → IsLog rows
      → AnswersLog {T = ℕ} program inputs limits bytes (Err stop)
  has_rows T (LogLine number) told rows log = absurd (told tt)
  has_rows T (LogFit number) told rows log = absurd (told tt)
  has_rows T WriteFault told rows log = (rows, log)
  has_rows T OutOfMemory told rows log = tt

  same_log : (T : Type 0) (stop : ResumeStop) → AnswersLog {T = T} program inputs limits bytes (Err stop)
      → AnswersLog {T = ℕ} program inputs limits bytes (Err stop)
  same_log T (LogLine number) is = is
  same_log T (LogFit number) is = is
  same_log T WriteFault is = is
  same_log T OutOfMemory is = is

  abbrev lines_text : List Retirement → List ℕ
  lines_text rows = printed (rest.lines program inputs limits rows)

  abbrev ending : List Retirement → List ℕ
  ending rows =
      tail_text (rest.end program inputs limits rows) (cut (records_of program.heads) (rest.final_records program inputs limits rows))
      (rest.count program inputs limits rows) [] 0

  abbrev told_ending : Report → List ℕ
  told_ending report =
      tail_text report.end (cut (records_of program.heads) report.records) report.subthreads report.journal.restarts report.unused

  same_ending : (rows : List Retirement) (count : ℕ) (report : Report) → ReportsRest program inputs limits rows count report
      → told_ending report ≡ ending rows
  same_ending rows count report is =
      let records = cut (records_of program.heads) (rest.final_records program inputs limits rows) in
      ap (λ e. tail_text e (cut (records_of program.heads) report.records) report.subthreads report.journal.restarts report.unused) is.end
      ∙ ap (λ r. tail_text (rest.end program inputs limits rows)
      (cut (records_of program.heads) r) report.subthreads report.journal.restarts report.unused) is.records
      ∙ ap (λ n. tail_text (rest.end program inputs limits rows) records n report.journal.restarts report.unused) is.subthreads
      ∙ ap (λ r. tail_text (rest.end program inputs limits rows) records (rest.count program inputs limits rows) r report.unused)
      is.restarts
      ∙ ap (λ u. tail_text (rest.end program inputs limits rows) records (rest.count program inputs limits rows) [] u) is.unused

  module _ (before first : Option (List ℕ)) (f f' : ℕ) where
    -- the first line was written, or it had been
    first_taken : {T : Type 0} {value : T} → PutsFirst bytes (between before first f f') (Ok value) → (rows : List Retirement) → IsLog rows
        → Appends before first (rest.first_line rows)
    first_taken puts [] log = puts.all (rowless log)
    first_taken puts (row ∷ rows) log =
        subst (λ written. Appends before written []) (sym (puts.kept (lined row rows log)).written) (none_taken before)

    first_part : {T : Type 0} (stop : ResumeStop) → PutsFirst {T = T} bytes (between before first f f') (Err stop) → (rows : List Retirement)
        → IsLog rows
        → AppendsPrefix before first (rest.text program inputs limits rows)
    first_part stop puts [] log = prefix_first before first (codes "output\n") (lines_text [] ++ ending []) (puts.part puts.lacks)
    first_part stop puts (row ∷ rows) log = absurd (lined row rows log puts.lacks)

    -- the first line was not written
    pub without_first : {T : Type 0} (stop : ResumeStop) → PutsFirst {T = T} bytes (between before first f f') (Err stop)
        → Resumes program inputs limits bytes (between before first f f') (Err stop)
    without_first {T} stop puts = record {
      log = has_rows T stop puts.told [] (unlined puts.lacks);
      unread = λ none. absurd (none [] (unlined puts.lacks));
      status = tt;
      all = tt;
      part = first_part stop puts;
      cause = λ is. puts.cause.failed (ap Err is);
    }

    module _ (second : Option (List ℕ)) (f'' : ℕ) (posted : List (ℕ × ℕ)) {T : Type 0} {value : T}
        (puts : PutsFirst bytes (between before first f f') (Ok value)) where
      -- the lines were not all written
      pub without_lines : (stop : ResumeStop) → DrivesRest program inputs limits bytes first second f' f'' posted (Err stop)
          → Resumes program inputs limits bytes (between before second f f'') (Err stop)
      without_lines stop drives = record {
        log = same_log (ℕ × Report) stop drives.log;
        unread = λ none.
            let start = puts.kept (λ no. none [] (unlined no)) in
            let lines = drives.unread none in
            record { written = lines.0 ∙ start.written; faults = lines.1 ∙ start.faults };
        status = tt;
        all = tt;
        part = λ rows log.
            prefix_second before first second (rest.first_line rows) (lines_text rows ++ ending rows) (first_taken puts rows log)
            (prefix_first first second (lines_text rows) (ending rows) (drives.partly rows log));
        cause = λ is. Rose-later f f' f'' puts.cause.later (drives.cause.failed (ap Err is));
      }

      module _ (third : Option (List ℕ)) (f''' : ℕ) (count : ℕ) (report : Report)
          (drives : DrivesRest program inputs limits bytes first second f' f'' posted (Ok (count, report))) where
        -- the tail was not written
        pub without_tail : {S : Type 0} (stop : ResumeStop) → PutsTail {T = S} program report (between second third f'' f''') (Err stop)
            → Resumes program inputs limits bytes (between before third f f''') (Err stop)
        without_tail {S} stop tail = record {
          log = has_rows S stop tail.told drives.log.0 drives.log.1;
          unread = λ none. absurd (none drives.log.0 drives.log.1);
          status = tt;
          all = tt;
          part = λ rows log.
              prefix_second before first third (rest.first_line rows) (lines_text rows ++ ending rows) (first_taken puts rows log)
              (prefix_second first second third (lines_text rows) (ending rows) (drives.lines rows log)
              (subst (AppendsPrefix second third) (same_ending rows count report (drives.report rows log)) tail.part));
          cause = λ is. Rose-later f f' f''' puts.cause.later (Rose-later f' f'' f''' drives.cause.later (tail.cause.failed (ap Err is)));
        }

        -- all was written
        pub with_tail : {S : Type 0} {done : S} (status : ℕ) → status ≡ end_status report.end
            → PutsTail program report (between second third f'' f''') (Ok done)
            → Resumes program inputs limits bytes (between before third f f''') (Ok status)
        with_tail status is tail = record {
          log = drives.log;
          unread = λ none. absurd (none drives.log.0 drives.log.1);
          status = λ rows log. is ∙ ap end_status (drives.report rows log).end;
          all = whole;
          part = λ rows log. prefix_whole before third (rest.text program inputs limits rows) (whole rows log);
          cause = tt;
        }
          where
            whole : (rows : List Retirement) → IsLog rows → Appends before third (rest.text program inputs limits rows)
            whole rows log =
                Appends-append before first third (rest.first_line rows) (lines_text rows ++ ending rows) (first_taken puts rows log)
                (Appends-append first second third (lines_text rows) (ending rows) (drives.lines rows log)
                (subst (Appends second third) (same_ending rows count report (drives.report rows log)) tail.all))

-- memory was out before the run began
pub unbegun : (program : Program) (inputs : Inputs) (limits : Limits) (bytes : List ℕ) (written : Option (List ℕ)) (faults : ℕ)
    → Resumes program inputs limits bytes (between written written faults faults) (Err OutOfMemory)
unbegun program inputs limits bytes written faults = record {
  log = tt;
  unread = λ none. record { written = refl; faults = refl };
  status = tt;
  all = tt;
  part = λ rows log. prefix_none written (rest.text program inputs limits rows);
  cause = λ is. let never : OutOfMemory ≡ WriteFault = is in cc never;
}
