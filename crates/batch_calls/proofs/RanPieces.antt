-- Runs over a journal: from what the engine promises of a batch to what is promised of a work, and from the pieces of a text to the whole.
use Rattle.std.proofs.Common.{◌≡◌, ◌⊎◌, ℕ, ◌-◌, ◌≤◌, zero, suc, ℤ, List, [], ◌∷◌, ◌++◌, length, take, drop, flat_map, slice_get, codes, Result, Ok, Err, OnOk, IfOk, IfErr, inl, inr, refl, sym, ap, subst, ◌∙◌, append_assoc, append-nil, arith}
use Rattle.std.specs.declared.option.Option.{Option}
use Rattle.std.specs.Io.KnownBytes.{Appends, Keeps}
use Rattle.std.proofs.lemmas.List.{take_all, take-append-drop}
use Rattle.std.proofs.lemmas.Grind.{flat_map-append}
use Rattle.std.proofs.Math.Nat.{le_refl}
use Rattle.gp_base.specs.meaning.Sinks.{AppendsPrefix, Rose}
use Rattle.gp_base.specs.declared.sink.SinkFault.{SinkFault}
use Rattle.gp_base.specs.declared.sink.SinkFault.TheVariants.{Failed}
use Rattle.gp_base.specs.declared.sink.SinkFault.TheVariants as sink
use Rattle.gp_base.specs.declared.fault.Fault.{Fault}
use Rattle.gp_base.specs.declared.journal.Journal.{Journal}
use Rattle.gp_base.proofs.Written.{Appends-append, prefix_first, prefix_second, prefix_none, prefix_of_split, Keeps-same}
use Rattle.task_ast.specs.meaning.Plain.{Subthread}
use Rattle.task_ast.specs.Plain.{order, end, final_records}
use Rattle.task_ast.proofs.Runs.{order-is, run-end}
use Rattle.gp_base.specs.declared.journal.Event.{Event}
use Rattle.dependence.specs.meaning.Restarts.{restarts}
use Rattle.dependence.specs.meaning.Journal.{Lawful, Complete, stage}
use Rattle.task_ast.specs.meaning.Names.{records_of}
use Rattle.task_ast.specs.meaning.Layout.{cut}
use Rattle.restart_log.specs.meaning.Lines.{printed}
use Rattle.restart_log.specs.meaning.Tail as tail
use Rattle.restart_log.specs.meaning.Soak as soak
use Rattle.reorder_list.specs.declared.report.Report.{Report}
use Rattle.reorder_list.specs.declared.report.EngineStop.{EngineStop}
use Rattle.reorder_list.specs.declared.report.StopWhy.TheVariants.{WriteFault}
use Rattle.reorder_list.specs.declared.report.StopWhy.TheVariants as why
use Rattle.whole_run.specs.declared.recovery.Recovery.{Recovery}
use Rattle.whole_run.specs.Recovering as whole
use Rattle.whole_run.specs.View.{Batch, program_in, run_in, lines_of}
use Rattle.whole_run.specs.Drive.{journal_in, JournalStands, ReportsRun, all_lines, WritesRetired}
use Rattle.whole_run.specs.Drive as drive
use Rattle.command_line.specs.declared.asked.Command.{Command}
use Rattle.command_line.specs.declared.asked.Command.TheVariants as command
use Rattle.command_line.specs.declared.asked.Soak.{Soak}
use Rattle.call_cases.specs.meaning.Work.{ToDo}
use Rattle.call_cases.specs.meaning.PlainText.{plain_ran, restarts_in}
use Rattle.call_cases.specs.meaning.Recovering.{recovering_by}
use Rattle.call_cases.specs.meaning.Journals.{run_of, recovering_for, retired_in, lines_before, HoldsRetired, IsJournalOf, IsCompleteOf, TakesRetiredFor}
use Rattle.call_cases.specs.meaning.Answers.{Change, IsEmpty, TakesAll, TakesPart, Fails}
use Rattle.call_cases.proofs.RunSound.{empty_journal_of, none_retired}
use Rattle.batch_calls.specs.inner.Planned.{recovery_of}
use Rattle.batch_calls.specs.inner.Ran.{WritesLines, Stops, why_of, RunsBatch, bytes_below, bytes_at, IsReportOf, RunsIf, RunsWork, RanIf, RanFor, told_tail, told_soak}
use Rattle.call_cases.specs.meaning.Texts.{run_tail, run_text, run_soak}

-- a run that recovers as a command does is that of which is said what is said of the command
pub same_recovering : (c : Command) (run : List Subthread) → whole.recovering (recovery_of c) run ≡ recovering_by c run
same_recovering command.Run run = refl
same_recovering command.One run = refl
same_recovering command.Check run = refl
same_recovering (command.Soak batch) run = refl
same_recovering (command.Ckpt every) run = refl
same_recovering command.Log run = refl

-- all have retired where a journal is complete
retired_by : (run : List Subthread) (faults : List Fault) (events : List Event) (c : Command)
    → Complete (recovering_by c run) faults events → (stage (recovering_by c run) faults events).retired ≡ length run
retired_by run faults events c complete = complete.retired ∙ ap (λ d. d.count) (sym (same_recovering c run))

-- a batch that is the run of a work
module _ (batch : Batch) (work : ToDo) (program : program_in batch ≡ work.program) (inputs : batch.inputs ≡ work.inputs)
    (limits : batch.limits ≡ work.limits) (faults : batch.faults ≡ work.faults)
    (recovery : batch.recovery ≡ recovery_of work.command) where
  same_run : run_in batch ≡ run_of work
  unfolding run_of
  same_run =
      ap (λ p. order p batch.inputs batch.limits) program ∙ ap (λ i. order work.program i batch.limits) inputs
      ∙ ap (λ l. order work.program work.inputs l) limits ∙ sym (order-is work.program work.inputs work.limits)

  -- what holds of the batch's recovery, run and faults holds of the work's
  pub crossed : (P : Recovery → List Subthread → List Fault → Type 0) → P batch.recovery (run_in batch) batch.faults
      → P (recovery_of work.command) (run_of work) work.faults
  crossed P is =
      subst (λ f. P (recovery_of work.command) (run_of work) f) faults
      (subst (λ r. P (recovery_of work.command) r batch.faults) same_run (subst (λ r. P r (run_in batch) batch.faults) recovery is))

  restarts_same : drive.restarts_in batch ≡ restarts_in work
  unfolding run_of restarts_in
  restarts_same =
      crossed (λ r run f. drive.restarts_in batch ≡ restarts (whole.recovering r run) f) refl
      ∙ ap (λ d. restarts d work.faults) (same_recovering work.command (run_of work))

  journal_of : (journal : Journal) → JournalStands batch journal → IsJournalOf work journal
  journal_of journal stands = record {
    lawful =
        subst (λ d. Lawful d work.faults journal.events) (same_recovering work.command (run_of work))
        (crossed (λ r run f. Lawful (whole.recovering r run) f journal.events) stands.lawful);
    first = (stands.first.0, sym restarts_same ∙ stands.first.1);
    counted = stands.counted;
  }

  report_of : (report : Report) → ReportsRun batch report → IsReportOf work report
  unfolding plain_ran run_of
  report_of report reports =
      let restarts = reports.restarts ∙ restarts_same in
      record {
        complete =
            subst (λ d. Complete d work.faults report.journal.events) (same_recovering work.command (run_of work))
            (crossed (λ r run f. Complete (whole.recovering r run) f report.journal.events) reports.complete);
        restarts = restarts;
        end =
            reports.end ∙ ap (λ p. end p batch.inputs batch.limits) program ∙ ap (λ i. end work.program i batch.limits) inputs
            ∙ ap (λ l. end work.program work.inputs l) limits ∙ sym (run-end work.program work.inputs work.limits).0;
        cells =
            reports.records ∙ ap (λ p. final_records p batch.inputs batch.limits) program
            ∙ ap (λ i. final_records work.program i batch.limits) inputs ∙ ap (λ l. final_records work.program work.inputs l) limits
            ∙ sym (run-end work.program work.inputs work.limits).1;
        subthreads = reports.subthreads ∙ ap length same_run;
        unused =
            reports.unused ∙ ap (λ f. length f - length report.journal.restarts) faults ∙ ap (λ l. length work.faults - length l) restarts;
      }

  lines_same : all_lines batch ≡ (plain_ran work).lines
  unfolding plain_ran run_of
  lines_same = ap (flat_map (λ (s : Subthread). s.lines)) same_run

  -- the bytes of the lines before a position, and some of those at it
  abbrev bytes_to : (position part : ℕ) → List Subthread → List ℕ
  bytes_to p part run = printed (flat_map (λ (s : Subthread). s.lines) (take p run)) ++ take part (printed (lines_of (slice_get run p)))

  partly_of : (before after : Option (List ℕ)) (journal : Journal) → WritesRetired batch before after journal
      → (part : ℕ) × Appends before after (bytes_below work (retired_in work journal)
      ++ take part (bytes_at work (retired_in work journal)))
  unfolding recovering_for
  partly_of before after journal writes = (
    writes.part,
    subst (λ d. Appends before after (bytes_to (stage d work.faults journal.events).retired writes.part (run_of work)))
        (same_recovering work.command (run_of work))
        (crossed (λ r run f. Appends before after (bytes_to (stage (whole.recovering r run) f journal.events).retired writes.part run))
        writes.bytes),
  )

  pub runs_if : (failed : Type 0) (out : Change) (result : Result Report EngineStop) → JournalStands batch (journal_in result)
      → IfOk result (ReportsRun batch)
      → OnOk result (TakesAll out (printed (all_lines batch))) → WritesRetired batch out.written out.written' (journal_in result)
      → out.faults ≤ out.faults'
      → IfErr result (λ stop. stop.why ≡ WriteFault → failed) → RunsIf failed work out result
  runs_if failed out (Ok report) stands reports lines partly later cause = record {
    journal = journal_of report.journal stands;
    report = report_of report reports;
    lines = subst (λ l. TakesAll out (printed l)) lines_same lines;
    partly = partly_of out.written out.written' report.journal partly;
    later = later;
    cause = tt;
  }
  runs_if failed out (Err stop) stands reports lines partly later cause = record {
    journal = journal_of stop.journal stands;
    report = tt;
    lines = tt;
    partly = partly_of out.written out.written' stop.journal partly;
    later = later;
    cause = cause;
  }

  pub runs_work : (out : Change) (result : Result Report EngineStop) → RunsBatch batch out result → RunsWork work out result
  runs_work out result ran = runs_if (Fails out) out result ran.journal ran.report ran.lines ran.partly ran.cause.later ran.cause.failed

-- a stop at a fault of the output
pub stops_by : (fault : SinkFault) (journal : Journal) (stop : EngineStop) → stop.why ≡ why_of fault → stop.journal ≡ journal
    → Stops fault journal stop
stops_by Failed journal stop is same = record { journal_is = same; failed = λ failed. refl }
stops_by sink.OutOfMemory journal stop is same =
    record { journal_is = same; failed = λ failed. let bad : why.OutOfMemory ≡ WriteFault = sym is ∙ failed in cc }

-- the lines of all subthreads are those before one, those of that one, and the others
lines_split : (run : List Subthread) (p : ℕ)
    → flat_map (λ (s : Subthread). s.lines) run
    ≡ flat_map (λ (s : Subthread). s.lines) (take p run)
    ++ (lines_of (slice_get run p) ++ flat_map (λ (s : Subthread). s.lines) (drop (suc p) run))
lines_split [] zero = refl
lines_split [] (suc p) = refl
lines_split (s ∷ run) zero = refl
lines_split (s ∷ run) (suc p) = ap (λ l. s.lines ++ l) (lines_split run p)
    ∙ sym (append_assoc s.lines (flat_map (λ (s : Subthread). s.lines) (take p run))
    (lines_of (slice_get run p) ++ flat_map (λ (s : Subthread). s.lines) (drop (suc p) run)))

lines_next : (run : List Subthread) (p : ℕ)
    → flat_map (λ (s : Subthread). s.lines) (take (suc p) run)
    ≡ flat_map (λ (s : Subthread). s.lines) (take p run) ++ lines_of (slice_get run p)
lines_next [] zero = refl
lines_next [] (suc p) = refl
lines_next (s ∷ run) zero = append-nil s.lines
lines_next (s ∷ run) (suc p) = ap (λ l. s.lines ++ l) (lines_next run p)
    ∙ sym (append_assoc s.lines (flat_map (λ (s : Subthread). s.lines) (take p run)) (lines_of (slice_get run p)))

printed-append : (a b : List (List ℤ)) → printed (a ++ b) ≡ printed a ++ printed b
printed-append a b = flat_map-append _ a b

bytes_next : (work : ToDo) (p : ℕ) → bytes_below work (suc p) ≡ bytes_below work p ++ bytes_at work p
bytes_next work p =
    ap printed (lines_next (run_of work) p) ∙ printed-append (flat_map (λ (s : Subthread). s.lines) (take p (run_of work)))
    (lines_of (slice_get (run_of work) p))

abbrev bytes_after : ToDo → ℕ → List ℕ
bytes_after work p = printed (flat_map (λ (s : Subthread). s.lines) (drop (suc p) (run_of work)))

bytes_split : (work : ToDo) (p : ℕ) → printed (plain_ran work).lines ≡ bytes_below work p ++ (bytes_at work p ++ bytes_after work p)
unfolding plain_ran run_of
bytes_split work p =
    ap printed (lines_split (run_of work) p)
    ∙ printed-append (flat_map (λ (s : Subthread). s.lines) (take p (run_of work)))
    (lines_of (slice_get (run_of work) p) ++ flat_map (λ (s : Subthread). s.lines) (drop (suc p) (run_of work)))
    ∙ ap (λ l. bytes_below work p ++ l) (printed-append (lines_of (slice_get (run_of work) p))
    (flat_map (λ (s : Subthread). s.lines) (drop (suc p) (run_of work))))

bytes_all : (work : ToDo) → printed (plain_ran work).lines ≡ bytes_below work (length (run_of work))
unfolding plain_ran run_of
bytes_all work =
    ap (λ r. printed (flat_map (λ (s : Subthread). s.lines) r))
    (sym (take_all (length (run_of work)) (run_of work) (le_refl (length (run_of work)))))

-- all have retired where the journal is complete
pub all_retired : (work : ToDo) (journal : Journal) → IsCompleteOf work journal → retired_in work journal ≡ length (run_of work)
unfolding recovering_for
all_retired work journal complete = retired_by (run_of work) work.faults journal.events work.command complete

-- what follows the lines of the report is what follows those of the work
told_same : (work : ToDo) (report : Report) → IsReportOf work report
    → told_tail work.program report ≡ run_tail (plain_ran work) (restarts_in work) (length work.faults)
unfolding plain_ran
told_same work report is =
    let names = records_of work.program.heads in
    ap (λ e. tail.tail_text e (cut names report.records) report.subthreads report.journal.restarts report.unused) is.end
    ∙ ap (λ c. tail.tail_text (plain_ran work).end (cut names c) report.subthreads report.journal.restarts report.unused) is.cells
    ∙ ap (λ n. tail.tail_text (plain_ran work).end (cut names (plain_ran work).cells) n report.journal.restarts report.unused) is.subthreads
    ∙ ap (λ r. tail.tail_text (plain_ran work).end (cut names (plain_ran work).cells) (plain_ran work).subthreads r report.unused)
    is.restarts
    ∙ ap (λ u. tail.tail_text (plain_ran work).end (cut names (plain_ran work).cells) (plain_ran work).subthreads (restarts_in work) u)
    is.unused

summary_same : (batch : Soak) (work : ToDo) (report : Report) → IsReportOf work report
    → told_soak batch report ≡ run_soak batch (plain_ran work) (restarts_in work) (length work.faults)
summary_same batch work report is =
    ap (λ e. soak.soak_text batch.moves batch.start e report.records report.subthreads report.journal.restarts report.unused) is.end
    ∙ ap (λ c. soak.soak_text batch.moves batch.start (plain_ran work).end c report.subthreads report.journal.restarts report.unused)
    is.cells
    ∙ ap (λ n. soak.soak_text batch.moves batch.start (plain_ran work).end (plain_ran work).cells n report.journal.restarts report.unused)
    is.subthreads
    ∙ ap (λ r. soak.soak_text batch.moves batch.start (plain_ran work).end (plain_ran work).cells
    (plain_ran work).subthreads r report.unused) is.restarts
    ∙ ap (λ u. soak.soak_text batch.moves batch.start (plain_ran work).end (plain_ran work).cells (plain_ran work).subthreads
    (restarts_in work) u) is.unused

-- all of the first bytes and some of the next
lines_part : (a b : Option (List ℕ)) (xs ys : List ℕ) (n : ℕ) → Appends a b (xs ++ take n ys) → AppendsPrefix a b (xs ++ ys)
lines_part a b xs ys n all =
    prefix_of_split a b (xs ++ ys) (xs ++ take n ys) (drop n ys)
    (ap (λ l. xs ++ l) (sym (take-append-drop n ys)) ∙ sym (append_assoc xs (take n ys) (drop n ys))) all

pub rose_later : (a b c : ℕ) → a ≤ b → Rose b c → Rose a c
rose_later a b c later rose = omega (arith, later, rose)

pub rose_last : (a b c d : ℕ) → a ≤ b → b ≤ c → Rose c d → Rose a d
rose_last a b c d first second rose = omega (arith, first, second, rose)

abbrev first_line : List ℕ
first_line = codes "output\n"

-- what the output took of the lines of a run
abbrev TakesLines : ToDo → Journal → Change → Type 0
TakesLines work journal out =
    HoldsRetired work journal out × (IsCompleteOf work journal ⊎ TakesPart out (lines_before work (suc (retired_in work journal))))

takes_lines : (c : Command) (work : ToDo) (journal : Journal) (out : Change) → WritesLines c → TakesLines work journal out
    → TakesRetiredFor c work journal out
takes_lines command.Run work journal out writes taken = taken
takes_lines command.One work journal out writes taken = taken
takes_lines command.Check work journal out writes taken = taken
takes_lines (command.Soak batch) work journal out writes taken = absurd writes
takes_lines (command.Ckpt every) work journal out writes taken = taken
takes_lines command.Log work journal out writes taken = taken

-- the text of a run whose lines are written, and what failed where it stopped at a write
module _ (failed : Type 0) (work : ToDo) (writes : WritesLines work.command) where
  abbrev all_text : List ℕ
  all_text = run_text (plain_ran work) (restarts_in work) (length work.faults)

  abbrev ending : List ℕ
  ending = run_tail (plain_ran work) (restarts_in work) (length work.faults)

  -- the first line was not written
  pub ran_without_first : (out : Change) (stop : EngineStop) (journal : Journal) (fault : SinkFault) → IsEmpty journal
      → Stops fault journal stop → TakesPart out first_line
      → (fault ≡ Failed → failed) → RanIf failed work all_text out (Err stop)
  ran_without_first out stop journal fault empty stops part cause =
      let empty' = subst IsEmpty (sym stops.journal_is) empty in
      let none = none_retired work stop.journal empty' in
      record {
        journal = empty_journal_of work stop.journal empty';
        report = tt;
        all = tt;
        part = prefix_first out.written out.written' first_line (printed (plain_ran work).lines ++ ending) part;
        retired = takes_lines work.command work stop.journal out writes
            (inl none, inr (prefix_first out.written out.written' first_line (bytes_below work (suc (retired_in work stop.journal))) part));
        cause = λ is. cause (stops.failed is);
      }

  -- the lines were not all written
  pub ran_without_lines : (before first second : Option (List ℕ)) (f f' f'' : ℕ) (stop : EngineStop) (here : Type 0)
      → Appends before first first_line
      → RunsIf here work (record { written = first; written' = second; faults = f'; faults' = f'' }) (Err stop) → (here → failed)
      → RanIf failed work all_text (record { written = before; written' = second; faults = f; faults' = f'' }) (Err stop)
  ran_without_lines before first second f f' f'' stop here output runs later =
      let r = retired_in work stop.journal in
      let taken = take runs.partly.0 (bytes_at work r) in
      let lines : Appends before second (first_line ++ (bytes_below work r ++ taken)) =
      Appends-append before first second first_line (bytes_below work r ++ taken) output runs.partly.1 in
      let part : AppendsPrefix first second (bytes_below work r ++ bytes_at work r) =
      lines_part first second (bytes_below work r) (bytes_at work r) runs.partly.0 runs.partly.1 in
      record {
        journal = runs.journal;
        report = tt;
        all = tt;
        part = prefix_second before first second first_line (printed (plain_ran work).lines ++ ending) output
            (prefix_first first second (printed (plain_ran work).lines) ending
            (subst (AppendsPrefix first second) (append_assoc (bytes_below work r) (bytes_at work r) (bytes_after work r)
            ∙ sym (bytes_split work r))
            (prefix_first first second (bytes_below work r ++ bytes_at work r) (bytes_after work r) part)));
        retired =
            takes_lines work.command work stop.journal (record { written = before; written' = second; faults = f; faults' = f'' }) writes (
              inr (taken, subst (Appends before second) (sym (append_assoc first_line (bytes_below work r) taken)) lines),
              inr (prefix_second before first second first_line (bytes_below work (suc r)) output
                  (subst (AppendsPrefix first second) (sym (bytes_next work r)) part)),
            );
        cause = λ is. later (runs.cause is);
      }

  module _ (before first second third : Option (List ℕ)) (f f' f'' f''' : ℕ) (report : Report) (here : Type 0)
      (output : Appends before first first_line)
      (runs : RunsIf here work (record { written = first; written' = second; faults = f'; faults' = f'' }) (Ok report)) where
    told : told_tail work.program report ≡ ending
    told = told_same work report runs.report

    lines_taken : Appends before second (first_line ++ printed (plain_ran work).lines)
    lines_taken = Appends-append before first second first_line (printed (plain_ran work).lines) output runs.lines

    holds : (rest : List ℕ) → Appends second third rest
        → (retired_in work report.journal ≡ 0) ⊎ (more : List ℕ)
        × Appends before third (lines_before work (retired_in work report.journal) ++ more)
    holds rest taken =
        let all = Appends-append before second third (first_line ++ printed (plain_ran work).lines) rest lines_taken taken in
        inr (
          rest,
          subst (λ l. Appends before third ((first_line ++ l) ++ rest))
              (bytes_all work ∙ ap (bytes_below work) (sym (all_retired work report.journal runs.report.complete))) all,
        )

    -- the tail was not written
    pub ran_without_tail : (stop : EngineStop) (fault : SinkFault) → Stops fault report.journal stop
        → AppendsPrefix second third (told_tail work.program report) → (fault ≡ Failed → failed)
        → RanIf failed work all_text (record { written = before; written' = third; faults = f; faults' = f''' }) (Err stop)
    ran_without_tail stop fault stops part cause =
        let out : Change = record { written = before; written' = third; faults = f; faults' = f''' } in
        let complete = subst (IsCompleteOf work) (sym stops.journal_is) runs.report.complete in
        record {
          journal = subst (IsJournalOf work) (sym stops.journal_is) runs.journal;
          report = tt;
          all = tt;
          part = prefix_second before first third first_line (printed (plain_ran work).lines ++ ending) output
              (prefix_second first second third (printed (plain_ran work).lines) ending runs.lines
              (subst (AppendsPrefix second third) told part));
          retired = takes_lines work.command work stop.journal out writes (
            subst (λ j. (retired_in work j ≡ 0) ⊎ (more : List ℕ) × Appends before third (lines_before work (retired_in work j) ++ more))
                (sym stops.journal_is) (holds (take part.0 (told_tail work.program report)) part.1),
            inl complete,
          );
          cause = λ is. cause (stops.failed is);
        }

    -- all was written
    pub ran_whole : Appends second third (told_tail work.program report)
        → RanIf failed work all_text (record { written = before; written' = third; faults = f; faults' = f''' }) (Ok report)
    ran_whole taken =
        let out : Change = record { written = before; written' = third; faults = f; faults' = f''' } in
        record {
          journal = runs.journal;
          report = runs.report;
          all = Appends-append before first third first_line (printed (plain_ran work).lines ++ ending) output
              (Appends-append first second third (printed (plain_ran work).lines) ending runs.lines
              (subst (Appends second third) told taken));
          part = tt;
          retired =
              takes_lines work.command work report.journal out writes
              (holds (told_tail work.program report) taken, inl runs.report.complete);
          cause = tt;
        }

-- the summary of a batch that the program made
module _ (work : ToDo) (batch : Soak) (run : work.command ≡ command.Soak batch) where
  abbrev summary : List ℕ
  summary = run_soak batch (plain_ran work) (restarts_in work) (length work.faults)

  -- the run stopped, and nothing was written
  pub soak_without_run : (out nobody : Change) (stop : EngineStop) → out.written' ≡ out.written → nobody.faults ≡ 0 → nobody.faults' ≡ 0
      → RunsWork work nobody (Err stop) → RanFor work summary out (Err stop)
  soak_without_run out nobody stop kept none none' runs = record {
    journal = runs.journal;
    report = tt;
    all = tt;
    part = subst (λ w. AppendsPrefix out.written w summary) (sym kept) (prefix_none out.written summary);
    retired =
        subst (λ c. TakesRetiredFor c work stop.journal out) (sym run)
        (inr (subst (Keeps out.written) (sym kept) (Keeps-same out.written)));
    cause = λ is. absurd (never nobody.faults nobody.faults' none none' (runs.cause is));
  }
    where
      never : (a b : ℕ) → a ≡ 0 → b ≡ 0 → Rose a b → ⊥
      never a b first second rose = omega (arith, first, second, rose)

  module _ (out nobody : Change) (report : Report) (runs : RunsWork work nobody (Ok report)) where
    -- the summary was not written
    pub soak_without_summary : (stop : EngineStop) (fault : SinkFault) → Stops fault report.journal stop
        → TakesPart out (told_soak batch report) → (fault ≡ Failed → Fails out) → RanFor work summary out (Err stop)
    soak_without_summary stop fault stops part cause = record {
      journal = subst (IsJournalOf work) (sym stops.journal_is) runs.journal;
      report = tt;
      all = tt;
      part = subst (TakesPart out) (summary_same batch work report runs.report) part;
      retired =
          subst (λ c. TakesRetiredFor c work stop.journal out) (sym run)
          (inl (subst (IsCompleteOf work) (sym stops.journal_is) runs.report.complete));
      cause = λ is. cause (stops.failed is);
    }

    -- all was written
    pub soak_whole : TakesAll out (told_soak batch report) → RanFor work summary out (Ok report)
    soak_whole all = record {
      journal = runs.journal;
      report = runs.report;
      all = subst (TakesAll out) (summary_same batch work report runs.report) all;
      part = tt;
      retired = subst (λ c. TakesRetiredFor c work report.journal out) (sym run) (inl runs.report.complete);
      cause = tt;
    }
