-- From what the parts of a top call ensure to what is promised of the call, for each value of the record of promises.
--
-- A call refuses, or begins what is asked. What begins ends in one of a few ways, each with its status: RunEndsOf where no
-- log is kept, LogEndsOf where one is. Each fact of the promise goes by these ways; both come to Ended, from which it
-- follows once. A refusal goes by its kinds, and writes the same whether a log would be kept or not.
use Rattle.std.proofs.Common.{◌≡◌, ◌⊎◌, ℕ, true, false, List, [], ◌∷◌, IfSome, refl, sym, subst, inl, inr, arith, append-nil}
use Rattle.std.specs.List.{Contains}
use Rattle.std.specs.declared.option.Option.{Option}
use Rattle.std.specs.declared.option.Option.TheVariants.{None, Some}
use Rattle.std.specs.declared.result.Result.{Result}
use Rattle.std.specs.declared.result.Result.TheVariants.{Ok, Err}
use Rattle.std.specs.Io.KnownBytes.{Appends}
use Rattle.gp_base.specs.meaning.Sinks.{AppendsPrefix}
use Rattle.gp_base.specs.declared.sink.SinkFault.{SinkFault}
use Rattle.gp_base.specs.declared.sink.SinkFault.TheVariants as sink
use Rattle.gp_base.specs.declared.sink.SinkFault.TheVariants.{Failed}
use Rattle.gp_base.specs.declared.journal.Journal.{Journal}
use Rattle.gp_base.proofs.Written.{prefix_whole, prefix_none, Keeps-same}
use Rattle.task_ast.specs.meaning.Tree.{Name}
use Rattle.call_cases.specs.declared.reading.Refusal.{Refusal}
use Rattle.call_cases.specs.declared.reading.Refusal.TheVariants.{Usage as RefusedUsage, BadProgram as RefusedProgram, BadInput as RefusedInput, ReadFault, OutOfMemory}
use Rattle.call_cases.specs.meaning.Work.{Files, Case, Refused, Go}
use Rattle.call_cases.specs.meaning.Commands.{Commands, Log, MayLog, Unlogged, Logged}
use Rattle.call_cases.specs.Commands.{AreSound, IsApart}
use Rattle.call_cases.specs.meaning.Laws.{HasOneCase}
use Rattle.call_cases.specs.meaning.Case.{IsCase, no_command, ForCase, ForRun, names_read, status_of, text_of, due_of}
use Rattle.call_cases.specs.declared.lines.Tool.{Tool}
use Rattle.call_cases.specs.meaning.Lines.{tool_line, usage_line, read_fault_line, out_of_memory_line, write_fault_line}
use Rattle.call_cases.specs.Refusals.{RefusesCase, RefusesWords, RefusesShelf, RefusalEndsOf, refusal_line}
use Rattle.call_cases.specs.meaning.Answers.{Change, TakesAll, TakesPart, IsUntouched, Fails, Grew, IsEmpty, IsStopLine, Yields, due_status, no_memory, read_fault, write_fault}
use Rattle.call_cases.specs.Answers.{unwritten, TakesOneOf, LineEnds, whole, line_failed, line_no_memory, RunEndsOf, finished, run_no_memory, output_failed, error_failed, LogEndsOf, log_finished, log_no_memory, log_write_failed, log_unbegun, PutFor, StopsBy}
use Rattle.call_cases.specs.meaning.Headline.{Call, IsQuiet, TellsWrite, TellsStop, TellsCase, IsRefusal, HasCaseLine, error_for, RunsNothing, TellsReadFault, TellsWriteFault, IsStop, ReadsNothing, MeetsCase, Headline}
use Rattle.call_cases.proofs.OneCase.{for_known, for_each, for_map, none_some}

-- a prefix of the line that tells the stop
stop_taken : (tool : Tool) (trace : List ℕ) (err : Change) (stop : List ℕ) → IsStopLine tool stop → TakesPart err stop
    → TakesOneOf tool trace err
stop_taken tool trace err stop is_stop part = (stop, inr is_stop, part)

-- a prefix of the trace
trace_taken : (tool : Tool) (trace : List ℕ) (err : Change) → TakesPart err trace → TakesOneOf tool trace err
trace_taken tool trace err part = (trace, inl refl, part)

-- nothing is taken
pub none_taken : (known : Option (List ℕ)) → Appends known known []
none_taken None = tt
none_taken (Some written) = sym (append-nil written)

-- a text that was not written whole, and the line that tells why
module _ (tool : Tool) (text trace : List ℕ) (due : ℕ) (out err : Change) where
  pub run_of_failed : (status : ℕ) → TakesPart out text → Fails out → LineEnds 8 (tool_line tool write_fault_line) err status
      → RunEndsOf tool text trace due out err status
  run_of_failed status part fails (whole all) = output_failed part fails all
  run_of_failed status part fails (line_failed taken failed) =
      error_failed part failed (stop_taken tool trace err (tool_line tool write_fault_line) (inr refl) taken)
  run_of_failed status part fails (line_no_memory taken) =
      run_no_memory part (stop_taken tool trace err (tool_line tool write_fault_line) (inr refl) taken)

  pub run_of_memory : (status : ℕ) → TakesPart out text → LineEnds 1 (tool_line tool out_of_memory_line) err status
      → RunEndsOf tool text trace due out err status
  run_of_memory status part (whole all) =
      run_no_memory part
      (stop_taken tool trace err (tool_line tool out_of_memory_line) (inl refl)
      (prefix_whole err.written err.written' (tool_line tool out_of_memory_line) all))
  run_of_memory status part (line_failed taken failed) =
      error_failed part failed (stop_taken tool trace err (tool_line tool out_of_memory_line) (inl refl) taken)
  run_of_memory status part (line_no_memory taken) =
      run_no_memory part (stop_taken tool trace err (tool_line tool out_of_memory_line) (inl refl) taken)

  -- a text that was written whole, and the trace after it
  pub run_of_whole : (status : ℕ) → TakesAll out text → LineEnds due trace err status → RunEndsOf tool text trace due out err status
  run_of_whole status taken (whole all) = finished taken all
  run_of_whole status taken (line_failed part failed) =
      error_failed (prefix_whole out.written out.written' text taken) failed (trace_taken tool trace err part)
  run_of_whole status taken (line_no_memory part) =
      run_no_memory (prefix_whole out.written out.written' text taken) (trace_taken tool trace err part)

-- a text that is all there is to write, and the line that tells where it was not written
module _ (tool : Tool) (text : List ℕ) (due : ℕ) (out err : Change) where
  pub put_whole : (put : Result ℕ SinkFault) (status : ℕ) → PutFor text due out put → put ≡ Ok status → err.written' ≡ err.written
      → RunEndsOf tool text [] due out err status
  put_whole put status is ok kept =
      let here = subst (PutFor text due out) ok is in
      subst (λ s. RunEndsOf tool text [] due out err s) (sym here.status)
      (finished here.all (subst (λ w. Appends err.written w []) (sym kept) (none_taken err.written)))

  pub put_stopped : (put : Result ℕ SinkFault) (fault : SinkFault) (status : ℕ) → PutFor text due out put → put ≡ Err fault
      → StopsBy tool fault err status → RunEndsOf tool text [] due out err status
  put_stopped put Failed status is failed ends =
      let here = subst (PutFor text due out) failed is in
      run_of_failed tool text [] due out err status here.part (here.cause refl) ends
  put_stopped put sink.OutOfMemory status is failed ends =
      let here = subst (PutFor text due out) failed is in
      run_of_memory tool text [] due out err status here.part ends

-- what is due for a case, or the line of a file that it reads, and a prefix of one such line or of that of the stop
abbrev IsDue : {T : Type 0} → Tool → (grew : Type 0) → Case T → (error : List ℕ) → List ℕ → Type 0
IsDue tool grew case error due =
    (due ≡ due_of tool case error) ⊎ grew × (name : Name) × Contains (names_read case) name × (due ≡ tool_line tool (read_fault_line name))

abbrev TakesLine : Tool → (is_due : List ℕ → Type 0) → Change → Type 0
TakesLine tool is_due err = (line : List ℕ) × (IsStopLine tool line ⊎ is_due line) × TakesPart err line

-- the case that an answer tells, and its status
told_case : {A T : Type 0} (commands : Commands A T) (words : List (List ℕ)) (files : Option Files) (known : Case T)
    → IfSome files (λ told. IsCase commands.asking words told known)
    → IfSome files (λ told. (case : Case T) × IsCase commands.asking words told case × (status_of commands case ≡ status_of commands known))
told_case commands words None known is = tt
told_case commands words (Some files) known is = (known, is, refl)

-- what was begun to be done
module _ (tool : Tool) (text trace : List ℕ) (due : ℕ) (out err : Change) where
  run_status : (grew : Type 0) (status : ℕ) → RunEndsOf tool text trace due out err status → Yields due grew (Fails out ⊎ Fails err) status
  run_status grew status (finished all traced) = due_status
  run_status grew status (run_no_memory part stop) = no_memory
  run_status grew status (output_failed part fails told) = write_fault (inl fails)
  run_status grew status (error_failed part fails stop) = write_fault (inr fails)

  run_whole : (status : ℕ) → RunEndsOf tool text trace due out err status → IsApart status
      → TakesAll out text × TakesAll err trace × (due ≡ status)
  run_whole status (finished all traced) is = (all, traced, refl)
  run_whole status (run_no_memory part stop) is = absurd (grind (arith, is))
  run_whole status (output_failed part fails told) is = absurd (grind (arith, is))
  run_whole status (error_failed part fails stop) is = absurd (grind (arith, is))

  run_among : (status : ℕ) → RunEndsOf tool text trace due out err status → (status ≡ due) ⊎ IsStop status
  run_among status (finished all traced) = inl refl
  run_among status (run_no_memory part stop) = inr (inl refl)
  run_among status (output_failed part fails told) = inr (inr refl)
  run_among status (error_failed part fails stop) = inr (inr refl)

  run_part : (status : ℕ) → RunEndsOf tool text trace due out err status → TakesPart out text
  run_part status (finished all traced) = prefix_whole out.written out.written' text all
  run_part status (run_no_memory part stop) = part
  run_part status (output_failed part fails told) = part
  run_part status (error_failed part fails stop) = part

  run_fault : (status : ℕ) → IsApart due → RunEndsOf tool text trace due out err status → status ≡ 8 → TellsWriteFault tool out err
  run_fault status is_apart (finished all traced) is = absurd (grind (arith, is_apart, is))
  run_fault status is_apart (run_no_memory part stop) is = absurd (omega (arith, is))
  run_fault status is_apart (output_failed part fails told) is = inr (fails, told)
  run_fault status is_apart (error_failed part fails stop) is = inl fails

  run_not_refused : (status : ℕ) → IsApart due → RunEndsOf tool text trace due out err status → IsRefusal status → ⊥
  run_not_refused status is_apart (finished all traced) is = grind (arith, is_apart, is)
  run_not_refused status is_apart (run_no_memory part stop) is = grind (arith, is)
  run_not_refused status is_apart (output_failed part fails told) is = grind (arith, is)
  run_not_refused status is_apart (error_failed part fails stop) is = grind (arith, is)

  one_line : (is_due : List ℕ → Type 0) → is_due trace → TakesOneOf tool trace err → TakesLine tool is_due err
  one_line is_due for_trace (line, inl is, part) = (line, inr (subst is_due (sym is) for_trace), part)
  one_line is_due for_trace (line, inr stop, part) = (line, inl stop, part)

  run_stopped : (is_due : List ℕ → Type 0) → is_due trace → (status : ℕ) → IsApart due
      → RunEndsOf tool text trace due out err status → IsStop status → TakesLine tool is_due err
  run_stopped is_due for_trace status is_apart (finished all traced) is = absurd (grind (arith, is_apart, is))
  run_stopped is_due for_trace status is_apart (run_no_memory part stop) is = one_line is_due for_trace stop
  run_stopped is_due for_trace status is_apart (output_failed part fails told) is =
      (tool_line tool write_fault_line, inl (inr refl), prefix_whole err.written err.written' (tool_line tool write_fault_line) told)
  run_stopped is_due for_trace status is_apart (error_failed part fails stop) is = one_line is_due for_trace stop

-- what was begun to be done, and of which a log is kept
module _ (tool : Tool) (text rows : List ℕ) (taken : Change → Type 0) (due : ℕ) (out err : Change) (journal : Journal) where
  log_status : (grew : Type 0) (status : ℕ) → LogEndsOf tool text rows taken due out err journal status
      → Yields due grew (Fails out ⊎ Fails err) status
  log_status grew status (log_finished all logged held) = due_status
  log_status grew status (log_no_memory part is) = no_memory
  log_status grew status (log_write_failed part fails is) = write_fault fails
  log_status grew status (log_unbegun part empty (whole all)) = no_memory
  log_status grew status (log_unbegun part empty (line_failed line fails)) = write_fault (inr fails)
  log_status grew status (log_unbegun part empty (line_no_memory line)) = no_memory

  log_whole : (status : ℕ) → LogEndsOf tool text rows taken due out err journal status → IsApart status
      → TakesAll out text × (TakesAll err rows × taken err) × (due ≡ status)
  log_whole status (log_finished all logged held) apart = (all, (logged, held), refl)
  log_whole status (log_no_memory part is) apart = absurd (grind (arith, apart))
  log_whole status (log_write_failed part fails is) apart = absurd (grind (arith, apart))
  log_whole status (log_unbegun part empty (whole all)) apart = absurd (grind (arith, apart))
  log_whole status (log_unbegun part empty (line_failed line fails)) apart = absurd (grind (arith, apart))
  log_whole status (log_unbegun part empty (line_no_memory line)) apart = absurd (grind (arith, apart))

  log_among : (status : ℕ) → LogEndsOf tool text rows taken due out err journal status → (status ≡ due) ⊎ IsStop status
  log_among status (log_finished all logged held) = inl refl
  log_among status (log_no_memory part is) = inr (inl refl)
  log_among status (log_write_failed part fails is) = inr (inr refl)
  log_among status (log_unbegun untouched empty (whole all)) = inr (inl refl)
  log_among status (log_unbegun untouched empty (line_failed line fails)) = inr (inr refl)
  log_among status (log_unbegun untouched empty (line_no_memory line)) = inr (inl refl)

  log_part : (status : ℕ) → LogEndsOf tool text rows taken due out err journal status → TakesPart out text
  log_part status (log_finished all logged held) = prefix_whole out.written out.written' text all
  log_part status (log_no_memory part is) = part
  log_part status (log_write_failed part fails is) = part
  log_part status (log_unbegun untouched empty line) =
      subst (λ w. AppendsPrefix out.written w text) (sym untouched.written) (prefix_none out.written text)

  log_fault : (status : ℕ) → IsApart due → LogEndsOf tool text rows taken due out err journal status → status ≡ 8
      → Fails out ⊎ Fails err
  log_fault status apart (log_finished all logged held) is = absurd (grind (arith, apart, is))
  log_fault status apart (log_no_memory part held) is = absurd (omega (arith, is))
  log_fault status apart (log_write_failed part fails held) is = fails
  log_fault status apart (log_unbegun part empty (whole all)) is = absurd (omega (arith, is))
  log_fault status apart (log_unbegun part empty (line_failed line fails)) is = inr fails
  log_fault status apart (log_unbegun part empty (line_no_memory line)) is = absurd (omega (arith, is))

  log_not_refused : (status : ℕ) → IsApart due → LogEndsOf tool text rows taken due out err journal status → IsRefusal status → ⊥
  log_not_refused status apart (log_finished all logged held) is = grind (arith, apart, is)
  log_not_refused status apart (log_no_memory part held) is = grind (arith, is)
  log_not_refused status apart (log_write_failed part fails held) is = grind (arith, is)
  log_not_refused status apart (log_unbegun part empty (whole all)) is = grind (arith, is)
  log_not_refused status apart (log_unbegun part empty (line_failed line fails)) is = grind (arith, is)
  log_not_refused status apart (log_unbegun part empty (line_no_memory line)) is = grind (arith, is)

  line_part : (status : ℕ) → LineEnds 1 (tool_line tool out_of_memory_line) err status → TakesPart err (tool_line tool out_of_memory_line)
  line_part status (whole all) = prefix_whole err.written err.written' (tool_line tool out_of_memory_line) all
  line_part status (line_failed part fails) = part
  line_part status (line_no_memory part) = part

  -- the log, or the line that tells that memory ran out before the run
  log_stopped : (is_due : List ℕ → Type 0) (status : ℕ) → IsApart due
      → LogEndsOf tool text rows taken due out err journal status → IsStop status
      → (IsUntouched out × IsEmpty journal × TakesLine tool is_due err) ⊎ taken err
  log_stopped is_due status apart (log_finished all logged held) is = absurd (grind (arith, apart, is))
  log_stopped is_due status apart (log_no_memory part held) is = inr held
  log_stopped is_due status apart (log_write_failed part fails held) is = inr held
  log_stopped is_due status apart (log_unbegun untouched empty told) is =
      inl (untouched, empty, (tool_line tool out_of_memory_line, inl (inl refl), line_part status told))

-- How what was begun to be done ended: what its status says of what the streams took, whether a log is kept or not.
record Ended {A T : Type 0} (commands : Commands A T) (call : Call) (names : List Name) (work : T) : Type 0 where
  yields : Yields (commands.status work) (Grew call.failed call.failed') (Fails call.out ⊎ Fails call.err) call.status
  all : IsApart call.status → TakesAll call.out (commands.text work) × (commands.status work ≡ call.status)
  part : TakesPart call.out (commands.text work)
  among : (call.status ≡ commands.status work) ⊎ IsStop call.status
  not_refused : IsRefusal call.status → ⊥
  quiet : commands.whole call.status → IsQuiet commands call commands.log
  write_fault : call.status ≡ 8 → TellsWrite commands call commands.log
  stopped : IsStop call.status → TellsStop commands call commands.log (Go names work)

-- the case of what is done to its end
told_work : {A T : Type 0} (commands : Commands A T) (words : List (List ℕ)) (files : Option Files)
    (names : List Name) (work : T) (status : ℕ)
    → IfSome files (λ told. IsCase commands.asking words told (Go names work))
    → commands.status work ≡ status
    → IfSome files (λ told. (case : Case T) × IsCase commands.asking words told case × (status_of commands case ≡ status))
told_work commands words None names work status known is = tt
told_work commands words (Some files) names work status known is = (Go names work, known, is)

-- what was begun to be done, and ended so, meets the promise
begun_headline : {A T : Type 0} (commands : Commands A T) (sound : AreSound commands) (call : Call)
    (names : List Name) (work : T) (asked : A)
    → commands.asking.reading call.words ≡ Some asked → IfSome call.files (λ told. IsCase commands.asking call.words told (Go names work))
    → call.failed' ≡ call.failed
    → (commands.is_journalled asked ≡ false → IsEmpty call.journal)
    → (commands.has_journal work ≡ true
    → commands.lawful work call.journal × (commands.whole call.status → commands.complete work call.journal)
    × commands.retired work call.journal call.out)
    → Ended commands call names work → Headline commands call
begun_headline {A} {T} commands sound call names work asked some known same empty run ended =
    let words = call.words in
    let files = call.files in
    record {
      by_case = for_known commands.asking sound.once words files (Go names work) (MeetsCase commands call) known (record {
        status = ended.yields;
        text = λ is. (ended.all (sound.apart call.status is)).0;
        prefix = ended.part;
        line = λ is. absurd (ended.not_refused (inl is));
        stopped = ended.stopped;
        missing = λ is. absurd (never_missing is);
        unbegun = inl tt;
        lawful = λ is. (run is).0;
        complete = λ is_whole is. (run is).1 is_whole;
        retired = λ is. (run is).2;
      });
      told = λ tells. elim tells [
        | inl is ↦ told_work commands words files names work call.status known (ended.all (sound.apart call.status is)).1
        | inr is ↦ absurd (ended.not_refused (inl is))
      ];
      among = elim ended.among [
        | inl is ↦ inl (subst commands.whole (sym is) (sound.ends work))
        | inr is ↦ inr (inr is)
      ];
      usage = λ is. absurd (ended.not_refused (inl (inl is)));
      no_command = λ none. absurd (none_some (commands.asking.reading words) asked none some);
      refused = λ is. absurd (ended.not_refused is);
      quiet = ended.quiet;
      read_fault = λ is. absurd (ended.not_refused (inr is));
      write_fault = ended.write_fault;
      untouched = λ tells. same;
      unread = λ none. same;
      journal = λ unbegun. elim unbegun [
        | inl is ↦ absurd (ended.not_refused is)
        | inr nothing ↦ empty (subst (RunsNothing commands) some nothing)
      ];
    }
  where
    never_missing : commands.status work ≡ 7 → ⊥
    never_missing is = let apart = sound.apart (commands.status work) (sound.ends work) in grind (arith, apart, is)

-- what was begun to be done meets the promise where no log is kept
pub run_headline : {A T : Type 0} (commands : Commands A T) (sound : AreSound commands) (words : List (List ℕ)) (files : Option Files)
    (failed failed' : List Name) (out err : Change) (status : ℕ) (journal : Journal)
    (names : List Name) (work : T) (asked : A)
    → commands.log ≡ Unlogged
    → commands.asking.reading words ≡ Some asked → IfSome files (λ told. IsCase commands.asking words told (Go names work))
    → failed' ≡ failed
    → (commands.is_journalled asked ≡ false → IsEmpty journal)
    → (commands.has_journal work ≡ true → commands.lawful work journal × (commands.whole status → commands.complete work journal)
    × commands.retired work journal out)
    → RunEndsOf commands.asking.tool (commands.text work) (commands.error asked (commands.status work) journal)
    (commands.status work) out err
    status
    → Headline commands (record {
      words = words;
      files = files;
      failed = failed;
      failed' = failed';
      out = out;
      err = err;
      status = status;
      journal = journal;
    })
run_headline {A} {T} commands sound words files failed failed' out err status journal names work asked unlogged some known
    same empty run ends_asked =
    let call : Call =
    record {
      words = words;
      files = files;
      failed = failed;
      failed' = failed';
      out = out;
      err = err;
      status = status;
      journal = journal;
    } in
    let tool = commands.asking.tool in
    let text = commands.text work in
    let due = commands.status work in
    let error = error_for commands (commands.asking.reading words) due journal in
    let apart : IsApart due = sound.apart due (sound.ends work) in
    let ends : RunEndsOf tool text error due out err status =
    subst (λ r. RunEndsOf tool text (error_for commands r due journal) due out err status) (sym some) ends_asked in
    begun_headline commands sound call names work asked some known same empty run (record {
      yields = run_status tool text error due out err (Grew failed failed') status ends;
      all = λ is. let found = run_whole tool text error due out err status ends is in (found.0, found.2);
      part = run_part tool text error due out err status ends;
      among = run_among tool text error due out err status ends;
      not_refused = run_not_refused tool text error due out err status apart ends;
      quiet = λ is.
          let found = run_whole tool text error due out err status ends (sound.apart status is) in
          subst (IsQuiet commands call) (sym unlogged)
          (subst (λ s. TakesAll err (error_for commands (commands.asking.reading words) s journal)) found.2 found.1);
      write_fault = λ is. subst (TellsWrite commands call) (sym unlogged) (run_fault tool text error due out err status apart ends is);
      stopped = λ is. subst (λ log. TellsStop commands call log (Go names work)) (sym unlogged)
          (run_stopped tool text error due out err (IsDue {T = T} tool (Grew failed failed') (Go names work) error) (inl refl) status apart
          ends is);
    })

-- what a stop tells of the case where this log is kept
log_told : {A T : Type 0} (commands : Commands A T) (call : Call) (log : Log T) (names : List Name) (work : T)
    → (IsUntouched call.out × IsEmpty call.journal
    × TakesLine commands.asking.tool (IsDue {T = T} commands.asking.tool (Grew call.failed call.failed') (Go names work) []) call.err)
    ⊎ log.taken work call.journal call.err
    → TellsStop commands call (Logged log) (Go names work)
log_told commands call log names work (inl unbegun) = inl unbegun
log_told commands call log names work (inr is) = inr (tt, λ _. is)

-- what was begun to be done, and keeps this log, meets the promise
pub log_headline : {A T : Type 0} (commands : Commands A T) (sound : AreSound commands) (log : Log T)
    (words : List (List ℕ)) (files : Option Files)
    (failed failed' : List Name) (out err : Change) (status : ℕ) (journal : Journal) (names : List Name) (work : T) (asked : A)
    → commands.log ≡ Logged log
    → commands.asking.reading words ≡ Some asked → IfSome files (λ told. IsCase commands.asking words told (Go names work))
    → failed' ≡ failed
    → (commands.is_journalled asked ≡ false → IsEmpty journal)
    → (commands.has_journal work ≡ true → commands.lawful work journal × (commands.whole status → commands.complete work journal)
    × commands.retired work journal out)
    → LogEndsOf commands.asking.tool (commands.text work) (log.whole work) (log.taken work journal)
    (commands.status work) out err journal status
    → Headline commands (record {
      words = words;
      files = files;
      failed = failed;
      failed' = failed';
      out = out;
      err = err;
      status = status;
      journal = journal;
    })
log_headline {A} {T} commands sound log words files failed failed' out err status journal names work asked logged some
    known same empty run ends =
    let call : Call =
    record {
      words = words;
      files = files;
      failed = failed;
      failed' = failed';
      out = out;
      err = err;
      status = status;
      journal = journal;
    } in
    let tool = commands.asking.tool in
    let text = commands.text work in
    let rows = log.whole work in
    let taken = log.taken work journal in
    let due = commands.status work in
    let apart : IsApart due = sound.apart due (sound.ends work) in
    begun_headline commands sound call names work asked some known same empty run (record {
      yields = log_status tool text rows taken due out err journal (Grew failed failed') status ends;
      all = λ is. let found = log_whole tool text rows taken due out err journal status ends is in (found.0, found.2);
      part = log_part tool text rows taken due out err journal status ends;
      among = log_among tool text rows taken due out err journal status ends;
      not_refused = log_not_refused tool text rows taken due out err journal status apart ends;
      quiet = λ is. subst (IsQuiet commands call) (sym logged)
          (for_known commands.asking sound.once words files (Go names work)
          (λ case. ForRun commands case (λ w. TakesAll err (log.whole w) × log.taken w journal err)) known
          (λ _. (log_whole tool text rows taken due out err journal status ends (sound.apart status is)).1));
      write_fault =
          λ is. subst (TellsWrite commands call) (sym logged) (log_fault tool text rows taken due out err journal status apart ends is);
      stopped = λ is. subst (λ kept. TellsStop commands call kept (Go names work)) (sym logged)
          (log_told commands call log names work
          (log_stopped tool text rows taken due out err journal (IsDue {T = T} tool (Grew failed failed') (Go names work) [])
          status apart ends is));
    })

-- what holds of a case that is known but for a part
pub for_some : {A T : Type 0} (commands : Commands A T) (once : HasOneCase commands.asking) (words : List (List ℕ)) (files : Option Files) (X : Type 0) (known : X → Case T)
    (P : Case T → Type 0) → IfSome files (λ told. (x : X) × IsCase commands.asking words told (known x)) → ((x : X) → P (known x))
    → ForCase commands.asking words files P
for_some commands once words None X known P is holds = tt
for_some commands once words (Some files) X known P (x, is) holds =
    for_known commands.asking once words (Some files) (known x) P is (holds x)

told_some : {A T : Type 0} (commands : Commands A T) (words : List (List ℕ)) (files : Option Files) (X : Type 0) (known : X → Case T)
    (status : ℕ) → IfSome files (λ told. (x : X) × IsCase commands.asking words told (known x))
    → ((x : X) → status_of commands (known x) ≡ status)
    → IfSome files (λ told. (case : Case T) × IsCase commands.asking words told case × (status_of commands case ≡ status))
told_some commands words None X known status is same = tt
told_some commands words (Some files) X known status (x, is) same = (known x, is, same x)

-- a refusal
module _ {A T : Type 0} (commands : Commands A T) (once : HasOneCase commands.asking) (words : List (List ℕ)) (files : Option Files) (before now : List Name)
    (out err : Change) (error : ℕ → List ℕ) where
  -- the case of words of no command
  abbrev own_usage : List ℕ
  own_usage = usage_line commands.asking.tool

  usage_known : (told : Option Files) → commands.asking.reading words ≡ None
      → IfSome told (λ some. IsCase commands.asking words some (Refused 2 [] own_usage))
  usage_known None none = tt
  usage_known (Some some) none = no_command none

  refused_status : (refusal : Refusal) (status : ℕ) → IfSome files (λ told. RefusesCase (IsCase commands.asking words told) refusal)
      → RefusesShelf commands.may_read (commands.asking.reading words) before now refusal
      → RefusalEndsOf commands.asking.tool err refusal status
      → ForCase commands.asking words files (λ case. Yields (status_of commands case) (Grew before now) (Fails out ⊎ Fails err) status)
  refused_status RefusedUsage status known shelf (whole all) =
      for_known commands.asking once words files (Refused 2 [] own_usage)
      (λ case. Yields (status_of commands case) (Grew before now) (Fails out ⊎ Fails err) 2) (usage_known files shelf.0) due_status
  refused_status (RefusedProgram line) status known shelf (whole all) =
      for_some commands once words files Name (λ name. Refused 3 (name ∷ []) line)
      (λ case. Yields (status_of commands case) (Grew before now) (Fails out ⊎ Fails err) 3) known (λ name. due_status)
  refused_status (RefusedInput line) status known shelf (whole all) =
      for_some commands once words files (List Name) (λ names. Refused 4 names line)
      (λ case. Yields (status_of commands case) (Grew before now) (Fails out ⊎ Fails err) 4) known (λ names. due_status)
  refused_status (ReadFault name) status known shelf (whole all) =
      for_each commands.asking words files (λ case. Yields (status_of commands case) (Grew before now) (Fails out ⊎ Fails err) 7)
      (λ case. read_fault shelf.1)
  refused_status refusal status known shelf (line_no_memory part) =
      for_each commands.asking words files (λ case. Yields (status_of commands case) (Grew before now) (Fails out ⊎ Fails err) 1)
      (λ case. no_memory)
  refused_status OutOfMemory status known shelf (whole all) =
      for_each commands.asking words files (λ case. Yields (status_of commands case) (Grew before now) (Fails out ⊎ Fails err) 1)
      (λ case. no_memory)
  refused_status refusal status known shelf (line_failed part fails) =
      for_each commands.asking words files (λ case. Yields (status_of commands case) (Grew before now) (Fails out ⊎ Fails err) 8)
      (λ case. write_fault (inr fails))

  refused_line : (refusal : Refusal) (status : ℕ) → IfSome files (λ told. RefusesCase (IsCase commands.asking words told) refusal)
      → RefusesShelf commands.may_read (commands.asking.reading words) before now refusal
      → RefusalEndsOf commands.asking.tool err refusal status
      → ForCase commands.asking words files (λ case. HasCaseLine status → TakesAll err (due_of commands.asking.tool case []))
  refused_line RefusedUsage status known shelf (whole all) =
      for_known commands.asking once words files (Refused 2 [] own_usage)
      (λ case. HasCaseLine 2 → TakesAll err (due_of commands.asking.tool case []))
      (usage_known files shelf.0) (λ _. all)
  refused_line (RefusedProgram line) status known shelf (whole all) =
      for_some commands once words files Name (λ name. Refused 3 (name ∷ []) line)
      (λ case. HasCaseLine 3 → TakesAll err (due_of commands.asking.tool case [])) known (λ name _. all)
  refused_line (RefusedInput line) status known shelf (whole all) =
      for_some commands once words files (List Name) (λ names. Refused 4 names line)
      (λ case. HasCaseLine 4 → TakesAll err (due_of commands.asking.tool case [])) known (λ names _. all)
  refused_line (ReadFault name) status known shelf (whole all) =
      for_each commands.asking words files (λ case. HasCaseLine 7 → TakesAll err (due_of commands.asking.tool case []))
      (λ case is. absurd (grind (arith, is)))
  refused_line refusal status known shelf (line_no_memory part) =
      for_each commands.asking words files (λ case. HasCaseLine 1 → TakesAll err (due_of commands.asking.tool case []))
      (λ case is. absurd (grind (arith, is)))
  refused_line OutOfMemory status known shelf (whole all) =
      for_each commands.asking words files (λ case. HasCaseLine 1 → TakesAll err (due_of commands.asking.tool case []))
      (λ case is. absurd (grind (arith, is)))
  refused_line refusal status known shelf (line_failed part fails) =
      for_each commands.asking words files (λ case. HasCaseLine 8 → TakesAll err (due_of commands.asking.tool case []))
      (λ case is. absurd (grind (arith, is)))

  refused_told : (refusal : Refusal) (status : ℕ) → IfSome files (λ told. RefusesCase (IsCase commands.asking words told) refusal)
      → RefusesShelf commands.may_read (commands.asking.reading words) before now refusal
      → RefusalEndsOf commands.asking.tool err refusal status → IsApart status ⊎ HasCaseLine status
      → IfSome files (λ told. (case : Case T) × IsCase commands.asking words told case × (status_of commands case ≡ status))
  refused_told RefusedUsage status known shelf (whole all) tells =
      told_case commands words files (Refused 2 [] own_usage) (usage_known files shelf.0)
  refused_told (RefusedProgram line) status known shelf (whole all) tells =
      told_some commands words files Name (λ name. Refused 3 (name ∷ []) line) 3 known (λ name. refl)
  refused_told (RefusedInput line) status known shelf (whole all) tells =
      told_some commands words files (List Name) (λ names. Refused 4 names line) 4 known (λ names. refl)
  refused_told (ReadFault name) status known shelf (whole all) tells = absurd (grind (arith, tells))
  refused_told refusal status known shelf (line_no_memory part) tells = absurd (grind (arith, tells))
  refused_told OutOfMemory status known shelf (whole all) tells = absurd (grind (arith, tells))
  refused_told refusal status known shelf (line_failed part fails) tells = absurd (grind (arith, tells))

  -- where a file that is read is not there
  refused_missing : (refusal : Refusal) (status : ℕ) → IfSome files (λ told. RefusesCase (IsCase commands.asking words told) refusal)
      → RefusesShelf commands.may_read (commands.asking.reading words) before now refusal
      → RefusalEndsOf commands.asking.tool err refusal status
      → ForCase commands.asking words files (λ case. status_of commands case ≡ 7 → Grew before now ⊎ (status ≡ 1) ⊎ Fails err)
  refused_missing RefusedUsage status known shelf (whole all) =
      for_known commands.asking once words files (Refused 2 [] own_usage)
      (λ case. status_of commands case ≡ 7 → Grew before now ⊎ ◌≡◌ {A = ℕ} 2 1 ⊎ Fails err)
      (usage_known files shelf.0)
      (λ is. absurd (omega (arith, is)))
  refused_missing (RefusedProgram line) status known shelf (whole all) =
      for_some commands once words files Name (λ name. Refused 3 (name ∷ []) line)
      (λ case. status_of commands case ≡ 7 → Grew before now ⊎ ◌≡◌ {A = ℕ} 3 1 ⊎ Fails err) known (λ name is. absurd (omega (arith, is)))
  refused_missing (RefusedInput line) status known shelf (whole all) =
      for_some commands once words files (List Name) (λ names. Refused 4 names line)
      (λ case. status_of commands case ≡ 7 → Grew before now ⊎ ◌≡◌ {A = ℕ} 4 1 ⊎ Fails err) known (λ names is. absurd (omega (arith, is)))
  refused_missing (ReadFault name) status known shelf (whole all) =
      for_each commands.asking words files (λ case. status_of commands case ≡ 7 → Grew before now ⊎ ◌≡◌ {A = ℕ} 7 1 ⊎ Fails err)
      (λ case missing. inl shelf.1)
  refused_missing refusal status known shelf (line_no_memory part) =
      for_each commands.asking words files (λ case. status_of commands case ≡ 7 → Grew before now ⊎ ◌≡◌ {A = ℕ} 1 1 ⊎ Fails err)
      (λ case missing. inr (inl refl))
  refused_missing OutOfMemory status known shelf (whole all) =
      for_each commands.asking words files (λ case. status_of commands case ≡ 7 → Grew before now ⊎ ◌≡◌ {A = ℕ} 1 1 ⊎ Fails err)
      (λ case missing. inr (inl refl))
  refused_missing refusal status known shelf (line_failed part fails) =
      for_each commands.asking words files (λ case. status_of commands case ≡ 7 → Grew before now ⊎ ◌≡◌ {A = ℕ} 8 1 ⊎ Fails err)
      (λ case missing. inr (inr fails))

  -- a refusal whose line was not written whole
  abbrev Due : Case T → List ℕ → Type 0
  Due case due = IsDue commands.asking.tool (Grew before now) case (error (status_of commands case)) due

  abbrev Stops : Case T → Type 0
  Stops case = TakesLine commands.asking.tool (Due case) err

  refused_part : (refusal : Refusal) → IfSome files (λ told. RefusesCase (IsCase commands.asking words told) refusal)
      → RefusesShelf commands.may_read (commands.asking.reading words) before now refusal
      → TakesPart err (refusal_line commands.asking.tool refusal) → ForCase commands.asking words files Stops
  refused_part RefusedUsage known shelf part =
      for_known commands.asking once words files (Refused 2 [] own_usage) Stops (usage_known files shelf.0)
      (tool_line commands.asking.tool own_usage, inr (inl refl), part)
  refused_part (RefusedProgram told) known shelf part =
      for_some commands once words files Name (λ name. Refused 3 (name ∷ []) told) Stops known
      (λ name. (tool_line commands.asking.tool told, inr (inl refl), part))
  refused_part (RefusedInput told) known shelf part =
      for_some commands once words files (List Name) (λ names. Refused 4 names told) Stops known
      (λ names. (tool_line commands.asking.tool told, inr (inl refl), part))
  refused_part (ReadFault name) known shelf part = for_read files known
    where
      for_read : (files : Option Files)
          → IfSome files (λ told. (case : Case T) × IsCase commands.asking words told case × Contains (names_read case) name)
          → ForCase commands.asking words files Stops
      for_read None is = tt
      for_read (Some files) (case, is, reads) =
          for_known commands.asking once words (Some files) case Stops is
          (tool_line commands.asking.tool (read_fault_line name), inr (inr (shelf.1, name, reads, refl)), part)
  refused_part OutOfMemory known shelf part =
      for_each commands.asking words files Stops (λ case. (tool_line commands.asking.tool out_of_memory_line, inl (inl refl), part))

  refused_stopped : (refusal : Refusal) (status : ℕ) → IfSome files (λ told. RefusesCase (IsCase commands.asking words told) refusal)
      → RefusesShelf commands.may_read (commands.asking.reading words) before now refusal
      → RefusalEndsOf commands.asking.tool err refusal status → IsStop status
      → ForCase commands.asking words files Stops
  refused_stopped RefusedUsage status known shelf (whole all) is = absurd (grind (arith, is))
  refused_stopped (RefusedProgram line) status known shelf (whole all) is = absurd (grind (arith, is))
  refused_stopped (RefusedInput line) status known shelf (whole all) is = absurd (grind (arith, is))
  refused_stopped (ReadFault name) status known shelf (whole all) is = absurd (grind (arith, is))
  refused_stopped refusal status known shelf (line_no_memory part) is = refused_part refusal known shelf part
  refused_stopped OutOfMemory status known shelf (whole all) is =
      refused_part OutOfMemory known shelf (prefix_whole err.written err.written' (tool_line commands.asking.tool out_of_memory_line) all)
  refused_stopped refusal status known shelf (line_failed part fails) is = refused_part refusal known shelf part

-- a refusal has a status of its own, or that of a stop
refused_among : (tool : Tool) (err : Change) (refusal : Refusal) (status : ℕ) → RefusalEndsOf tool err refusal status
    → IsRefusal status ⊎ IsStop status
refused_among tool err RefusedUsage status (whole all) = inl (inl (inl refl))
refused_among tool err (RefusedProgram line) status (whole all) = inl (inl (inr (inl refl)))
refused_among tool err (RefusedInput line) status (whole all) = inl (inl (inr (inr refl)))
refused_among tool err (ReadFault name) status (whole all) = inl (inr refl)
refused_among tool err refusal status (line_no_memory part) = inr (inl refl)
refused_among tool err OutOfMemory status (whole all) = inr (inl refl)
refused_among tool err refusal status (line_failed part fails) = inr (inr refl)

refused_not_apart : (tool : Tool) (err : Change) (refusal : Refusal) (status : ℕ) → RefusalEndsOf tool err refusal status → IsApart status
    → ⊥
refused_not_apart tool err RefusedUsage status (whole all) is = grind (arith, is)
refused_not_apart tool err (RefusedProgram line) status (whole all) is = grind (arith, is)
refused_not_apart tool err (RefusedInput line) status (whole all) is = grind (arith, is)
refused_not_apart tool err (ReadFault name) status (whole all) is = grind (arith, is)
refused_not_apart tool err refusal status (line_no_memory part) is = grind (arith, is)
refused_not_apart tool err OutOfMemory status (whole all) is = grind (arith, is)
refused_not_apart tool err refusal status (line_failed part fails) is = grind (arith, is)

-- words of no command
refused_words : (tool : Tool) (err : Change) (refusal : Refusal) (status : ℕ) → RefusesWords refusal → RefusalEndsOf tool err refusal status
    → Yields 2 ⊥ (Fails err) status
refused_words tool err RefusedUsage status is (whole all) = due_status
refused_words tool err (RefusedProgram line) status is (whole all) = absurd is
refused_words tool err (RefusedInput line) status is (whole all) = absurd is
refused_words tool err (ReadFault name) status is (whole all) = absurd is
refused_words tool err refusal status is (line_no_memory part) = no_memory
refused_words tool err OutOfMemory status is (whole all) = no_memory
refused_words tool err refusal status is (line_failed part fails) = write_fault fails

refused_fault : (tool : Tool) (out err : Change) (refusal : Refusal) (status : ℕ) → RefusalEndsOf tool err refusal status → status ≡ 8
    → TellsWriteFault tool out err
refused_fault tool out err RefusedUsage status (whole all) is = absurd (omega (arith, is))
refused_fault tool out err (RefusedProgram line) status (whole all) is = absurd (omega (arith, is))
refused_fault tool out err (RefusedInput line) status (whole all) is = absurd (omega (arith, is))
refused_fault tool out err (ReadFault name) status (whole all) is = absurd (omega (arith, is))
refused_fault tool out err refusal status (line_no_memory part) is = absurd (omega (arith, is))
refused_fault tool out err OutOfMemory status (whole all) is = absurd (omega (arith, is))
refused_fault tool out err refusal status (line_failed part fails) is = inl fails

module _ {A : Type 0} (tool : Tool) (may_read : A → Name → Type 0) (asked : Option A) (before now : List Name) (err : Change) where
  refused_usage : (refusal : Refusal) (status : ℕ) → RefusesShelf may_read asked before now refusal → RefusalEndsOf tool err refusal status
      → status ≡ 2 → asked ≡ None
  refused_usage RefusedUsage status shelf (whole all) is = shelf.0
  refused_usage (RefusedProgram line) status shelf (whole all) is = absurd (omega (arith, is))
  refused_usage (RefusedInput line) status shelf (whole all) is = absurd (omega (arith, is))
  refused_usage (ReadFault name) status shelf (whole all) is = absurd (omega (arith, is))
  refused_usage refusal status shelf (line_no_memory part) is = absurd (omega (arith, is))
  refused_usage OutOfMemory status shelf (whole all) is = absurd (omega (arith, is))
  refused_usage refusal status shelf (line_failed part fails) is = absurd (omega (arith, is))

  -- the shelf at a status that tells the case
  refused_untouched : (refusal : Refusal) (status : ℕ) → RefusesShelf may_read asked before now refusal
      → RefusalEndsOf tool err refusal status
      → IsApart status ⊎ HasCaseLine status → now ≡ before
  refused_untouched RefusedUsage status shelf (whole all) tells = shelf.1
  refused_untouched (RefusedProgram line) status shelf (whole all) tells = shelf
  refused_untouched (RefusedInput line) status shelf (whole all) tells = shelf
  refused_untouched (ReadFault name) status shelf (whole all) tells = absurd (grind (arith, tells))
  refused_untouched refusal status shelf (line_no_memory part) tells = absurd (grind (arith, tells))
  refused_untouched OutOfMemory status shelf (whole all) tells = absurd (grind (arith, tells))
  refused_untouched refusal status shelf (line_failed part fails) tells = absurd (grind (arith, tells))

module _ {A T : Type 0} (commands : Commands A T) where
  -- the case reads a file whose read failed
  reads_failed : HasOneCase commands.asking → (words : List (List ℕ)) (files : Option Files) (name : Name)
      → IfSome files (λ told. (case : Case T) × IsCase commands.asking words told case × Contains (names_read case) name)
      → ForCase commands.asking words files (λ case. Contains (names_read case) name)
  reads_failed once words None name is = tt
  reads_failed once words (Some files) name (case, is, reads) =
      for_known commands.asking once words (Some files) case (λ c. Contains (names_read c) name) is reads

  refused_read : HasOneCase commands.asking → (words : List (List ℕ)) (files : Option Files) (failed failed' : List Name) (out err : Change) (refusal : Refusal)
      (status : ℕ) (journal : Journal)
      → IfSome files (λ told. RefusesCase (IsCase commands.asking words told) refusal)
      → RefusesShelf commands.may_read (commands.asking.reading words) failed failed' refusal
      → RefusalEndsOf commands.asking.tool err refusal status → status ≡ 7
      → TellsReadFault commands.asking commands.may_read (record {
        words = words;
        files = files;
        failed = failed;
        failed' = failed';
        out = out;
        err = err;
        status = status;
        journal = journal;
      })
  refused_read once words files failed failed' out err RefusedUsage status journal known shelf (whole all) is = absurd (omega (arith, is))
  refused_read once words files failed failed' out err (RefusedProgram line) status journal known shelf (whole all) is =
      absurd (omega (arith, is))
  refused_read once words files failed failed' out err (RefusedInput line) status journal known shelf (whole all) is = absurd (omega (arith, is))
  refused_read once words files failed failed' out err (ReadFault name) status journal known shelf (whole all) is =
      record { name = name; read = reads_failed once words files name known; asked = shelf.2; alone = shelf.0; grew = shelf.1; line = all }
  refused_read once words files failed failed' out err refusal status journal known shelf (line_no_memory part) is =
      absurd (omega (arith, is))
  refused_read once words files failed failed' out err OutOfMemory status journal known shelf (whole all) is =
      absurd (omega (arith, is))
  refused_read once words files failed failed' out err refusal status journal known shelf (line_failed part fails) is =
      absurd (omega (arith, is))

  -- a status that tells the case is that of a whole end or of a line
  tells_apart : AreSound commands → (status : ℕ) → TellsCase commands status → IsApart status ⊎ HasCaseLine status
  tells_apart sound status (inl is) = inl (sound.apart status is)
  tells_apart sound status (inr is) = inr is

  -- a journal of no event is one of each case
  empty_lawful : AreSound commands → (case : Case T) (journal : Journal) → IsEmpty journal
      → ForRun commands case (λ work. commands.lawful work journal)
  empty_lawful sound (Refused status names line) journal empty = tt
  empty_lawful sound (Go names work) journal empty = λ is. sound.begins work journal empty

  empty_retired : AreSound commands → (case : Case T) (journal : Journal) (written : Option (List ℕ)) (faults : ℕ) → IsEmpty journal
      → ForRun commands case (λ work. commands.retired work journal (unwritten written faults))
  empty_retired sound (Refused status names line) journal written faults empty = tt
  empty_retired sound (Go names work) journal written faults empty = λ is. sound.unbegun work journal written faults empty

  -- where a log is kept, a refusal tells what it tells where none is, with nothing else due
  refused_write : (log : MayLog T) (call : Call) → TellsWriteFault commands.asking.tool call.out call.err → TellsWrite commands call log
  refused_write Unlogged call tells = tells
  refused_write (Logged log) call (inl fails) = inr fails
  refused_write (Logged log) call (inr (fails, told)) = inl fails

  refused_tells : (log : MayLog T) (call : Call) → IsUntouched call.out → IsEmpty call.journal
      → ((error : ℕ → List ℕ) → ForCase commands.asking call.words call.files (λ case. TakesLine commands.asking.tool
      (IsDue commands.asking.tool (Grew call.failed call.failed') case (error (status_of commands case))) call.err))
      → ForCase commands.asking call.words call.files (TellsStop commands call log)
  refused_tells Unlogged call untouched empty tells =
      tells (λ status. error_for commands (commands.asking.reading call.words) status call.journal)
  refused_tells (Logged log) call untouched empty tells =
      for_map commands.asking call.words call.files
      (λ case. TakesLine commands.asking.tool (IsDue commands.asking.tool (Grew call.failed call.failed') case []) call.err)
      (TellsStop commands call (Logged log)) (λ case stops. inl (untouched, empty, stops)) (tells (λ status. []))

-- a refusal meets what holds by the case
refused_meets : {A T : Type 0} (commands : Commands A T) (sound : AreSound commands) (words : List (List ℕ)) (files : Option Files)
    (failed failed' : List Name) (written : Option (List ℕ)) (faults : ℕ) (err : Change) (status : ℕ)
    (journal : Journal) (refusal : Refusal)
    → IfSome files (λ told. RefusesCase (IsCase commands.asking words told) refusal)
    → RefusesShelf commands.may_read (commands.asking.reading words) failed failed' refusal → IsEmpty journal
    → RefusalEndsOf commands.asking.tool err refusal status
    → ForCase commands.asking words files (MeetsCase commands (record {
      words = words;
      files = files;
      failed = failed;
      failed' = failed';
      out = unwritten written faults;
      err = err;
      status = status;
      journal = journal;
    }))
refused_meets commands sound words None failed failed' written faults err status journal refusal known shelf empty ends = tt
refused_meets commands sound words (Some files) failed failed' written faults err status journal refusal known shelf empty ends =
    λ case is.
    let out : Change = unwritten written faults in
    let call : Call =
    record {
      words = words;
      files = Some files;
      failed = failed;
      failed' = failed';
      out = out;
      err = err;
      status = status;
      journal = journal;
    } in
    let not_whole : commands.whole status → ⊥ =
    λ is. refused_not_apart commands.asking.tool err refusal status ends (sound.apart status is) in
    record {
      status = refused_status commands sound.once words (Some files) failed failed' out err (λ s. []) refusal status known shelf ends case is;
      text = λ is_whole. absurd (not_whole is_whole);
      prefix = prefix_none written (text_of commands case);
      line = refused_line commands sound.once words (Some files) failed failed' out err (λ s. []) refusal status known shelf ends case is;
      stopped =
          λ stop. refused_tells commands commands.log call (record { written = refl; faults = refl }) empty
          (λ error. refused_stopped commands sound.once words (Some files) failed failed' out err error refusal status known shelf ends stop) case is;
      missing = refused_missing commands sound.once words (Some files) failed failed' out err (λ s. []) refusal status known shelf ends case is;
      unbegun = inr empty;
      lawful = empty_lawful commands sound case journal empty;
      complete = λ is_whole. absurd (not_whole is_whole);
      retired = empty_retired commands sound case journal written faults empty;
    }

-- a refusal meets the promise
pub refused_headline : {A T : Type 0} (commands : Commands A T) (sound : AreSound commands) (words : List (List ℕ)) (files : Option Files)
    (failed failed' : List Name) (written : Option (List ℕ)) (faults : ℕ) (err : Change) (status : ℕ)
    (journal : Journal) (refusal : Refusal)
    → (commands.asking.reading words ≡ None → RefusesWords refusal)
    → (ReadsNothing commands (commands.asking.reading words) → failed' ≡ failed)
    → IfSome files (λ told. RefusesCase (IsCase commands.asking words told) refusal)
    → RefusesShelf commands.may_read (commands.asking.reading words) failed failed' refusal → IsEmpty journal
    → RefusalEndsOf commands.asking.tool err refusal status
    → Headline commands (record {
      words = words;
      files = files;
      failed = failed;
      failed' = failed';
      out = unwritten written faults;
      err = err;
      status = status;
      journal = journal;
    })
refused_headline commands sound words files failed failed' written faults err status journal refusal untold unread
    known shelf empty ends =
    let out : Change = unwritten written faults in
    let call : Call =
    record {
      words = words;
      files = files;
      failed = failed;
      failed' = failed';
      out = out;
      err = err;
      status = status;
      journal = journal;
    } in
    let not_whole : commands.whole status → ⊥ =
    λ is. refused_not_apart commands.asking.tool err refusal status ends (sound.apart status is) in
    record {
      by_case =
          refused_meets commands sound words files failed failed' written faults err status journal refusal known shelf empty ends;
      told =
          λ tells. refused_told commands sound.once words files failed failed' out err (λ s. []) refusal status known shelf ends
          (tells_apart commands sound status tells);
      among = inr (refused_among commands.asking.tool err refusal status ends);
      usage =
          refused_usage commands.asking.tool commands.may_read (commands.asking.reading words) failed failed' err refusal status shelf ends;
      no_command = λ none. refused_words commands.asking.tool err refusal status (untold none) ends;
      refused = λ is. Keeps-same written;
      quiet = λ is. absurd (not_whole is);
      read_fault = refused_read commands sound.once words files failed failed' out err refusal status journal known shelf ends;
      write_fault = λ is. refused_write commands commands.log call (refused_fault commands.asking.tool out err refusal status ends is);
      untouched =
          λ tells. refused_untouched commands.asking.tool commands.may_read
          (commands.asking.reading words) failed failed' err refusal status shelf ends
          (tells_apart commands sound status tells);
      unread = unread;
      journal = λ unbegun. empty;
    }
