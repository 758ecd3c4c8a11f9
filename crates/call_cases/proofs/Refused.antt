-- A refusal of a program told by its line. Each stage of a program's way to a request (lexing, parsing, the check, the
-- inputs, the faults) has a lemma from what the stage answers to the case that the call has; where a line is written
-- all go by decided_by_line. Another row of lemmas says that what was read until then is among what the case may read.
use Rattle.std.proofs.Common.{◌≡◌, ◌<◌, ℕ, Bool, true, false, List, length, [], ◌∷◌, arith, if◌then◌else◌, IfSome, IsSomeAnd, refl, sym, ap, subst, ◌∙◌}
use Rattle.std.specs.declared.option.Option.{Option}
use Rattle.std.specs.declared.option.Option.TheVariants.{None, Some}
use Rattle.std.specs.declared.result.Result.TheVariants.{Ok, Err}
use Rattle.std.proofs.lemmas.Bool.{lt-ltb}
use Rattle.task_parser.specs.declared.token.Token.{Token}
use Rattle.task_parser.specs.declared.fault.LexFault.{LexFault}
use Rattle.task_parser.specs.declared.fault.LexFault.TheVariants as lex
use Rattle.task_parser.specs.declared.fault.ParseFault.{ParseFault}
use Rattle.task_parser.specs.declared.fault.ParseFault.TheVariants as parse
use Rattle.task_parser.specs.meaning.Lexing.{lexed, lexed_after}
use Rattle.task_parser.specs.Lexing.{IsFaultOf}
use Rattle.task_parser.specs.meaning.Answer.{IsFirstFault}
use Rattle.task_ast.specs.meaning.Tree.{Name, Program}
use Rattle.task_ast.specs.meaning.Check.{check_fault}
use Rattle.task_parser.specs.meaning.Spelling.{Means, Spells, Stands, LexFails, ParseFails}
use Rattle.lock_checker.specs.Accepted.{Told}
use Rattle.lock_checker.specs.declared.fault.CheckFault.{CheckFault}
use Rattle.lock_checker.specs.declared.fault.CheckFault.TheVariants as check
use Rattle.command_line.specs.declared.asked.Asked.{Asked}
use Rattle.command_line.specs.declared.asked.Command.{Command}
use Rattle.command_line.specs.declared.asked.Command.TheVariants as command
use Rattle.command_line.specs.declared.asked.Soak.{Soak}
use Rattle.soak_batch.specs.meaning.Files.{soak_files}
use Rattle.call_cases.specs.meaning.SoakFiles.{files_of}
use Rattle.std.proofs.Common.{Result}
use Rattle.call_cases.specs.declared.work.Request.{Request}
use Rattle.call_cases.specs.declared.reading.Refusal.{Refusal}
use Rattle.call_cases.specs.declared.reading.Refusal.TheVariants.{Usage as RefusedUsage, BadProgram as RefusedProgram, BadInput as RefusedInput, ReadFault, OutOfMemory}
use Rattle.gp_base.specs.declared.limits.TheConstants.{MOST_PROGRAM_BYTES}
use Rattle.gp_base.specs.declared.shelf.ShelfFault.TheVariants.{TooLong}
use Rattle.std.specs.List.{Contains}
use Rattle.std.proofs.lemmas.List.Elements.{Contains-append_right}
use Rattle.gp_base.specs.declared.fault.Fault.{Fault}
use Rattle.gp_base.specs.declared.fault.Faults.{Faults}
use Rattle.gp_base.specs.declared.feed.Inputs.{Inputs}
use Rattle.call_cases.specs.meaning.Work.{Files, ToDo, work_for, runs, Case, Refused, Go, after_file}
use Rattle.call_cases.specs.meaning.InputFiles.{supplied_for, then_load, load_faults, with_faults, supplied_by}
use Rattle.call_cases.specs.InputFiles.{names_for, named, file_names}
use Rattle.call_cases.specs.inner.Loading.{AnswersLoad, AnswersFaults}
use Rattle.call_cases.specs.Refusals.{AnswersCase, RefusesCase, RefusesShelf, ReadsAmong}
use Rattle.call_cases.proofs.Loads.{keeps_faults, then_names, only_one}
use Rattle.call_cases.specs.meaning.RunCommands.{MayRead, an_input, the_faults, asking}
use Rattle.command_line.specs.meaning.Words.{asked_by}
use Rattle.call_cases.proofs.OneCase.{some_case_of, run_supplies}
use Rattle.call_cases.proofs.Answering.{answers_map}
use Rattle.call_cases.proofs.ReadsProgram.{reads_program}
use Rattle.call_cases.specs.meaning.Lines.{lex_line, parse_line, check_line}
use Rattle.call_cases.specs.meaning.Case.{IsCaseOf, of_text, IsCheckedCase, names_read}
use Rattle.call_cases.specs.Decided.{ComesTo, IsAcceptedIn, IsRefusedWith, RefusesLexing, RefusesParsing, RefusesChecking, accepted_case, files_read, case_of}
use Rattle.gp_base.specs.meaning.Files.{bytes_of, AnswersRead}

pub decided_by_line : (asked : Asked) (text line : List ℕ) (refusal : Refusal) → IsRefusedWith line refusal
    → ComesTo asked text (Refused 3 (asked.program ∷ []) line) → IsAcceptedIn asked text (Err refusal)
decided_by_line asked text line RefusedUsage with_line is = with_line
decided_by_line asked text line (RefusedProgram told) with_line is =
    subst (λ l. ComesTo asked text (Refused 3 (asked.program ∷ []) l)) (sym with_line) is
decided_by_line asked text line (RefusedInput told) with_line is = with_line
decided_by_line asked text line (ReadFault name) with_line is = with_line
decided_by_line asked text line OutOfMemory with_line is = tt

pub decided_lexing : (asked : Asked) (text : List ℕ) (fault : LexFault) (refusal : Refusal) → RefusesLexing fault refusal
    → IsFaultOf text fault → IsAcceptedIn asked text (Err refusal)
decided_lexing asked text (lex.BadByte at) refusal refuses is =
    decided_by_line asked text (lex_line (lex.BadByte at)) refusal refuses (LexFails (lex.BadByte at), is, λ files. refl)
decided_lexing asked text (lex.NumberTooBig at) refusal refuses is =
    decided_by_line asked text (lex_line (lex.NumberTooBig at)) refusal refuses (LexFails (lex.NumberTooBig at), is, λ files. refl)
decided_lexing asked text lex.TooLong refusal refuses is =
    decided_by_line asked text (lex_line lex.TooLong) refusal refuses (LexFails lex.TooLong, is, λ files. refl)
decided_lexing asked text lex.OutOfMemory refusal refuses is = subst (λ r. IsAcceptedIn asked text (Err r)) (sym refuses) tt

pub decided_parsing : (asked : Asked) (text : List ℕ) (tokens : List Token) (fault : ParseFault) (refusal : Refusal)
    → RefusesParsing fault refusal
    → lexed text ≡ Ok tokens → IsFirstFault text tokens fault → IsAcceptedIn asked text (Err refusal)
decided_parsing asked text tokens (parse.Unexpected at) refusal refuses lexes first =
    decided_by_line asked text (parse_line (parse.Unexpected at)) refusal refuses (
      ParseFails (parse.Unexpected at),
      record { tokens = tokens; lexes = lexes; fails = record { known = λ is. cc; first = first } },
      λ files. refl,
    )
decided_parsing asked text tokens (parse.TooDeep at) refusal refuses lexes first =
    decided_by_line asked text (parse_line (parse.TooDeep at)) refusal refuses (
      ParseFails (parse.TooDeep at),
      record { tokens = tokens; lexes = lexes; fails = record { known = λ is. cc; first = first } },
      λ files.
          refl,
    )
decided_parsing asked text tokens parse.OutOfMemory refusal refuses lexes first =
    subst (λ r. IsAcceptedIn asked text (Err r)) (sym refuses) tt

pub decided_checking : (asked : Asked) (text : List ℕ) (program : Program) (fault : CheckFault) (refusal : Refusal)
    → RefusesChecking fault refusal → Means text (Stands program)
    → Told fault (check_fault program) → IsAcceptedIn asked text (Err refusal)
decided_checking asked text program (check.Bad kind line) refusal refuses stands told =
    decided_by_line asked text (check_line kind line) refusal refuses (
      Stands program,
      stands,
      λ files. subst (λ fault. IsCheckedCase asking files asked program fault (Refused 3 (asked.program ∷ []) (check_line kind line)))
          (sym told) refl,
    )
decided_checking asked text program check.OutOfMemory refusal refuses stands told =
    subst (λ r. IsAcceptedIn asked text (Err r)) (sym refuses) tt

-- the files that are read are those of the case
reads_supplied : (program name : Name) (supplied : Case ToDo) → Contains (names_read supplied) name
    → Contains (names_read (after_file program supplied)) name
reads_supplied program name (Go names work) is = Contains-append_right (program ∷ []) names name is
reads_supplied program name (Refused status names line) is = Contains-append_right (program ∷ []) names name is

pub loaded_ok : (asked : Asked) (program : Program) (told known : Option Files) (inputs : Inputs) (faults : Faults) → known ≡ told
    → IfSome told (λ files. AnswersLoad (supplied_for asked.command program.heads files)
    (names_for asked.command program.heads) (Ok inputs))
    → IfSome known (λ files. (names : List Name)
    → AnswersFaults names (named asked.faults) (load_faults files names asked.faults) (Ok faults))
    → IfSome told (λ files. accepted_case asked program files ≡ Go (files_read asked program) (work_for asked program inputs faults.list))
loaded_ok asked program None known inputs faults same is struck = tt
loaded_ok asked program (Some files) known inputs faults same is struck =
    let more =
    subst (λ k. IfSome k (λ files. (names : List Name)
    → AnswersFaults names (named asked.faults) (load_faults files names asked.faults) (Ok faults))) same struck in
    ap (λ s. after_file asked.program (then_load s (with_faults files asked program))) is
    ∙ ap (λ s. after_file asked.program (then_load s (λ names list. Go names (work_for asked program inputs list))))
    (more (names_for asked.command program.heads))

-- a file that was read before that of the faults
keeps_names : (files : Files) (asked : Asked) (program : Program) (supplied : Case Inputs) (name : Name)
    → Contains (names_read supplied) name
    → Contains (names_read (then_load supplied (with_faults files asked program))) name
keeps_names files asked program (Go names inputs) name is =
    subst (λ l. Contains l name) (sym (then_names (work_for asked program inputs) (load_faults files names asked.faults)))
    (keeps_faults name files names asked.faults is)
keeps_names files asked program (Refused status names line) name is = is

pub loaded_err : (asked : Asked) (program : Program) (files : Option Files) (refusal : Refusal)
    → IfSome files (λ files. AnswersLoad (supplied_for asked.command program.heads files)
    (names_for asked.command program.heads) (Err refusal))
    → IfSome files (λ files. RefusesCase (λ case. accepted_case asked program files ≡ case) refusal)
loaded_err asked program None refusal is = tt
loaded_err asked program (Some files) RefusedUsage is = absurd is
loaded_err asked program (Some files) (RefusedProgram line) is = absurd is
loaded_err asked program (Some files) (RefusedInput line) (read, is) =
    (asked.program ∷ read, ap (λ s. after_file asked.program (then_load s (with_faults files asked program))) is)
loaded_err asked program (Some files) (ReadFault name) is =
    let supplied = supplied_by asked program files in (
      after_file asked.program supplied,
      refl,
      reads_supplied asked.program name supplied
          (keeps_names files asked program (supplied_for asked.command program.heads files) name is),
    )
loaded_err asked program (Some files) OutOfMemory is = tt

-- where the file of faults is refused
pub struck_err : (asked : Asked) (program : Program) (told known : Option Files) (inputs : Inputs) (refusal : Refusal) → known ≡ told
    → IfSome told (λ files. AnswersLoad (supplied_for asked.command program.heads files)
    (names_for asked.command program.heads) (Ok inputs))
    → IfSome known (λ files. (names : List Name)
    → AnswersFaults names (named asked.faults) (load_faults files names asked.faults) (Err refusal))
    → IfSome told (λ files. RefusesCase (λ case. accepted_case asked program files ≡ case) refusal)
struck_err asked program None known inputs refusal same is struck = tt
struck_err asked program (Some files) known inputs refusal same is struck =
    let more =
    subst (λ k. IfSome k (λ files. (names : List Name)
    → AnswersFaults names (named asked.faults) (load_faults files names asked.faults) (Err refusal))) same struck in
    go refusal (more (names_for asked.command program.heads))
  where
    faults_there : Case (List Fault)
    faults_there = load_faults files (names_for asked.command program.heads) asked.faults

    all : Case (List Fault) → Case ToDo
    all given = then_load given (λ names list. Go names (work_for asked program inputs list))

    here : supplied_by asked program files ≡ all faults_there
    here = ap (λ s. then_load s (with_faults files asked program)) is

    go : (r : Refusal) → AnswersFaults (names_for asked.command program.heads) (named asked.faults) faults_there (Err r)
        → RefusesCase (λ case. accepted_case asked program files ≡ case) r
    go RefusedUsage never = absurd never
    go (RefusedProgram line) never = absurd never
    go (RefusedInput line) (read, spoils) = (asked.program ∷ read, ap (after_file asked.program) (here ∙ ap all spoils))
    go (ReadFault name) reads = (
      after_file asked.program (all faults_there),
      ap (after_file asked.program) here,
      reads_supplied asked.program name (all faults_there)
          (subst (λ l. Contains l name) (sym (then_names (work_for asked program inputs) faults_there)) reads),
    )
    go OutOfMemory never = tt

-- the reads of inputs are those that may be made for what is asked
may_read : (asked : Asked) (program : Program) (name : Name) (b : Bool) → runs asked.command ≡ b
    → Contains (if b then file_names program.heads else []) name → MayRead asked name
may_read asked program name true run is = an_input run
may_read asked program name false run (k, below, is) = absurd (omega (arith, below))

pub loaded_reads : (T : Type 0) (asked : Asked) (program : Program) (before now : List Name) (refusal : Refusal)
    → ReadsAmong {T = T} (names_for asked.command program.heads) before now (Err refusal)
    → RefusesShelf MayRead (Some asked) before now refusal
loaded_reads T asked program before now RefusedUsage is = absurd is
loaded_reads T asked program before now (RefusedProgram line) is = absurd is
loaded_reads T asked program before now (RefusedInput line) is = is
loaded_reads T asked program before now (ReadFault name) is = (is.1, is.2, may_read asked program name (runs asked.command) refl is.0)
loaded_reads T asked program before now OutOfMemory is = tt

may_strike : (asked : Asked) (name : Name) (faults : Option Name) → asked.faults ≡ faults → Contains (named faults) name
    → MayRead asked name
may_strike asked name None same (k, below, is) = absurd (omega (arith, below))
may_strike asked name (Some file) same is = the_faults (same ∙ ap Some (only_one file name is))

pub struck_reads : (T : Type 0) (asked : Asked) (before now : List Name) (refusal : Refusal)
    → ReadsAmong {T = T} (named asked.faults) before now (Err refusal) → RefusesShelf MayRead (Some asked) before now refusal
struck_reads T asked before now RefusedUsage is = absurd is
struck_reads T asked before now (RefusedProgram line) is = absurd is
struck_reads T asked before now (RefusedInput line) is = is
struck_reads T asked before now (ReadFault name) is = (is.1, is.2, may_strike asked name asked.faults refl is.0)
struck_reads T asked before now OutOfMemory is = tt

-- the text of the program was read
text_case : (files : Files) (asked : Asked) (text : List ℕ) (program : Program) → bytes_of files asked.program ≡ Some text
    → Spells text program → check_fault program ≡ None
    → IsCaseOf asking asked files (accepted_case asked program files)
text_case files asked text program there stands accepted =
    of_text (Stands program) there stands
    (subst (λ fault. IsCheckedCase asking files asked program fault (accepted_case asked program files)) (sym accepted)
    (supplied_by asked program files, refl, refl))

pub accepted_answers : (told known : Option Files) (asked : Asked) (text : List ℕ) (program : Program)
    (result : Result Request Refusal) → known ≡ told → Spells text program → check_fault program ≡ None
    → IfSome known (λ files. AnswersCase case_of (λ case. accepted_case asked program files ≡ case) result)
    → IfSome told (λ files. bytes_of files asked.program ≡ Some text → AnswersCase case_of (IsCaseOf asking asked files) result)
accepted_answers None known asked text program result same stands accepted is = tt
accepted_answers (Some files) known asked text program result same stands accepted is = λ there.
    let case = text_case files asked text program there stands accepted in
    answers_map case_of (λ c. accepted_case asked program files ≡ c) (IsCaseOf asking asked files)
    (λ c same_case. subst (IsCaseOf asking asked files) same_case case) result
    (subst (λ k. IfSome k (λ files. AnswersCase case_of (λ c. accepted_case asked program files ≡ c) result)) same is)

refused_answer : (files : Files) (asked : Asked) (text : List ℕ) (refusal : Refusal) → IsAcceptedIn asked text (Err refusal)
    → bytes_of files asked.program ≡ Some text → RefusesCase (IsCaseOf asking asked files) refusal
refused_answer files asked text RefusedUsage is there = absurd is
refused_answer files asked text (RefusedProgram line) (meaning, means, is) there =
    (asked.program, of_text meaning there means (is files))
refused_answer files asked text (RefusedInput line) is there = absurd is
refused_answer files asked text (ReadFault name) is there = absurd is
refused_answer files asked text OutOfMemory is there = tt

pub refused_answers : (files : Option Files) (asked : Asked) (text : List ℕ) (refusal : Refusal) → IsAcceptedIn asked text (Err refusal)
    → IfSome files (λ files. bytes_of files asked.program ≡ Some text → RefusesCase (IsCaseOf asking asked files) refusal)
refused_answers None asked text refusal is = tt
refused_answers (Some files) asked text refusal is = refused_answer files asked text refusal is

-- what holds where the program has a text holds where that was read
pub there_read : (told known : Option Files) (asked : Asked) (text : List ℕ) (P : Files → Type 0) → known ≡ told
    → IfSome told (λ files. bytes_of files asked.program ≡ Some text)
    → IfSome known (λ files. bytes_of files asked.program ≡ Some text → P files) → IfSome told P
there_read None known asked text P same read holds = tt
there_read (Some files) known asked text P same read holds =
    subst (λ k. IfSome k (λ files. bytes_of files asked.program ≡ Some text → P files)) same holds read

pub refused_reads : (reading : Option Asked) (asked : Asked) (text : List ℕ) (before now : List Name) (refusal : Refusal) → now ≡ before
    → IsAcceptedIn asked text (Err refusal) → RefusesShelf MayRead reading before now refusal
refused_reads reading asked text before now RefusedUsage same is = absurd is
refused_reads reading asked text before now (RefusedProgram line) same is = same
refused_reads reading asked text before now (RefusedInput line) same is = absurd is
refused_reads reading asked text before now (ReadFault name) same is = absurd is
refused_reads reading asked text before now OutOfMemory same is = tt

-- a read of the program failed: each case that the call may have reads it
pub unread_answers : (files : Option Files) (asked : Asked)
    → IfSome files (λ files. RefusesCase (IsCaseOf asking asked files) (ReadFault asked.program))
unread_answers None asked = tt
unread_answers (Some files) asked = let k = some_case_of asking (run_supplies asked_by) asked files in (k.0, k.1, reads_program asking files asked k.0 k.1)

-- a text that is longer than a program may be
lexed-long : (text : List ℕ) → MOST_PROGRAM_BYTES < length text → lexed text ≡ Err lex.TooLong
lexed-long text long = ap (λ test. if test then Err lex.TooLong else lexed_after [] 0 text) (lt-ltb MOST_PROGRAM_BYTES (length text) long)

long_file : (files : Files) (asked : Asked) → (found : Option (List ℕ)) → bytes_of files asked.program ≡ found
    → IsSomeAnd found (λ text. MOST_PROGRAM_BYTES < length text)
    → IsCaseOf asking asked files (Refused 3 (asked.program ∷ []) (lex_line lex.TooLong))
long_file files asked None is long = absurd long
long_file files asked (Some text) is long = of_text (LexFails lex.TooLong) is (lexed-long text long) refl

long_answer : (asked : Asked) (files : Files) (name line : List ℕ) (refusal : Refusal) → IsRefusedWith line refusal
    → IsCaseOf asking asked files (Refused 3 (name ∷ []) line) → RefusesCase (IsCaseOf asking asked files) refusal
long_answer asked files name line RefusedUsage with_line is = absurd with_line
long_answer asked files name line (RefusedProgram told) with_line is =
    (name, subst (λ l. IsCaseOf asking asked files (Refused 3 (name ∷ []) l)) (sym with_line) is)
long_answer asked files name line (RefusedInput told) with_line is = absurd with_line
long_answer asked files name line (ReadFault other) with_line is = absurd with_line
long_answer asked files name line OutOfMemory with_line is = tt

pub long_case : (files : Option Files) (asked : Asked) (before now : List (List ℕ)) (refusal : Refusal)
    → IsRefusedWith (lex_line lex.TooLong) refusal
    → IfSome files (λ files. AnswersRead (bytes_of files asked.program) MOST_PROGRAM_BYTES before now (Err TooLong))
    → IfSome files (λ files. RefusesCase (IsCaseOf asking asked files) refusal)
long_case None asked before now refusal with_line told = tt
long_case (Some files) asked before now refusal with_line told =
    long_answer asked files asked.program (lex_line lex.TooLong) refusal with_line
    (long_file files asked (bytes_of files asked.program) refl (told.too_long refl))

-- the files of a batch that the program makes, and those of the others
pub made_case : (told : Option Files) (asked : Asked) (batch : Soak) (result : Result Request Refusal) → asked.command ≡ command.Soak batch
    → AnswersCase case_of (IsCaseOf asking asked (soak_files batch.moves batch.start)) result
    → IfSome told (λ files. AnswersCase case_of (IsCaseOf asking asked (asking.files asked files)) result)
made_case None asked batch result is known = tt
made_case (Some files) asked batch result is known =
    subst (λ c. AnswersCase case_of (IsCaseOf asking asked (files_of c files)) result) (sym is) known

shelf_files : (c : Command) (files : Files) → ((batch : Soak) → c ≡ command.Soak batch → ⊥) → files ≡ files_of c files
shelf_files command.Run files other = refl
shelf_files command.One files other = refl
shelf_files command.Check files other = refl
shelf_files (command.Soak batch) files other = absurd (other batch refl)
shelf_files (command.Ckpt every) files other = refl
shelf_files command.Log files other = refl

pub shelf_case : (told : Option Files) (asked : Asked) (result : Result Request Refusal)
    → ((batch : Soak) → asked.command ≡ command.Soak batch → ⊥)
    → IfSome told (λ files. AnswersCase case_of (IsCaseOf asking asked files) result)
    → IfSome told (λ files. AnswersCase case_of (IsCaseOf asking asked (asking.files asked files)) result)
shelf_case None asked result other known = tt
shelf_case (Some files) asked result other known =
    subst (λ l. AnswersCase case_of (IsCaseOf asking asked l) result) (shelf_files asked.command files other) known
