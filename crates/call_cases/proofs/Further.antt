-- The case of a call that goes on where that of a run would begin: what it asks for has all that the words of the run ask
-- for, and this comes next, after what the run reads.
use Rattle.std.proofs.Common.{◌≡◌, ℕ, List, [], ◌∷◌, refl, sym, ap, ◌∙◌, subst}
use Rattle.std.specs.List.{Contains}
use Rattle.std.specs.declared.option.Option.{Option}
use Rattle.std.specs.declared.option.Option.TheVariants.{None, Some}
use Rattle.task_ast.specs.meaning.Tree.{Name, Program}
use Rattle.task_ast.specs.meaning.Check.{check_fault}
use Rattle.task_ast.specs.declared.check_kind.CheckKind.{CheckKind}
use Rattle.task_parser.specs.meaning.Spelling.{Meaning, Stands, LexFails, ParseFails}
use Rattle.command_line.specs.declared.asked.Asked.{Asked}
use Rattle.call_cases.specs.declared.lines.Tool.{Tool}
use Rattle.call_cases.specs.declared.reading.Refusal.{Refusal}
use Rattle.call_cases.specs.declared.reading.Refusal.TheVariants.{Usage as RefusedUsage, BadProgram as RefusedProgram, BadInput as RefusedInput, ReadFault, OutOfMemory}
use Rattle.call_cases.specs.meaning.Work.{Files, ToDo, Case, Refused, Go, after_file}
use Rattle.call_cases.specs.meaning.InputFiles.{supplied_by, ThenLoads}
use Rattle.call_cases.specs.meaning.Commands.{Asking}
use Rattle.call_cases.specs.meaning.RunCommands as run
use Rattle.call_cases.specs.meaning.Case.{IsCaseOf, no_program, of_text, IsCheckedCase, IsMeantCase, names_read}
use Rattle.call_cases.specs.Refusals.{RefusesCase}
use Rattle.call_cases.proofs.OneCase.{SuppliesOne}

-- one case comes next, and so one comes of all
loads_some : {S T : Type 0} (given : Case S) (Next : List Name → S → Case T → Type 0)
    → ((names : List Name) (value : S) → (case : Case T) × Next names value case) → (case : Case T) × ThenLoads given Next case
loads_some (Go names value) Next some = some names value
loads_some (Refused status names line) Next some = (Refused status names line, refl)

loads_one : {S T : Type 0} (given : Case S) (Next : List Name → S → Case T → Type 0) (a b : Case T)
    → ((names : List Name) (value : S) → Next names value a → Next names value b → a ≡ b)
    → ThenLoads given Next a → ThenLoads given Next b → a ≡ b
loads_one (Go names value) Next a b one is other = one names value is other
loads_one (Refused status names line) Next a b one is other = is ∙ sym other

module _ {B T : Type 0} (tool : Tool) (asks_for : B → Asked) (reading : List (List ℕ) → Option B)
    (Next : B → Files → List Name → ToDo → Case T → Type 0) where
  -- the words of such a call
  abbrev pub further_asking : Asking B T
  further_asking =
      record {
        tool = tool;
        reading = reading;
        program = λ b. (asks_for b).program;
        files = λ b files. files;
        supplies = λ b program files. ThenLoads (supplied_by (asks_for b) program files) (Next b files);
      }

  pub further_once : ((b : B) (files : Files) (names : List Name) (work : ToDo) → (case : Case T) × Next b files names work case)
      → ((b : B) (files : Files) (names : List Name) (work : ToDo) (x y : Case T) → Next b files names work x → Next b files names work y → x ≡ y)
      → SuppliesOne further_asking
  further_once some one =
      record {
        some = λ b program files. loads_some (supplied_by (asks_for b) program files) (Next b files) (some b files);
        one =
            λ b program files x y. loads_one (supplied_by (asks_for b) program files) (Next b files) x y (λ names work. one b files names work x y);
      }

  -- what comes next comes before the program's file, too
  module _ (b : B) (files : Files) (shifts : (first : Name) (names : List Name) (work : ToDo) (case : Case T)
      → Next b files (first ∷ names) work case → (found : Case T) × Next b files names work found × (case ≡ after_file first found)) where
    abbrev asked : Asked
    asked = asks_for b

    abbrev More : Case ToDo → Case T → Type 0
    More given case = ThenLoads given (Next b files) case

    shifted : (given : Case ToDo) (case : Case T) → More (after_file asked.program given) case
        → (found : Case T) × More given found × (case ≡ after_file asked.program found)
    shifted (Refused status names line) case is = (Refused status names line, refl, is)
    shifted (Go names work) case is = shifts asked.program names work case is

    checked_further : (program : Program) (fault : Option (CheckKind × ℕ)) (given : Case ToDo) (case : Case T)
        → IsCheckedCase run.asking files asked program fault given → More given case → IsCheckedCase further_asking files b program fault case
    checked_further program (Some fault) given case is more = subst (λ g. More g case) is more
    checked_further program None given case (supplied, supplies, is) more =
        let found =
        shifted (supplied_by asked program files) case (subst (λ g. More g case) (is ∙ ap (after_file asked.program) supplies) more) in
        (found.0, found.1, found.2)

    meant_further : (meaning : Meaning) (given : Case ToDo) (case : Case T) → IsMeantCase run.asking files asked meaning given
        → More given case → IsMeantCase further_asking files b meaning case
    meant_further (LexFails fault) given case is more = subst (λ g. More g case) is more
    meant_further (ParseFails fault) given case is more = subst (λ g. More g case) is more
    meant_further (Stands program) given case is more = checked_further program (check_fault program) given case is more

    pub further : (given : Case ToDo) (case : Case T) → IsCaseOf run.asking asked files given → More given case
        → IsCaseOf further_asking b files case
    further given case (no_program absent) more = subst (IsCaseOf further_asking b files) (sym more) (no_program absent)
    further given case (of_text meaning there means is) more = of_text meaning there means (meant_further meaning given case is more)

    module _ (some : (names : List Name) (work : ToDo) → (case : Case T) × Next b files names work case)
        (reads : (names : List Name) (work : ToDo) (case : Case T) → Next b files names work case → (name : Name) → Contains names name
        → Contains (names_read case) name) where
      still_read : (given : Case ToDo) (name : Name) → IsCaseOf run.asking asked files given → Contains (names_read given) name
          → (case : Case T) × IsCaseOf further_asking b files case × Contains (names_read case) name
      still_read (Refused status names line) name is has =
          (Refused status names line, further (Refused status names line) (Refused status names line) is refl, has)
      still_read (Go names work) name is has =
          let found = some names work in
          (found.0, further (Go names work) found.0 is found.1, reads names work found.0 found.1 name has)

      -- what the run is refused for, this is
      pub refuses_further : (refusal : Refusal) → RefusesCase (IsCaseOf run.asking asked files) refusal
          → RefusesCase (IsCaseOf further_asking b files) refusal
      refuses_further RefusedUsage (line, is) = (line, further (Refused 2 [] line) (Refused 2 [] line) is refl)
      refuses_further (RefusedProgram line) (name, is) =
          (name, further (Refused 3 (name ∷ []) line) (Refused 3 (name ∷ []) line) is refl)
      refuses_further (RefusedInput line) (names, is) = (names, further (Refused 4 names line) (Refused 4 names line) is refl)
      refuses_further (ReadFault name) (case, is, has) = still_read case name is has
      refuses_further OutOfMemory is = tt
