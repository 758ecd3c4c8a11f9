-- The batch of the example, and what its run comes to.
use Rattle.std.proofs.Common.{◌≡◌, List, [], ◌∷◌, refl, subst}
use Rattle.std.specs.Prelude.{pos, codes, Some}
use Rattle.std.specs.Fmt.{digits}
use Rattle.csv.proofs.OnLiterals.{csv_on_literals}
use Rattle.csv.specs.Records.{field_at}
use Rattle.gp_base.specs.declared.ending.End.TheVariants.{Finished}
use Rattle.gp_base.specs.declared.fault.Fault.{Fault}
use Rattle.task_ast.specs.meaning.Body.{stretch, body}
use Rattle.task_ast.specs.meaning.Repeat.{repeated, until_done, steps, state_after}
use Rattle.batch_files.specs.meaning.Rows.{first_broken}
use Rattle.call_cases.specs.meaning.InputFiles.{load_faults, no_inputs}
use Rattle.call_cases.specs.meaning.PlainText.{plain_ran, restarts_in}
use Rattle.call_cases.specs.meaning.RunCommands.{end_status}
use Rattle.call_cases.specs.meaning.Work.{ToDo, work_for}
use Rattle.batch_calls.specs.meaning.RunTheorem.{gave, published, IsBatch, Ends}
use Rattle.call_laws.specs.meaning.RunLaws.{run_asked, example_files, example_text, RunExample}
use Rattle.call_laws.proofs.RunWords.{run_law}
use Rattle.call_laws.proofs.SevenSpells.{seven_text, the_program, spells}

abbrev faults : List Fault
faults = record { pos = 0; attempt = 0; delay = 0; mask = pos 1 } ∷ []

abbrev work : ToDo
work = work_for (run_asked (codes "seven.gp") (codes "faults.csv")) the_program no_inputs faults

-- ---- the files are such a batch

faults_given : gave (load_faults example_files [] (Some (codes "faults.csv"))) ≡ Some faults
unfolding csv_on_literals field_at first_broken
faults_given = refl

batch : IsBatch (run_asked (codes "seven.gp") (codes "faults.csv")) example_files the_program no_inputs faults
batch = record { run = refl; text = seven_text; stands = refl; spells = spells; accepted = refl; gives = refl; lists = faults_given }

-- ---- its run, and what is redone

ran : plain_ran work ≡ record { lines = (pos 7 ∷ []) ∷ []; end = Finished; cells = []; records = []; subthreads = 1 }
unfolding plain_ran repeated until_done steps state_after stretch body
ran = refl

redone : restarts_in work ≡ record { front = 1; struck = 0; attempt = 0; redo = 0 ∷ [] } ∷ []
unfolding restarts_in repeated until_done steps stretch body
redone = refl

-- ---- so the text is that of the example

same_text : published work ≡ example_text
unfolding digits
same_text = rw (ran, redone) refl

same_status : end_status (plain_ran work).end ≡ 0
same_status = rw ran refl

pub run_example : RunExample
run_example call runs known words =
    subst (λ text. Ends text 0 [] call) same_text
    (subst (λ status. Ends (published work) status [] call) same_status
    (run_law call example_files (codes "seven.gp") (codes "faults.csv") the_program no_inputs faults runs known words refl refl batch))
