-- What there is to be done for a call has numbers of 32 bits.
use Rattle.std.proofs.Common.{◌≤◌, ℕ, Bool, List, length, sym, subst, arith}
use Rattle.task_ast.specs.meaning.Tree.{Name}
use Rattle.task_ast.specs.meaning.Run.{plain_order}
use Rattle.task_ast.specs.Plain.{tree_machine}
use Rattle.task_ast.proofs.PlainRuns.{count_law}
use Rattle.task_ast.proofs.Runs.{order-is}
use Rattle.audit_calls.specs.TraceLaws.{IsNarrowRun}
use Rattle.call_cases.specs.meaning.Work.{Files, ToDo, Go}
use Rattle.call_cases.specs.meaning.Case.{IsCase}
use Rattle.call_cases.specs.meaning.Journals.{run_of}
use Rattle.call_cases.specs.meaning.RunCommands.{asking_among}
use Rattle.call_cases.proofs.AskedCases.{few_subthreads, narrow_faults}

pub narrow_run : (waits : Bool) (words : List (List ℕ)) (files : Files) (names : List Name) (work : ToDo)
    → IsCase (asking_among waits) words files (Go names work) → IsNarrowRun (run_of work) work.faults
unfolding run_of
narrow_run waits words files names work is =
    let count : length (plain_order work.program work.inputs work.limits) ≤ work.limits.subthreads =
    subst (λ run. length run ≤ work.limits.subthreads) (sym (order-is work.program work.inputs work.limits))
    (count_law (tree_machine work.program work.inputs work.limits) work.program work.inputs work.limits) in
    let few = few_subthreads waits words files names work is in
    let faults = narrow_faults waits words files names work is in
    record {
      subthreads = omega (arith, count, few);
      few = faults.few;
      narrow = λ k d l. let fits = faults.narrow k d l in record { attempt = fits.0; delay = fits.1 };
    }
