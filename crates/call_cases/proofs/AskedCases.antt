-- What there is to be done for a call of `gprs_run`, or for one that may wait, is no run by checkpoints, has few subthreads, and has faults
-- with numbers in their ranges.
use Rattle.std.proofs.Common.{◌≡◌, ◌≤◌, ℕ, Bool, List, IfSome, sym, subst}
use Rattle.std.specs.declared.option.Option.TheVariants.{Some}
use Rattle.gp_base.specs.declared.limits.TheConstants.{MOST_FAULTS, MOST_SUBTHREADS}
use Rattle.gp_base.specs.declared.limits.Limits.{Limits}
use Rattle.task_ast.specs.meaning.Tree.{Name}
use Rattle.command_line.specs.declared.asked.Asked.{Asked}
use Rattle.command_line.specs.meaning.Words.{asked_among}
use Rattle.command_line.proofs.NamedCommands.{named_command}
use Rattle.command_line.proofs.RestartsAlone.{RestartsAlone}
use Rattle.call_cases.specs.meaning.Work.{Files, ToDo, Go}
use Rattle.call_cases.specs.meaning.Case.{IsCase, asks}
use Rattle.call_cases.specs.meaning.RunCommands.{asking_among}
use Rattle.call_cases.proofs.FaultRows.{AreNarrow}
use Rattle.call_cases.proofs.AskedWork.{IsAskedWork, asked_work, few_among}

-- the words ask for something, and the work is for that
for_asked : (waits : Bool) (words : List (List ℕ)) (files : Files) (names : List Name) (work : ToDo)
    → IsCase (asking_among waits) words files (Go names work) → (asked : Asked) × (asked_among waits words ≡ Some asked) × IsAskedWork asked work
for_asked waits words files names work (asks {asked} some is) =
    (asked, some, asked_work asked ((asking_among waits).files asked files) waits names work is)

pub restarts_alone : (waits : Bool) (words : List (List ℕ)) (files : Files) (names : List Name) (work : ToDo)
    → IsCase (asking_among waits) words files (Go names work) → RestartsAlone work.command
restarts_alone waits words files names work is =
    let found = for_asked waits words files names work is in
    let alone = named_command RestartsAlone tt tt tt (λ batch. tt) waits words in
    subst RestartsAlone (sym found.2.command) (subst (λ asked. IfSome asked (λ a. RestartsAlone a.command)) found.1 alone)

pub few_subthreads : (waits : Bool) (words : List (List ℕ)) (files : Files) (names : List Name) (work : ToDo)
    → IsCase (asking_among waits) words files (Go names work) → work.limits.subthreads ≤ MOST_SUBTHREADS
few_subthreads waits words files names work is =
    let found = for_asked waits words files names work is in
    let few = subst (λ asked. IfSome asked (λ a. a.limits.subthreads ≤ MOST_SUBTHREADS)) found.1 (few_among waits words) in
    subst (λ (limits : Limits). limits.subthreads ≤ MOST_SUBTHREADS) (sym found.2.limits) few

pub narrow_faults : (waits : Bool) (words : List (List ℕ)) (files : Files) (names : List Name) (work : ToDo)
    → IsCase (asking_among waits) words files (Go names work) → AreNarrow MOST_FAULTS work.faults
narrow_faults waits words files names work is = (for_asked waits words files names work is).2.faults
