use Rattle.std.proofs.Common.{ℕ, ◌<◌, List, length, get_or, option_map, refl, ap, ap₂, sym, ◌∙◌, subst}
use Rattle.std.proofs.lemmas.List.{length-map}
use Rattle.std.proofs.lemmas.Option.{slice_get-map, slice_get_read, get_or_from_slice_get}
use Rattle.task_ast.specs.meaning.Tree.{Name}
use Rattle.task_ast.specs.meaning.Names.{registers_of}
use Rattle.task_ast.specs.View.{plain_exprs, plain_task}
use Rattle.lock_checker.specs.Accepted.{program_of}
use Rattle.task_code.specs.Instructions.{Calc, Forking}
use Rattle.task_code.specs.Lowering.{control_calcs, gifts, forking}
use Rattle.task_code.specs.View.{plain_calcs, plain_gifts}
use Rattle.task_code.specs.inner.Scopes.{scope_here}
use Rattle.task_code.proofs.TaskLists.{at_map}
use Rattle.task_code.proofs.control.known_forking.Goals as goal

pub returns : goal.returns
returns c =
    let s = scope_here c.args.scope.now in
    let es = plain_exprs c.args.es.now in
    let tasks = (program_of c.args.scope.now.checked.now).tasks in
    let k = c.args.task in
    let task = plain_task c.index-as_slice-task.result in
    let below = subst (λ n. k < n) (length-map tasks plain_task) c.requires.within in
    let here = c.index-as_slice-task.is ∙ ap (λ l. get_or l k c.index-as_slice-task.result)
    (c.as_slice.ensures ∙ ap (λ p. p.tasks) c.program.ensures) in
    let there = slice_get-map plain_task tasks k
    ∙ ap (option_map plain_task) (slice_get_read tasks (length tasks) k c.index-as_slice-task.result refl below here) in
    let params = c.as_slice-params.ensures ∙ ap (λ t. t.params) (sym c.index-as_slice-task.is) in
    let registers = c.as_slice-registers.ensures
    ∙ at_map registers_of s.program.tasks c.args.scope.now.index.now.registers.items k task c.index.result.now
    c.requires.scope.index.registers c.requires.within (sym (get_or_from_slice_get s.program.tasks k task task there)) c.index.ensures in
    let made : ℕ → List Name → List Calc → List (ℕ × Calc) → Forking =
    λ n rs cs gs. record { task = n; registers = length rs; controls = cs; gifts = gs; into = c.args.into } in
    ap₂ (λ n rs. made n rs (plain_calcs c.in_ok-controls.controls) (plain_gifts c.in_ok-gifts.gifts)) c.in_ok-small.ensures registers
    ∙ ap₂ (made k (registers_of task)) (c.in_ok-controls.ensures ∙ ap (λ ps. control_calcs s ps es) params)
    (c.in_ok-gifts.ensures ∙ ap₂ (λ rs ps. gifts s rs ps es) registers params)
    ∙ sym (ap (λ t. forking s t k es c.args.into) there)
