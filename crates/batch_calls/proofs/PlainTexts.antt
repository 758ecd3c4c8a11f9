-- The run of the code is the plain run, as its text tells it.
use Rattle.std.proofs.Common.{◌≡◌, ℕ, ℤ, List, [], ◌∷◌, ◌++◌, map, length, refl, sym, ap, ◌∙◌, flat_map}
use Rattle.std.proofs.lemmas.List.{length-map}
use Rattle.gp_base.specs.declared.ending.End.{End}
use Rattle.task_ast.specs.declared.tree.Head.{Head}
use Rattle.task_ast.specs.meaning.Names.{records_of}
use Rattle.task_ast.specs.meaning.Layout.{cut}
use Rattle.task_ast.specs.meaning.Plain.{Subthread}
use Rattle.task_ast.specs.meaning.Run.{plain_order, plain_end, plain_records}
use Rattle.task_ast.proofs.Runs.{order-is, run-end}
use Rattle.one_thread.specs.declared.run.PlainRun.{PlainRun}
use Rattle.one_thread.specs.PlainRuns.{IsPlainRun, shown}
use Rattle.restart_log.specs.meaning.Tail as tail
use Rattle.call_cases.specs.meaning.Texts.{Ran, run_tail}
use Rattle.call_cases.specs.meaning.Work.{ToDo}
use Rattle.call_cases.specs.meaning.PlainText.{plain_ran}
use Rattle.batch_calls.specs.inner.Steps.{lines_in, ran_in}

lines_in-shown : (run : List Subthread) → lines_in (map shown run) ≡ flat_map (λ (s : Subthread). s.lines) run
lines_in-shown [] = refl
lines_in-shown (s ∷ run) = ap (λ lines. s.lines ++ lines) (lines_in-shown run)

abbrev made : List Head → List (List ℤ) → End → List ℤ → ℕ → Ran
made heads lines end cells subthreads =
    record { lines = lines; end = end; cells = cells; records = cut (records_of heads) cells; subthreads = subthreads }

pub plain_ran-run : (work : ToDo) (run : PlainRun) → IsPlainRun work.program work.inputs work.limits run
    → ran_in work.program.heads run ≡ plain_ran work
unfolding plain_ran
plain_ran-run work run is =
    let plain = plain_order work.program work.inputs work.limits in
    let same_order = is.order ∙ ap (map shown) (sym (order-is work.program work.inputs work.limits)) in
    let same_end = run-end work.program work.inputs work.limits in
    let lines = ap lines_in same_order ∙ lines_in-shown plain in
    let count = ap length same_order ∙ length-map plain shown in
    let heads = work.program.heads in
    let ending = plain_end work.program work.inputs work.limits in
    let told = flat_map (λ (s : Subthread). s.lines) plain in
    ap (λ l. made heads l run.end run.records (length run.order)) lines
    ∙ ap (λ e. made heads told e run.records (length run.order)) (is.end ∙ sym same_end.0)
    ∙ ap (λ cells. made heads told ending cells (length run.order)) (is.records ∙ sym same_end.1)
    ∙ ap (λ n. made heads told ending (plain_records work.program work.inputs work.limits) n) count

-- what follows the lines of a plain run
pub tail_by : (heads : List Head) (run : PlainRun) (count : ℕ) (bytes text : List ℕ) (cells : List ℤ) → cells ≡ run.records
    → count ≡ length run.order → text ≡ tail.tail_text run.end (cut (records_of heads) cells) count [] 0 → bytes ≡ text
    → bytes ≡ run_tail (ran_in heads run) [] 0
tail_by heads run count bytes text cells same counted told shown =
    shown ∙ told ∙ ap (λ c. tail.tail_text run.end (cut (records_of heads) c) count [] 0) same
    ∙ ap (λ n. tail.tail_text run.end (cut (records_of heads) run.records) n [] 0) counted
