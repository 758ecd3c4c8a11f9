use Rattle.std.proofs.Common.{rules, ◌≡◌, ◌++◌, List, ℕ, codes, ap, ◌∙◌}
use Rattle.gp_base.specs.declared.ending.End.TheVariants.{Finished}
use Rattle.lock_checker.specs.Accepted.{program_of}
use Rattle.task_ast.specs.meaning.Names.{records_of}
use Rattle.task_ast.specs.meaning.Layout.{cut}
use Rattle.restart_log.specs.meaning.Lines.{printed}
use Rattle.restart_log.specs.meaning.Tail.{tail_text}
use Rattle.run_told.proofs.Once.{if_ok}
use Rattle.run_told.proofs.told.is_told.Goals as goal

pub returns-in-Some : goal.returns-in-Some
returns-in-Some c =
    let report = c.args.report.now in
    let records = cut (records_of (program_of c.args.checked.now).heads) report.records in
    let ended : report.end ≡ Finished = search rules in
    let front : c.in_ok-front.front.items ≡ codes "output\n" ++ printed c.args.lines.now = search rules in
    let split : c.args.text.now ≡ (codes "output\n" ++ printed c.args.lines.now) ++ c.in-Some.tail.now =
    c.in-Some.ensures ∙ ap (λ (f : List ℕ). f ++ c.in-Some.tail.now) (c.as_slice.ensures.value ∙ front) in
    if_ok _ _ c.is_tail_text.result c.is_tail_text.ensures (λ is tells yes.
    split ∙ ap (λ t. codes "output\n" ++ (printed c.args.lines.now ++ t))
    (tells.0 yes ∙ ap (λ e. tail_text e records report.subthreads report.journal.restarts report.unused) ended))
