use Rattle.std.proofs.Common.{◌∙◌, rules, SFits, w64}
use Rattle.std.proofs.lemmas.Int.{to_z-of_z}
use Rattle.task_ast.specs.meaning.State.{number_at}
use Rattle.one_thread.proofs.Openings.{cell-more}
use Rattle.one_thread.proofs.opening.first_cells.Goals as goal

pub loop-c-preserved : goal.loop-c-preserved
loop-c-preserved c =
    let fits : SFits w64 c.number_at.result = search rules in
    let pushed = rw (to_z-of_z w64 c.number_at.result fits) at c.in_ok-push.ensures.ok in
    cell-more (number_at c.args.records.now) c.loop-c.cells c.push.new.self c.number_at.result c.loop-c.c c.args.count c.loop-c-test.true
    pushed c.number_at.ensures ∙ c.loop-c.invariant
