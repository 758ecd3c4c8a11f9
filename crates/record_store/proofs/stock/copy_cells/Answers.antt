use Rattle.std.proofs.Common.{ap, ◌∙◌, rules, SFits, w64}
use Rattle.std.proofs.lemmas.Int.{to_z-of_z}
use Rattle.task_ast.specs.meaning.State.{number_at}
use Rattle.record_store.proofs.Pushed.{mapped_more}
use Rattle.record_store.proofs.stock.copy_cells.Goals as goal

pub loop-number-preserved : goal.loop-number-preserved
loop-number-preserved c =
    let fits : SFits w64 c.value_at.result = search rules in
    mapped_more (number_at c.args.cells.now) c.args.numbers.now c.loop-number.number-index c.number-item.result
    c.loop-number.values c.push.new.self _ c.loop-number-test.true c.number-item.is c.loop-number.invariant
    (to_z-of_z w64 c.value_at.result fits ∙ c.value_at.ensures ∙ ap (number_at c.args.cells.now) c.number.view_is)
    c.in_ok-push.ensures.ok
