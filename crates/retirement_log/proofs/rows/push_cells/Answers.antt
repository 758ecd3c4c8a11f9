use Rattle.std.proofs.Common.{get_or, map, arith, rules, subst, ◌≡◌, SFits, w64}
use Rattle.std.specs.Prelude.{pos, All}
use Rattle.std.proofs.lemmas.Grind.{common_steps}
use Rattle.std.proofs.lemmas.List.{take_all}
use Rattle.std.proofs.lemmas.List.Elements.{All-map}
use Rattle.record_store.specs.Lent.{new_write}
use Rattle.retirement_log.specs.meaning.Rows.{IsWide, IsWideCell}
use Rattle.retirement_log.specs.meaning.Log.{numbered}
use Rattle.retirement_log.proofs.WideNumbers.{wide_of, one_more}
use Rattle.retirement_log.proofs.rows.push_cells.Goals as goal

pub loop-write-preserved : goal.loop-write-preserved
loop-write-preserved c =
    let i = c.loop-write.write-index in
    let item : c.write-item.result ≡ get_or c.args.old.now i (0, pos 0) = grind (arith, common_steps) in
    let fits : SFits w64 c.value_in.result = search rules in
    let here : IsWideCell (numbered (new_write c.args.under.now c.args.bundles.now (get_or c.args.old.now i (0, pos 0)))) =
    subst (λ w. IsWideCell (numbered (new_write c.args.under.now c.args.bundles.now w))) item
    (c.push_cell.ensures.wide.0, subst IsWide c.value_in.ensures (wide_of c.value_in.result fits)) in
    record {
      text = grind (arith, common_steps);
      wide =
          one_more (λ write. IsWideCell (numbered (new_write c.args.under.now c.args.bundles.now write))) c.args.old.now i (0, pos 0) (omega arith)
          here c.loop-write.invariant.wide;
    }

pub returns-clause-wide : goal.returns-clause-wide
returns-clause-wide c =
    let all : All (λ write. IsWideCell (numbered (new_write c.args.under.now c.args.bundles.now write))) c.args.old.now =
    subst (All (λ write. IsWideCell (numbered (new_write c.args.under.now c.args.bundles.now write))))
    (take_all c.loop-write.write-index c.args.old.now (omega arith)) c.loop-write.invariant.wide in
    search (
      rules,
      All-map IsWideCell numbered (map (new_write c.args.under.now c.args.bundles.now) c.args.old.now)
          (All-map (λ write. IsWideCell (numbered write)) (new_write c.args.under.now c.args.bundles.now) c.args.old.now all),
    )
