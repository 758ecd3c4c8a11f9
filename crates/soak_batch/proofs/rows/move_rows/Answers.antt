use Rattle.soak_batch.proofs.OneMore.{move_more, state_more}
use Rattle.soak_batch.proofs.rows.move_rows.Goals as goal

pub loop-made-preserved : goal.loop-made-preserved
loop-made-preserved c =
    let state = c.loop-made.draws.state in
    let next = c.push_move.new.draws.state in
    record {
      rows =
          move_more c.args.count c.loop-made._made state next c.loop-made.text.items c.push_move.new.text.items _ c.loop-made-test.true
          c.loop-made.invariant.rows c.in_ok-push_move.ensures.text c.in_ok-push_move.ensures.state;
      state =
          state_more c.args.count c.loop-made._made state next _ c.loop-made-test.true c.loop-made.invariant.state
          c.in_ok-push_move.ensures.state;
    }
