use Rattle.std.proofs.Common.{ap, ◌∙◌, map}
use Rattle.record_store.specs.Lent.{put_back, new_write}
use Rattle.subthread.proofs.Handy.{none_back}
use Rattle.subthread.proofs.cells.CellsAtHand.new.Goals as goal

pub returns : goal.returns
returns c = λ i. record {
  under = c.args.under.now;
  came =
      (ap (λ old. put_back c.args.under.now old c.into_vec.result.items) c.new.ensures.empty
      ∙ none_back c.args.under.now c.into_vec.result.items ∙ c.into_vec.ensures) i;
  written = (ap (map (new_write c.args.under.now c.into_vec.result.items)) c.new.ensures.empty) i;
}
