use Rattle.dependence.proofs.Effects.{after_is, history_is, undo_is}
use Rattle.dependence.proofs.fold_laws.history_laws.Goals as goal

pub returns : goal.returns
returns c = record { after = after_is; history = history_is; undo = undo_is }
