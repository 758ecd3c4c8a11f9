use Rattle.std.proofs.Common.{rules, refl}
use Rattle.std.specs.Int.{int_wrap}
use Rattle.std.proofs.lemmas.Int.{wraps, int_wrap-add_left}
use Rattle.std.proofs.lemmas.List.Sums.{fold_more}
use Rattle.restart_log.proofs.soak.wrapped_sum.Goals as goal

pub loop-cell-preserved : goal.loop-cell-preserved
loop-cell-preserved c = search (rules, wraps, fold_more, int_wrap-add_left)

pub loop-cell-init : goal.loop-cell-init
unfolding int_wrap
loop-cell-init c = refl
