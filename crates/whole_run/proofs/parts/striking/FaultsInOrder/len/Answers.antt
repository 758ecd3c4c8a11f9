use Rattle.std.proofs.Common.{◌∙◌, length, ap}
use Rattle.std.proofs.lemmas.List.Sorted.{length_permutation}
use Rattle.gp_base.specs.declared.fault.Faults.{Faults}
use Rattle.whole_run.proofs.parts.striking.FaultsInOrder.len.Goals as goal

pub returns : goal.returns
returns c = c.len.ensures ∙ length_permutation _ _ c.self.invariant.same ∙ ap (λ (faults : Faults). length faults.list) c.self.view_is
