use Rattle.std.specs.Prelude.{◌≡◌, true}
use Rattle.dependence.proofs.DependentSets.{dependents-are, dependents_rise, IsDependent-least}
use Rattle.dependence.proofs.DependentLists.{dependents-next, dependents-shift, marks-are}
use Rattle.dependence.proofs.laws.dependents_laws.Goals as goal

pub returns : goal.returns
returns c = record {
  members = dependents-are;
  least =
      λ clash first front set base closed q d. IsDependent-least (λ p r. clash p r ≡ true) first front (λ r. set r ≡ true) base closed d;
  rising = dependents_rise;
  next = dependents-next;
  window = dependents-shift;
  marks = marks-are;
}
