use Rattle.std.proofs.Common.{IsPermutation, subst, rules}
use Rattle.std.proofs.lemmas.List.Sorted.{IsNonDecreasingBy-from_sort_by_key}
use Rattle.whole_run.specs.inner.Striking.{rank}
use Rattle.whole_run.proofs.parts.striking.FaultsInOrder.new.Goals as goal

pub invariant_of-result : goal.invariant_of-result
invariant_of-result c =
    rw (c.of-given.ensures, c.from_vec.ensures)
    (record {
      same = subst (λ items. IsPermutation items c.sort_unstable_by_key.new.self.items) c.into_vec-list.ensures
          c.sort_unstable_by_key.ensures.permutation;
      rises = IsNonDecreasingBy-from_sort_by_key rank _ c.sort_unstable_by_key.ensures.sorted (λ a r q k. search rules);
    })
