use Rattle.std.proofs.Common.{◌≡◌, length, rules, subst, sym}
use Rattle.record_store.specs.Lent.{IsSharedOut}
use Rattle.running_tests.proofs.Pairs.{alone_shared}
use Rattle.running_tests.proofs.stores.two_cells.Goals as goal

pub new-requires : goal.new-requires
new-requires c =
    let many : length c.in_ok-from_slice.field-0 ≡ 2 = search rules in
    subst (λ n. IsSharedOut n c.in_ok-alone.field-0.under) (sym many) (rw c.in_ok-alone.ensures alone_shared)
