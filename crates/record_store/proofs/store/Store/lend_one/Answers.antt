use Rattle.std.proofs.Common.{◌≡◌, ◌<◌, Some, sym, length, ◌∙◌, true, false, arith}
use Rattle.std.specs.Arc.{arc_value}
use Rattle.record_store.specs.inner.Shelves.{cells_on}
use Rattle.record_store.proofs.Replaced.{lock_home, lock_within, shelf_seen, seen_same, stocked_same, away_set}
use Rattle.record_store.proofs.store.Store.lend_one.Goals as goal
use Rattle.record_store.proofs.store.Store.lend_one.Goals.{After-self-1}

less : (c : After-self-1) → c.lock.inside.0 < length c.self.inside.shelves.items
less c =
    lock_within (arc_value c.self.inside.standing).layout.under
    (arc_value c.self.inside.standing).places.items c.self.inside.shelves.items c.self.invariant.stocked c.lock.inside.0 false
    (rw (← c.self.view_is, ← c.lock.view_is) at c.requires.home)

pub invariant_of-self : goal.invariant_of-self
invariant_of-self c =
    record {
      stocked =
          stocked_same (arc_value c.self.inside.standing).layout.under
          (arc_value c.self.inside.standing).places.items c.self.inside.shelves.items c.self.invariant.stocked c.lock.inside.0
          c.index_mut.result.now c.index_mut.ensures.value (less c) c.take_out-cells.new.shelf c.take_out-cells.ensures.values;
      room_is = c.self.invariant.room_is;
    }

pub returns-clause-bundle : goal.returns-clause-bundle
returns-clause-bundle c =
    rw (← c.self.view_is, ← c.lock.view_is)
    (λ i. record {
      lock = c.lock.inside.0;
      cells = (c.take_out-cells.ensures.cells
          ∙ shelf_seen (arc_value c.self.inside.standing).layout.under
          (arc_value c.self.inside.standing).places.items c.self.inside.shelves.items c.self.invariant.stocked c.lock.inside.0
          c.index_mut.result.now c.index_mut.ensures.value (less c)) i;
    })

pub returns-clause-store : goal.returns-clause-store
returns-clause-store c =
    rw (← c.self.view_is, ← c.lock.view_is)
    (λ i. record {
      threads = c.self.inside.threads.items;
      cells =
          cells_on (seen_same (arc_value c.self.inside.standing).layout.under
          (arc_value c.self.inside.standing).places.items c.self.inside.shelves.items c.self.invariant.stocked c.lock.inside.0
          c.index_mut.result.now c.index_mut.ensures.value
          (less c) c.take_out-cells.new.shelf c.take_out-cells.ensures.values i) (arc_value c.self.inside.standing).places.items;
      under = (arc_value c.self.inside.standing).layout.under;
      away =
          away_set (arc_value c.self.inside.standing).layout.under
          (arc_value c.self.inside.standing).places.items c.self.inside.shelves.items c.self.invariant.stocked c.lock.inside.0
          c.index_mut.result.now c.index_mut.ensures.value (less c)
          c.take_out-cells.new.shelf true c.take_out-cells.ensures.away i;
    })

pub index_mut-requires : goal.index_mut-requires
index_mut-requires c =
    let within : c.lock.inside.0 < length c.self.inside.shelves.items =
    lock_within (arc_value c.self.inside.standing).layout.under
    (arc_value c.self.inside.standing).places.items c.self.inside.shelves.items c.self.invariant.stocked c.lock.inside.0 false
    (rw (← c.self.view_is, ← c.lock.view_is) at c.requires.home) in
    omega (arith, within, c.self.inside.shelves.ok.0)

pub take_out-cells-requires : goal.take_out-cells-requires
take_out-cells-requires c =
    let home = rw (← c.self.view_is, ← c.lock.view_is) at c.requires.home in
    let within : c.lock.inside.0 < length c.self.inside.shelves.items =
    lock_within (arc_value c.self.inside.standing).layout.under
    (arc_value c.self.inside.standing).places.items c.self.inside.shelves.items c.self.invariant.stocked c.lock.inside.0 false home in
    lock_home (arc_value c.self.inside.standing).layout.under
    (arc_value c.self.inside.standing).places.items c.self.inside.shelves.items c.self.invariant.stocked c.lock.inside.0
    c.index_mut.result.now within (λ there. (let no : Some true ≡ Some false = sym there ∙ home in cc no)) c.index_mut.ensures.value
