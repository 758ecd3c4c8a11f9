use Rattle.record_store.specs.Stored.{Stored}
use Rattle.std.proofs.Common.{◌≡◌, ◌<◌, length, map, ap, ◌∙◌, arith, set, sym}
use Rattle.std.proofs.lemmas.List.{length-map, map-set}
use Rattle.std.specs.Arc.{arc_value}
use Rattle.task_ast.specs.meaning.Under.{under_lock}
use Rattle.record_store.specs.inner.Shelves.{seen, is_away, value_on, cells_on}
use Rattle.record_store.proofs.Replaced.{stocked_set, cells_set}
use Rattle.record_store.proofs.store.Store.bring_one.Goals as goal
use Rattle.record_store.proofs.store.Store.bring_one.Goals.{After-self-1}

less : (c : After-self-1) → c.lock.inside.0 < length c.self.inside.shelves.items
less c =
    let there = rw (← c.self.view_is, ← c.lock.view_is) at c.requires.exists in
    let many = length-map c.self.inside.shelves.items is_away in
    omega arith

many : (c : After-self-1) → length c.args.bundle.cells ≡ length (under_lock (arc_value c.self.inside.standing).layout.under c.lock.inside.0)
many c = rw (← c.self.view_is, ← c.lock.view_is) at c.requires.size

pub invariant_of-self : goal.invariant_of-self
invariant_of-self c =
    record {
      stocked =
          stocked_set (arc_value c.self.inside.standing).layout.under
          (arc_value c.self.inside.standing).places.items c.self.inside.shelves.items c.self.invariant.stocked c.lock.inside.0 (less c)
          c.args.bundle.cells c.put_in.new.shelf (ap seen c.put_in.ensures) (many c);
      room_is = c.self.invariant.room_is;
    }

pub returns-clause-cells : goal.returns-clause-cells
returns-clause-cells c =
    rw (← c.self.view_is, ← c.lock.view_is)
    (cells_set (arc_value c.self.inside.standing).layout.under
    (arc_value c.self.inside.standing).places.items c.self.inside.shelves.items c.self.invariant.stocked c.lock.inside.0
    (less c) c.args.bundle.cells c.put_in.new.shelf (ap seen c.put_in.ensures) (many c))

pub returns-clause-rest : goal.returns-clause-rest
returns-clause-rest c =
    rw (← c.self.view_is, ← c.lock.view_is)
    (λ i. record {
      threads = c.self.inside.threads.items;
      cells =
          cells_on (map seen (set c.self.inside.shelves.items c.lock.inside.0 c.put_in.new.shelf))
          (arc_value c.self.inside.standing).places.items;
      under = (arc_value c.self.inside.standing).layout.under;
      away =
          (map-set is_away c.self.inside.shelves.items c.lock.inside.0 c.put_in.new.shelf
          ∙ ap (λ s. set (map is_away c.self.inside.shelves.items) c.lock.inside.0 (is_away s)) c.put_in.ensures) i;
    })

pub returns-clause-count : goal.returns-clause-count
returns-clause-count c =
    let places = (arc_value c.self.inside.standing).places.items in
    length-map places (value_on (map seen (set c.self.inside.shelves.items c.lock.inside.0 c.put_in.new.shelf)))
    ∙ sym (length-map places (value_on (map seen c.self.inside.shelves.items)))
    ∙ ap (λ (s : Stored). length s.cells) c.self.view_is
