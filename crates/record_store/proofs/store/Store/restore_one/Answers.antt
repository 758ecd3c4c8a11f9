use Rattle.std.proofs.Common.{◌≡◌, ℕ, ◌<◌, length, map, get_or, ap, sym, ◌∙◌, arith, set, false, rules, SFits, w64}
use Rattle.std.specs.Prelude.{slice_set}
use Rattle.std.proofs.lemmas.Int.{to_z-of_z}
use Rattle.std.proofs.lemmas.List.{length-map}
use Rattle.std.proofs.Math.Seq.{map-set_same}
use Rattle.std.specs.Arc.{arc_value}
use Rattle.record_store.specs.declared.store.Standing.{Standing}
use Rattle.record_store.specs.inner.Shelves.{seen, is_away, value_on, cells_on}
use Rattle.record_store.proofs.Replaced.{lock_home, lock_less, stands_there, inside, value_set, stocked_value}
use Rattle.record_store.proofs.store.Store.restore_one.Goals as goal
use Rattle.record_store.proofs.store.Store.restore_one.Goals.{After-struct_known-2-1, After-index_mut}

-- what is read where copies share it is read of the store
read : {shared standing : Standing} (cell : ℕ) (place : ℕ × ℕ) → place ≡ get_or shared.places.items cell place → shared ≡ standing
    → place ≡ get_or standing.places.items cell place
read cell place is same = is ∙ ap (λ (s : Standing). get_or s.places.items cell place) same

within : (c : After-struct_known-2-1) → c.cell.inside.0 < length (arc_value c.self.inside.standing).places.items
within c =
    let there = rw (← c.self.view_is, ← c.cell.view_is) at c.requires.in_range in
    let many = length-map (arc_value c.self.inside.standing).places.items (value_on (map seen c.self.inside.shelves.items)) in
    omega arith

pub index_mut-requires : goal.index_mut-requires
index_mut-requires c =
    let less : c.lock.inside.0 < length c.self.inside.shelves.items = rw c.lock.view_is
    (lock_less (arc_value c.self.inside.standing).layout.under
    (arc_value c.self.inside.standing).places.items c.self.inside.shelves.items c.self.invariant.stocked c.cell.inside.0
    c.index.result.now (read c.cell.inside.0 c.index.result.now c.index.ensures c.deref.ensures) (within c)) in
    search rules

shelf_is : (c : After-index_mut) → c.index_mut.result.now ≡ get_or c.self.inside.shelves.items c.index.result.now.0 c.index_mut.result.now
shelf_is c = c.index_mut.ensures.value ∙ ap (λ l. get_or c.self.inside.shelves.items l c.index_mut.result.now) c.lock.view_is

home : (c : After-index_mut) → c.cell.inside.0 < length (arc_value c.self.inside.standing).places.items
    → is_away c.index_mut.result.now ≡ false
home c within_places =
    let stands =
    stands_there (arc_value c.self.inside.standing).layout.under
    (arc_value c.self.inside.standing).places.items c.self.inside.shelves.items c.self.invariant.stocked c.cell.inside.0
    c.index.result.now (read c.cell.inside.0 c.index.result.now c.index.ensures c.deref.ensures)
    within_places in
    let at_home = rw (← c.self.view_is, ← c.cell.view_is) at c.requires.home in
    lock_home (arc_value c.self.inside.standing).layout.under
    (arc_value c.self.inside.standing).places.items c.self.inside.shelves.items c.self.invariant.stocked
    c.index.result.now.0 c.index_mut.result.now
    (lock_less (arc_value c.self.inside.standing).layout.under
    (arc_value c.self.inside.standing).places.items c.self.inside.shelves.items c.self.invariant.stocked c.cell.inside.0
    c.index.result.now (read c.cell.inside.0 c.index.result.now c.index.ensures c.deref.ensures) within_places)
    (at_home c.index.result.now.0 c.index.result.now.1 stands) (shelf_is c)

pub set_at-requires-clause-home : goal.set_at-requires-clause-home
set_at-requires-clause-home c =
    home (goal.at.set_at-requires-clause-home c).After-index_mut (within (goal.at.set_at-requires-clause-home c).After-struct_known-2-1)

pub set_at-requires-clause-within : goal.set_at-requires-clause-within
set_at-requires-clause-within c =
    inside (arc_value c.self.inside.standing).layout.under
    (arc_value c.self.inside.standing).places.items c.self.inside.shelves.items c.self.invariant.stocked c.cell.inside.0
    c.index.result.now (read c.cell.inside.0 c.index.result.now c.index.ensures c.deref.ensures)
    (within (goal.at.set_at-requires-clause-within c).After-struct_known-2-1) c.index_mut.result.now
    (shelf_is (goal.at.set_at-requires-clause-within c).After-index_mut)

pub invariant_of-self : goal.invariant_of-self
invariant_of-self c =
    let fits : SFits w64 c.args.value = search rules in
    record {
      stocked = rw c.lock.view_is
          (stocked_value (arc_value c.self.inside.standing).layout.under
          (arc_value c.self.inside.standing).places.items c.self.inside.shelves.items c.self.invariant.stocked c.cell.inside.0
          c.index.result.now (read c.cell.inside.0 c.index.result.now c.index.ensures c.deref.ensures)
          (within (goal.at.invariant_of-self c).After-struct_known-2-1) c.index_mut.result.now
          (shelf_is (goal.at.invariant_of-self c).After-index_mut) c.args.value c.set_at.new.shelf
          (ap seen c.set_at.ensures ∙ ap (λ v. slice_set (seen c.index_mut.result.now) c.index.result.now.1 v)
          (to_z-of_z w64 c.args.value fits)));
      room_is = c.self.invariant.room_is;
    }

pub returns-clause-cells : goal.returns-clause-cells
returns-clause-cells c =
    let fits : SFits w64 c.args.value = search rules in
    rw (← c.self.view_is, ← c.cell.view_is, c.lock.view_is)
    (value_set (arc_value c.self.inside.standing).layout.under
    (arc_value c.self.inside.standing).places.items c.self.inside.shelves.items c.self.invariant.stocked c.cell.inside.0
    c.index.result.now (read c.cell.inside.0 c.index.result.now c.index.ensures c.deref.ensures)
    (within (goal.at.returns-clause-cells c).After-struct_known-2-1) c.index_mut.result.now
    (shelf_is (goal.at.returns-clause-cells c).After-index_mut) c.args.value c.set_at.new.shelf
    (ap seen c.set_at.ensures ∙ ap (λ v. slice_set (seen c.index_mut.result.now) c.index.result.now.1 v)
    (to_z-of_z w64 c.args.value fits)))

pub returns-clause-rest : goal.returns-clause-rest
returns-clause-rest c =
    rw (← c.self.view_is, c.lock.view_is)
    (λ i. record {
      threads = c.self.inside.threads.items;
      cells =
          cells_on (map seen (set c.self.inside.shelves.items c.index.result.now.0 c.set_at.new.shelf))
          (arc_value c.self.inside.standing).places.items;
      under = (arc_value c.self.inside.standing).layout.under;
      away = map-set_same is_away c.self.inside.shelves.items c.index.result.now.0 c.set_at.new.shelf c.index_mut.result.now
          (ap is_away c.set_at.ensures
          ∙ sym (home (goal.at.returns-clause-rest c).After-index_mut (within (goal.at.returns-clause-rest c).After-struct_known-2-1))
          ∙ ap is_away (shelf_is (goal.at.returns-clause-rest c).After-index_mut)) i;
    })
