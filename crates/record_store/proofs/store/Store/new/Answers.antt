use Rattle.std.proofs.Common.{◌≡◌, map, length, ap, subst, sym, ◌∙◌, rules}
use Rattle.std.specs.Arc.{arc_value}
use Rattle.record_store.specs.declared.store.Standing.{Standing}
use Rattle.record_store.specs.inner.Shelves.{seen, is_away, cells_on, new_shelf, ArePlaced, IsKept}
use Rattle.record_store.proofs.Stocked.{new_sizes, new_home, new_cells}
use Rattle.record_store.proofs.store.Store.new.Goals as goal

pub invariant_of-result : goal.invariant_of-result
invariant_of-result c =
    let shelves : c.in_ok-shelves.shelves.items ≡ map (new_shelf c.args.records) c.args.layout.under = search rules in
    let placed : ArePlaced c.args.layout.under c.in_ok-places.places.items = search rules in
    let many : length c.in_ok-places.places.items ≡ length c.args.records = search rules in
    let standing : arc_value c.in_ok-standing.standing ≡ record { places = c.in_ok-places.places; layout = c.args.layout } = search rules in
    let Q : Standing → Type 0 =
    λ s. IsKept s.layout.under s.places.items (map seen c.in_ok-shelves.shelves.items) (length c.args.records) in
    subst Q (sym standing)
    (record {
      stocked =
          record { cells = placed; sizes = ap (λ xs. map length (map seen xs)) shelves ∙ new_sizes c.args.records c.args.layout.under };
      room_is = sym many;
    })

pub returns : goal.returns
returns c =
    let shelves : c.in_ok-shelves.shelves.items ≡ map (new_shelf c.args.records) c.args.layout.under = search rules in
    let placed : ArePlaced c.args.layout.under c.in_ok-places.places.items = search rules in
    let many : length c.in_ok-places.places.items ≡ length c.args.records = search rules in
    let standing : arc_value c.in_ok-standing.standing ≡ record { places = c.in_ok-places.places; layout = c.args.layout } = search rules in
    λ i. record {
      threads = c.new-2.ensures.items i;
      cells = (ap (λ (s : Standing). cells_on (map seen c.in_ok-shelves.shelves.items) s.places.items) standing
          ∙ ap (λ xs. cells_on (map seen xs) c.in_ok-places.places.items) shelves
          ∙ new_cells c.args.records c.args.layout.under c.in_ok-places.places.items placed many) i;
      under = (standing i).layout.under;
      away = (ap (map is_away) shelves ∙ new_home c.args.records c.args.layout.under) i;
    }
