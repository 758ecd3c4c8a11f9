use Rattle.std.proofs.Common.{slice_set, ap, arith}
use Rattle.reorder_list.specs.declared.marks.Watch.{Watch}
use Rattle.reorder_list.specs.Entries.{first_position}
use Rattle.reorder_list.specs.Watched.{IsWider}
use Rattle.reorder_list.proofs.Readiness.{read-position}
use Rattle.reorder_list.proofs.Rows.{read-at}
use Rattle.reorder_list.proofs.Watching.{watch-there, set-there, set-length, wider-set, wider-then}
use Rattle.reorder_list.proofs.search.note_holder.Goals as goal

pub returns-clause-held : goal.returns-clause-held
returns-clause-held c =
    let entries = c.args.entries.now.items in
    let watches = c.args.watches.now.items in
    let first = slice_set watches c.args.place c.hold.new.watch in
    let place = c.in-Some.ensures in
    let many = c.requires.many in
    let same = set-length watches c.args.place c.hold.new.watch in
    let l = place.within in
    let is = read-position entries c.args.place c.index.result.now c.requires.in_row c.requires.in_range c.index.ensures in
    let from = ap (λ (w : Watch). w.from) c.cover.ensures in
    let to = ap (λ (w : Watch). w.to) c.cover.ensures in
    record {
      by = c.args.earlier;
      holds = c.requires.holds;
      watch = c.cover.new.watch;
      is_there =
          watch-there (first_position entries) entries (slice_set first c.in-Some.at c.cover.new.watch) c.args.earlier c.in-Some.at
          c.cover.new.watch c.requires.in_row place.within place.position
          (set-there first c.in-Some.at c.cover.new.watch (omega arith));
      from = omega arith;
      to = omega arith;
    }

pub returns-clause-wider : goal.returns-clause-wider
returns-clause-wider c =
    let watches = c.args.watches.now.items in
    let held = c.hold.new.watch in
    let first = slice_set watches c.args.place held in
    let many = c.requires.many in
    let same = set-length watches c.args.place held in
    let l = c.requires.in_range in
    let k = c.in-Some.ensures.within in
    let from = ap (λ (w : Watch). w.from) c.hold.ensures in
    let to = ap (λ (w : Watch). w.to) c.hold.ensures in
    let from2 = ap (λ (w : Watch). w.from) c.cover.ensures in
    let to2 = ap (λ (w : Watch). w.to) c.cover.ensures in
    let until = ap (λ (w : Watch). w.until) c.hold.ensures in
    let until2 = ap (λ (w : Watch). w.until) c.cover.ensures in
    let one : IsWider c.index_mut.result.now held = record { from = omega arith; to = omega arith; until = omega arith } in
    let two : IsWider c.index_mut-2.result.now c.cover.new.watch =
    record { from = omega arith; to = omega arith; until = omega arith } in
    wider-then watches first (slice_set first c.in-Some.at c.cover.new.watch)
    (wider-set watches c.args.place c.index_mut.result.now held
    (read-at watches c.args.place c.index_mut.result.now (omega arith) c.index_mut.ensures.value) one)
    (wider-set first c.in-Some.at c.index_mut-2.result.now c.cover.new.watch
    (read-at first c.in-Some.at c.index_mut-2.result.now (omega arith) c.index_mut-2.ensures.value) two)
