use Rattle.std.proofs.Common.{◌<◌, nat_eq, Some, None, refl, sym, subst, ◌∙◌}
use Rattle.std.specs.Prelude.{All}
use Rattle.record_store.specs.Stored.{Fits}
use Rattle.reorder_list.specs.declared.entry.Entry.{Entry}
use Rattle.reorder_list.specs.Entries.{with_change_at, applied_entry}
use Rattle.reorder_list.proofs.Changes.{all-changed}
use Rattle.whole_run.proofs.parts.taking.apply_where.Goals as goal

pub accept_home-history-requires : goal.accept_home-history-requires
accept_home-history-requires c =
    let fits = c.requires.fits c.if-fresh.true in
    record { comes = c.requires.comes c.if-fresh.true; thread = fits.thread; child = fits.child }

pub returns-in-Selective : goal.returns-in-Selective
returns-in-Selective c =
    rw (c.if-fresh.true, c.in-Selective.is) (record {
      state = c.accept_home-history.ensures.state;
      shape = c.accept_home-history.ensures.shape;
      away = c.accept_home-history.ensures.away;
      back = subst (Fits c.accept_home-history.new.self) c.accept_home-history.ensures.history c.accept_home-history.ensures.back;
      entries_are = c.set_applied.ensures.entries
          ∙ (λ i. with_change_at c.args.pos
          (applied_entry (Some (c.accept_home-history.ensures.history i)) (c.accept_home-history.ensures.lines i)) c.args.rol.now.entries);
      counted = refl;
    })

pub advance-requires : goal.advance-requires
advance-requires c =
    subst (All (λ (e : Entry). e.pos < 4294967295)) (sym c.set_applied-in-Rollback.ensures.entries)
    (all-changed (λ (e : Entry). e.pos < 4294967295) (λ (e : Entry). e.pos < 4294967295) (λ q. nat_eq q c.args.pos)
    (applied_entry None c.accept_home-history.result.1) c.args.rol.now.entries (λ e h. h) (λ e h. h) (c.requires.numbers c.if-fresh.true))

pub returns-in-Rollback : goal.returns-in-Rollback
returns-in-Rollback c =
    rw (c.if-fresh.true, c.in-Rollback.is) (record {
      state = c.accept_home-history.ensures.state;
      shape = c.accept_home-history.ensures.shape;
      away = c.accept_home-history.ensures.away;
      back = subst (Fits c.accept_home-history.new.self) c.accept_home-history.ensures.history c.accept_home-history.ensures.back;
      entries_are = c.set_applied-in-Rollback.ensures.entries
          ∙ (λ i. with_change_at c.args.pos (applied_entry None (c.accept_home-history.ensures.lines i)) c.args.rol.now.entries);
      counted = c.advance.ensures;
    })
