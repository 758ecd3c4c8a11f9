use Rattle.std.proofs.Common.{◌≡◌, ◌∙◌, Bool, true, false, not, refl, ap, subst, arith, sym, is_some}
use mir.Val.{bool_byte}
use Rattle.std.proofs.lemmas.Bool.{false≢true}
use Rattle.reorder_list.specs.Entries.{ComesNext, is_applied}
use Rattle.reorder_list.specs.declared.entry.Entry.{Entry}
use Rattle.reorder_list.specs.declared.marks.Watch.{Watch}
use Rattle.reorder_list.specs.Touching.{IsMarked, IsClearPast}
use Rattle.reorder_list.proofs.Kept.{kept-push}
use Rattle.reorder_list.proofs.Unknown.{one_where, one_in, unknown-push}
use Rattle.reorder_list.proofs.Watching.{pushed-length, asleep-pushed, below-pushed, touched-pushed, clear-pushed}
use Rattle.reorder_list.proofs.rol.Rol.push_back.Goals as goal

-- one that is unknown counts one, and another nothing
counts : (unknown : Bool) → one_where (not unknown) ≡ bool_byte unknown
counts true = refl
counts false = refl

pub invariant_of-self : goal.invariant_of-self
invariant_of-self c =
    let fresh = c.requires.fresh in
    let entries = c.self.inside.entries.items in
    let watches = c.self.inside.watches.items in
    let until = ap (λ (w : Watch). w.until) c.new_watch.ensures in
    let past : IsClearPast c.self.inside.touched c.new_watch.result.until c.args.entry.locks =
    rw until (subst (λ (e : Entry). IsClearPast c.self.inside.touched c.last.result e.locks) c.entry.view_is c.last.ensures) in
    let marked = subst (λ (e : Entry). IsMarked c.mark.new.self e.pos e.locks) c.entry.view_is c.mark.ensures.marked in
    let next : ComesNext entries c.args.entry.pos = rw (ap (λ s. s.entries) c.self.view_is) c.requires.next in
    rw (c.push_back_reserved.ensures.items, c.push_back_reserved-2.ensures.items, c.lowered-self-inside.ensures)
    (record {
      kept =
          kept-push entries c.args.entry c.self.invariant.kept next
          (λ some. absurd (false≢true (sym (ap is_some fresh.no_history) ∙ some)));
      many = pushed-length entries watches c.args.entry c.new_watch.result c.self.invariant.many;
      marked = record {
        asleep =
            asleep-pushed entries c.args.entry watches c.new_watch.result c.self.inside.marks.fresh c.self.inside.marks.low
            c.self.inside.marks.last
            c.self.invariant.marked.asleep;
        all_applied =
            below-pushed is_applied true entries c.args.entry c.self.inside.marks.whole c.self.invariant.marked.all_applied;
        clear =
            clear-pushed entries c.args.entry c.self.invariant.kept.row next watches c.new_watch.result c.self.invariant.many
            c.self.inside.touched c.self.invariant.touches past c.self.invariant.marked.clear;
      };
      touches =
          touched-pushed entries c.args.entry c.self.invariant.kept.row next c.self.inside.touched c.mark.new.self
          c.mark.ensures.kept marked c.self.invariant.touches;
      unknowns =
          (let push = unknown-push entries c.args.entry in
          let one : one_in c.args.entry ≡ c.from.result =
          sym (ap one_in c.entry.view_is) ∙ (ap one_where c.is_none.ensures ∙ (counts c.is_none.result ∙ sym c.from.ensures)) in
          let counted = c.self.invariant.unknowns in
          omega arith);
    })
