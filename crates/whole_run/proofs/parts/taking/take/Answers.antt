use Rattle.std.proofs.Common.{rules, refl, subst, sym}
use Rattle.std.proofs.lemmas.List.{with_items_is}
use Rattle.gp_base.specs.declared.journal.Event.TheVariants as event
use Rattle.dependence.specs.meaning.Journal.{Allowed}
use Rattle.whole_run.specs.View.{dependence_in}
use Rattle.whole_run.specs.inner.Kept.{batch_in, stage_of}
use Rattle.whole_run.proofs.Taken.{allowed, comes, fits, numbered, out, kept-taken}
use Rattle.whole_run.proofs.parts.taking.take.Goals as goal

pub apply_where-requires-clause-comes : goal.apply_where-requires-clause-comes
apply_where-requires-clause-comes c =
    rw (c.is_present-fresh.ensures, c.bundles_of-bundles.ensures)
    (comes (batch_in c.args.plan.now) c.args.parts.now c.requires.kept c.args.done c.requires.task c.requires.run)

pub apply_where-requires-clause-fits : goal.apply_where-requires-clause-fits
apply_where-requires-clause-fits c =
    rw c.bundles_of-bundles.ensures
    (λ e. fits (batch_in c.args.plan.now) c.args.parts.now c.requires.kept c.args.done c.requires.task c.requires.run)

pub apply_where-requires-clause-out : goal.apply_where-requires-clause-out
apply_where-requires-clause-out c =
    rw (c.is_present-fresh.ensures, c.learn_foot.ensures)
    (out (batch_in c.args.plan.now) c.args.parts.now c.requires.kept c.args.done c.requires.task c.requires.run)

pub apply_where-requires-clause-numbers : goal.apply_where-requires-clause-numbers
apply_where-requires-clause-numbers c =
    rw c.learn_foot.ensures
    (λ e. numbered (batch_in c.args.plan.now) c.args.parts.now c.requires.kept c.args.done c.requires.task c.requires.run)

pub returns-clause-kept : goal.returns-clause-kept
returns-clause-kept c =
    rw (with_items_is c.args.parts.now.places c.learn.new.places (search rules))
    (kept-taken (batch_in c.args.plan.now) c.args.parts.now c.requires.kept c.args.done c.requires.task c.requires.run c.args.done.next
    (record { at = c.args.done.at; ctl = c.args.done.ctl }) refl refl refl c.is_present-fresh.result c.is_present-fresh.ensures
    c.learn.new.ring.table c.learn.new.places c.learn_foot.new.rol.entries c.apply_where.new.rol.entries
    c.apply_where.new.store c.apply_where.new.backup c.push.new.self.items c.learn.ensures.table
    (rw c.deref_mut.ensures.value at c.learn.ensures.places) c.learn_foot.ensures
    (rw c.bundles_of-bundles.ensures at c.apply_where.ensures) c.push.ensures.items)

pub returns-clause-did : goal.returns-clause-did
returns-clause-did c =
    record {
      waited = tt;
      allowed =
          subst (λ b. Allowed (dependence_in (batch_in c.args.plan.now)) (batch_in c.args.plan.now).faults
          (stage_of (batch_in c.args.plan.now) c.args.parts.now.events.items) (event.Take c.args.done.task.pos c.args.done.task.attempt b))
          (sym c.is_present-fresh.ensures)
          (allowed (batch_in c.args.plan.now) c.args.parts.now c.requires.kept c.args.done c.requires.task c.requires.run);
      grown = λ i. record { batch = batch_in c.args.plan.now; events = c.push.ensures.items i; ended = c.args.parts.now.ended };
    }
