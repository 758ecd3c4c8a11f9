use Rattle.std.proofs.Common.{◌≡◌, ℕ, ℤ, true, List, length, map, Result, Ok, Err, sym, ap, ◌∙◌, subst}
use Rattle.std.specs.Prelude.{All, IfOk, OnOk}
use Rattle.std.specs.Ordering.{nat_cmp}
use Rattle.std.specs.FinMap.{is_sorted}
use Rattle.std.specs.List.Sorted.{IsStrictlyIncreasing}
use Rattle.task_ast.specs.meaning.Under.{under_lock, is_under}
use Rattle.record_store.specs.declared.effect.Effect as left
use Rattle.record_store.specs.declared.given.Bundle.{Bundle}
use Rattle.record_store.specs.Given.{bundle_of}
use Rattle.record_store.specs.Lent.{lock_in, put_back, new_write, whole_effect}
use Rattle.record_store.specs.Stored.{Stored, state_of, IsAtHome}
use Rattle.record_store.proofs.Homing.{distinct-rising}
use Rattle.subthread.proofs.HeldLocks.{bundle_locks, bundle_sizes}
use Rattle.subthread.proofs.Lendings.{came-locks, may-come, home-again}
use Rattle.gp_resume.specs.meaning.Fitting.{StandsUnder}
use Rattle.gp_resume.specs.inner.Replayed.{IsSetUnder}
use Rattle.gp_resume.specs.inner.RowsRead.{write_in, with_cells}
use Rattle.gp_resume.proofs.Replays.{all-under}
use Rattle.gp_resume.proofs.replay.lend_set.Goals as goal

-- what holds is so where there is a value
on-each : {T E P : Type 0} (r : Result T E) → P → OnOk r P
on-each (Ok value) holds = holds
on-each (Err stop) holds = tt

-- what holds of a value leads to what follows from it
if-all : {T E : Type 0} {P Q R S Z : T → Type 0} (r : Result T E) → ((value : T) → P value → Q value → R value → S value → Z value)
    → IfOk r P → IfOk r Q → IfOk r R → IfOk r S → IfOk r Z
if-all (Ok value) leads p q r s = leads value p q r s
if-all (Err stop) leads p q r s = tt

-- cells that a store lends for locks, with this layout
module _ (store : Stored) (under : List (List ℕ)) (layout : store.under ≡ under) (held : List ℕ) (lent : List Bundle)
    (lent_are : lent ≡ map (bundle_of store.under (state_of store)) held) where
  locks-are : map lock_in lent ≡ held
  locks-are = ap (map lock_in) lent_are ∙ bundle_locks store.under (state_of store) held

  sizes-are : All (λ (b : Bundle). length b.cells ≡ length (under_lock under b.lock)) lent
  sizes-are =
      subst (All (λ (b : Bundle). length b.cells ≡ length (under_lock under b.lock))) (sym lent_are)
      (subst
      (λ u. All (λ (b : Bundle). length b.cells ≡ length (under_lock u b.lock)) (map (bundle_of store.under (state_of store)) held)) layout
      (bundle_sizes store.under (state_of store) held))

  writes-under : (cells : List (ℤ × ℤ)) (writes : List (ℕ × ℤ)) → writes ≡ map write_in cells
      → All (λ (cell : ℤ × ℤ). StandsUnder under held cell.0) cells → All (λ w. is_under under (map lock_in lent) w.0 ≡ true) writes
  writes-under cells writes are stand =
      subst (λ ws. All (λ w. is_under under (map lock_in lent) w.0 ≡ true) ws) (sym are)
      (subst (λ locks. All (λ w. is_under under locks w.0 ≡ true) (map write_in cells)) (sym locks-are) (all-under under held cells stand))

  -- bundles that come back, with the old values of cells that were written
  module _ (home : All (IsAtHome store) held) (bundles : List Bundle) (old : List (ℕ × ℤ)) (came : put_back under old bundles ≡ lent) where
    came-as : put_back store.under old bundles ≡ map (bundle_of store.under (state_of store)) held
    came-as = ap (λ u. put_back u old bundles) layout ∙ (came ∙ lent_are)

    within-locks : All (λ w. is_under under (map lock_in lent) w.0 ≡ true) old → All (λ w. is_under store.under held w.0 ≡ true) old
    within-locks within =
        subst (λ u. All (λ w. is_under u held w.0 ≡ true) old) (sym layout)
        (subst (λ locks. All (λ w. is_under under locks w.0 ≡ true) old) locks-are within)

    effect-is : (effect : left.Effect) (cells : List (ℤ × ℤ)) (writes : List (ℕ × ℤ)) → map (new_write under bundles) old ≡ writes
        → writes ≡ map write_in cells
        → whole_effect store.under bundles old effect ≡ with_cells effect cells
    effect-is effect cells writes written are =
        λ i. record {
          thread = effect.thread;
          writes = (ap (λ u. map (new_write u bundles) old) layout ∙ (written ∙ are)) i;
          regs = effect.regs;
          child = effect.child;
          prints = effect.prints;
        }

    is-set : (cells : List (ℤ × ℤ)) (writes : List (ℕ × ℤ)) → writes ≡ map write_in cells → map (new_write under bundles) old ≡ writes
        → is_sorted nat_cmp old ≡ true → All (λ w. is_under under (map lock_in lent) w.0 ≡ true) old
        → IsSetUnder store held cells bundles old
    is-set cells writes are written rising within =
        record {
          comes = may-come store held home bundles old came-as rising (within-locks within);
          says = λ effect. effect-is effect cells writes written are;
          home = home-again store held home bundles (came-locks store held home bundles old came-as);
        }

pub lend-requires-clause-distinct : goal.lend-requires-clause-distinct
lend-requires-clause-distinct c = distinct-rising c.args.held.now c.requires.rising

pub set_cells-requires-clause-locks : goal.set_cells-requires-clause-locks
set_cells-requires-clause-locks c =
    subst IsStrictlyIncreasing
    (sym (locks-are c.args.store.now c.args.store.now.under (λ i. c.args.store.now.under) c.args.held.now c.into_seq.result
    (c.into_seq.ensures ∙ c.lend.ensures.bundles))) c.requires.rising

pub set_cells-requires-clause-sizes : goal.set_cells-requires-clause-sizes
set_cells-requires-clause-sizes c =
    sizes-are c.args.store.now _ c.requires.layout c.args.held.now c.into_seq.result (c.into_seq.ensures ∙ c.lend.ensures.bundles)

pub set_cells-requires-clause-under : goal.set_cells-requires-clause-under
set_cells-requires-clause-under c =
    writes-under c.args.store.now _ c.requires.layout c.args.held.now c.into_seq.result (c.into_seq.ensures ∙ c.lend.ensures.bundles)
    c.args.cells.now c.deref.result.now (c.deref.ensures.value ∙ c.in_ok-writes.ensures) c.requires.under

pub returns-clause-store : goal.returns-clause-store
returns-clause-store c = on-each c.set_cells.result c.lend.ensures.store

pub returns-clause-set : goal.returns-clause-set
returns-clause-set c =
    let back = c.set_cells.ensures in
    if-all c.set_cells.result
    (λ left came written rising within. is-set c.args.store.now _ c.requires.layout c.args.held.now c.into_seq.result
    (c.into_seq.ensures ∙ c.lend.ensures.bundles) c.requires.home left.0 left.1 came c.args.cells.now c.deref.result.now
    (c.deref.ensures.value ∙ c.in_ok-writes.ensures) written rising within)
    back.came back.written back.rising back.within
