use Rattle.std.proofs.Common.{◌≡◌, ◌<◌, ℕ, [], map, length, ap, sym, ◌∙◌, rules, arith, subst, true, refl, false}
use Rattle.std.specs.Option.{option_map}
use Rattle.std.specs.Prelude.{All}
use Rattle.std.proofs.lemmas.List.{with_items_is, length-map}
use Rattle.std.specs.Arc.{arc_value}
use Rattle.task_ast.specs.meaning.State.{RegistersOf, number_at}
use Rattle.task_ast.specs.History.{old_child}
use Rattle.task_ast.specs.meaning.Under.{is_under}
use Rattle.record_store.specs.Stored.{Stored, state_of, FitsChild}
use Rattle.record_store.specs.inner.Shelves.{seen, value_on}
use Rattle.record_store.proofs.Fitting.{child_same}
use Rattle.record_store.specs.Lent.{marked, whole_effect, lock_in}
use Rattle.record_store.specs.inner.Exchanged.{threads_after}
use Rattle.record_store.specs.Given.{value_over}
use Rattle.record_store.proofs.Comings.{sizes_lent, cells_after, olds_are}
use Rattle.record_store.proofs.Left.{state_after, length_after}
use Rattle.record_store.proofs.Stocked.{in_places}
use Rattle.record_store.proofs.store.Store.accept_home.Goals as goal
use Rattle.record_store.proofs.store.Store.accept_home.Goals.{After-bring_home}

pub bring_home-requires-clause-sizes : goal.bring_home-requires-clause-sizes
bring_home-requires-clause-sizes c =
    rw (← c.self.view_is) at (sizes_lent c.args.self.now.under
    (state_of c.args.self.now) c.args.old c.args.bundles c.requires.comes.as_lent)

-- the threads are those that the exchange left
exchanged : (c : After-bring_home)
    → c.exchange_threads.new.threads
    ≡ threads_after c.args.self.now.threads c.args.effect.thread c.args.effect.regs c.args.effect.child
exchanged c =
    c.exchange_threads.ensures.threads
    ∙ ap (λ threads. threads_after threads c.args.effect.thread c.args.effect.regs c.args.effect.child)
    (c.deref_mut.ensures.value ∙ ap (λ (s : Stored). s.threads) c.self.view_is)

as_many : (c : After-bring_home) → length c.exchange_threads.new.threads ≡ c.self.inside.threads.len
as_many c =
    ap length c.exchange_threads.ensures.threads
    ∙ length_after c.deref_mut.result.now c.args.effect.thread c.args.effect.regs c.args.effect.child ∙ c.deref_mut.ensures.len

threads_are : (c : After-bring_home)
    → c.bring_home.new.self.threads
    ≡ threads_after c.args.self.now.threads c.args.effect.thread c.args.effect.regs c.args.effect.child
threads_are c =
    ap (λ s. s.threads) c.bring_home.ensures.rest ∙ with_items_is c.self.inside.threads c.exchange_threads.new.threads (as_many c)
    ∙ exchanged c

many : (c : After-bring_home) → length c.bring_home.new.self.threads ≡ length c.args.self.now.threads
many c =
    ap length (threads_are c)
    ∙ length_after c.args.self.now.threads c.args.effect.thread c.args.effect.regs c.args.effect.child

pub returns-clause-state : goal.returns-clause-state
returns-clause-state c =
    let s = c.args.self.now in
    let cells : (n : ℕ) → number_at c.bring_home.new.self.cells n ≡ value_over s.under c.args.bundles n (number_at s.cells n) =
    rw (← c.self.view_is) c.bring_home.ensures.cells in
    state_after s (whole_effect s.under c.args.bundles c.args.old c.args.effect) c.bring_home.new.self.threads c.bring_home.new.self.cells
    c.requires.thread c.requires.child
    (threads_are c)
    (λ n. cells n ∙ cells_after s.under (state_of s) c.args.old c.args.bundles c.requires.comes.as_lent c.requires.comes.rising
    c.requires.comes.within n)

pub returns-clause-history : goal.returns-clause-history
returns-clause-history c =
    let s = c.args.self.now in
    let regs : c.exchange_threads.new.regs ≡ state_of s (RegistersOf c.args.effect.thread) = search rules in
    let child : c.exchange_threads.new.child ≡ option_map (old_child (state_of s)) c.args.effect.child = search rules in
    λ i. record {
      thread = c.args.effect.thread;
      writes =
          olds_are s.under (state_of s) c.args.old c.args.bundles c.requires.comes.as_lent c.requires.comes.rising
          c.requires.comes.within i;
      regs = regs i;
      child = child i;
      prints = [];
    }

pub returns-clause-back : goal.returns-clause-back
returns-clause-back c =
    let s = c.args.self.now in
    let placed = length-map (arc_value c.self.inside.standing).places.items (value_on (map seen c.self.inside.shelves.items)) in
    let within : All (λ w. is_under (arc_value c.self.inside.standing).layout.under (map lock_in c.args.bundles) w.0 ≡ true) c.args.old =
    rw (← c.self.view_is) at c.requires.comes.within in
    let inside =
    in_places (arc_value c.self.inside.standing).layout.under (arc_value c.self.inside.standing).places.items
    (map lock_in c.args.bundles) c.args.old c.self.invariant.stocked.cells within in
    let count = c.bring_home.ensures.count in
    record {
      thread = subst (λ n. c.args.effect.thread < n) (sym (many c)) c.requires.thread;
      child = subst (λ n. FitsChild n c.args.effect.thread c.exchange_threads.new.child) (sym (many c))
          (subst (FitsChild (length s.threads) c.args.effect.thread) (sym c.exchange_threads.ensures.child)
          (child_same (length s.threads) c.args.effect.thread _ c.args.effect.child c.requires.child));
      in_range = λ k d less. (let here = inside k d less in omega (arith, here, count, placed));
      rising = c.requires.comes.rising;
    }

pub returns-clause-lines : goal.returns-clause-lines
returns-clause-lines c = refl

pub returns-clause-shape : goal.returns-clause-shape
returns-clause-shape c =
    record {
      threads = many c;
      cells = c.bring_home.ensures.count ∙ ap (λ (s : Stored). length s.cells) c.self.view_is;
      under = ap (λ s. s.under) c.bring_home.ensures.rest ∙ ap (λ (s : Stored). s.under) c.self.view_is;
    }

pub returns-clause-away : goal.returns-clause-away
returns-clause-away c =
    ap (λ s. s.away) c.bring_home.ensures.rest
    ∙ ap (λ (s : Stored). marked (map lock_in c.args.bundles) false s.away) c.self.view_is
