use Rattle.std.proofs.Common.{◌≡◌, ◌∙◌, ◌++◌, [], ◌∷◌, ◌≤◌, ap, arith, drop, length, refl, subst, sym, rules}
use Rattle.std.specs.Prelude.{not}
use Rattle.std.proofs.Math.ListN.{drop_of_length-le}
use Rattle.std.proofs.lemmas.List.{map-append}
use Rattle.task_ast.specs.declared.check_kind.CheckKind.TheVariants.{BranchesDiffer}
use Rattle.task_ast.specs.declared.tree.What.{the_lemmas}
use Rattle.task_ast.specs.meaning.Check.{visits_in}
use Rattle.task_ast.specs.meaning.Held.{has, held_after, held_at_end, same_pairs}
use Rattle.task_ast.specs.View.{plain_stmt, plain_what, plain_block}
use Rattle.task_ast.specs.meaning.Visit.{visit, fails_if, first_fault}
use Rattle.lock_checker.specs.inner.Scopes.{scope_of}
use Rattle.lock_checker.specs.inner.Pairs.{pair_of, pairs_of, pairs_in, Leads}
use Rattle.lock_checker.proofs.BlockLemmas.{told_here, found_later, ends_later, moves_same, loop_held, loop_visits, branches_held, branches_visits, choice_held, choice_visits}
use Rattle.lock_checker.proofs.ChangeLemmas.{leads_on}
use Rattle.lock_checker.proofs.EndLemmas.{told_early}
use Rattle.lock_checker.specs.Accepted.{Told}
use Rattle.lock_checker.specs.inner.Faults.{Walks}
use Rattle.lock_checker.proofs.HoldingLemmas.{end_same, in_same}
use Rattle.lock_checker.proofs.walk.+walk.Goals as goal

pub check_block-returns-in-Err : goal.check_block-returns-in-Err
check_block-returns-in-Err t c = λ before same.
    told_here c.args.block.now c.loop-s.s-index c.s-item.result c.loop-s-test.true c.s-item.is (scope_of c.args.scope.now)
    (pairs_in c.loop-s.held) c.in-Err.fault _
    (c.loop-s.invariant.told ∙ ap first_fault
    (in_same (scope_of c.args.scope.now) (plain_block c.args.block.now) (pairs_in c.args.held.now) before
    (record { members = same }))) c.in-Err.ensures

pub check_block-loop-s-preserved : goal.check_block-loop-s-preserved
check_block-loop-s-preserved t c =
    let old = pairs_in c.args.held.now in
    let mid = pairs_in c.loop-s.held in
    let new = pairs_in c.check_statement.new.held in
    let more : c.extend_from_slice.new.self.items ≡ c.loop-s.changes.items ++ c.in-Ok.more.items =
    c.in_ok-extend_from_slice-in-Ok.ensures.items ∙ ap (λ l. c.loop-s.changes.items ++ l) c.deref.ensures.value in
    record {
      told =
          found_later c.args.block.now c.loop-s.s-index c.s-item.result c.loop-s-test.true c.s-item.is
          (scope_of c.args.scope.now) mid new c.in-Ok.ensures.1.1 c.in-Ok.ensures.0 ∙ c.loop-s.invariant.told;
      leads =
          subst (λ l. Leads old l new) (sym (ap pairs_of more ∙ map-append pair_of c.loop-s.changes.items c.in-Ok.more.items))
          (leads_on old mid new (pairs_of c.loop-s.changes.items)
          (pairs_of c.in-Ok.more.items) c.loop-s.invariant.leads c.in-Ok.ensures.1.0);
      ends =
          λ q. ends_later c.args.block.now c.loop-s.s-index c.s-item.result c.loop-s-test.true c.s-item.is
          (scope_of c.args.scope.now) mid new c.in-Ok.ensures.1.1 q ∙ c.loop-s.invariant.ends q;
    }

pub check_block-returns : goal.check_block-returns
check_block-returns t c = λ before same.
    let block = plain_block c.args.block.now in
    let old = pairs_in c.args.held.now in
    let past : length c.args.block.now ≤ c.loop-s.s-index = omega arith in
    let end : drop c.loop-s.s-index c.args.block.now ≡ [] = drop_of_length-le c.args.block.now past in
    let none =
    sym (ap (λ l. first_fault (visits_in (scope_of c.args.scope.now) (plain_block l) (pairs_in c.loop-s.held))) end)
    ∙ c.loop-s.invariant.told in (
      sym (none ∙ ap first_fault (in_same (scope_of c.args.scope.now) block old before (record { members = same }))),
      moves_same old before (pairs_in c.loop-s.held) (held_at_end block old) (held_at_end block before)
          (pairs_of c.loop-s.changes.items) same (end_same block (record { members = same })).members (
            c.loop-s.invariant.leads,
            λ q. sym (ap (λ l. has (held_at_end (plain_block l) (pairs_in c.loop-s.held)) q) end)
                ∙ c.loop-s.invariant.ends q,
          ),
    )

pub check_inside-returns-in_default : goal.check_inside-returns-in_default
unfolding plain_stmt plain_what
check_inside-returns-in_default t c =
    (search (rules, the_lemmas), ((c.no_changes.ensures (pairs_in c.args.held.now)).0, λ q. search (rules, the_lemmas)))

pub check_inside-returns-in-Ok-check_aside : goal.check_inside-returns-in-Ok-check_aside
check_inside-returns-in-Ok-check_aside t c =
    let scope = scope_of c.args.scope.now in
    let s = c.args.s.now in
    let old = pairs_in c.args.held.now in
    let new = pairs_in c.check_aside-second.new.held in
    let a = c.as_slice-in-When.result.now in
    let b = c.as_slice-in-Ok-check_aside.result.now in
    let first = c.in-Ok-check_aside.ensures old (λ q. refl) in
    let second = c.check_aside-second.ensures old first.1 in
    subst (λ visits. Walks c.end_choice.result old new visits (held_after (plain_stmt s) old))
    (sym (choice_visits s c.in-When.field-0 c.in-When.first c.in-When.second c.in-When.is scope old a b c.as_slice-in-When.ensures
    c.as_slice-in-Ok-check_aside.ensures))
    (subst (λ held. Walks c.end_choice.result old new
    ((visits_in scope (plain_block a) old ++ visits_in scope (plain_block b) old) ++ visit s.line [] ∷ []) held)
    (sym (choice_held s c.in-When.field-0 c.in-When.first c.in-When.second c.in-When.is old))
    (c.end_choice.ensures s.line old new (visits_in scope (plain_block a) old) (visits_in scope (plain_block b) old)
    (held_at_end (plain_block b) old) first.0 second))

pub check_inside-returns-in-Err-check_aside : goal.check_inside-returns-in-Err-check_aside
check_inside-returns-in-Err-check_aside t c =
    let scope = scope_of c.args.scope.now in
    let s = c.args.s.now in
    let old = pairs_in c.args.held.now in
    let a = c.as_slice-in-When.result.now in
    subst (λ visits. Told c.in-Err-check_aside.fault (first_fault visits))
    (sym (choice_visits s c.in-When.field-0 c.in-When.first c.in-When.second c.in-When.is scope old a c.in-When.second
    c.as_slice-in-When.ensures refl))
    (told_early c.in-Err-check_aside.fault (visits_in scope (plain_block a) old) (visits_in scope (plain_block c.in-When.second) old)
    (visit s.line [] ∷ []) (c.in-Err-check_aside.ensures old (λ q. refl)))

pub check_inside-returns-in-While : goal.check_inside-returns-in-While
check_inside-returns-in-While t c =
    let scope = scope_of c.args.scope.now in
    let s = c.args.s.now in
    let old = pairs_in c.args.held.now in
    let new = pairs_in c.check_aside-body.new.held in
    let b = c.as_slice.result.now in
    subst (λ visits. Walks c.end_loop.result old new visits (held_after (plain_stmt s) old))
    (sym (loop_visits s c.in-While.field-0 c.in-While.body c.in-While.is scope old b c.as_slice.ensures))
    (subst (λ held. Walks c.end_loop.result old new (visits_in scope (plain_block b) old
    ++ visit s.line (fails_if (not (same_pairs (held_at_end (plain_block b) old) old)) BranchesDiffer) ∷ []) held)
    (sym (loop_held s c.in-While.field-0 c.in-While.body c.in-While.is old))
    (c.end_loop.ensures old new (visits_in scope (plain_block b) old) (held_at_end (plain_block b) old)
    (c.check_aside-body.ensures old (λ q. refl))))

pub check_inside-returns-in-Ok : goal.check_inside-returns-in-Ok
check_inside-returns-in-Ok t c =
    let scope = scope_of c.args.scope.now in
    let s = c.args.s.now in
    let old = pairs_in c.args.held.now in
    let new = pairs_in c.check_block-second.new.held in
    let a = c.as_slice-in-If.result.now in
    let b = c.as_slice-in-Ok.result.now in
    let ends_a = held_at_end (plain_block a) old in
    let ends_b = held_at_end (plain_block b) old in
    let first = c.in-Ok.ensures old (λ q. refl) in
    let second = c.check_block-second.ensures old first.1 in
    subst (λ visits. Walks c.end_branches.result old new visits (held_after (plain_stmt s) old))
    (sym (branches_visits s c.in-If.field-0 c.in-If.first c.in-If.second c.in-If.is scope old a b c.as_slice-in-If.ensures
    c.as_slice-in-Ok.ensures))
    (subst (λ held. Walks c.end_branches.result old new ((visits_in scope (plain_block a) old ++ visits_in scope (plain_block b) old)
    ++ visit s.line (fails_if (not (same_pairs ends_a ends_b)) BranchesDiffer) ∷ []) held)
    (sym (branches_held s c.in-If.field-0 c.in-If.first c.in-If.second c.in-If.is old a c.as_slice-in-If.ensures))
    (c.end_branches.ensures old new (visits_in scope (plain_block a) old) (visits_in scope (plain_block b) old) ends_a ends_b first.0
    (subst (λ l. Leads old (pairs_of l) ends_a) (sym c.deref.ensures.value) first.2) second))
