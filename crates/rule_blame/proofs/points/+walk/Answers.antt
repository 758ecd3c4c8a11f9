use Rattle.std.proofs.Common.{◌≡◌, ◌∙◌, List, ℕ, ap, sym, subst, rules}
use Rattle.std.proofs.lemmas.List.{map_push}
use Rattle.task_ast.specs.declared.tree.What.{the_lemmas}
use Rattle.task_ast.specs.meaning.Tree as plain
use Rattle.task_ast.specs.meaning.Held.{held_after}
use Rattle.task_ast.specs.View.{plain_what, plain_stmt}
use Rattle.task_ast.proofs.Views.{stmt_At, what_Lock}
use Rattle.rule_blame.specs.Points.{points_of}
use Rattle.rule_blame.specs.Told.{IsTrueAmong}
use Rattle.rule_blame.specs.Views.{scope_of, pair_of, pairs_of}
use Rattle.rule_blame.proofs.PointLemmas.{here_among, later_among, later_ends, among_more, at_itself}
use Rattle.rule_blame.proofs.points.+walk.Goals as goal

pub walk_block-returns-in-Some : goal.walk_block-returns-in-Some
walk_block-returns-in-Some t c =
    among_more (scope_of c.args.walk.scope) c.args.walk.line _ _ c.in-Some.told
    (λ p h. c.loop-s.invariant.among p
    (here_among c.args.block.now c.loop-s.s-index c.s-item.result c.loop-s-test.true c.s-item.is (pairs_of c.loop-s.held.items) p h))
    (rw c.in-Some.is at c.in_ok-told.ensures)

pub walk_block-loop-s-preserved : goal.walk_block-loop-s-preserved
walk_block-loop-s-preserved t c =
    let goes = rw c.in_default.is at c.in_ok-told.ensures in
    record {
      ends =
          later_ends c.args.block.now c.loop-s.s-index c.s-item.result c.loop-s-test.true c.s-item.is (pairs_of c.loop-s.held.items)
          (pairs_of c.walk_statement.new.held.items) goes ∙ c.loop-s.invariant.ends;
      among = λ p h. c.loop-s.invariant.among p
          (later_among c.args.block.now c.loop-s.s-index c.s-item.result c.loop-s-test.true c.s-item.is (pairs_of c.loop-s.held.items)
          (pairs_of c.walk_statement.new.held.items) goes p h);
    }

pub walk_inside-returns-in_ok-push-in-Lock : goal.walk_inside-returns-in_ok-push-in-Lock
walk_inside-returns-in_ok-push-in-Lock t c =
    let s = c.args.s.now in
    let whole = stmt_At s ∙ ap (plain.At s.line) (ap plain_what c.in-Lock.is ∙ what_Lock c.in-Lock.array c.in-Lock.index) in
    ap pairs_of c.in_ok-push-in-Lock.ensures.items ∙ map_push pair_of c.args.held.now.items _
    ∙ sym (ap (λ (st : plain.Stmt). held_after st (pairs_of c.args.held.now.items)) whole)

pub walk_inside-returns-in_default : goal.walk_inside-returns-in_default
unfolding plain_stmt plain_what
walk_inside-returns-in_default t c = search (rules, the_lemmas)

pub walk_statement-returns-in-Some : goal.walk_statement-returns-in-Some
walk_statement-returns-in-Some t c =
    let told = rw (c.in-Some.is, c.deref.ensures.value) at (c.in_ok-told.ensures c.args.s.now.line) in
    subst (λ (line : ℕ). IsTrueAmong (scope_of c.args.walk.scope) line (points_of (plain_stmt c.args.s.now) (pairs_of c.args.held.now.items))
    c.in-Some.told) c.if-s-walk.true (at_itself (scope_of c.args.walk.scope) c.args.s.now (pairs_of c.args.held.now.items) c.in-Some.told told)
