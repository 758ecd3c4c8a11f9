use Rattle.std.proofs.Common.{[], ◌∷◌, ◌++◌, ◌∙◌, ap, sym, subst, take, take_all, arith}
use Rattle.std.proofs.lemmas.List.{take_more}
use Rattle.task_ast.specs.declared.tree.Head.{Head}
use Rattle.lock_checker.specs.inner.Indexes.{Finds}
use Rattle.lock_checker.proofs.index.index_heads.Goals as goal

pub loop-head-preserved : goal.loop-head-preserved
loop-head-preserved c =
    let heads = c.args.heads.now in
    let before = take c.loop-head.head-index heads in
    let more =
    take_more heads c.loop-head.head-index c.head-item.result c.loop-head-test.true
    ∙ ap (λ (h : Head). before ++ h ∷ []) (sym c.head-item.is) in
    subst (λ l. Finds c.add_head.new.self l []) (sym more) (c.in_ok-add_head.ensures before [] c.loop-head.invariant)

pub returns : goal.returns
returns c =
    subst (λ l. Finds c.loop-head.index l []) (take_all c.loop-head.head-index c.args.heads.now (omega arith)) c.loop-head.invariant
