use Rattle.std.proofs.Common.{◌∙◌, List, ap, sym}
use Rattle.task_ast.specs.declared.tree.Param.{Param}
use Rattle.task_ast.specs.meaning.Names.{is_among, datas}
use Rattle.rule_blame.proofs.NameLemmas.{data_next, or_found, or_later}
use Rattle.rule_blame.proofs.scope.lines_have_data.Goals as goal

pub returns-then-has_data : goal.returns-then-has_data
returns-then-has_data c =
    let next = data_next c.args.x.now c.args.lines.now c.loop-vars.vars-index c.vars-item.result c.loop-vars-test.true c.vars-item.is in
    or_found _ _ _ (sym next ∙ c.loop-vars.invariant)
    (sym (c.has_data.ensures ∙ ap (λ (l : List Param). is_among c.args.x.now (datas l)) c.as_slice.ensures) ∙ c.if-has_data.true)

pub loop-vars-preserved : goal.loop-vars-preserved
loop-vars-preserved c =
    let next = data_next c.args.x.now c.args.lines.now c.loop-vars.vars-index c.vars-item.result c.loop-vars-test.true c.vars-item.is in
    or_later _ _ _ (sym next ∙ c.loop-vars.invariant)
    (sym (c.has_data.ensures ∙ ap (λ (l : List Param). is_among c.args.x.now (datas l)) c.as_slice.ensures) ∙ c.if-has_data.false)
