use Rattle.std.proofs.Common.{ap, sym, ◌∙◌, subst}
use Rattle.std.specs.Prelude.{slice_get}
use Rattle.task_ast.specs.declared.layout.Layout.{Layout}
use Rattle.task_code.specs.Flat.{code_of}
use Rattle.subthread.specs.inner.Places.{AreSearchable}
use Rattle.subthread.proofs.Grounds.{searchable}
use Rattle.subthread.proofs.run.cells_of.Goals as goal

pub new-requires : goal.new-requires
new-requires c =
    let under = c.as_slice-under.ensures ∙ ap (λ (l : Layout). l.under) c.layout.ensures in
    subst (λ u. AreSearchable u c.as_slice-over.result.now c.args.bundles) (sym under)
    (searchable (code_of c.args.work.now.code).program c.facts.ensures.accepted c.as_slice-over.result.now
    (λ cell. ap (λ l. slice_get l cell) c.as_slice-over.ensures ∙ c.over.ensures cell) c.args.bundles
    c.requires.rising c.requires.sizes)
