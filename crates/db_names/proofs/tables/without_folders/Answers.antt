use Rattle.std.proofs.Common.{◌∙◌, ap, sym, drop, arith}
use Rattle.std.proofs.lemmas.List.{drop_all}
use Rattle.db_names.proofs.Slashes.{left_of, left_whole, left_after}
use Rattle.db_names.proofs.tables.without_folders.Goals as goal

pub loop-at-init : goal.loop-at-init
loop-at-init c = (left_whole c.args.file.now, omega arith)

pub loop-at-preserved : goal.loop-at-preserved
loop-at-preserved c = (
  left_after c.args.file.now c.loop-at.at c.loop-at.start c.start_after-start.result (omega arith) c.start_after-start.ensures.start c.loop-at.invariant.0,
  c.start_after-start.ensures.within c.loop-at.invariant.1,
)

pub returns : goal.returns
returns c =
    let file = c.args.file.now in
    c.split_at.ensures.back
    ∙ sym (c.loop-at.invariant.0 ∙ ap (λ rest. left_of rest (drop c.loop-at.start file)) (drop_all c.loop-at.at file (omega arith)))
