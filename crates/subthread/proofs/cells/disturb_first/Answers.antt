use Rattle.std.proofs.Common.{◌∙◌, get_or, set}
use Rattle.std.proofs.lemmas.List.{set-get_or}
use Rattle.subthread.proofs.cells.disturb_first.Goals as goal

pub returns-then-not-is_empty : goal.returns-then-not-is_empty
returns-then-not-is_empty c =
    let bundles = c.args.bundles.now in
    let first = c.index-bundles-0.result in
    (λ i. set bundles 0 (record { lock = (get_or bundles 0 first).lock; cells = c.disturb.ensures i })) ∙ set-get_or bundles 0 first
