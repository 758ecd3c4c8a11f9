use Rattle.std.proofs.Common.{◌∙◌, ap, sym, codes}
use Rattle.std.specs.Str.{bytes_eq}
use Rattle.std.proofs.lemmas.Result.{IfOk-weaker}
use Rattle.view_calls.proofs.TraceWords.{timeline-first}
use Rattle.view_calls.proofs.words.read_run.Goals as goal

pub returns-then-eq-2-clause-viewed : goal.returns-then-eq-2-clause-viewed
returns-then-eq-2-clause-viewed c =
    let other = ap (λ s. bytes_eq s (codes "order")) (sym c.as_str.ensures.value) ∙ sym c.eq.ensures ∙ c.if-eq.false in
    let named = ap (λ s. bytes_eq s (codes "timeline")) (sym c.as_str-2.ensures.value) ∙ sym c.eq-2.ensures ∙ c.if-eq-2.true in
    IfOk-weaker c.read_timeline.result _ _
    (λ viewed is. is ∙ timeline-first c.args.words.now c.word-item.result c.in-len1-up.len_at_least c.word-item.is other named)
    c.read_timeline.ensures.viewed
