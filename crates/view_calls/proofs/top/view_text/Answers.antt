use Rattle.std.proofs.Common.{◌≡◌, ap, sym, ◌∙◌}
use Rattle.std.proofs.lemmas.Result.{IfOk-weaker}
use Rattle.run_picture.specs.meaning.Elements.{Layout}
use Rattle.view_calls.specs.meaning.Sights.{view_by, view_of}
use Rattle.view_calls.specs.Sights.{sight_of}
use Rattle.view_calls.specs.inner.Layouts.{no_layout}
use Rattle.view_calls.proofs.top.view_text.Goals as goal

pub returns : goal.returns
returns c =
    let sight = sight_of c.args.viewing.now in
    IfOk-weaker c.why_text.result _ (λ view. (layout : Layout) × (view ≡ view_of layout sight))
    (λ view is. (no_layout, is ∙ ap (λ p. view_by no_layout p sight.work sight.trace) (sym c.in-Some.is))) c.why_text.ensures
