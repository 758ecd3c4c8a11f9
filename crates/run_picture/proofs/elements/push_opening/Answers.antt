use Rattle.std.proofs.Common.{◌≡◌, ◌++◌, List, ℕ, codes, decimal, ap, ◌∙◌, append_assoc}
use Rattle.std.proofs.lemmas.Result.{on_ok_weaker}
use Rattle.run_picture.specs.meaning.Elements.{colours, opening}
use Rattle.run_picture.proofs.elements.push_opening.Goals as goal

-- six pieces after others
six : (old a b c d e f : List ℕ) → old ++ a ++ b ++ c ++ d ++ e ++ f ≡ old ++ (a ++ b ++ c ++ d ++ e ++ f)
six old a b c d e f =
    ap (λ l. l ++ c ++ d ++ e ++ f) (append_assoc old a b) ∙ ap (λ l. l ++ d ++ e ++ f) (append_assoc old (a ++ b) c)
    ∙ ap (λ l. l ++ e ++ f) (append_assoc old (a ++ b ++ c) d) ∙ ap (λ l. l ++ f) (append_assoc old (a ++ b ++ c ++ d) e)
    ∙ append_assoc old (a ++ b ++ c ++ d ++ e) f

pub returns : goal.returns
unfolding opening
returns c =
    on_ok_weaker c.push_colours.result
    (λ all. all
    ∙ ap (λ l. l ++ colours) (c.in_ok-push_between.ensures
    ∙ ap (λ l. l ++ codes "' height='" ++ decimal c.args.height ++ codes "'>\n") c.in_ok-push_labelled.ensures)
    ∙ six c.args.text.now.items (codes "<svg xmlns='http://www.w3.org/2000/svg' width='") (decimal c.args.width) (codes "' height='")
    (decimal c.args.height) (codes "'>\n") colours)
    c.push_colours.ensures
