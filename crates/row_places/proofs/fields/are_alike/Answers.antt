use Rattle.std.proofs.Common.{below_more, ◌∙◌, sym}
use Rattle.row_places.proofs.fields.are_alike.Goals as goal

pub loop-field-preserved : goal.loop-field-preserved
loop-field-preserved c = below_more _ _ c.loop-field.invariant
    (sym c.number_in.ensures ∙ c.is_same.ensures c.if-not-is_same.false ∙ c.number_in-in-loop-field.ensures)
