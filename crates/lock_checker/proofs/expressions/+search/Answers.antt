use Rattle.std.proofs.Common.{◌≡◌, Bool, false, ◌||◌, refl, sym, ap, ◌∙◌}
use Rattle.task_ast.specs.meaning.Tree.{Name, Expr, Rows, Cell}
use Rattle.task_ast.specs.View.{plain_expr}
use Rattle.task_ast.proofs.Views.{expr_Cell}
use Rattle.task_ast.proofs.Registers.{cell_index}
use Rattle.lock_checker.specs.declared.expressions.Sought.{Sought}
use Rattle.lock_checker.specs.declared.expressions.Sought.TheVariants.{Unknown, Data, DataIndex}
use Rattle.lock_checker.specs.inner.Sought.{found_in, inside_cell}
use Rattle.lock_checker.proofs.expressions.+search.Goals as goal

found-cell : (sought : Sought) (f : Name) (row field : Expr)
    → found_in sought (Cell f row field)
    ≡ (found_in sought (Rows f) || (found_in (inside_cell sought) row || found_in (inside_cell sought) field))
found-cell (Unknown scope) f row field = refl
found-cell Data f row field = refl
found-cell DataIndex f row field = cell_index f row field

-- where the feed isn't found, the row is looked at, and where it isn't found either, the field
past-feed : (sought : Sought) (f : Name) (row field : Expr) (feed first : Bool) → feed ≡ found_in sought (Rows f) → feed ≡ false
    → first ≡ found_in (inside_cell sought) row
    → found_in sought (Cell f row field) ≡ (first || found_in (inside_cell sought) field)
past-feed sought f row field feed first feed_is none row_is =
    found-cell sought f row field
    ∙ ap (λ b. b || (found_in (inside_cell sought) row || found_in (inside_cell sought) field)) (sym feed_is ∙ none)
    ∙ ap (λ b. b || found_in (inside_cell sought) field) (sym row_is)

pub finds-returns-then-finds : goal.finds-returns-then-finds
finds-returns-then-finds t c =
    let sought = c.args.sought.now in
    let is = ap plain_expr c.in-Cell.is ∙ expr_Cell c.in-Cell.f c.in-Cell.row c.in-Cell.field in
    let row =
    c.finds.ensures ∙ ap (λ inside. found_in inside (plain_expr c.deref.result.now)) c.inside_cell-inside.ensures.inside
    ∙ ap (λ e. found_in (inside_cell sought) (plain_expr e)) c.deref.ensures in
    c.if-finds.true
    ∙ sym (ap (found_in sought) is
    ∙ past-feed sought c.in-Cell.f (plain_expr c.in-Cell.row.value) (plain_expr c.in-Cell.field.value) c.finds_feed-in-Cell.result
    c.finds.result c.finds_feed-in-Cell.ensures c.if-finds_feed.false row
    ∙ ap (λ b. b || found_in (inside_cell sought) (plain_expr c.in-Cell.field.value)) c.if-finds.true)

pub finds-returns-else-finds : goal.finds-returns-else-finds
finds-returns-else-finds t c =
    let sought = c.args.sought.now in
    let is = ap plain_expr c.in-Cell.is ∙ expr_Cell c.in-Cell.f c.in-Cell.row c.in-Cell.field in
    let row =
    c.finds.ensures ∙ ap (λ inside. found_in inside (plain_expr c.deref.result.now)) c.inside_cell-inside.ensures.inside
    ∙ ap (λ e. found_in (inside_cell sought) (plain_expr e)) c.deref.ensures in
    let field =
    c.finds-else-finds.ensures
    ∙ ap (λ inside. found_in inside (plain_expr c.deref-else-finds.result.now)) c.inside_cell-inside.ensures.inside
    ∙ ap (λ e. found_in (inside_cell sought) (plain_expr e)) c.deref-else-finds.ensures in
    field
    ∙ sym (ap (found_in sought) is
    ∙ past-feed sought c.in-Cell.f (plain_expr c.in-Cell.row.value) (plain_expr c.in-Cell.field.value) c.finds_feed-in-Cell.result
    c.finds.result c.finds_feed-in-Cell.ensures c.if-finds_feed.false row
    ∙ ap (λ b. b || found_in (inside_cell sought) (plain_expr c.in-Cell.field.value)) c.if-finds.false)
