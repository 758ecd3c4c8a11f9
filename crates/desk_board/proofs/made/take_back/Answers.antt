use Rattle.std.proofs.Common.{rules, ◌≡◌, [], ◌∷◌, ◌++◌, map, reverse, sym, ap, ◌∙◌, append_assoc}
use Rattle.desk_board.specs.declared.view.Slot.{Slot}
use Rattle.desk_board.specs.declared.view.Slot.TheVariants.{Todo}
use Rattle.desk_board.proofs.LaidOut.{holds_job, laid_once}
use Rattle.desk_board.proofs.made.take_back.Goals as goal

pub unreachable-requires : goal.unreachable-requires
unreachable-requires g c =
    let h =
    holds_job Todo c.pop.new.self.items c.in-Some.slot _ c.args.were.now.value.items
    (sym (append_assoc c.pop.new.self.items (c.in-Some.slot ∷ []) _)
    ∙ (ap (λ l. l ++ map Todo (reverse c.loop-slot.jobs.items)) (sym c.in-Some.ensures.items) ∙ c.loop-slot.invariant.laid)) in
    c.in_default-slot.not-Todo h.0 h.1

pub returns : goal.returns
returns g c = let none : c.loop-slot.slots.items ≡ [] = search rules in
    let same : reverse c.loop-slot.jobs.items ≡ c.args.were.now.value.items =
    laid_once {S = Slot g.row.J.Denot g.row.R.Denot} Todo (λ a b e. cc) _ _
    (sym (ap (λ l. l ++ map Todo (reverse c.loop-slot.jobs.items)) none) ∙ c.loop-slot.invariant.laid) in
    search rules
