use Rattle.std.proofs.Common.{rules, ◌≡◌, ◌+◌, [], ◌∷◌, sym, subst}
use mathlib.Core.Option.{none}
use Rattle.atomic_table.specs.Table.{Allows, step}
use Rattle.desk_board.specs.declared.view.Slot.TheVariants.{Done}
use Rattle.desk_board.proofs.shared.put_back.Goals as goal

pub store-requires : goal.store-requires
store-requires g c =
    let id : c.exchange.new.seat.id ≡ c.args.desk.id = search rules in
    let me : c.exchange.new.seat.me ≡ (c.args.pass.now.me.0, (c.args.number, Done c.args.run) ∷ []) = search rules in (
      search rules,
      c.requires.within,
      subst (λ n. Allows (g.P.TableRule.holds c.args.shared.now.key) c.args.shared.now.table_id.slots n c.exchange.new.seat.me
          (c.args.number + 1) (λ _. c.args.word)
          (λ _. g.M.Play.then (step c.args.shared.now.table_id.slots (c.args.number + 1) c.args.word 0 none) c.exchange.new.seat.me
          c.args.word)) (sym id)
          (subst (λ m. Allows (g.P.TableRule.holds c.args.shared.now.key) c.args.shared.now.table_id.slots c.args.desk.id m
          (c.args.number + 1) (λ _. c.args.word)
          (λ _. g.M.Play.then (step c.args.shared.now.table_id.slots (c.args.number + 1) c.args.word 0 none) m c.args.word)) (sym me)
          c.requires.allowed),
    )
