use Rattle.std.proofs.Common.{◌≡◌, sym, refl, ap, ◌∙◌, subst}
use Rattle.desk_board.specs.declared.view.Slot.TheVariants.{Done}
use Rattle.desk_board.proofs.DeskLists.{front, front_is}
use Rattle.desk_board.proofs.shared.take_run.Goals as goal

pub exchange-requires : goal.exchange-requires
exchange-requires g c =
    let did = c.store.ensures.2 c.args.desk _ refl c.requires.of.1 in
    (c.store.ensures.0 ∙ c.requires.of.0, front _ _ _ _ (ap (λ m. m.1) did.4))

pub unreachable-requires : goal.unreachable-requires
unreachable-requires g c =
    let did = c.store.ensures.2 c.args.desk _ refl c.requires.of.1 in
    c.in_default.not-Done did.1 (front_is _ _ _ _ _ _ (ap (λ m. m.1) did.4) c.exchange.ensures.2)

pub returns-clause-of : goal.returns-clause-of
returns-clause-of g c =
    let did = c.store.ensures.2 c.args.desk _ refl c.requires.of.1 in (
      c.exchange.ensures.0 ∙ (c.store.ensures.0 ∙ c.requires.of.0),
      ap (λ m. m.0.about) c.exchange.ensures.3 ∙ (ap (λ m. m.0.about) did.4 ∙ c.requires.of.1),
    )

pub returns-clause-run : goal.returns-clause-run
returns-clause-run g c = let did = c.store.ensures.2 c.args.desk _ refl c.requires.of.1 in
    let same : Done c.in-Done.run' ≡ Done did.1 = sym c.in-Done.is ∙ front_is _ _ _ _ _ _ (ap (λ m. m.1) did.4) c.exchange.ensures.2 in
    let run : did.1 ≡ c.in-Done.run' = cc in
    (did.0, did.2, subst (λ r. g.J.Job.is_run c.args.shared.now.key.with.value did.0 r) run did.3)

pub returns-clause-view : goal.returns-clause-view
returns-clause-view g c =
    let did = c.store.ensures.2 c.args.desk _ refl c.requires.of.1 in
    ap (λ m. m.0) c.exchange.ensures.3 ∙ ap (λ m. m.0) did.4
