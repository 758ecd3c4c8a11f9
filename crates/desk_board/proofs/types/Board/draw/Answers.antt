use Rattle.std.proofs.Common.{rules, arith, ◌≡◌, ◌≤◌, [], ◌∷◌, length, Some, None, sym, ap, ◌∙◌, subst}
use Rattle.std.specs.Prelude.{IfSome, Contains}
use Rattle.atomic_table.specs.Table.{rest}
use Rattle.desk_board.specs.declared.view.Slot.TheVariants.{Empty, Todo}
use Rattle.desk_board.specs.Held.{about}
use Rattle.desk_board.specs.Told.{NoneTwice}
use Rattle.desk_board.proofs.Steps.{draws}
use Rattle.desk_board.proofs.Seats.{leaves}
use Rattle.desk_board.proofs.BoardHands.{hand_laws}
use Rattle.desk_board.proofs.DeskLists.{still_ended, front, front_is, contains_last}
use Rattle.desk_board.proofs.types.Board.draw.Goals as goal

pub returns-then-is_some-clause-hand : goal.returns-then-is_some-clause-hand
returns-then-is_some-clause-hand g c = still_ended _ _ _ c.args.pass.now.told (sym c.is_some.ensures ∙ c.if-is_some.true) c.requires.of.1

pub fetch_add-found-requires : goal.fetch_add-found-requires
fetch_add-found-requires g c =
    let fresh : c.args.pass.now.ticket ≡ None = search rules in
    (c.requires.of.0.0, omega arith, draws g.J.Job.fits g.J.Job.is_run _ _ _ _ (c.args.pass.now.told ∙ fresh) c.args.pass.now.part)

pub invariant_of-pass : goal.invariant_of-pass
invariant_of-pass g c = let did = (c.fetch_add-found.ensures.2 _ c.requires.of.0.1).1 (search rules) in record {
  bare = ap (λ m. m.1) did ∙ c.args.pass.now.bare;
  plain = ap (λ m. m.0.book) did ∙ c.args.pass.now.plain;
  part = subst (λ m. 1 ≤ m.0.hand.share) (sym did) c.args.pass.now.part;
  told = ap (λ m. m.0.hand.ticket) did;
}

pub returns-then-found-from-clause-of : goal.returns-then-found-from-clause-of
returns-then-found-from-clause-of g c =
    let did = (c.fetch_add-found.ensures.2 _ c.requires.of.0.1).1 (search rules) in
    let past : length (about c.args.self.now).jobs ≤ c.fetch_add-found.result = search rules in (
      (c.fetch_add-found.ensures.0 ∙ c.requires.of.0.0, ap (λ m. m.0.about) did ∙ c.requires.of.0.1),
      subst (λ m. IfSome m.0.hand.ticket (λ t. length (about c.args.self.now).jobs ≤ t)) (sym did) past,
    )

pub returns-then-found-from-clause-hand : goal.returns-then-found-from-clause-hand
returns-then-found-from-clause-hand g c =
    let did = (c.fetch_add-found.ensures.2 _ c.requires.of.0.1).1 (search rules) in
    (c.fetch_add-found.result, search rules, ap (λ m. m.0.hand) did)

pub exchange-requires : goal.exchange-requires
exchange-requires g c =
    let did = (c.fetch_add-found.ensures.2 _ c.requires.of.0.1).0 (search rules) in
    (c.fetch_add-found.ensures.0 ∙ c.requires.of.0.0, front _ _ _ _ (ap (λ m. m.1) did.3))

pub unreachable-requires : goal.unreachable-requires
unreachable-requires g c =
    let did = (c.fetch_add-found.ensures.2 _ c.requires.of.0.1).0 (search rules) in
    c.in_default.not-Todo did.0 (front_is _ _ _ _ _ _ (ap (λ m. m.1) did.3) c.exchange.ensures.2)

pub split_seat-seat-requires : goal.split_seat-seat-requires
split_seat-seat-requires g c = (
  c.exchange.ensures.0 ∙ (c.fetch_add-found.ensures.0 ∙ c.requires.of.0.0),
  omega arith,
  leaves (hand_laws g.J.Job.is_run) g.J.Job.fits _ _ _,
)

pub invariant_of-pass-2 : goal.invariant_of-pass-2
invariant_of-pass-2 g c = let did = (c.fetch_add-found.ensures.2 _ c.requires.of.0.1).0 (search rules) in
    let now = ap (λ s. s.me) c.replace-seat.ensures.after ∙ (c.split_seat-seat.ensures.4 ∙ ap (λ m. (m.0, [])) c.exchange.ensures.3) in
    let view = ap (λ m. m.0) now ∙ ap (λ m. m.0) did.3 in
    record {
      bare = ap (λ m. m.1) now;
      plain = ap (λ v. v.book) view ∙ c.args.pass.now.plain;
      part = subst (λ v. 1 ≤ v.hand.share) (sym view) c.args.pass.now.part;
      told = ap (λ v. v.hand.ticket) view ∙ c.args.pass.now.told;
    }

pub invariant_of-result : goal.invariant_of-result
invariant_of-result g c = let did = (c.fetch_add-found.ensures.2 _ c.requires.of.0.1).0 (search rules) in
    let now = ap (λ s. s.me) c.replace-seat.ensures.value ∙ c.split_seat-seat.ensures.2 in record {
      empty =
          ap (λ m. m.1) now ∙ (ap (λ m. m.1) c.exchange.ensures.3
          ∙ ap (λ l. (c.fetch_add-found.result, Empty) ∷ l) (ap (λ m. rest m.1) did.3 ∙ c.args.pass.now.bare));
      blank = ap (λ m. m.0) now;
    }

pub returns-clause-of : goal.returns-clause-of
returns-clause-of g c = let did = (c.fetch_add-found.ensures.2 _ c.requires.of.0.1).0 (search rules) in
    let now = ap (λ s. s.me) c.replace-seat.ensures.after ∙ (c.split_seat-seat.ensures.4 ∙ ap (λ m. (m.0, [])) c.exchange.ensures.3) in
    let view = ap (λ m. m.0) now ∙ ap (λ m. m.0) did.3 in (
      (
        ap (λ s. s.table_id) c.replace-seat.ensures.after
            ∙ (c.split_seat-seat.ensures.3 ∙ (c.exchange.ensures.0 ∙ (c.fetch_add-found.ensures.0 ∙ c.requires.of.0.0))),
        ap (λ v. v.about) view
            ∙ c.requires.of.0.1,
      ),
      subst (λ v. IfSome v.hand.ticket (λ t. length (about c.args.self.now).jobs ≤ t)) (sym view) c.requires.of.1,
    )

pub returns-clause-hand : goal.returns-clause-hand
returns-clause-hand g c = let did = (c.fetch_add-found.ensures.2 _ c.requires.of.0.1).0 (search rules) in
    let now = ap (λ s. s.me) c.replace-seat.ensures.after ∙ (c.split_seat-seat.ensures.4 ∙ ap (λ m. (m.0, [])) c.exchange.ensures.3) in
    ap (λ m. m.0.hand) now ∙ ap (λ m. m.0.hand) did.3

pub returns-clause-job : goal.returns-clause-job
returns-clause-job g c = let did = (c.fetch_add-found.ensures.2 _ c.requires.of.0.1).0 (search rules) in
    let same : Todo c.in-Todo.job ≡ Todo did.0 = sym c.in-Todo.is ∙ front_is _ _ _ _ _ _ (ap (λ m. m.1) did.3) c.exchange.ensures.2 in
    let job : c.in-Todo.job ≡ did.0 = cc in (
      did.1 ∙ ap (λ (j : g.row.J.Denot). Some j) (sym job),
      subst (λ j. g.J.Job.fits c.args.self.now.table.shared.key.with.value j) (sym job) did.2,
    )

pub returns-clause-rises : goal.returns-clause-rises
returns-clause-rises g c = let did = (c.fetch_add-found.ensures.2 _ c.requires.of.0.1).0 (search rules) in did.4

pub returns-clause-once : goal.returns-clause-once
returns-clause-once g c = let did = (c.fetch_add-found.ensures.2 _ c.requires.of.0.1).0 (search rules) in
    let now = ap (λ s. s.me) c.replace-seat.ensures.after ∙ (c.split_seat-seat.ensures.4 ∙ ap (λ m. (m.0, [])) c.exchange.ensures.3) in
    subst (λ v. NoneTwice v.hand.drawn) (sym (ap (λ m. m.0) now ∙ ap (λ m. m.0) did.3)) did.5

pub returns-clause-held : goal.returns-clause-held
returns-clause-held g c = let did = (c.fetch_add-found.ensures.2 _ c.requires.of.0.1).0 (search rules) in
    let now = ap (λ s. s.me) c.replace-seat.ensures.after ∙ (c.split_seat-seat.ensures.4 ∙ ap (λ m. (m.0, [])) c.exchange.ensures.3) in
    subst (λ v. Contains v.hand.held c.fetch_add-found.result) (sym (ap (λ m. m.0) now ∙ ap (λ m. m.0) did.3)) (contains_last _ _)
