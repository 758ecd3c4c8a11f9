use Rattle.std.proofs.Common.{rules, arith, ◌≡◌, ◌≤◌, [], ◌∷◌, length, Some, sym, refl, ap, ◌∙◌, subst}
use Rattle.atomic_table.specs.Table.{rest}
use Rattle.desk_board.specs.declared.view.Slot.TheVariants.{Empty, Todo}
use Rattle.gp_steal.specs.Held.{about}
use Rattle.desk_board.specs.Told.{NoneTwice}
use Rattle.gp_steal.specs.Told.{swept_after}
use Rattle.gp_steal.proofs.Hands.{swept_within}
use Rattle.gp_steal.proofs.Steps.{claims_or_fails}
use Rattle.desk_board.proofs.Seats.{leaves}
use Rattle.gp_steal.proofs.StealHands.{hand_laws}
use Rattle.desk_board.proofs.DeskLists.{front, front_is}
use Rattle.gp_steal.proofs.types.StealBoard.claim.Goals as goal

pub compare_exchange-found-requires : goal.compare_exchange-found-requires
compare_exchange-found-requires g c = (
  c.requires.of.0.0,
  search rules,
  claims_or_fails g.J.Job.fits g.J.Job.is_run _ _ _ _ _
      (about c.args.self.now) c.requires.of.0.1 c.requires.desk c.args.pass.now.part,
)

pub invariant_of-pass : goal.invariant_of-pass
invariant_of-pass g c = let did = (c.compare_exchange-found.ensures.2 c.args.desk _ refl c.requires.of.0.1).1 (search rules) in record {
  bare = ap (λ m. m.1) did ∙ c.args.pass.now.bare;
  plain = ap (λ m. m.0.book) did ∙ c.args.pass.now.plain;
  part = subst (λ m. 1 ≤ m.0.hand.share) (sym did) c.args.pass.now.part;
  told = ap (λ m. m.0.hand.swept) did ∙ (ap (swept_after c.args.desk) c.args.pass.now.told ∙ sym c.swept_after-pass.ensures);
}

pub returns-then-found-gt0-clause-of : goal.returns-then-found-gt0-clause-of
returns-then-found-gt0-clause-of g c =
    let did = (c.compare_exchange-found.ensures.2 c.args.desk _ refl c.requires.of.0.1).1 (search rules) in (
      (c.compare_exchange-found.ensures.0 ∙ c.requires.of.0.0, ap (λ m. m.0.about) did ∙ c.requires.of.0.1),
      subst (λ m. m.0.hand.swept ≤ length (about c.args.self.now).jobs) (sym did) (swept_within _ _ _ c.requires.desk c.requires.of.1),
    )

pub returns-then-found-gt0-clause-hand : goal.returns-then-found-gt0-clause-hand
returns-then-found-gt0-clause-hand g c =
    let did = (c.compare_exchange-found.ensures.2 c.args.desk _ refl c.requires.of.0.1).1 (search rules) in
    (c.compare_exchange-found.result, search rules, ap (λ m. m.0.hand) did)

pub exchange-requires : goal.exchange-requires
exchange-requires g c =
    let did = (c.compare_exchange-found.ensures.2 c.args.desk _ refl c.requires.of.0.1).0 (search rules) in
    (c.compare_exchange-found.ensures.0 ∙ c.requires.of.0.0, front _ _ _ _ (ap (λ m. m.1) did.3))

pub unreachable-requires : goal.unreachable-requires
unreachable-requires g c =
    let did = (c.compare_exchange-found.ensures.2 c.args.desk _ refl c.requires.of.0.1).0 (search rules) in
    c.in_default.not-Todo did.0 (front_is _ _ _ _ _ _ (ap (λ m. m.1) did.3) c.exchange.ensures.2)

pub split_seat-seat-requires : goal.split_seat-seat-requires
split_seat-seat-requires g c = (
  c.exchange.ensures.0 ∙ (c.compare_exchange-found.ensures.0 ∙ c.requires.of.0.0),
  omega arith,
  leaves (hand_laws g.J.Job.is_run) g.J.Job.fits _ _ _,
)

pub invariant_of-pass-2 : goal.invariant_of-pass-2
invariant_of-pass-2 g c = let did = (c.compare_exchange-found.ensures.2 c.args.desk _ refl c.requires.of.0.1).0 (search rules) in
    let now = ap (λ s. s.me) c.replace-seat.ensures.after ∙ (c.split_seat-seat.ensures.4 ∙ ap (λ m. (m.0, [])) c.exchange.ensures.3) in
    let view = ap (λ m. m.0) now ∙ ap (λ m. m.0) did.3 in
    record {
      bare = ap (λ m. m.1) now;
      plain = ap (λ v. v.book) view ∙ c.args.pass.now.plain;
      part = subst (λ v. 1 ≤ v.hand.share) (sym view) c.args.pass.now.part;
      told = ap (λ v. v.hand.swept) view ∙ (ap (swept_after c.args.desk) c.args.pass.now.told ∙ sym c.swept_after-pass.ensures);
    }

pub invariant_of-result : goal.invariant_of-result
invariant_of-result g c = let did = (c.compare_exchange-found.ensures.2 c.args.desk _ refl c.requires.of.0.1).0 (search rules) in
    let now = ap (λ s. s.me) c.replace-seat.ensures.value ∙ c.split_seat-seat.ensures.2 in record {
      empty =
          ap (λ m. m.1) now ∙ (ap (λ m. m.1) c.exchange.ensures.3
          ∙ ap (λ l. (c.args.desk, Empty) ∷ l) (ap (λ m. rest m.1) did.3 ∙ c.args.pass.now.bare));
      blank = ap (λ m. m.0) now;
    }

pub returns-clause-of : goal.returns-clause-of
returns-clause-of g c = let did = (c.compare_exchange-found.ensures.2 c.args.desk _ refl c.requires.of.0.1).0 (search rules) in
    let now = ap (λ s. s.me) c.replace-seat.ensures.after ∙ (c.split_seat-seat.ensures.4 ∙ ap (λ m. (m.0, [])) c.exchange.ensures.3) in
    let view = ap (λ m. m.0) now ∙ ap (λ m. m.0) did.3 in (
      (
        ap (λ s. s.table_id) c.replace-seat.ensures.after
            ∙ (c.split_seat-seat.ensures.3 ∙ (c.exchange.ensures.0 ∙ (c.compare_exchange-found.ensures.0 ∙ c.requires.of.0.0))),
        ap (λ v. v.about) view ∙ c.requires.of.0.1,
      ),
      subst (λ v. v.hand.swept ≤ length (about c.args.self.now).jobs) (sym view) (swept_within _ _ _ c.requires.desk c.requires.of.1),
    )

pub returns-clause-hand : goal.returns-clause-hand
returns-clause-hand g c = let did = (c.compare_exchange-found.ensures.2 c.args.desk _ refl c.requires.of.0.1).0 (search rules) in
    let now = ap (λ s. s.me) c.replace-seat.ensures.after ∙ (c.split_seat-seat.ensures.4 ∙ ap (λ m. (m.0, [])) c.exchange.ensures.3) in
    ap (λ m. m.0.hand) now ∙ ap (λ m. m.0.hand) did.3

pub returns-clause-job : goal.returns-clause-job
returns-clause-job g c = let did = (c.compare_exchange-found.ensures.2 c.args.desk _ refl c.requires.of.0.1).0 (search rules) in
    let same : Todo c.in-Todo.job ≡ Todo did.0 = sym c.in-Todo.is ∙ front_is _ _ _ _ _ _ (ap (λ m. m.1) did.3) c.exchange.ensures.2 in
    let job : c.in-Todo.job ≡ did.0 = cc in (
      did.1 ∙ ap (λ (j : g.row.J.Denot). Some j) (sym job),
      subst (λ j. g.J.Job.fits c.args.self.now.table.shared.key.with.value j) (sym job) did.2,
    )

pub returns-clause-once : goal.returns-clause-once
returns-clause-once g c = let did = (c.compare_exchange-found.ensures.2 c.args.desk _ refl c.requires.of.0.1).0 (search rules) in
    let now = ap (λ s. s.me) c.replace-seat.ensures.after ∙ (c.split_seat-seat.ensures.4 ∙ ap (λ m. (m.0, [])) c.exchange.ensures.3) in
    subst (λ v. NoneTwice v.hand.claimed) (sym (ap (λ m. m.0) now ∙ ap (λ m. m.0) did.3)) did.4
