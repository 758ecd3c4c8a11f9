use Rattle.std.proofs.Common.{rules, ◌<◌, length, All, sym, refl, ap, ◌∙◌, subst}
use Rattle.std.specs.Prelude.{Contains}
use Rattle.gp_steal.specs.Held.{about}
use Rattle.std.proofs.lemmas.Bool.{lt-ltb, ltb-true}
use Rattle.gp_steal.proofs.Steps.{looks}
use Rattle.gp_steal.proofs.Looks.{seen_below, seen_now}
use Rattle.gp_steal.proofs.types.StealBoard.look.Goals as goal

pub load-found-requires : goal.load-found-requires
load-found-requires g c =
    (c.requires.of.0.0, search rules, looks g.J.Job.fits g.J.Job.is_run _ _ _ _ _ (about c.args.self.now) c.requires.of.0.1 c.requires.desk)

pub invariant_of-clerk : goal.invariant_of-clerk
invariant_of-clerk g c =
    record { office = ap (λ m. m.0.book.clerk) (c.load-found.ensures.2 c.args.desk _ refl c.requires.of.0.1).0 ∙ c.args.clerk.now.office }

pub returns-clause-of : goal.returns-clause-of
returns-clause-of g c = let did = (c.load-found.ensures.2 c.args.desk _ refl c.requires.of.0.1).0 in (
  (c.load-found.ensures.0 ∙ c.requires.of.0.0, ap (λ m. m.0.about) did ∙ c.requires.of.0.1),
  subst (λ b. All (λ k. k < length (about c.args.self.now).jobs) b) (sym (ap (λ m. m.0.book.seen) did))
      (seen_below _ _ _ _ c.requires.desk c.requires.of.1),
)

pub returns-clause-book : goal.returns-clause-book
returns-clause-book g c =
    let did = c.load-found.ensures.2 c.args.desk _ refl c.requires.of.0.1 in
    (c.load-found.result, search rules, did.1, ap (λ m. m.0.book) did.0)

pub returns-clause-hand : goal.returns-clause-hand
returns-clause-hand g c = ap (λ m. m.0.hand) (c.load-found.ensures.2 c.args.desk _ refl c.requires.of.0.1).0

pub returns-clause-all_done : goal.returns-clause-all_done
returns-clause-all_done g c whole = lt-ltb 1 c.load-found.result ((c.load-found.ensures.2 c.args.desk _ refl c.requires.of.0.1).2 whole).0

pub returns-clause-seen : goal.returns-clause-seen
returns-clause-seen g c is =
    let did = (c.load-found.ensures.2 c.args.desk _ refl c.requires.of.0.1).0 in
    subst (λ l. Contains l c.args.desk) (sym (ap (λ m. m.0.book.seen) did))
    (seen_now c.args.desk c.load-found.result c.args.clerk.now.seat.me.0.book.seen (ltb-true 1 c.load-found.result is))

pub returns-clause-all_claimed : goal.returns-clause-all_claimed
returns-clause-all_claimed g c whole = ((c.load-found.ensures.2 c.args.desk _ refl c.requires.of.0.1).2 whole).1
