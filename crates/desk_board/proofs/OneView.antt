-- What the rule of a board, of whatever kind, says of one view.
use Rattle.std.proofs.Common.{◌≡◌, ℕ, ◌<◌, ◌≤◌, length, sym, ap, ◌∙◌, subst, arith, lt_of_not-le}
use Rattle.std.specs.Prelude.{sum_by, slice_get, Option, Some, IfSome}
use Rattle.std.proofs.lemmas.Option.{slice_get_within, get_or_from_slice_get}
use mathlib.Core.Option.{some}
use mathlib.Core.Logic.{dite}
use native.Mathlib.Decide.{dec_le}
use lib.ListN.{get_elem?}
use Rattle.atomic_table.specs.Table.{State}
use Rattle.desk_board.specs.declared.view.About.{About}
use Rattle.desk_board.specs.declared.view.SeatView.{SeatView}
use Rattle.desk_board.specs.declared.view.BoardSetup.{BoardSetup}
use Rattle.desk_board.specs.declared.view.Slot.{Slot}
use Rattle.desk_board.specs.Rule.{times, about_of, BoardKind, KeptBy}
use Rattle.desk_board.proofs.Tallies.{tally_part, tally_alone}

module _ {J W R H : Type 0} {kind : BoardKind J W R H} {fits : W → J → Type 0} {plan : BoardSetup J W}
    {s : State (Slot J R) (SeatView J W H)} (r : KeptBy kind fits plan s) where
  pub job_fits : (k : ℕ) (job : J) → slice_get plan.jobs.value.items k ≡ Some job → fits plan.with.value job
  job_fits k job has =
      subst (fits plan.with.value) (get_or_from_slice_get plan.jobs.value.items k job job has)
      (r.all_fit k job (slice_get_within plan.jobs.value.items k job has))

  module _ (i : ℕ) (v : SeatView J W H) (at : get_elem? s.views i ≡ some v) where
    pub told_about : (about : About J W) → v.about ≡ Some about → about ≡ about_of plan
    told_about about is = subst (λ (o : Option (About J W)). IfSome o (λ a. a ≡ about_of plan)) is (r.each_view i v at).same

    pub told_inside : (about : About J W) → v.about ≡ Some about → (k : ℕ) → k < length about.jobs → k < length plan.jobs.value.items
    told_inside about is k l = subst (λ (a : About J W). k < length a.jobs) (told_about about is) l

    -- no desk beyond the last is got
    pub got_within : (k : ℕ) → 1 ≤ times k (kind.got v.hand) → k < length plan.jobs.value.items
    got_within k h = dite (dec_le (length plan.jobs.value.items) k)
        (λ l. absurd (let p = tally_part (λ (x : SeatView J W H). times k (kind.got x.hand)) s.views i v at in
        let z = r.beyond k l in omega (arith, p, z, h))) (λ n. lt_of_not-le n)

    -- a view that has the whole share has all desks that were got, and all that are held
    pub alone_got : kind.share v.hand ≡ 64 → (k : ℕ) → sum_by (λ x. times k (kind.got x.hand)) s.views ≡ times k (kind.got v.hand)
    alone_got all k =
        tally_alone (λ x. kind.share x.hand) (λ x. times k (kind.got x.hand)) s.views i v at (r.shares ∙ sym all)
        (λ j y there z. ap (times k) ((r.each_view j y there).idle z).0)

    pub alone_held : kind.share v.hand ≡ 64 → (k : ℕ) → sum_by (λ x. times k (kind.held x.hand)) s.views ≡ times k (kind.held v.hand)
    alone_held all k =
        tally_alone (λ x. kind.share x.hand) (λ x. times k (kind.held x.hand)) s.views i v at (r.shares ∙ sym all)
        (λ j y there z. ap (times k) ((r.each_view j y there).idle z).1)

    -- the clerk has taken all that was taken
    pub alone_taken : v.book.clerk ≡ 1 → (k : ℕ) → sum_by (λ x. times k x.book.taken) s.views ≡ times k v.book.taken
    alone_taken clerk k =
        tally_alone (λ x. x.book.clerk) (λ x. times k x.book.taken) s.views i v at (r.clerks ∙ sym clerk)
        (λ j y there z. ap (times k) ((r.each_view j y there).others z))
