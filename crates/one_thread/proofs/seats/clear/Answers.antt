use Rattle.std.proofs.Common.{◌∙◌, inl, inr, sym, subst, map, refl, arith}
use Rattle.std.proofs.lemmas.List.{length-map}
use Rattle.std.proofs.lemmas.Option.{slice_get-get_or}
use Rattle.one_thread.specs.View.{seat_of, onward_of}
use Rattle.ended_seats.specs.Idle.{IdleOver}
use Rattle.ended_seats.proofs.Walks.{Clearing, map-kept, over, clearing_step, clearing_done}
use Rattle.one_thread.proofs.seats.clear.Goals as goal

pub loop-t-preserved : goal.loop-t-preserved
loop-t-preserved c =
    let items = c.loop-t.seats in
    let read = slice_get-get_or items c.loop-t.t c.index-seats-t.result c.if-t-seats.true in
    let at = slice_get-get_or items c.loop-t.t c.index-seats-t-in-loop-t.result c.if-t-seats.true in
    let old = map seat_of c.args.seats.now in (
      subst (Clearing old _) (sym c.max-t.ensures)
          (clearing_step seat_of items old c.loop-t.t _ _ _ at refl
          (over onward_of items old c.loop-t.t _ read (subst (λ ns. IdleOver ns old) (sym c.loop-t.invariant.1) c.requires.idle))
          c.loop-t.invariant.0),
      map-kept onward_of items c.loop-t.t _ _ at refl ∙ c.loop-t.invariant.1,
    )

pub returns-else-t-seats-clause-seats : goal.returns-else-t-seats-clause-seats
returns-else-t-seats-clause-seats c =
    let all = length-map c.loop-t.seats seat_of in
    clearing_done c.args.passed.first c.args.passed.last (map seat_of c.args.seats.now) (map seat_of c.loop-t.seats) c.loop-t.t c.requires.passed
    c.loop-t.invariant.0 (inr (omega arith))

pub returns-after-loop-t-clause-seats : goal.returns-after-loop-t-clause-seats
returns-after-loop-t-clause-seats c =
    clearing_done c.args.passed.first c.args.passed.last (map seat_of c.args.seats.now) (map seat_of c.loop-t.seats) c.loop-t.t c.requires.passed
    c.loop-t.invariant.0 (inl (omega arith))
