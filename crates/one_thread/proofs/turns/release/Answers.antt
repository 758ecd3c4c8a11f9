use Rattle.std.proofs.Common.{◌∙◌, sym, ap, subst, arith, map, length, get_or, refl}
use Rattle.std.proofs.lemmas.List.{length-map}
use Rattle.std.proofs.lemmas.Option.{slice_get-get_or}
use Rattle.ended_seats.specs.Idle.{IdleOver}
use Rattle.task_ast.specs.Table.{waits_at}
use Rattle.task_ast.specs.Turn.{released_at}
use Rattle.one_thread.specs.View.{seat_of, onward_of}
use Rattle.task_ast.proofs.ChangedSeats.{first_mapped, released-waiting, released-other}
use Rattle.task_ast.proofs.SeenSeats.{first_mapped-next}
use Rattle.ended_seats.proofs.Walks.{map-kept, over, same_read, releases, releases_all}
use Rattle.one_thread.proofs.turns.release.Goals as goal
use Rattle.one_thread.proofs.turns.release.Goals.{then-is_waiting, else-is_waiting}

pub loop-t-preserved : goal.loop-t-preserved
loop-t-preserved c =
    let old = map seat_of c.args.seats.now in
    let items = c.loop-t.seats in
    let within = c.loop-t-test.true in
    let read = slice_get-get_or items c.loop-t.t c.index-seats-t.result within in
    let seen = slice_get-get_or items c.loop-t.t c.index-seats-t-in-loop-t.result within in
    let onward =
    releases c.args.barrier c.loop-t.t _ old
    (over onward_of items old c.loop-t.t _ read (subst (λ ns. IdleOver ns old) (sym c.loop-t.invariant.1) c.requires.idle))
    ∙ ap (λ n. first_mapped (released_at c.args.barrier) n old) (sym c.max-t.ensures) in
    elim c.if-is_waiting.branch [
      | then-is_waiting w ↦
          (let at = slice_get-get_or items c.loop-t.t w.index-seats-t-then-is_waiting.result within in (
            ap (map seat_of) w.seats-is
                ∙ first_mapped-next seat_of (released_at c.args.barrier) c.args.seats.now items c.loop-t.t w.index-seats-t-then-is_waiting.result _
                within c.loop-t.invariant.0
                (released-waiting c.args.barrier _ (ap (λ s. waits_at c.args.barrier (seat_of s)) (same_read items c.loop-t.t _ _ at seen)
                ∙ sym c.is_waiting.ensures ∙ w.if-is_waiting.true))
                ∙ onward,
            ap (map onward_of) w.seats-is ∙ map-kept onward_of items c.loop-t.t _ _ at refl ∙ c.loop-t.invariant.1,
          ))
      | else-is_waiting w ↦ (
        ap (map seat_of) w.seats-is ∙ sym (map-kept seat_of items c.loop-t.t _ (get_or items c.loop-t.t c.index-seats-t-in-loop-t.result) seen refl)
            ∙ first_mapped-next seat_of (released_at c.args.barrier) c.args.seats.now items c.loop-t.t c.index-seats-t-in-loop-t.result _ within
            c.loop-t.invariant.0 (sym (released-other c.args.barrier _ (sym c.is_waiting.ensures ∙ w.if-is_waiting.false)))
            ∙ onward,
        ap (map onward_of) w.seats-is ∙ c.loop-t.invariant.1,
      )
    ]

pub returns-clause-seats : goal.returns-clause-seats
returns-clause-seats c =
    let same = ap length c.loop-t.invariant.1 in
    let one = length-map c.loop-t.seats onward_of in
    let two = length-map c.args.seats.now onward_of in
    let all = length-map c.args.seats.now seat_of in
    c.loop-t.invariant.0 ∙ releases_all c.args.barrier c.loop-t.t (map seat_of c.args.seats.now) (omega (arith, same, one, two, all))
