use Rattle.std.proofs.Common.{◌∙◌, ◌<◌, map, length, sym, ap, refl, arith}
use Rattle.std.specs.Prelude.{slice_get}
use Rattle.std.proofs.lemmas.List.{length-map}
use Rattle.std.proofs.lemmas.Option.{slice_get-get_or}
use Rattle.one_thread.specs.View.{seat_of, onward_of}
use Rattle.task_ast.proofs.ChangedSeats.{first_mapped-all}
use Rattle.task_ast.proofs.SeenSeats.{first_mapped-next}
use Rattle.ended_seats.proofs.Walks.{map-kept, map_constant}
use Rattle.one_thread.proofs.seats.forget.Goals as goal

pub loop-seat-preserved : goal.loop-seat-preserved
loop-seat-preserved c =
    let within : c.loop-seat.seat-index < length c.loop-seat.seats = omega arith in (
      map-kept seat_of c.loop-seat.seats c.loop-seat.seat-index _ _
          (slice_get-get_or c.loop-seat.seats c.loop-seat.seat-index c.seat-item.result within) refl ∙ c.loop-seat.invariant.0,
      first_mapped-next onward_of (λ n. 0) c.args.seats.now c.loop-seat.seats c.loop-seat.seat-index c.seat-item.result _ within
          c.loop-seat.invariant.1 refl,
    )

pub returns-clause-onward : goal.returns-clause-onward
returns-clause-onward c t n at =
    map_constant (map onward_of c.args.seats.now) 0 t n
    (ap (λ ns. slice_get ns t) (sym (c.loop-seat.invariant.1 ∙ first_mapped-all (λ n. 0) c.loop-seat.seat-index _
    (length-map c.args.seats.now onward_of ∙ omega arith))) ∙ at)
