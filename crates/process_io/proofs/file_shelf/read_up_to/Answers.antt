use Rattle.std.proofs.Common.{arith, ◌≡◌, ◌++◌, length, take, drop, subst, sym, ap}
use Rattle.std.proofs.lemmas.List.{take-append-le}
use Rattle.std.specs.Io.KnownBytes.{Consumes}
use Rattle.std.proofs.KnownBytes.{Consumes-trans}
use Rattle.process_io.proofs.file_shelf.read_up_to.Goals as goal

pub loop-preserved : goal.loop-preserved
loop-preserved g c =
    let count = c.in_ok-count.count in
    let read = c.read.new.buf in
    let bound = c.in_ok-count.ensures.bound in
    let cut : take count (read ++ drop c.min-room.result c.loop.piece) ≡ take count read = take-append-le count read _ bound.0 in
    record {
      taken =
          subst (Consumes (g.F.Read.remaining c.args.from.now) (g.F.Read.remaining c.read.new.self)) (sym c.in_ok-extend_from_slice.ensures.items)
          (Consumes-trans _ _ _ _ _ c.loop.invariant.taken
          (subst (Consumes (g.F.Read.remaining c.loop.from) (g.F.Read.remaining c.read.new.self)) (sym cut) c.in_ok-count.ensures.bytes.0));
      turns = omega (arith, c.in_ok-extend_from_slice.ensures.len, ap length cut, bound.1);
      room = λ _. omega arith;
      none = omega arith;
    }
