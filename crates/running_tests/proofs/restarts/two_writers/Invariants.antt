use Rattle.std.proofs.Common.{◌≡◌, length, All, None}
use Rattle.reorder_list.specs.Entries.{StandFrom}
use Rattle.running_tests.proofs.restarts.two_writers.Given as goal

abbrev pub invariant-loop-p : goal.invariant-loop-p
invariant-loop-p l = record {
  row : StandFrom 0 l.rol.entries;
  eight : length l.rol.entries ≡ 8;
  fresh : All (λ e. (e.attempt ≡ 0) × (e.hist ≡ None)) l.rol.entries;
}
