use Rattle.std.proofs.Common.{◌≡◌, ◌+◌}
use Rattle.std.specs.VecDeque.{deque_len, deque_capacity}
use Rattle.reorder_list.specs.Entries.{first_position}
use Rattle.reorder_list.specs.Watched.{AreLooked, AreWider}
use Rattle.reorder_list.proofs.search.look.Given as goal

abbrev pub invariant-loop-place : goal.invariant-loop-place
invariant-loop-place l =
    record {
      looked : AreLooked l.entries.items l.watches.items (first_position l.entries.items + l.start) (first_position l.entries.items + l.place);
      wider : AreWider l.fn.watches.items l.watches.items;
      len : deque_len l.watches ≡ deque_len l.fn.watches;
      capacity : deque_capacity l.watches ≡ deque_capacity l.fn.watches;
    }
