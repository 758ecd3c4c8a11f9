-- What a ring keeps.
use Rattle.std.specs.Prelude.{◌≡◌, ℕ, ◌-◌, cond, is_none, vec_len, vec_capacity}
use Rattle.token_order.specs.declared.threads.Threads.{Threads}
use Rattle.token_order.specs.declared.held.Held.{Held}
use Rattle.token_order.specs.declared.spans.Spans.{Spans}
use Rattle.token_order.specs.Owning.{HeldStands, owners_now}
use Rattle.token_order.specs.Spans.{WaysStand}
use Rattle.token_order.specs.View.{StandsInside, table}

-- room for how many more threads there is, once the lists of locks are told what the last turn changed
abbrev pub spare_of : Threads → Held → ℕ
spare_of threads held = cond (is_none held.change) (vec_capacity threads.seats - vec_len threads.seats) 0

-- the threads stand, walks may go by the ways, the lists of locks stand, and both have the same owners
pub record RingStands (threads : Threads) (spans : Spans) (held : Held) : Type 0 where
  pub inside : StandsInside threads
  pub ways : WaysStand spans.ways.items (table threads).seats
  pub locks : HeldStands held
  pub owners : owners_now held ≡ threads.owners.items
