-- Who owns a lock, and which locks a thread holds, before and after a change.
use Rattle.std.specs.Prelude.{◌≡◌, ℕ, ◌<◌, List, length, Option, Some, None, slice_set}
use Rattle.std.specs.Option.{ForSome}
use Rattle.task_ast.specs.LockLists.{is_owner, with_lock, held_at}
use Rattle.task_ast.specs.meaning.Table.{owned_from}
use Rattle.task_ast.specs.meaning.Turn.{owners_after}
use Rattle.token_order.specs.declared.held.Change.{Change}
use Rattle.token_order.specs.declared.held.Held.{Held}
use Rattle.token_order.specs.declared.rules.Turn.{Turn}
use Rattle.token_order.specs.declared.rules.Turn.TheVariants.{Issue}

-- the owners after a change, where there is one
abbrev pub owners_with : Option Change → List (Option ℕ) → List (Option ℕ)
owners_with None owners = owners
owners_with (Some change) owners = slice_set owners change.lock change.owner

-- the locks of a thread after a change, where there is one
abbrev pub locks_with : Option Change → ℕ → List ℕ → List ℕ
locks_with None t held = held
locks_with (Some change) t held = with_lock (is_owner t change.owner) change.lock held

-- the owners now
abbrev pub owners_now : Held → List (Option ℕ)
owners_now held = owners_with held.change held.owners.items

-- each thread's list has the locks that it owned before the change, which is of a lock that there is
pub record HeldStands (held : Held) : Type 0 where
  pub each : (t : ℕ) → held_at held.locks.items t ≡ owned_from 0 held.owners.items t
  pub within : ForSome held.change (λ change. change.lock < length held.owners.items)

-- the owners after a turn that answered this
abbrev pub noted : Turn → List (Option ℕ) → List (Option ℕ)
noted (Issue t next child) owners = owners_after next.sync t owners
noted _ owners = owners
