-- A task that comes back with what was lent to it.
use Rattle.std.proofs.Common.{◌≡◌, true, false, List, map, refl}
use Rattle.std.specs.Prelude.{All}
use Rattle.record_store.specs.declared.given.Bundle.{Bundle}
use Rattle.record_store.specs.Given.{bundle_of}
use Rattle.record_store.specs.Lent.{marked, lock_in, AreAsLent}
use Rattle.record_store.specs.Stored.{Stored, state_of, IsAtHome, IsAway}
use Rattle.subthread.specs.declared.task.Task.{Task}
use Rattle.subthread.specs.Lending.{lent_by}
use Rattle.subthread.proofs.HeldLocks.{bundle_locks}
use Rattle.subthread.proofs.Lendings.{lent-away, lent-as, sent-back}

module _ (store later : Stored) (task back : Task) (home : All (IsAtHome store) task.held) (back_is : back ≡ lent_by store task)
    (later_is : later ≡ record store { away = marked task.held true store.away }) where
  -- what was lent to it
  abbrev lent : List Bundle
  lent = map (bundle_of store.under (state_of store)) task.held

  lent-locks : map lock_in lent ≡ task.held
  lent-locks = bundle_locks store.under (state_of store) task.held

  pub back-away : All (λ b. IsAway later (lock_in b)) back.given.bundles
  back-away = rw (back_is, later_is) (lent-away store task.held home lent lent-locks)

  pub back-as-lent : AreAsLent later back.given.bundles
  back-as-lent = rw (back_is, later_is) (lent-as store task.held home lent refl)

  pub back-home : record later { away = marked (map lock_in back.given.bundles) false later.away } ≡ store
  back-home = rw (back_is, later_is) (sent-back store task.held home lent lent-locks)
