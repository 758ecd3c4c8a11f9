-- What is told of attempts, by those whose results were taken.
use Rattle.std.specs.Prelude.{unwrap_or}
use Rattle.std.specs.Ordering.{nat_cmp, ordering_then}
use Rattle.std.specs.BTreeMap.{get}
use Rattle.run_picture.specs.declared.told.Tellings.{Tellings}
use Rattle.run_picture.specs.meaning.Attempts.{Tells}

abbrev pub found : Tellings → Tells
found tellings p attempt =
    unwrap_or (get (λ a b. ordering_then (nat_cmp a.0 b.0) (nat_cmp a.1 b.1)) tellings.taken (p, attempt)) tellings.others
