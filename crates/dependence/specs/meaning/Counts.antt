-- Lawful and complete journals in counts of their events.
use Rattle.std.specs.Prelude.{Bool, true, false}
use Rattle.gp_base.specs.declared.journal.Event.{Event}
use Rattle.gp_base.specs.declared.journal.Event.TheVariants as event

abbrev pub is_restart : Event → Bool
is_restart (event.Restart number) = true
is_restart _ = false
