-- A task and the cells that it is lent.
use Rattle.std.specs.Prelude.{map}
use Rattle.record_store.specs.Given.{bundle_of}
use Rattle.record_store.specs.Stored.{Stored, state_of}
use Rattle.subthread.specs.declared.task.Task.{Task}
use Rattle.subthread.specs.Tasks.{with_bundles}

-- a task with the cells that the store lends for its locks
abbrev pub lent_by : Stored → Task → Task
lent_by store task = with_bundles (map (bundle_of store.under (state_of store)) task.held) task
