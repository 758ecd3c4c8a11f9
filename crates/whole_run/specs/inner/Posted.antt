-- The task of an entry's present attempt.
use Rattle.std.specs.Prelude.{ℕ, List, []}
use Rattle.gp_base.specs.declared.fault.Fault.{Fault}
use Rattle.task_ast.specs.meaning.State.{RegistersOf}
use Rattle.dependence.specs.Restarts.{mask_of}
use Rattle.task_ast.specs.SyncOps.{joined_by}
use Rattle.record_store.specs.Given.{joined_value}
use Rattle.record_store.specs.Stored.{Stored, state_of}
use Rattle.reorder_list.specs.declared.entry.Entry.{Entry}
use Rattle.subthread.specs.declared.task.Task.{Task}
use Rattle.subthread.specs.Lending.{lent_by}

-- it is given registers as the store has them, and no cells yet; it has the mask of the fault that strikes the attempt
abbrev pub bare_in : List Fault → Stored → (position : ℕ) → Entry → Task
bare_in faults store p e =
    record {
      pos = p;
      thread = e.thread;
      attempt = e.attempt;
      begins = e.begins;
      at = e.at;
      ctl = e.ctl;
      child = e.child;
      given =
          record {
            regs = state_of store (RegistersOf e.thread);
            joined = joined_value (state_of store) (joined_by e.begins.sync);
            bundles = [];
          };
      held = e.held;
      mask = mask_of faults p e.attempt;
    }

-- it is given what the store gives
abbrev pub task_in : List Fault → Stored → (position : ℕ) → Entry → Task
task_in faults store p e = lent_by store (bare_in faults store p e)
