use Rattle.reorder_list.proofs.Staged.{may-post, is-runnable, known-taken, taken-known, issue-stand, post-stand, take-stand, stale-stand, gone-stand, restart-event, retire-stand}
use Rattle.reorder_list.proofs.laws.entries_laws.Goals as goal

pub returns : goal.returns
returns c =
    record {
      runnable =
          λ run dependence faults at entries p stands stand.
          (may-post run at entries stand dependence faults p stands, is-runnable run at entries stand dependence faults p);
      known = λ run at entries stand. (known-taken run at entries stand, taken-known run at entries stand);
      issue =
          λ run dependence faults at entries p e names stand allowed first.
          issue-stand run at entries stand dependence faults p e names allowed first;
      post =
          λ run dependence faults at entries p attempt stand allowed. post-stand run at entries stand dependence faults p attempt allowed;
      take =
          λ run dependence faults at entries p attempt s foot history lines stand there foot_is allowed.
          take-stand run at entries stand dependence faults p attempt s foot there foot_is history lines allowed;
      stale =
          λ run dependence faults at entries p attempt s foot stand there foot_is.
          stale-stand run at entries stand dependence faults p attempt s foot there foot_is;
      gone = λ run dependence faults at entries p attempt stand none. gone-stand run at entries stand dependence faults p attempt none;
      restart =
          λ run dependence faults at entries struck number stands stand next.
          restart-event run at entries stand dependence faults struck stands number next;
      retire = retire-stand;
    }
