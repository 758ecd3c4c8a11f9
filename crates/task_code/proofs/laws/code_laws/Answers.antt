use Rattle.task_code.proofs.Following.{following}
use Rattle.task_code.proofs.Beginning.{begins_alike, starts_alike}
use Rattle.task_code.proofs.Machines.{bodies, follows, run}
use Rattle.task_code.proofs.laws.code_laws.Goals as goal

pub returns : goal.returns
returns c =
    record {
      step = following;
      bodies = bodies;
      begins = λ program inputs op child p q rests. begins_alike program inputs child p q rests.corresponds op rests.stopped;
      starts = starts_alike;
      follows = follows;
      run = run;
    }
