use Rattle.command_line.proofs.asked.asked_in.Goals as goal

pub returns-clause-within : goal.returns-clause-within
returns-clause-within c =
    let workers = c.in-Some-option_number.ensures.within in
    let limits = c.in-Some-limits_in.ensures in
    record {
      ranges = c.in-Some.ensures.within;
      some_subthread = limits.some_subthread;
      few_subthreads = limits.few_subthreads;
      some_worker = workers.0;
      few_workers = rw c.from-most.ensures at workers.1;
    }
