use Rattle.std.proofs.lemmas.Result.{on_ok_weaker}
use Rattle.lock_checker.proofs.IndexLemmas.{Puts, with_task}
use Rattle.lock_checker.proofs.index.ProgramIndex.add_task.Goals as goal

pub returns : goal.returns
returns c =
    on_ok_weaker c.put.result (λ (put : Puts c.args.self.now.tasks c.put.new.self c.args.task.now.name c.args.task). λ heads texts were.
    with_task c.args.self.now heads texts were c.args.task c.put.new.self put) c.put.ensures
