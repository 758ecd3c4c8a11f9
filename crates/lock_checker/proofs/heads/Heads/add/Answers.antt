use Rattle.lock_checker.proofs.HeadLemmas.{heads_with}
use Rattle.lock_checker.proofs.heads.Heads.add.Goals as goal

pub returns : goal.returns
returns c = λ before were.
    heads_with c.args.self.now c.put.new.self before c.args.head.now c.head_name.result.now c.lock_cells_of.result c.record_cells_of.result
    were c.in_ok-put.ensures c.head_name.ensures c.lock_cells_of.ensures.cells c.record_cells_of.ensures.cells
