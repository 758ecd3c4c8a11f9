use Rattle.subthread.proofs.begins.begin_at.Goals as goal

pub returns : goal.returns
returns c = record {
  cells = c.begin_data.ensures.cells;
  begun = λ line. record { at_is = c.go_behind.ensures line; data_is = c.in_ok-begin_data.ensures.made line };
}
