use Rattle.reorder_list.proofs.Buffered.{pushed-holds, sent-holds, learnt-holds, taken-holds, raised-holds, dropped-holds}
use Rattle.reorder_list.proofs.laws.held_laws.Goals as goal

pub returns : goal.returns
returns c =
    record {
      pushed = pushed-holds;
      sent = sent-holds;
      learnt = learnt-holds;
      taken = taken-holds;
      raised = raised-holds;
      dropped = dropped-holds;
    }
