use Rattle.crew.proofs.Sharing.{work_sync}
use Rattle.steal_crew.proofs.sharing.+fn-work_board-join+arg3+work_board.Goals as goal

pub shared-requires-sync-T : goal.shared-requires-sync-T
shared-requires-sync-T g c κs within = record { shared = work_sync.shared }
