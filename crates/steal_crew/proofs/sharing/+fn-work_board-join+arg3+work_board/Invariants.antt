use Rattle.std.proofs.Common.{◌+◌, ◌*◌, vec_len}
use Rattle.steal_crew.proofs.sharing.+fn-work_board-join+arg3+work_board.Given as goal

abbrev pub decreases-join+arg3 : goal.decreases-join+arg3
decreases-join+arg3 g l = 2 * vec_len l.others + 1

abbrev pub decreases-work_board : goal.decreases-work_board
decreases-work_board g l = 2 * vec_len l.others
