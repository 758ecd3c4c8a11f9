use denote.RattleType.{RattleType}
use denote.Param.Send.{IsSend, sendable}
use Rattle.std.proofs.Crossing.{crosses, frees, send, sync}
use Rattle.gp_base.proofs.seq.Seq.TheSendSync as seqs
use Rattle.gp_base.proofs.feed.Feed.TheSendSync as feeds
use Rattle.subthread.proofs.recheck.Recheck.TheSendSync as rechecks
use Rattle.subthread.proofs.task.Task.TheSendSync as tasks
use Rattle.subthread.proofs.task.Done.TheSendSync as runs
use Rattle.std.specs.contracts.alloc.Global as global
use Rattle.std.specs.contracts.impls.GlobalAllocator.TheImpl.{ghosts}
use Rattle.crossbeam_channel.specs.contracts.channel.Receiver as receiver
use Rattle.crossbeam_channel.proofs.channel.Receiver.TheSendSync as receivers
use Rattle.crew.proofs.Sharing.{work_sync, work_send, code_send}
use Rattle.pipe_crew.proofs.messages.Message.TheSendSync as messages
use Rattle.pipe_crew.proofs.pipe.start.Goals as goal

pub shared-requires-sync-T : goal.shared-requires-sync-T
shared-requires-sync-T g c κs = record { shared = work_sync.shared }

pub sent-requires-send-T : goal.sent-requires-send-T
sent-requires-send-T g c κs = search (sendable, crosses, seqs.the_send, feeds.the_send, code_send, rechecks.the_send) depth 20

pub sent-requires-5-send-T : goal.sent-requires-5-send-T
sent-requires-5-send-T g c κs = search (sendable, crosses, work_send, work_sync) depth 20

pub sent-requires-8-send-T : goal.sent-requires-8-send-T
sent-requires-8-send-T g c κs =
    search (sendable, crosses, messages.the_field_send, tasks.the_field_send, runs.the_field_send, work_send, work_sync) depth 20

-- a receiver of what may be sent, whose memory is of the heap
receiver_send : (T : RattleType) → IsSend T → IsSend (receiver.the_row T global.the_row ghosts)
receiver_send T s = receivers.the_send T global.the_row ghosts s send sync (record { frees = frees.frees })

pub spawn-thread-requires-send-F : goal.spawn-thread-requires-send-F
spawn-thread-requires-send-F g c κs within =
    search (sendable, crosses, receiver_send) depth 30
