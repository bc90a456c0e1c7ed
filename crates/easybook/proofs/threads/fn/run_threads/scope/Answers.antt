use denote.Param.Send.{sendable}
use Rattle.easybook.proofs.script_thread.ScriptThread.TheSendSync as thread
use Rattle.easybook.proofs.script_thread.Workplace.TheSendSync as place
use Rattle.easybook.proofs.threads.fn.run_threads.scope.Goals as goal

pub spawn-requires-in-loop-thread-send-F : goal.spawn-requires-in-loop-thread-send-F
spawn-requires-in-loop-thread-send-F g c = λ κs h. search (sendable, thread.the_send, place.the_sync, c.requires) depth 12
