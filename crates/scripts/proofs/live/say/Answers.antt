use Rattle.scripts.specs.Replies.{reply_text}
use Rattle.scripts.proofs.Writings.{written_whole}
use Rattle.scripts.proofs.live.say.Goals as goal

pub returns-in-Err : goal.returns-in-Err
returns-in-Err g c = written_whole _ _ _ (reply_text c.args.reply.now) c.in_ok-write.ensures c.flush.ensures.bytes
