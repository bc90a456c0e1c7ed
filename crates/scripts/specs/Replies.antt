-- What is written for replies.
use Rattle.std.specs.Prelude.{ℕ, List, []}
use Rattle.scripts.specs.declared.reply.Reply.{Reply}
use Rattle.scripts.specs.declared.reply.Reply.TheVariants as reply
use Rattle.scripts.specs.Steps.{with_count}
use Rattle.scripts.specs.Answered.{answer_line}

abbrev pub reply_text : {A : Type 0} → Reply A → List ℕ
reply_text reply.Nothing = []
reply_text (reply.Line answer) = answer_line answer
reply_text (reply.Report text) = text.items
reply_text (reply.Saved text) = with_count text.items
