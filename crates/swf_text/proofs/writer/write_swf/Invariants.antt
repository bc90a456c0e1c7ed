use Rattle.std.proofs.Common.{◌++◌, take, map}
use Rattle.std.specs.List.{flat_map, AllByRecursion}
use Rattle.std.specs.Io.KnownBytes.{Appends}
use Rattle.swf_text.specs.Entry.{LogEntry, HasFields}
use Rattle.swf_text.specs.Writing.{comment_text, entry_text}
use Rattle.swf_text.proofs.writer.write_swf.Given as goal

abbrev pub invariant-loop-comment : goal.invariant-loop-comment
invariant-loop-comment g l = Appends (g.W.Write.contents l.fn.writer) (g.W.Write.contents l.writer) (flat_map comment_text (map (λ comment. comment.items) (take l.comment-index l.comment-items)))

abbrev pub invariant-loop-entry : goal.invariant-loop-entry
invariant-loop-entry g l = record {
  outcome : Appends (g.W.Write.contents l.fn.writer) (g.W.Write.contents l.writer) (flat_map comment_text l.text.comments ++ flat_map entry_text (map (λ (entry : LogEntry). entry) (take l.entry-index l.entry-items)));
  fields : AllByRecursion HasFields (map (λ (entry : LogEntry). entry) (take l.entry-index l.entry-items));
}
