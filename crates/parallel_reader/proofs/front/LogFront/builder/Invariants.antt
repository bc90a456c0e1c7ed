use Rattle.std.proofs.Common.{◌≡◌, List, ◌++◌, take}
use Rattle.swf_text.specs.Entry.{LogEntry}
use Rattle.parallel_reader.proofs.front.LogFront.builder.Given as goal

abbrev pub invariant-loop-entry : goal.invariant-loop-entry
invariant-loop-entry g l = record {
  front : List LogEntry;
  whole : l.self.text.entries ≡ front ++ l.entry-items;
  read : l.text ≡ record { comments = l.self.text.comments; entries = front ++ take l.entry-index l.entry-items };
}
