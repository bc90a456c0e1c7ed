use Rattle.std.proofs.Common.{◌++◌, take, map}
use Rattle.std.specs.List.{flat_map, AllByRecursion}
use Rattle.std.specs.Io.KnownBytes.{Appends}
use Rattle.swf_text.specs.Entry.{AreFields, values}
use Rattle.swf_text.specs.Writing.{line_text}
use Rattle.swf_text.proofs.writer.write_entry.Given as goal

abbrev pub invariant-loop-part : goal.invariant-loop-part
invariant-loop-part g l = record {
  outcome : Appends (g.W.Write.contents l.fn.writer) (g.W.Write.contents l.writer) (line_text l.entry.main ++ flat_map line_text (map values (take l.part-index l.part-items)));
  main : AreFields l.entry.main;
  parts : AllByRecursion AreFields (map values (take l.part-index l.part-items));
}
