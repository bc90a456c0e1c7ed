use Rattle.std.proofs.Common.{◌∙◌, arith, pos, sym}
use Rattle.std.proofs.lemmas.List.{get_or-map}
use Rattle.swf_text.specs.Packed.{value_of}
use Rattle.swf_text.proofs.packed.PackedLine.value.Goals as goal

pub returns : goal.returns
returns c = c.value_of.ensures ∙ sym (get_or-map value_of c.args.self.now.0 c.args.index 0 (pos 0) (omega (arith, c.requires)))
