use Rattle.std.proofs.Common.{◌∙◌, ap, map}
use Rattle.swf_text.specs.Line.{line_of}
use Rattle.swf_text.specs.Bounds.{bytes_at}
use Rattle.swf_text.proofs.Lemmas.{readings_at}
use Rattle.check_logs.proofs.pieces.read_by_lines.Goals as goal

pub assemble-requires-clause-readings : goal.assemble-requires-clause-readings
assemble-requires-clause-readings g c =
    c.deref-3.ensures.value ∙ c.in_ok-readings.ensures ∙ ap (map (λ bound. line_of (bytes_at c.args.bytes.now bound))) c.deref.ensures.value
    ∙ readings_at c.args.bytes.now c.in_ok-bounds.bounds.items c.in_ok-bounds.ensures.lines
