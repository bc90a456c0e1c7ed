use Rattle.std.proofs.Common.{◌≡◌, ◌∙◌, sym, arith, length}
use Rattle.std.proofs.lemmas.List.{ext_get_or, get_or_default, length-map}
use Rattle.swf_text.specs.declared.line.LineRead.TheVariants as read
use Rattle.swf_text.specs.Line.{line_of}
use Rattle.parallel_reader.specs.Adding.{read_texts}
use Rattle.parallel_reader.proofs.batch.read_lines.Goals as goal

pub returns : goal.returns
returns g c =
    let ls = c.args.lines.now in
    let count : length (read_texts ls) ≡ length ls = length-map ls (λ l. line_of l.now) in
    ext_get_or read.Blank c.par_for_each_mut.new.s (read_texts ls) (omega (arith, count, c.requires)) (λ k lt.
    let at = (c.par_for_each_mut.ensures k read.Blank (omega (arith, count, c.requires, lt))).1 in
    sym at.left ∙ at.call ∙ get_or_default (read_texts ls) k at.argument.now read.Blank (omega (arith, count, lt, c.requires)))
