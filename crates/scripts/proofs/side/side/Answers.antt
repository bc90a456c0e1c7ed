use Rattle.std.proofs.Common.{map, ◌∙◌, ap, inl, inr}
use Rattle.std.specs.Prelude.{Some}
use Rattle.report.specs.Side.{side_line, side_text}
use Rattle.version_book.specs.Reading.{moment_of}
use Rattle.scripts.proofs.Sides.{side-text}
use Rattle.scripts.proofs.side.side.Goals as goal

pub returns-in-Ok-side_text : goal.returns-in-Ok-side_text
returns-in-Ok-side_text g c =
    let lines = c.in-Ok-side_lines.lines.items in
    (Some (moment_of c.in-Ok.reading), c.current.new.self, c.in-Ok.ensures, inl (map side_line lines, c.in-Ok-side_lines.ensures.lines, inl (c.in-Ok-side_text.ensures ∙ (ap side_text c.as_slice.ensures.value ∙ side-text lines))))

pub returns-in-Ok-side_lines : goal.returns-in-Ok-side_lines
returns-in-Ok-side_lines g c =
    let lines = c.in-Ok-side_lines.lines.items in
    (Some (moment_of c.in-Ok.reading), c.current.new.self, c.in-Ok.ensures, inl (map side_line lines, c.in-Ok-side_lines.ensures.lines, inr c.refused-in-Err-side_text.ensures))
