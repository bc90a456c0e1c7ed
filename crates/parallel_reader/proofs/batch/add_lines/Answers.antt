use Rattle.std.proofs.Common.{◌<◌, length, sym, subst, ◌∙◌, arith}
use Rattle.std.proofs.lemmas.List.{length-map}
use Rattle.swf_text.specs.Reading.{Fails}
use Rattle.parallel_reader.specs.Adding.{texts}
use Rattle.parallel_reader.proofs.Adding.{step_at, line_added, line_refused, none_added}
use Rattle.parallel_reader.proofs.batch.add_lines.Goals as goal

pub loop-place-init : goal.loop-place-init
loop-place-init g c = none_added c.args.first c.args.text.now

pub returns-in-Err : goal.returns-in-Err
returns-in-Err g c =
    let ls = c.args.lines.now in
    let within : c.loop-place.place < length (texts ls) = omega (arith, c.loop-place-test.true, length-map ls (λ l. l.now)) in
    let step = step_at c.loop-place.text ls c.args.readings.now c.loop-place.place _ c.index-readings-place.result c.loop-place-test.true c.requires.readings c.index-readings-place.is in
    line_refused c.in-Err.kind c.args.first c.args.text.now c.loop-place.text (texts ls) c.loop-place.place within c.loop-place.invariant (subst (Fails c.in-Err.kind) step c.in-Err.ensures.adds)

pub loop-place-preserved : goal.loop-place-preserved
loop-place-preserved g c =
    let ls = c.args.lines.now in
    let within : c.loop-place.place < length (texts ls) = omega (arith, c.loop-place-test.true, length-map ls (λ l. l.now)) in
    let step = step_at c.loop-place.text ls c.args.readings.now c.loop-place.place _ c.index-readings-place.result c.loop-place-test.true c.requires.readings c.index-readings-place.is in
    line_added c.args.first c.args.text.now c.loop-place.text c.add_read.new.self (texts ls) c.loop-place.place within c.loop-place.invariant (sym step ∙ c.in_default.ensures.adds)
