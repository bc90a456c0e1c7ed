use Rattle.std.proofs.Common.{◌≡◌, ◌<◌, ◌+◌, ◌-◌, ℕ, take, length, get_or, [], sym, ap, subst, ◌∙◌, arith, Ok}
use Rattle.swf_text.specs.Text.{LogText, empty, lines}
use Rattle.swf_text.specs.Reading.{with_lines, with_line, Fails, FailsAt}
use Rattle.swf_text.proofs.Bounds.{same_count, step_at, lines_next, lines_fault, lines_done, lines_more}
use Rattle.swf_text.proofs.Texts.{read_none}
use Rattle.swf_text.proofs.Outcomes.{reached}
use Rattle.swf_text.proofs.assembly.add_all.Goals as goal

pub bounds-bounds-place : goal.bounds-bounds-place
bounds-bounds-place g c = omega (arith, same_count c.args.bytes.now c.args.bounds.now c.args.readings.now c.requires.bounds c.requires.readings)

pub returns-in-Err-clause-exact : goal.returns-in-Err-clause-exact
returns-in-Err-clause-exact g c =
    let counts = same_count c.args.bytes.now c.args.bounds.now c.args.readings.now c.requires.bounds c.requires.readings in
    let step = step_at c.args.bytes.now c.args.bounds.now c.args.readings.now c.requires.bounds c.requires.readings c.loop-place.text c.loop-place.place (0, 0) c.index-readings-place.result c.line_at-line.result.now c.loop-place-test.true c.index-readings-place.is c.line_at-line.ensures in
    subst (FailsAt c.in-Err.kind (c.loop-place.place + 1)) c.loop-place.invariant.read
    (lines_fault c.in-Err.kind (c.loop-place.place + 1) c.loop-place.text (lines c.args.bytes.now) c.loop-place.place (omega (arith, counts, c.loop-place-test.true)) (subst (Fails c.in-Err.kind) step c.in-Err.ensures.adds))

pub returns-in-Err-clause-reached : goal.returns-in-Err-clause-reached
returns-in-Err-clause-reached g c =
    let counts = same_count c.args.bytes.now c.args.bounds.now c.args.readings.now c.requires.bounds c.requires.readings in
    let place : c.loop-place.place ≡ c.loop-place.place + 1 - 1 = omega arith in
    reached (lines c.args.bytes.now) (c.loop-place.place + 1) c.loop-place.text (omega arith) (omega (arith, counts, c.loop-place-test.true))
    (ap (λ (k : ℕ). with_lines 1 empty (take k (lines c.args.bytes.now))) (sym place) ∙ c.loop-place.invariant.done)

pub loop-place-init : goal.loop-place-init
loop-place-init g c = record { read = ap (λ (t : LogText). with_lines 1 t (lines c.args.bytes.now)) c.new-text.ensures; done = read_none _ (sym c.new-text.ensures) }

pub loop-place-preserved : goal.loop-place-preserved
loop-place-preserved g c =
    let counts = same_count c.args.bytes.now c.args.bounds.now c.args.readings.now c.requires.bounds c.requires.readings in
    let step = step_at c.args.bytes.now c.args.bounds.now c.args.readings.now c.requires.bounds c.requires.readings c.loop-place.text c.loop-place.place (0, 0) c.index-readings-place.result c.line_at-line.result.now c.loop-place-test.true c.index-readings-place.is c.line_at-line.ensures in
    let within : c.loop-place.place < length (lines c.args.bytes.now) = omega (arith, counts, c.loop-place-test.true) in
    let added : with_line c.loop-place.text (get_or (lines c.args.bytes.now) c.loop-place.place []) ≡ Ok c.add_read.new.self = sym step ∙ c.in_default.ensures.adds in
    record {
      read = sym (lines_next (c.loop-place.place + 1) c.loop-place.text c.add_read.new.self (lines c.args.bytes.now) c.loop-place.place within added) ∙ c.loop-place.invariant.read;
      done = lines_more (lines c.args.bytes.now) c.loop-place.place c.loop-place.text c.add_read.new.self within c.loop-place.invariant.done added;
    }

pub returns-clause-exact : goal.returns-clause-exact
returns-clause-exact g c =
    sym c.loop-place.invariant.read ∙ lines_done (c.loop-place.place + 1) c.loop-place.text (lines c.args.bytes.now) c.loop-place.place (omega (arith, same_count c.args.bytes.now c.args.bounds.now c.args.readings.now c.requires.bounds c.requires.readings)) ∙ ap Ok (sym c.finish.ensures)
