use Rattle.std.proofs.Common.{◌≡◌, Ok, ◌+◌, ◌-◌, ◌<◌, ◌≤◌, ℕ, List, length, take, drop, refl, sym, ap, subst, ◌∙◌, arith, false-eqb}
use Rattle.std.proofs.lemmas.Bool.{eqb-true}
use Rattle.swf_text.specs.Text.{LogText, empty, lines}
use Rattle.swf_text.specs.Reading.{with_lines, with_line, FailsAt}
use Rattle.swf_text.proofs.Texts.{at_next, at_fault, at_end, after-shorter, read_more, line_left, read_none}
use Rattle.swf_text.proofs.Outcomes.{reached}
use Rattle.swf_text.proofs.reader.read_all.Goals as goal

pub returns-in-Err-clause-exact : goal.returns-in-Err-clause-exact
returns-in-Err-clause-exact g c =
    let some : 0 < length c.loop-rest.rest.now = omega (arith, false-eqb _ 0 c.loop-rest-test.ensures) in
    subst (FailsAt c.in-Err.kind c.loop-rest.line) c.loop-rest.invariant.read
    (at_fault c.in-Err.kind c.loop-rest.line c.loop-rest.text c.loop-rest.rest.now some c.in-Err.ensures.adds)

pub returns-in-Err-clause-reached : goal.returns-in-Err-clause-reached
returns-in-Err-clause-reached g c =
    let h = c.loop-rest.invariant in
    let some : 0 < length c.loop-rest.rest.now = omega (arith, false-eqb _ 0 c.loop-rest-test.ensures) in
    let within : c.loop-rest.line ≤ length (lines c.args.bytes.now) = omega (arith, line_left (lines c.args.bytes.now) (c.loop-rest.line - 1) c.loop-rest.rest.now some h.left, h.counted) in
    reached (lines c.args.bytes.now) c.loop-rest.line c.loop-rest.text h.counted within h.done

pub loop-rest-init : goal.loop-rest-init
loop-rest-init g c = record { read = ap (λ (t : LogText). with_lines 1 t (lines c.args.bytes.now)) c.new-text.ensures; done = read_none _ (sym c.new-text.ensures); left = refl; counted = omega arith; within = omega arith }

pub loop-rest-preserved : goal.loop-rest-preserved
loop-rest-preserved g c =
    let h = c.loop-rest.invariant in
    let some : 0 < length c.loop-rest.rest.now = omega (arith, false-eqb _ 0 c.loop-rest-test.ensures) in
    let added : with_line c.loop-rest.text _ ≡ Ok c.add_first.new.text = c.in-Ok.ensures.adds in
    let next = at_next c.loop-rest.line c.loop-rest.text c.add_first.new.text c.loop-rest.rest.now some added in
    let more = read_more (lines c.args.bytes.now) (c.loop-rest.line - 1) c.loop-rest.text c.add_first.new.text c.loop-rest.rest.now some h.left h.done added in
    let place : c.loop-rest.line - 1 + 1 ≡ c.loop-rest.line + 1 - 1 = omega (arith, h.counted) in
    record {
      read = ap (λ (t : List ℕ). with_lines (c.loop-rest.line + 1) c.add_first.new.text (lines t)) c.in-Ok.ensures.rest ∙ sym next ∙ h.read;
      done = ap (λ (k : ℕ). with_lines 1 empty (take k (lines c.args.bytes.now))) (sym place) ∙ more.done;
      left = ap (λ (k : ℕ). drop k (lines c.args.bytes.now)) (sym place) ∙ more.left ∙ ap lines (sym c.in-Ok.ensures.rest);
      counted = omega arith;
      within = omega (arith, after-shorter c.loop-rest.rest.now some, ap length c.in-Ok.ensures.rest);
    }

pub returns-clause-exact : goal.returns-clause-exact
returns-clause-exact g c = (sym c.loop-rest.invariant.read ∙ at_end c.loop-rest.line c.loop-rest.text c.loop-rest.rest.now (eqb-true _ 0 (sym c.loop-rest-test.ensures)) ∙ ap Ok (sym c.finish.ensures))
