use Rattle.std.proofs.Common.{◌<◌, length, ap, sym, arith, false-eqb, ◌∷◌, []}
use Rattle.std.proofs.lemmas.Bool.{eqb-true}
use Rattle.std.proofs.lemmas.List.{length-append}
use Rattle.swf_text.proofs.Lemmas.{after-shorter}
use Rattle.parallel_reader.proofs.Adding.{taken_more, some_taken}
use Rattle.parallel_reader.proofs.batch.take_lines.Goals.{then-loop-rest-test+else-not-is_empty, else-loop-rest-test}
use Rattle.parallel_reader.proofs.batch.take_lines.Goals as goal

pub loop-rest-preserved : goal.loop-rest-preserved
loop-rest-preserved g c =
    let h = c.loop-rest.invariant in
    let some : 0 < length c.loop-rest.rest.now = omega (arith, false-eqb _ 0 c.if-not-is_empty.ensures) in
    record {
      lines = taken_more c.loop-rest.taken.items c.push.new.self.items c.split_line.result.0 c.loop-rest.rest.now c.split_line.result.1.now c.args.bytes.now some c.split_line.ensures.line c.split_line.ensures.rest c.in_ok-push.ensures.items h.lines;
      count = omega (arith, h.count, ap length c.in_ok-push.ensures.items, length-append c.loop-rest.taken.items (c.split_line.result.0 ∷ []), ap length c.split_line.ensures.rest, after-shorter c.loop-rest.rest.now some);
    }

pub returns-clause-some : goal.returns-clause-some
returns-clause-some g c = λ some.
    elim c.loop-rest-test.branch [
      | then-loop-rest-test+else-not-is_empty w ↦ some_taken c.loop-rest.taken.items c.loop-rest.rest.now c.args.bytes.now (eqb-true _ 0 (sym w.if-not-is_empty.ensures)) c.loop-rest.invariant.lines some
      | else-loop-rest-test w ↦ omega (arith, w.loop-rest-test.false, c.len.ensures)
    ]
