use Rattle.std.proofs.Common.{ℕ, ℤ, List, take, subst, ap, ◌∙◌, arith, ◌++◌}
use Rattle.std.specs.List.{flat_map}
use Rattle.std.proofs.lemmas.Result.{err_from_is_err_and}
use Rattle.std.specs.Io.KnownBytes.{Appends}
use Rattle.swf_text.specs.declared.line.Fields.{Fields}
use Rattle.swf_text.specs.Entry.{AreFields, values}
use Rattle.swf_text.specs.Writing.{line_text}
use Rattle.swf_text.proofs.Writings.{front_more, texts_stop_last, texts_grow, all_more}
use Rattle.swf_text.proofs.writer.write_entry.Goals as goal

pub returns-in_err-write_bytes-clause-text : goal.returns-in_err-write_bytes-clause-text
returns-in_err-write_bytes-clause-text g c =
    let p = err_from_is_err_and c.from_residual.result c.from_residual.ensures.1 in
    rw (p.1) (front_more _ _ (line_text c.args.entry.now.main) (flat_map line_text c.args.entry.now.parts) (subst (λ (l : List ℕ). (n : ℕ) × Appends (g.W.Write.contents c.args.writer.now) (g.W.Write.contents c.write_bytes.new.writer) (take n l)) (c.as_slice.ensures.value ∙ c.line_text.ensures.text ∙ ap line_text c.main.ensures.main) c.in_err-write_bytes.ensures))

pub returns-in_err-write_bytes-2-clause-text : goal.returns-in_err-write_bytes-2-clause-text
returns-in_err-write_bytes-2-clause-text g c =
    let p = err_from_is_err_and c.from_residual-in_err-write_bytes-2.result c.from_residual-in_err-write_bytes-2.ensures.1 in
    rw (p.1) (subst (λ (ps : List (List ℤ)). (n : ℕ) × Appends (g.W.Write.contents c.args.writer.now) (g.W.Write.contents c.write_bytes-in-loop-part.new.writer) (take n (line_text c.args.entry.now.main ++ flat_map line_text ps))) c.parts-part-items.ensures
    (texts_stop_last line_text values _ _ _ (line_text c.args.entry.now.main) c.parts-part-items.result.now c.loop-part.part-index c.part-item.result _ (omega arith) c.part-item.is (c.as_slice-in-loop-part.ensures.value ∙ c.line_text-in-loop-part.ensures.text) c.loop-part.invariant.outcome c.in_err-write_bytes-2.ensures))

pub loop-part-preserved : goal.loop-part-preserved
loop-part-preserved g c = record {
  outcome = texts_grow line_text values _ _ _ (line_text c.args.entry.now.main) c.parts-part-items.result.now c.loop-part.part-index c.part-item.result _ (omega arith) c.part-item.is (c.as_slice-in-loop-part.ensures.value ∙ c.line_text-in-loop-part.ensures.text) c.loop-part.invariant.outcome c.in_ok-write_bytes-2.ensures;
  main = c.loop-part.invariant.main;
  parts = all_more AreFields values c.parts-part-items.result.now c.loop-part.part-index c.part-item.result (omega arith) c.loop-part.invariant.parts (subst (λ (f : Fields). AreFields (values f)) c.part-item.is c.line_text-in-loop-part.ensures.fields);
}
