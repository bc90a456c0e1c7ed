use Rattle.std.proofs.Common.{◌≡◌, List, Ok, ◌+◌, ◌-◌, ◌++◌, ◌∷◌, [], length, take, drop, sym, ap, ◌∙◌, arith}
use Rattle.std.proofs.lemmas.Bool.{eqb-true}
use Rattle.std.proofs.lemmas.List.{append-nil, take_rest, take-append-drop}
use Rattle.std.specs.Prelude.{ℤ, false}
use Rattle.swf_text.specs.Entry.{LogEntry, field, is_partial, values}
use Rattle.swf_text.specs.Text.{LogText, lines}
use Rattle.swf_text.specs.Reading.{text_of, with_lines}
use Rattle.parallel_reader.specs.Fronts.{Progress}
use Rattle.parallel_reader.proofs.Fronts.{entries_next, job_adds, no_parts, one_text, same_text, whole_entry}
use Rattle.parallel_reader.proofs.front.LogFront.builder.Goals as goal

pub loop-entry-init : goal.loop-entry-init
loop-entry-init g c =
    let headed = c.self.inside.headed in
    let items = c.self.inside.entries.items in
    let all = c.deref.result.now in
    let value : all ≡ items = c.deref.ensures.value in
    let view = c.self.view_is in
    let head : with_lines 1 c.reserve-refused.new.self (lines c.as_slice.result.now) ≡ text_of c.self.inside.head.items = ap (λ (t : LogText). with_lines 1 t (lines c.as_slice.result.now)) (c.reserve-refused.ensures ∙ c.new-text.ensures) ∙ ap text_of c.as_slice.ensures.value in
    record {
      front = take headed items;
      whole = sym (ap (λ (p : Progress). p.text.entries) view) ∙ sym (take-append-drop headed items) ∙ ap (λ (l : List LogEntry). take headed items ++ l) (ap (drop headed) (sym value) ∙ sym (take_rest all headed));
      read = one_text _ c.add_batches.new.text _ (sym head ∙ c.in-Ok.ensures) (c.self.invariant.head ∙ ap Ok (same_text _ _ _ (sym (ap (λ (p : Progress). p.text.comments) view)) (append-nil (take headed items))));
    }

pub loop-entry-preserved : goal.loop-entry-preserved
loop-entry-preserved g c =
    let h = c.loop-entry.invariant in
    let old = c.loop-entry.text in
    let entry = c.entry-item.result in
    let items = take (length c.deref.result.now - c.self.inside.headed) (drop c.self.inside.headed c.deref.result.now) in
    let main = c.main.result.0 in
    let none : entry.parts ≡ [] = no_parts values c.parts.result.now entry.parts c.parts.ensures (eqb-true _ 0 (sym c.if-not-is_empty.ensures)) in
    let summary : is_partial (field main 11) ≡ false = ap (λ (l : List ℤ). is_partial (field l 11)) c.main.ensures.main ∙ c.main.ensures.entry.summary in
    let added = job_adds old c.add_read.new.self main summary c.in-Ok-add_read.ensures.adds in
    let made : LogEntry = record { main = main; parts = [] } in
    record {
      front = h.front;
      whole = h.whole;
      read =
          added
          ∙ sym (same_text (record old { entries = old.entries ++ made ∷ [] }) c.args.self.now.text.comments (h.front ++ take (c.loop-entry.entry-index + 1) items) (ap (λ (t : LogText). t.comments) h.read)
          (ap (λ (t : LogText). t.entries ++ made ∷ []) h.read ∙ entries_next h.front items c.loop-entry.entry-index entry made (omega (arith, c.loop-entry-test.true)) c.entry-item.is (whole_entry entry main c.main.ensures.main none)));
    }
