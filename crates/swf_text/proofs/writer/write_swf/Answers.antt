use Rattle.std.proofs.Common.{[], ℕ, List, ap, ◌∙◌, ◌++◌, arith, refl, take, subst}
use Rattle.std.specs.List.{flat_map}
use Rattle.std.proofs.lemmas.Result.{err_from_is_err_and}
use Rattle.std.specs.Io.KnownBytes.{Appends}
use Rattle.swf_text.specs.Entry.{LogEntry, HasFields}
use Rattle.swf_text.specs.Writing.{comment_text, entry_text}
use Rattle.swf_text.proofs.Writings.{texts_stop_last, texts_grow, front_more, all_more, all_read, map_same, map_whole}
use Rattle.swf_text.proofs.Trips.{read_again}
use Rattle.swf_text.proofs.writer.write_swf.Goals as goal

pub returns-in_err-write_comment-clause-text : goal.returns-in_err-write_comment-clause-text
returns-in_err-write_comment-clause-text g c =
    let p = err_from_is_err_and c.from_residual.result c.from_residual.ensures.1 in
    rw (p.1) (front_more _ _ (flat_map comment_text c.args.text.now.comments) (flat_map entry_text c.args.text.now.entries)
    (subst (λ (cs : List (List ℕ)). (n : ℕ) × Appends (g.W.Write.contents c.args.writer.now) (g.W.Write.contents c.write_comment.new.writer) (take n (flat_map comment_text cs))) c.comments-comment-items.ensures
    (texts_stop_last comment_text (λ comment. comment.items) _ _ _ [] c.comments-comment-items.result.now c.loop-comment.comment-index c.comment-item.result _ (omega arith) c.comment-item.is (ap comment_text c.deref.ensures.value) c.loop-comment.invariant c.in_err-write_comment.ensures)))

pub returns-in_err-write_entry-clause-text : goal.returns-in_err-write_entry-clause-text
returns-in_err-write_entry-clause-text g c =
    let p = err_from_is_err_and c.from_residual-in_err-write_entry.result c.from_residual-in_err-write_entry.ensures.1 in
    rw (p.1) (subst (λ (entries : List LogEntry). (n : ℕ) × Appends (g.W.Write.contents c.args.writer.now) (g.W.Write.contents c.write_entry.new.writer) (take n (flat_map comment_text c.args.text.now.comments ++ flat_map entry_text entries))) (map_same c.entries-entry-items.result.now ∙ c.entries-entry-items.ensures.entries)
    (texts_stop_last entry_text (λ (entry : LogEntry). entry) _ _ _ (flat_map comment_text c.args.text.now.comments) c.entries-entry-items.result.now c.loop-entry.entry-index c.entry-item.result _ (omega arith) c.entry-item.is refl c.loop-entry.invariant.outcome c.in_err-write_entry.ensures.text))

pub loop-entry-preserved : goal.loop-entry-preserved
loop-entry-preserved g c = record {
  outcome = texts_grow entry_text (λ (entry : LogEntry). entry) _ _ _ (flat_map comment_text c.args.text.now.comments) c.entries-entry-items.result.now c.loop-entry.entry-index c.entry-item.result _ (omega arith) c.entry-item.is refl c.loop-entry.invariant.outcome c.in_ok-write_entry.ensures.text;
  fields = all_more HasFields (λ (entry : LogEntry). entry) c.entries-entry-items.result.now c.loop-entry.entry-index c.entry-item.result (omega arith) c.loop-entry.invariant.fields (subst HasFields c.entry-item.is c.in_ok-write_entry.ensures.fields);
}

pub returns-clause-text : goal.returns-clause-text
returns-clause-text g c =
    subst (λ (entries : List LogEntry). Appends (g.W.Write.contents c.args.writer.now) (g.W.Write.contents c.loop-entry.writer) (flat_map comment_text c.args.text.now.comments ++ flat_map entry_text entries))
    (map_whole c.entries-entry-items.result.now c.loop-entry.entry-index (omega arith) ∙ c.entries-entry-items.ensures.entries) c.loop-entry.invariant.outcome

pub returns-clause-read_again : goal.returns-clause-read_again
returns-clause-read_again g c = λ comments. read_again c.args.text.now comments
    (all_read HasFields c.entries-entry-items.result.now c.args.text.now.entries c.loop-entry.entry-index (omega arith) c.entries-entry-items.ensures.entries c.loop-entry.invariant.fields)
    c.entries-entry-items.ensures.log
