use Rattle.std.proofs.Common.{◌≡◌, ℕ, List, take, ap, subst, ◌∙◌}
use Rattle.std.specs.Prelude.{count_by}
use Rattle.std.specs.Io.KnownBytes.{Appends}
use Rattle.std.proofs.lemmas.Result.{err_from_is_err_and}
use Rattle.swf_text.specs.Text.{is_feed}
use Rattle.swf_text.proofs.Lemmas.{front_more, writes_then}
use Rattle.scripts.specs.Lines.{saved_line}
use Rattle.scripts.proofs.reply.write_saved.Goals as goal

pub returns-in_err-write_bytes : goal.returns-in_err-write_bytes
returns-in_err-write_bytes g c =
    let p = err_from_is_err_and c.from_residual.result c.from_residual.ensures.1 in
    let line : c.as_slice.result.now ≡ saved_line (count_by is_feed c.args.text.now) = c.as_slice.ensures.value ∙ (c.line.ensures ∙ ap saved_line c.feeds.ensures) in
    let part : (n : ℕ) × Appends (g.W.Write.contents c.args.writer.now) (g.W.Write.contents c.write_bytes.new.writer) (take n c.as_slice.result.now) = c.in_err-write_bytes.ensures in
    rw (p.1) (front_more _ _ (saved_line (count_by is_feed c.args.text.now)) c.args.text.now (subst (λ (l : List ℕ). (n : ℕ) × Appends (g.W.Write.contents c.args.writer.now) (g.W.Write.contents c.write_bytes.new.writer) (take n l)) line part))

pub returns : goal.returns
returns g c =
    let line : c.as_slice.result.now ≡ saved_line (count_by is_feed c.args.text.now) = c.as_slice.ensures.value ∙ (c.line.ensures ∙ ap saved_line c.feeds.ensures) in
    let first : Appends (g.W.Write.contents c.args.writer.now) (g.W.Write.contents c.write_bytes.new.writer) c.as_slice.result.now = c.in_ok-write_bytes.ensures in
    writes_then c.write_bytes-2.result _ _ _ (saved_line (count_by is_feed c.args.text.now)) c.args.text.now (subst (λ (l : List ℕ). Appends (g.W.Write.contents c.args.writer.now) (g.W.Write.contents c.write_bytes.new.writer) l) line first) c.write_bytes-2.ensures
