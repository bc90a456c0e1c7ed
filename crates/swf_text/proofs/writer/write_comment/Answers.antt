use Rattle.std.proofs.Common.{[], ◌∷◌}
use Rattle.std.proofs.lemmas.Result.{err_from_is_err_and}
use Rattle.swf_text.proofs.Writings.{front_more, writes_then}
use Rattle.swf_text.proofs.writer.write_comment.Goals as goal

pub returns-in_err-write_bytes : goal.returns-in_err-write_bytes
returns-in_err-write_bytes g c = let p = err_from_is_err_and c.from_residual.result c.from_residual.ensures.1 in rw (p.1) (front_more _ _ c.args.comment.now (10 ∷ []) c.in_err-write_bytes.ensures)

pub returns : goal.returns
returns g c = writes_then c.write_bytes-2.result _ _ _ c.args.comment.now (10 ∷ []) c.in_ok-write_bytes.ensures c.write_bytes-2.ensures
