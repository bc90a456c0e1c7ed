use Rattle.std.proofs.lemmas.Result.{err_from_is_err_and}
use Rattle.swf_text.proofs.Lemmas.{front_more, writes_then}
use Rattle.easybook.specs.Shared.{head_line}
use Rattle.easybook.proofs.shared.write_one.Goals as goal

pub returns-in_err-write_head : goal.returns-in_err-write_head
returns-in_err-write_head g c =
    let p = err_from_is_err_and c.from_residual.result c.from_residual.ensures.1 in
    rw (p.1) (front_more _ _ (head_line c.args.number) c.args.text.now c.in_err-write_head.ensures)

pub returns : goal.returns
returns g c = writes_then c.write_bytes.result _ _ _ (head_line c.args.number) c.args.text.now c.in_ok-write_head.ensures c.write_bytes.ensures
