use Rattle.std.proofs.Common.{rules, ◌≡◌, ℕ, List, ◌++◌, take, codes, subst}
use Rattle.std.specs.Fmt.{decimal}
use Rattle.std.specs.Io.KnownBytes.{Appends}
use Rattle.std.proofs.KnownBytes.{Appends-trans}
use Rattle.std.proofs.lemmas.Result.{err_from_is_err_and}
use Rattle.swf_text.proofs.Lemmas.{front_more, front_after, writes_then}
use Rattle.easybook.proofs.shared.write_head.Goals as goal

pub returns-in_err-write_bytes : goal.returns-in_err-write_bytes
returns-in_err-write_bytes g c =
    let p = err_from_is_err_and c.from_residual.result c.from_residual.ensures.1 in
    rw (p.1) (front_more _ _ (codes "== " ++ decimal c.args.number) (codes "\n") (front_more _ _ (codes "== ") (decimal c.args.number) c.in_err-write_bytes.ensures))

pub returns-in_err-write_bytes-2 : goal.returns-in_err-write_bytes-2
returns-in_err-write_bytes-2 g c =
    let p = err_from_is_err_and c.from_residual-in_err-write_bytes-2.result c.from_residual-in_err-write_bytes-2.ensures.1 in
    let digits : c.as_bytes.result.now ≡ decimal c.args.number = search rules in
    let part : (n : ℕ) × Appends (g.W.Write.contents c.write_bytes.new.writer) (g.W.Write.contents c.write_bytes-2.new.writer) (take n (decimal c.args.number)) = subst (λ (l : List ℕ). (n : ℕ) × Appends (g.W.Write.contents c.write_bytes.new.writer) (g.W.Write.contents c.write_bytes-2.new.writer) (take n l)) digits c.in_err-write_bytes-2.ensures in
    rw (p.1) (front_more _ _ (codes "== " ++ decimal c.args.number) (codes "\n") (front_after _ _ _ (codes "== ") (decimal c.args.number) c.in_ok-write_bytes.ensures part))

pub returns : goal.returns
returns g c =
    let digits : c.as_bytes.result.now ≡ decimal c.args.number = search rules in
    let second : Appends (g.W.Write.contents c.write_bytes.new.writer) (g.W.Write.contents c.write_bytes-2.new.writer) (decimal c.args.number) = subst (λ (l : List ℕ). Appends (g.W.Write.contents c.write_bytes.new.writer) (g.W.Write.contents c.write_bytes-2.new.writer) l) digits c.in_ok-write_bytes-2.ensures in
    writes_then c.write_bytes-3.result _ _ _ (codes "== " ++ decimal c.args.number) (codes "\n") (Appends-trans _ _ _ (codes "== ") (decimal c.args.number) c.in_ok-write_bytes.ensures second) c.write_bytes-3.ensures
