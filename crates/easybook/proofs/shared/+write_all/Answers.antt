use Rattle.std.proofs.Common.{rules, ◌≡◌, ℕ, ◌+◌, List, ◌∷◌, ◌++◌, map, take, subst}
use Rattle.std.specs.Io.KnownBytes.{Appends}
use Rattle.std.proofs.lemmas.Result.{err_from_is_err_and}
use Rattle.swf_text.proofs.Lemmas.{front_more, writes_then}
use Rattle.easybook.specs.Shared.{head_line, headed}
use Rattle.easybook.proofs.shared.+write_all.Goals as goal

pub returns-in_err-write_one : goal.returns-in_err-write_one
returns-in_err-write_one g t c =
    let p = err_from_is_err_and c.from_residual.result c.from_residual.ensures.1 in
    let first : List ℕ = head_line c.args.number ++ c.in-Some.text.now.items in
    let rest : List ℕ = headed (c.args.number + 1) (map (λ t'. t'.items) c.in-Some.rest.now) in
    let whole : c.args.texts.now ≡ c.in-Some.text.now ∷ c.in-Some.rest.now = search rules in
    let wrote : (n : ℕ) × Appends (g.W.Write.contents c.args.writer.now) (g.W.Write.contents c.write_one.new.writer) (take n first) = subst (λ (l : List ℕ). (n : ℕ) × Appends (g.W.Write.contents c.args.writer.now) (g.W.Write.contents c.write_one.new.writer) (take n (head_line c.args.number ++ l))) c.as_slice.ensures.value c.in_err-write_one.ensures in
    rw (p.1, whole) (front_more _ _ first rest wrote)

pub returns : goal.returns
returns g t c =
    let first : List ℕ = head_line c.args.number ++ c.in-Some.text.now.items in
    let rest : List ℕ = headed (c.args.number + 1) (map (λ t'. t'.items) c.in-Some.rest.now) in
    let whole : c.args.texts.now ≡ c.in-Some.text.now ∷ c.in-Some.rest.now = search rules in
    let wrote : Appends (g.W.Write.contents c.args.writer.now) (g.W.Write.contents c.write_one.new.writer) first = subst (λ (l : List ℕ). Appends (g.W.Write.contents c.args.writer.now) (g.W.Write.contents c.write_one.new.writer) (head_line c.args.number ++ l)) c.as_slice.ensures.value c.in_ok-write_one.ensures in
    rw whole (writes_then c.write_all.result _ _ _ first rest wrote c.write_all.ensures)
