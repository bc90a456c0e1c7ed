use Rattle.std.proofs.Common.{◌≡◌, ℕ, ◌-◌, ◌++◌, List, length, take, drop, ap, ◌∙◌, arith}
use Rattle.std.proofs.lemmas.List.{take_all, length-drop}
use Rattle.std.specs.List.{after_first}
use Rattle.swf_text.specs.Text.{lines, is_feed}
use Rattle.parallel_reader.proofs.Jobs.{whole_lines}
use Rattle.parallel_reader.proofs.portion.split_portion.Goals as goal

pub returns-clause-lines : goal.returns-clause-lines
returns-clause-lines c =
    let bytes : List ℕ = c.args.bytes.now in
    let behind : take (length bytes - 16384) (drop 16384 bytes) ≡ drop 16384 bytes = take_all (length bytes - 16384) (drop 16384 bytes) (omega (arith, length-drop 16384 bytes)) in
    let after : c.split_line.result.1.now ≡ after_first is_feed (drop 16384 bytes) = c.split_line.ensures.rest ∙ ap (after_first is_feed) behind in
    ap (λ (l : List ℕ). lines l ++ lines c.split_at.result.1.now) c.split_at.ensures.front
    ∙ ap (λ (l : List ℕ). lines (take (length bytes - length c.split_line.result.1.now) bytes) ++ lines l) c.split_at.ensures.back
    ∙ whole_lines bytes c.split_line.result.1.now 16384 after
