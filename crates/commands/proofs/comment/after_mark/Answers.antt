use Rattle.std.proofs.Common.{◌∙◌, map, ap, take, drop, length, List, ℕ, ◌-◌, arith}
use Rattle.std.proofs.lemmas.List.{take_all, length-drop}
use Rattle.swf_text.specs.Line.{fields}
use Rattle.commands.specs.ScenarioLine.{line_of_words}
use Rattle.commands.proofs.FewWords.{line_of_words-take}
use Rattle.commands.proofs.comment.after_mark.Goals as goal

pub returns-then-starts_with : goal.returns-then-starts_with
returns-then-starts_with c =
    let words = ap (map (λ w. w.now)) c.as_slice.ensures.value ∙ c.words_of.ensures in
    let rest = take_all (length c.args.bytes.now - 9) (drop 9 c.args.bytes.now) (omega (arith, length-drop 9 c.args.bytes.now)) in
    let line = c.line_of_words.ensures ∙ ap line_of_words words in
    rw (← c.if-starts_with.ensures.value) (line ∙ ap (λ (l : List ℕ). line_of_words (take 20 (fields l))) rest ∙ line_of_words-take (fields (drop 9 c.args.bytes.now)))
