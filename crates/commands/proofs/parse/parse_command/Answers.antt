use Rattle.std.proofs.Common.{◌≡◌, ◌∙◌, map, ap, ltb, length, false, List, ℕ, arith}
use Rattle.std.proofs.lemmas.Bool.Decides.{nat_tests}
use Rattle.swf_text.specs.Line.{fields}
use Rattle.commands.specs.Commands.{command_of_words}
use Rattle.commands.proofs.FewWords.{command_of_words-take}
use Rattle.commands.proofs.parse.parse_command.Goals as goal

pub returns : goal.returns
returns g c =
    let words = ap (map (λ w. w.now)) c.as_slice.ensures.value ∙ c.words_of.ensures in
    let line = c.command_of_words.ensures ∙ ap command_of_words words ∙ command_of_words-take (fields c.without_returns.result.now) in
    let short : ltb 65536 (length c.args.line.now) ≡ false = grind (arith, nat_tests) in
    rw short (line ∙ ap (λ (l : List ℕ). command_of_words (fields l)) c.without_returns.ensures)
