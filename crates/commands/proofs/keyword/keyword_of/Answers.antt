use Rattle.std.proofs.Common.{List, ℕ, Bor, refl, rules, tests}
use Rattle.std.specs.Str.{bytes_eq}
use Rattle.std.proofs.lemmas.Iterator.{YieldsList-from_slice}
use Rattle.std.proofs.lemmas.Iterator.Search.{find_from_yields_List}
use Rattle.commands.specs.declared.keyword.Keyword.{Keyword}
use Rattle.commands.proofs.LineWords.{found_beside}
use Rattle.commands.proofs.keyword.keyword_of.Goals as goal

pub returns : goal.returns
returns c =
    let first = find_from_yields_List (λ (e : Bor (List ℕ) × Keyword). bytes_eq e.0.now c.args.word.now) _ _ _ c.find.ensures.ran (YieldsList-from_slice c.iter.result.rest.now refl) (λ x b q k. search (rules, tests)) in
    found_beside c.args.word.now c.iter.result.rest.now _ c.iter.ensures.rest (search (first, rules))
