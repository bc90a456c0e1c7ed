use Rattle.std.proofs.Common.{map, ap, ◌∙◌, rules}
use Rattle.std.specs.Prelude.{is_none}
use Rattle.std.proofs.lemmas.Fn.{filter_same}
use Rattle.commands.specs.ScenarioLine.{scenario_line}
use Rattle.commands.proofs.Declared.{kept_texts, none_as_told}
use Rattle.commands.proofs.opening.keep_others.Goals as goal

pub returns : goal.returns
returns g c = ap (map (λ v. v.items)) (filter_same _ (λ v. is_none (scenario_line v.items)) _ (λ x b f' k. search (rules, none_as_told)) _ _ c.retain.ensures.filtered) ∙ kept_texts (λ v. v.items) c.args.comments.now.items
