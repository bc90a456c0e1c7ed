use Rattle.std.proofs.Common.{rules}
use Rattle.std.proofs.lemmas.List.Sorted.{IsNonDecreasingBy-from_sort_by_key, answers_always}
use Rattle.easy_rule.specs.declared.start.Start.{Start}
use Rattle.checkpoints.proofs.Found.{sorted-starts}
use Rattle.checkpoints.proofs.starts.sort_by_number.Goals as goal

pub returns-clause-order : goal.returns-clause-order
returns-clause-order g c = IsNonDecreasingBy-from_sort_by_key (λ (x : Start). x.number) c.sort_by_key.new.self.items c.in_ok-sort_by_key.ensures.sorted (λ a r q k. search rules)

pub returns-clause-starts : goal.returns-clause-starts
returns-clause-starts g c = sorted-starts c.args.starts.now.items c.sort_by_key.new.self.items (c.in_ok-sort_by_key.ensures.stable (λ (x : Start). x.number) (answers_always _ _ _ (λ f a r h k. search rules)))
