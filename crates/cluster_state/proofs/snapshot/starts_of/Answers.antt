use Rattle.std.proofs.Common.{◌∙◌, ap, rules, subst, List, arith, map, cond, nat_eq}
use Rattle.std.specs.List.Sorted.{IsPermutation}
use Rattle.std.proofs.lemmas.List.Sorted.{IsNonDecreasingBy-from_sort_by_key}
use Rattle.scenarios.specs.declared.placed.Placed.{Placed}
use Rattle.cluster_state.specs.declared.snapshot.RunningNumber.{RunningNumber}
use Rattle.cluster_state.specs.Ends.{by_end, by_number}
use Rattle.cluster_state.specs.Snapshot.{number_of}
use Rattle.cluster_state.proofs.EndLemmas.{sum_by-by_end}
use Rattle.cluster_state.proofs.RiseLemmas.{numbers-rise}
use Rattle.cluster_state.proofs.NumberLemmas.{sorted-numbers, rises-by_number}
use Rattle.cluster_state.proofs.snapshot.starts_of.Goals as goal

pub returns-clause-numbers : goal.returns-clause-numbers
returns-clause-numbers g c =
    let rs = c.args.running.now.running in
    let runners = by_end rs in
    sorted-numbers runners c.sort_by_key.new.self.items (λ n. (let o = c.requires n in omega (arith, o, sum_by-by_end (λ (r : Placed). cond (nat_eq r.job.number n) 1 0) rs)))
    (subst (λ (ns : List RunningNumber). IsPermutation ns c.sort_by_key.new.self.items) c.in_ok-numbers.ensures.numbers c.in_ok-sort_by_key.ensures.permutation)
    (IsNonDecreasingBy-from_sort_by_key (λ (r : RunningNumber). r.number) c.sort_by_key.new.self.items c.in_ok-sort_by_key.ensures.sorted (λ a r q k. search rules))
    ∙ ap (map number_of) c.in_ok-numbers.ensures.by_number

pub returns-clause-rise : goal.returns-clause-rise
returns-clause-rise g c =
    let rs = c.args.running.now.running in
    let runners = by_end rs in
    let sorted = sorted-numbers runners c.sort_by_key.new.self.items (λ n. (let o = c.requires n in omega (arith, o, sum_by-by_end (λ (r : Placed). cond (nat_eq r.job.number n) 1 0) rs)))
    (subst (λ (ns : List RunningNumber). IsPermutation ns c.sort_by_key.new.self.items) c.in_ok-numbers.ensures.numbers c.in_ok-sort_by_key.ensures.permutation)
    (IsNonDecreasingBy-from_sort_by_key (λ (r : RunningNumber). r.number) c.sort_by_key.new.self.items c.in_ok-sort_by_key.ensures.sorted (λ a r q k. search rules)) in
    rw sorted (numbers-rise (by_number runners) (rises-by_number runners))
