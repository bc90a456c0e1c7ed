use Rattle.std.proofs.Common.{◌≡◌, ◌∙◌, ◌++◌, sym, ap, arith, List, take, drop}
use Rattle.std.proofs.lemmas.List.{take-append-drop}
use Rattle.std.proofs.lemmas.Grind.{flat_map-append}
use Rattle.scenarios.specs.declared.placed.Placed.{Placed}
use Rattle.blocks.specs.Rows.{flat}
use Rattle.cluster_state.proofs.NumberLemmas.{runners-is}
use Rattle.cluster_state.proofs.PastLemmas.{past-most}
use Rattle.cluster_state.proofs.running_set.RunningSet.past.Goals as goal

pub returns-clause-rest : goal.returns-clause-rest
returns-clause-rest g c =
    let blocks = c.self.inside.runners.blocks in
    let n = c.lighter-blocks.result.0 in
    let parts : flat blocks ≡ flat (take n blocks) ++ flat (drop n blocks) = ap flat (sym (take-append-drop n blocks)) ∙ flat_map-append (λ (block : List Placed). block) (take n blocks) (drop n blocks) in
    rw (← c.self.view_is)
    (record {
      passed = flat (take n blocks);
      order = sym (runners-is (flat blocks) c.self.invariant.rises c.self.invariant.once) ∙ parts ∙ ap (λ (rest : List Placed). flat (take n blocks) ++ rest) (sym (c.of-rest.ensures ∙ c.iter_from.ensures));
      hold = c.lighter-blocks.ensures.weight;
    })

pub returns-clause-most : goal.returns-clause-most
returns-clause-most g c =
    let l = c.lighter-blocks in
    rw (← c.self.view_is)
    (λ all.
    let less = l.ensures.less (omega (arith, c.requires, c.from.ensures)) in
    let most = past-most c.self.inside.runners.blocks l.result.0 c.from.result l.result.1 c.of-rest.result c.blocks-filled.ensures.filled l.ensures.weight less l.ensures.most (c.of-rest.ensures ∙ c.iter_from.ensures) (omega (arith, all, c.from.ensures)) in
    omega (arith, most, c.from.ensures))
