use Rattle.std.proofs.Common.{ap, ◌∙◌, sym, subst, take, All}
use Rattle.std.proofs.lemmas.List.{take_all}
use Rattle.std.proofs.lemmas.List.Elements.{All-nil}
use Rattle.metrics.specs.declared.totals.Totals.{Totals}
use Rattle.metrics.specs.Placed.{IsPlaced}
use Rattle.metrics.specs.Totals.{totals, joined, FitsJoined}
use Rattle.metrics.proofs.Tallies.{placed_more, totals_more, totals_more_fit}
use Rattle.metrics.proofs.totals.Totals.of_jobs.Goals as goal

pub loop-each-init : goal.loop-each-init
loop-each-init c = record { each = All-nil IsPlaced; sums = c.none-sums.ensures }

pub plus-sums-requires : goal.plus-sums-requires
plus-sums-requires c =
    let P : Totals → Type 0 = λ t. FitsJoined t c.of_job.result in
    let Q : Totals → Type 0 = λ t. FitsJoined (totals (take c.loop-each.each-index c.args.placed.now)) t in
    subst P (sym c.loop-each.invariant.sums) (subst Q (sym c.of_job.ensures.value) (totals_more_fit c.args.placed.now c.loop-each.each-index c.each-item.result c.requires.few c.loop-each-test.true c.loop-each.invariant.each c.of_job.ensures.limits))

pub loop-each-preserved : goal.loop-each-preserved
loop-each-preserved c = record {
  each = placed_more c.args.placed.now c.loop-each.each-index c.each-item.result c.loop-each-test.true c.each-item.is c.loop-each.invariant.each c.of_job.ensures.limits;
  sums = c.plus-sums.ensures ∙ (λ i. joined (c.loop-each.invariant.sums i) (c.of_job.ensures.value i)) ∙ sym (totals_more c.args.placed.now c.loop-each.each-index c.each-item.result c.loop-each-test.true c.each-item.is);
}

pub returns : goal.returns
returns c =
    let all = take_all c.loop-each.each-index c.args.placed.now c.loop-each-test.false in
    record { value = c.loop-each.invariant.sums ∙ ap totals all; limits = record { each = subst (λ ps. All IsPlaced ps) all c.loop-each.invariant.each; few = c.requires.few } }
