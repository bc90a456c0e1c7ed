use Rattle.std.proofs.Common.{◌+◌, ◌<◌, [], map, length, length-set, sym, ap, ◌∙◌, arith}
use Rattle.std.proofs.lemmas.List.{length-map, get_or-map}
use Rattle.commands.specs.Words.{entry_value}
use Rattle.commands.proofs.EntryWords.{values_step, values_stop, values_end}
use Rattle.commands.proofs.values.entry_values.Goals as goal

pub returns-in-None : goal.returns-in-None
returns-in-None c =
    let words = c.args.words.now in
    let count = length-map words (λ w. w.now) ∙ c.requires in
    let lt : c.loop-place.place < length words = omega (arith, c.requires) in
    values_stop (map (λ w. w.now) words) c.loop-place.values c.loop-place.place count (omega arith) c.loop-place.invariant.read
    (ap (entry_value (c.loop-place.place + 1)) (get_or-map (λ w. w.now) words c.loop-place.place _ [] lt) ∙ sym c.in-None.ensures)

pub loop-place-preserved : goal.loop-place-preserved
loop-place-preserved c =
    let words = c.args.words.now in
    let count = length-map words (λ w. w.now) ∙ c.requires in
    let lt : c.loop-place.place < length words = omega (arith, c.requires) in
    record {
      sized = length-set c.loop-place.values c.loop-place.place c.in-Some.value ∙ c.loop-place.invariant.sized;
      read = values_step (map (λ w. w.now) words) c.loop-place.values c.loop-place.place c.in-Some.value count c.loop-place.invariant.sized (omega arith) c.loop-place.invariant.read
          (ap (entry_value (c.loop-place.place + 1)) (get_or-map (λ w. w.now) words c.loop-place.place _ [] lt) ∙ sym c.in-Some.ensures);
    }

pub returns : goal.returns
returns c = values_end (map (λ w. w.now) c.args.words.now) c.loop-place.values c.loop-place.place (length-map c.args.words.now (λ w. w.now) ∙ c.requires) c.loop-place.invariant.sized (omega arith) c.loop-place.invariant.read
