use Rattle.std.proofs.Common.{List, Vec, ℕ, [], map, subst, sym, ap, ◌∙◌, refl, Ok, arith}
use Rattle.swf_text.specs.Reading.{text_of}
use Rattle.parallel_reader.specs.Jobs.{Below}
use Rattle.parallel_reader.proofs.Fronts.{front_none, no_text}
use Rattle.parallel_reader.proofs.Jobs.{below_none}
use Rattle.parallel_reader.proofs.front.LogFront.new.Goals as goal

pub invariant_of-result : goal.invariant_of-result
invariant_of-result g c = record {
  below = subst (Below 0) (sym c.new-3.ensures.items) below_none;
  within = omega arith;
  head = ap text_of c.new.ensures.items ∙ no_text ∙ ap (λ (cs : List (Vec ℕ g.row.A.Denot)). Ok (record { comments = map (λ c'. c'.items) cs; entries = [] })) (sym c.new-2.ensures.items);
}

pub returns : goal.returns
returns g c = front_none _ (ap (map (λ c'. c'.items)) c.new-2.ensures.items) c.new-3.ensures.items refl refl
