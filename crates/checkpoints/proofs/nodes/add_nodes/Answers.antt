use Rattle.std.proofs.Common.{◌≡◌, ◌+◌, ℕ, Option, [], ◌∷◌, ◌++◌, List, map, drop, sym, ◌∙◌, subst, Bor, None, arith}
use Rattle.std.specs.List.{slice_range}
use Rattle.std.proofs.lemmas.List.{length-map, drop_all}
use Rattle.metrics.specs.Part.{PartSums}
use Rattle.checkpoints.specs.Nodes.{NodeView, node_parts, ArePartsFrom}
use Rattle.checkpoints.proofs.Levels.{Adding, adding-first, adding-more, adding-done}
use Rattle.checkpoints.proofs.Reused.{from-last, between-few, next-parts}
use Rattle.checkpoints.proofs.nodes.add_nodes.Goals as goal

abbrev now : Bor PartSums → PartSums
now b = b.now

pub nodes-init : goal.nodes-init
nodes-init g c = record { within = omega arith; nodes = adding-first _ c.args.so_far.now.nodes.items; places = λ olds h. h }

pub of-requires : goal.of-requires
of-requires g c = between-few now c.args.parts.now c.nodes.at (c.nodes.at + c.min.result) c.requires

pub nodes-preserved : goal.nodes-preserved
nodes-preserved g c =
    let all = c.args.parts.now in
    let gs : List NodeView = c.nodes.so_far.nodes.items in
    let more = adding-more (map now all) (map now (drop c.nodes.at all)) (map now (slice_range all c.nodes.at (c.nodes.at + c.min.result))) (map now (drop (c.nodes.at + c.min.result) all)) c.args.so_far.now.nodes.items gs c.in_ok-of.field-0 c.nodes.invariant.nodes
    (next-parts now all c.nodes.at (c.nodes.at + c.min.result) (omega arith))
    (length-map (slice_range all c.nodes.at (c.nodes.at + c.min.result)) now ∙ sym c.in_ok-of.ensures.count) c.in_ok-of.ensures.part in
    let hs : List NodeView = c.push.new.self.items in
    let ps : List (Option ℕ) = c.push-in-nodes.new.self.items in
    let was : List (Option ℕ) = c.nodes.so_far.places.items in
    let pushed : hs ≡ gs ++ c.in_ok-of.field-0 ∷ [] = c.in_ok-push.ensures.items in
    let noted : ps ≡ was ++ None ∷ [] = c.in_ok-push-2.ensures.items in
    record {
      within = omega (arith, c.min.ensures);
      nodes = subst (λ (ks : List NodeView). Adding (map now all) (map now (drop (c.nodes.at + c.min.result) all)) c.args.so_far.now.nodes.items ks) (sym pushed) more;
      places = λ olds h.
          let last = from-last olds gs was c.in_ok-of.field-0 None (c.nodes.invariant.places olds h) tt in
          subst (λ (qs : List (Option ℕ)). ArePartsFrom olds (node_parts hs) qs) (sym noted) (subst (λ (ks : List NodeView). ArePartsFrom olds (node_parts ks) (was ++ None ∷ [])) (sym pushed) last);
    }

pub returns-clause-nodes : goal.returns-clause-nodes
returns-clause-nodes g c vs h =
    let all = c.args.parts.now in
    let gs : List NodeView = c.nodes.so_far.nodes.items in
    adding-done (map now all) c.args.so_far.now.nodes.items gs (subst (λ (rest : List (Bor PartSums)). Adding (map now all) (map now rest) c.args.so_far.now.nodes.items gs) (drop_all c.nodes.at all c.nodes-test.false) c.nodes.invariant.nodes) vs h
