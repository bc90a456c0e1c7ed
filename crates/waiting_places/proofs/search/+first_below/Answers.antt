use Rattle.std.proofs.Common.{◌≡◌, ◌+◌, ◌*◌, ◌/◌, length, max, arith, sym, ◌∙◌, subst, None, Some}
use Rattle.waiting_places.specs.Offers.{fits, holds}
use Rattle.waiting_places.specs.Places.{IsFirst}
use Rattle.waiting_places.specs.Tree.{IsPart}
use Rattle.waiting_places.proofs.First.{in_second}
use Rattle.waiting_places.proofs.Parts.{halves, is_node, none_fits, refused}
use Rattle.waiting_places.proofs.search.+first_below.Goals as goal

pub first_below-returns-then-not-may_fit-clause-first : goal.first_below-returns-then-not-may_fit-clause-first
first_below-returns-then-not-may_fit-clause-first g t c =
    let part = c.args.part.now in
    let there = (is_node (length c.args.nodes.now) part.node part.low part.span c.requires.part).1 in
    let no = refused c.args.search.now.offer c.args.nodes.now part.node c.index-nodes-part.result c.may_fit.result there c.may_fit.ensures c.if-not-may_fit.true in
    none_fits g.T.Waits.size g.T.Waits.estimate c.args.nodes.now c.args.places.now c.requires.tree c.args.search.now.offer part.node part.low part.span (max c.args.search.now.from (64 * part.low)) c.requires.part no (omega arith)

pub first_within-first_below-requires : goal.first_within-first_below-requires
first_within-first_below-requires g t c κs within =
    let half = halves (length c.args.nodes.now) c.args.part.now.node c.args.part.now.low c.args.part.now.span c.requires.part c.if-part-eq1.false in
    let less = half.less in
    (omega arith, (within, (c.requires.tree, half.first)))

pub first_within-first_below-requires-2 : goal.first_within-first_below-requires-2
first_within-first_below-requires-2 g t c κs within =
    let half = halves (length c.args.nodes.now) c.args.part.now.node c.args.part.now.low c.args.part.now.span c.requires.part c.if-part-eq1.false in
    let less = half.less in
    let second = subst (λ n. IsPart n (2 * c.args.part.now.node + 1) (c.args.part.now.low + c.args.part.now.span / 2) (c.args.part.now.span / 2)) (sym c.first_below.ensures.len) half.second in
    (omega arith, (within, (c.first_below.ensures.tree, second)))

pub first_within-returns-in-Some-first_below-clause-first : goal.first_within-returns-in-Some-first_below-clause-first
first_within-returns-in-Some-first_below-clause-first g t c =
    let part = c.args.part.now in
    let from = c.args.search.now.from in
    let test = holds (fits g.T.Waits.size g.T.Waits.estimate c.args.search.now.offer) in
    let half = halves (length c.args.nodes.now) part.node part.low part.span c.requires.part c.if-part-eq1.false in
    let both = half.both in
    let middle = 64 * (part.low + part.span / 2) in
    let end : 64 * (part.low + part.span / 2 + part.span / 2) ≡ 64 * (part.low + part.span) = omega arith in
    let rest = subst (λ n. IsFirst test c.args.places.now (max from middle) n (Some c.in-Some-first_below.place)) end c.in-Some-first_below.ensures.first in
    in_second test c.args.places.now (max from (64 * part.low)) middle (max from middle) (64 * (part.low + part.span)) (Some c.in-Some-first_below.place) (λ p l m. omega arith) (omega arith) c.in_default.ensures.first rest

pub first_within-renew-requires : goal.first_within-renew-requires
first_within-renew-requires g t c =
    let half = halves (length c.args.nodes.now) c.args.part.now.node c.args.part.now.low c.args.part.now.span c.requires.part c.if-part-eq1.false in
    let inner = half.inner in
    let len = c.first_below-2.ensures.len ∙ c.first_below.ensures.len in
    let some = (is_node (length c.args.nodes.now) c.args.part.now.node c.args.part.now.low c.args.part.now.span c.requires.part).0 in
    record { tree = c.first_below-2.ensures.tree; some = some; inner = omega (arith, inner, len) }

pub first_within-returns-clause-first : goal.first_within-returns-clause-first
first_within-returns-clause-first g t c =
    let part = c.args.part.now in
    let from = c.args.search.now.from in
    let test = holds (fits g.T.Waits.size g.T.Waits.estimate c.args.search.now.offer) in
    let half = halves (length c.args.nodes.now) part.node part.low part.span c.requires.part c.if-part-eq1.false in
    let both = half.both in
    let middle = 64 * (part.low + part.span / 2) in
    let end : 64 * (part.low + part.span / 2 + part.span / 2) ≡ 64 * (part.low + part.span) = omega arith in
    let rest = subst (λ n. IsFirst test c.args.places.now (max from middle) n None) end c.in_default-first_below.ensures.first in
    in_second test c.args.places.now (max from (64 * part.low)) middle (max from middle) (64 * (part.low + part.span)) None (λ p l m. omega arith) (omega arith) c.in_default.ensures.first rest
