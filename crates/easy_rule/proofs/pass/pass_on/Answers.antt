use Rattle.std.proofs.Common.{◌≡◌, ◌+◌, ◌≤◌, [], ◌∷◌, ◌++◌, ap, arith, rules, subst, sym}
use Rattle.cluster_state.specs.State.{ClusterView}
use Rattle.easy_rule.specs.Pass.{less}
use Rattle.easy_rule.specs.Decision.{IsDecision}
use Rattle.easy_rule.proofs.Begun.{begun-done, begun-more, next-shorter, capacity-then}
use Rattle.easy_rule.proofs.CandidateLemmas.{candidate-started, candidate-starts}
use Rattle.easy_rule.proofs.pass.pass_on.Goals as goal

pub candidates-smaller : goal.candidates-smaller
candidates-smaller g c =
    let v : ClusterView = c.candidates.cluster in
    let d : ClusterView = c.start_at-from.new.self in
    let k = c.in-Some.ensures.some in
    let is = candidate-starts v c.next_candidate.new.cluster d c.args.now c.candidates.left c.in-Some.at c.in-Some.job c.in-Some.ensures.same k c.start_at-from.ensures.state in
    next-shorter v.state d.state c.args.now c.in-Some.job c.in-Some.ensures.sound k.found is

pub candidates-preserved : goal.candidates-preserved
candidates-preserved g c =
    let v : ClusterView = c.candidates.cluster in
    let m : ClusterView = c.next_candidate.new.cluster in
    let d : ClusterView = c.start_at-from.new.self in
    let same = c.in-Some.ensures.same in
    let h = c.in-Some.ensures.sound in
    let k = c.in-Some.ensures.some in
    let now = c.args.now in
    let job = c.in-Some.job in
    let is = candidate-starts v m d now c.candidates.left c.in-Some.at job same k c.start_at-from.ensures.state in
    let spare : v.spare ≤ d.spare + 1 = let e = ap (λ (z : ClusterView). z.spare) same in let s = c.start_at-from.ensures.spare in omega (arith, e, s) in
    let items : c.push.new.self.items ≡ c.candidates.chosen.items ++ job ∷ [] = search rules in
    let left : c.left_by-left.result ≡ less c.candidates.left now job = search rules in
    record {
      begun = λ first b. begun-more first v d now c.candidates.chosen.items c.push.new.self.items job h k.found is spare items (c.candidates.invariant.begun first b);
      pass = candidate-started v m d now c.candidates.left c.left_by-left.result c.in-Some.at c.start_at-from.result job same h k is c.start_at-from.ensures.rest left;
      capacity = capacity-then v d now _ _ _ _ job h k.found c.candidates.invariant.capacity is spare c.in-Ok.ensures.len c.push.ensures.capacity;
    }

pub returns-clause-decided : goal.returns-clause-decided
returns-clause-decided g c = λ first b.
    let same = c.in_default.ensures.same in
    let items = c.candidates.chosen.items in
    subst (λ (v : ClusterView). IsDecision first v c.args.now items) (sym same)
    (begun-done first c.candidates.cluster c.args.now items c.in_default.ensures.none (c.candidates.invariant.begun first b))
