use Rattle.std.proofs.Common.{rules, ◌≡◌, ◌++◌, ◌∷◌, [], refl, sym, ap, arith}
use Rattle.std.specs.Prelude.{None, Err}
use Rattle.scenarios.specs.ScenarioList.{add_fault}
use Rattle.version_book.proofs.Stepping.{does-as, seen-as, none-outcome, shown-capacity, sound-listing}
use Rattle.version_book.specs.Answers.{add_answer, refusal_of}
use Rattle.version_book.proofs.SessionSteps.{add-accepted, add-outcome, match-outcome}
use Rattle.version_book.proofs.state.State.add.Goals as goal

pub invariant_of-self : goal.invariant_of-self
invariant_of-self g c = (sound-listing _ _ c.in_err-id.ensures.kept c.self.invariant.0, c.self.invariant.1, c.self.invariant.2)

pub returns-in_err-id : goal.returns-in_err-id
returns-in_err-id g c =
    let outcome : c.from_residual.result ≡ Err (refusal_of c.in_err-id.field-0.0) = search rules in
    does-as _ _ c.self.view_is (ap add_answer (sym outcome)) (add-outcome _ c.args.name.now c.args.scenario c.in_err-id.field-0.0 c.add.new.self _ c.self.invariant.0 c.in_err-id.ensures.kept refl (match-outcome _ _ _ _ c.in_err-id.ensures.answer))

pub push_reserved-requires : goal.push_reserved-requires
push_reserved-requires g c =
    let below = shown-capacity c.self.inside.shown.items c.args.name.now c.self.inside.scenarios c.self.invariant.0.listed (none-outcome _ _ c.in_ok-id.ensures.answer) in
    omega (arith, below, c.self.invariant.1, c.self.inside.shown.ok)

pub invariant_of-self-2 : goal.invariant_of-self-2
invariant_of-self-2 g c =
    let none : add_fault c.args.name.now c.self.inside.scenarios ≡ None = none-outcome _ _ c.in_ok-id.ensures.answer in
    let shown : c.push_reserved.new.self.items ≡ c.self.inside.shown.items ++ record { id = c.in_ok-id.id; scenario = c.args.scenario; published = None; mark = None } ∷ [] = search rules in
    ((add-accepted _ c.args.name.now c.args.scenario _ _ _ c.self.invariant.0 none c.in_ok-id.ensures.id c.in_ok-id.ensures.added shown).sound, omega (arith, c.self.invariant.1, c.push_reserved.ensures.capacity), c.self.invariant.2)

pub returns : goal.returns
returns g c =
    let none : add_fault c.args.name.now c.self.inside.scenarios ≡ None = none-outcome _ _ c.in_ok-id.ensures.answer in
    let shown : c.push_reserved.new.self.items ≡ c.self.inside.shown.items ++ record { id = c.in_ok-id.id; scenario = c.args.scenario; published = None; mark = None } ∷ [] = search rules in
    seen-as c.self.view_is (add-accepted _ c.args.name.now c.args.scenario _ _ _ c.self.invariant.0 none c.in_ok-id.ensures.id c.in_ok-id.ensures.added shown)
