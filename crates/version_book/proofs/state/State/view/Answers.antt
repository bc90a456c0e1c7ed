use Rattle.std.proofs.Common.{rules, ◌≡◌, ◌≤◌, find, ap, arith}
use Rattle.std.specs.Prelude.{None, Some}
use Rattle.tasks.specs.Published.{PublishedView}
use Rattle.version_book.specs.Lookups.{has_id}
use Rattle.version_book.proofs.Stepping.{still-as}
use Rattle.version_book.proofs.SessionSteps.{view-missing, view-empty, view-behind, view-shown, view-is}
use Rattle.version_book.proofs.state.State.view.Goals as goal

pub returns-in_default-clause-answer : goal.returns-in_default-clause-answer
returns-in_default-clause-answer g c =
    let none : find (has_id c.args.id) c.self.inside.shown.items ≡ None = search rules in
    still-as c.self.view_is (view-missing _ c.args.id c.args.seen c.self.invariant.0 none)

pub returns-in_default-published-clause-answer : goal.returns-in_default-published-clause-answer
returns-in_default-published-clause-answer g c =
    let some : find (has_id c.args.id) c.self.inside.shown.items ≡ Some c.in-Some.shown.now = search rules in
    let none : c.in-Some.shown.now.published ≡ None = search rules in
    still-as c.self.view_is (view-empty _ c.args.id c.args.seen _ c.self.invariant.0 some none)

pub returns-then-found-seen-clause-answer : goal.returns-then-found-seen-clause-answer
returns-then-found-seen-clause-answer g c =
    let some : find (has_id c.args.id) c.self.inside.shown.items ≡ Some c.in-Some.shown.now = search rules in
    let published : c.in-Some.shown.now.published ≡ Some c.in-Some-published.published.now = search rules in
    still-as c.self.view_is (view-behind _ c.args.id c.args.seen _ _ _ c.self.invariant.0 some published c.version-found.ensures c.if-found-seen.true)

pub returns-clause-answer : goal.returns-clause-answer
returns-clause-answer g c =
    let some : find (has_id c.args.id) c.self.inside.shown.items ≡ Some c.in-Some.shown.now = search rules in
    let published : c.in-Some.shown.now.published ≡ Some c.in-Some-published.published.now = search rules in
    let found : c.in_ok-copy.field-0.version ≡ c.in-Some-published.published.now.version = ap (λ (p : PublishedView). p.version) c.in_ok-copy.ensures in
    let le : c.args.seen ≤ c.in_ok-copy.field-0.version = omega (arith, found, c.version-found.ensures, c.if-found-seen.false) in
    still-as c.self.view_is (view-shown _ c.args.id c.args.seen _ _ _ c.self.invariant.0 some published found le)

pub returns-clause-shown : goal.returns-clause-shown
returns-clause-shown g c =
    let some : find (has_id c.args.id) c.self.inside.shown.items ≡ Some c.in-Some.shown.now = search rules in
    let published : c.in-Some.shown.now.published ≡ Some c.in-Some-published.published.now = search rules in
    let found : c.in_ok-copy.field-0.version ≡ c.in-Some-published.published.now.version = ap (λ (p : PublishedView). p.version) c.in_ok-copy.ensures in
    let le : c.args.seen ≤ c.in_ok-copy.field-0.version = omega (arith, found, c.version-found.ensures, c.if-found-seen.false) in
    view-is c.args.id c.args.seen _ _ _ c.self.view_is c.self.invariant.0 some published c.in_ok-copy.ensures le
