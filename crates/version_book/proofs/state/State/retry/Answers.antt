use Rattle.std.proofs.Common.{◌≡◌, find, not, sym, ◌∙◌, ap, arith}
use Rattle.std.specs.Prelude.{is_some, true, false}
use Rattle.version_book.specs.Lookups.{has_id, unmarking, with_change}
use Rattle.version_book.proofs.Stepping.{seen-as, still-as, none-of, is_some-map}
use Rattle.version_book.proofs.Ids.{ids-apart}
use Rattle.version_book.proofs.SessionSteps.{retry-refused, retry-accepted}
use Rattle.version_book.proofs.state.State.retry.Goals as goal

pub unmark-requires : goal.unmark-requires
unmark-requires g c = ids-apart _ _ c.self.invariant.0.listed c.self.invariant.0.ids

pub invariant_of-self : goal.invariant_of-self
invariant_of-self g c =
    let some : is_some (find (has_id c.args.id) c.self.inside.shown.items) ≡ true = sym (ap is_some (c.shown_of.ensures ∙ ap (find (has_id c.args.id)) c.as_slice.ensures.value)) ∙ (is_some-map (λ x. x.now) c.shown_of.result ∙ (c.is_none.ensures ∙ ap not c.if-is_none.false)) in
    let shown : c.unmark.new.shown.items ≡ with_change c.args.id unmarking c.self.inside.shown.items = c.unmark.ensures.shown in
    ((retry-accepted _ c.args.id _ c.self.invariant.0 some shown).sound, omega (arith, c.self.invariant.1, c.unmark.ensures.capacity), c.self.invariant.2)

pub returns : goal.returns
returns g c =
    let some : is_some (find (has_id c.args.id) c.self.inside.shown.items) ≡ true = sym (ap is_some (c.shown_of.ensures ∙ ap (find (has_id c.args.id)) c.as_slice.ensures.value)) ∙ (is_some-map (λ x. x.now) c.shown_of.result ∙ (c.is_none.ensures ∙ ap not c.if-is_none.false)) in
    let shown : c.unmark.new.shown.items ≡ with_change c.args.id unmarking c.self.inside.shown.items = c.unmark.ensures.shown in
    seen-as c.self.view_is (retry-accepted _ c.args.id _ c.self.invariant.0 some shown)

pub returns-then-is_none : goal.returns-then-is_none
returns-then-is_none g c =
    let none : is_some (find (has_id c.args.id) c.self.inside.shown.items) ≡ false = sym (ap is_some (c.shown_of.ensures ∙ ap (find (has_id c.args.id)) c.as_slice.ensures.value)) ∙ (is_some-map (λ x. x.now) c.shown_of.result ∙ (c.is_none.ensures ∙ ap not c.if-is_none.true)) in
    still-as c.self.view_is (retry-refused _ c.args.id c.self.invariant.0 (none-of _ none))
