-- The scenarios of an opening, added one after another.
use Rattle.std.proofs.Common.{◌≡◌, ℕ, ◌+◌, List, [], ◌∷◌, ◌++◌, take, Some, sym, ap, ◌∙◌}
use Rattle.std.specs.Prelude.{slice_get}
use Rattle.std.proofs.lemmas.List.{take_more}
use Rattle.std.proofs.lemmas.Option.{get_or_from_slice_get, slice_get_within}
use Rattle.scenarios.specs.ScenarioList.{Listed}
use Rattle.book_machine.specs.Call.{AddScenario}
use Rattle.book_machine.specs.Machine.{after}
use Rattle.version_book.specs.Book.{BookView, machine_of}
use Rattle.scripts.specs.Transcript.{with_scenarios}
use Rattle.scripts.proofs.Lemmas.{with-one}

-- the first this many of the scenarios were added to a book, whose spacing is as it was
pub record Added (old new : BookView) (scenarios : List Listed) (place : ℕ) : Type 0 where
  pub machine : machine_of new ≡ with_scenarios (machine_of old) (take place scenarios)
  pub spacing : new.state.spacing ≡ old.state.spacing

take_got : (xs : List Listed) (place : ℕ) (x : Listed) → slice_get xs place ≡ Some x → take (place + 1) xs ≡ take place xs ++ x ∷ []
take_got xs place x is = take_more xs place x (slice_get_within xs place x is) ∙ ap (λ (y : Listed). take place xs ++ y ∷ []) (get_or_from_slice_get xs place x x is)

-- a book to which the scenarios before a place were added, and then the one there, has those before the next place
pub added-more : (old mid new : BookView) (scenarios : List Listed) (place : ℕ) (s : Listed) → Added old mid scenarios place → Some s ≡ slice_get scenarios place → machine_of new ≡ after (AddScenario s.name s.scenario) (machine_of mid) → new.state.spacing ≡ mid.state.spacing → Added old new scenarios (place + 1)
added-more old mid new scenarios place s added is machine spacing = record {
  machine =
      machine ∙ ap (after (AddScenario s.name s.scenario)) added.machine ∙ sym (with-one (machine_of old) (take place scenarios) s)
      ∙ ap (with_scenarios (machine_of old)) (sym (take_got scenarios place s (sym is)));
  spacing = spacing ∙ added.spacing;
}
