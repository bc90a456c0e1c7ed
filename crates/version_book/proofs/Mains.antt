-- The main theorem, from the laws of histories and of runs: calls lead on in one journal over one opening log, what is shown is
-- listed and was added, and is a run of its version.
use Rattle.std.proofs.Common.{◌≡◌, ℕ, ◌≤◌, List, [], ◌∷◌, ◌++◌, length, Option, None, Some, refl, sym, ◌∙◌, ap, ap₂, subst, append_assoc, arith}
use Rattle.std.specs.Prelude.{find, is_some, IfSome}
use Rattle.std.specs.Option.{option_map}
use Rattle.std.proofs.lemmas.List.{append-nil}
use Rattle.swf_text.specs.Entry.{LogEntry}
use Rattle.job_table.specs.Edit.{LogEdit, log_at}
use Rattle.scenarios.specs.ScenarioList.{Listed}
use Rattle.checkpoints.specs.Simulated.{IsSimulated, EachRunIsSimulated}
use Rattle.book_machine.specs.declared.caller.Caller.{Caller}
use Rattle.book_machine.specs.Call.{BookCall}
use Rattle.book_machine.specs.Machine.{Machine, opened, progress_of, published_of}
use Rattle.book_machine.specs.History.{Noted, IsLegal, after_all}
use Rattle.book_machine.specs.Laws.{IsNoOlder, Stands, VersionsNeverGoDown}
use Rattle.book_machine.specs.Versions.{TheEditsAreThoseNoted, EachVersionKeepsItsLog}
use Rattle.tasks.specs.Published.{PublishedView}
use Rattle.version_book.specs.Book.{BookView, ShownView, machine_of, progress_of_shown}
use Rattle.version_book.specs.Looks.{IsListedAs, IsOf, log_of_version}
use Rattle.version_book.specs.Lookups.{has_id, published_for, version_shown}
use Rattle.version_book.specs.MainTheorem.{Made, Leads, edits_of, log_of, IsRight, MainTheorem}
use Rattle.version_book.specs.Sound.{IsBook, IsOfItsVersion}
use Rattle.version_book.specs.Steps.{Answer, full, memory, outcome, Answers, note_of}
use Rattle.version_book.specs.Tasks.{IsShownFor}
use Rattle.version_book.proofs.Adding.{was-added}
use Rattle.version_book.proofs.Histories.{counts}
use Rattle.version_book.proofs.Lists.{find-All}
use Rattle.version_book.proofs.Looking.{looked, shown-at}
use Rattle.version_book.proofs.Stepping.{progress-shown, published-shown}

record GoesOn (old new : BookView) : Type 0 where
  pub opening : new.state.opening ≡ old.state.opening
  pub more : List Noted
  pub journal : new.journal ≡ old.journal ++ more

unchanged : (old new : BookView) → new ≡ old → GoesOn old new
unchanged old new is = record { opening = ap (λ (b : BookView). b.state.opening) is; more = []; journal = ap (λ (b : BookView). b.journal) is ∙ sym (append-nil old.journal) }

called : (old new : BookView) (who : Caller) (call : BookCall) (a : Answer) → Answers old new who call a → GoesOn old new
called old new who call full h = unchanged old new h.1
called old new who call memory h = unchanged old new h.1
called old new who call (outcome r) h = record { opening = ap (λ (m : Machine). m.opening) h.2 ∙ (counts call (machine_of old)).0; more = note_of who call r ∷ []; journal = h.3 }

onto : (old mid new : BookView) → GoesOn old mid → GoesOn mid new → GoesOn old new
onto old mid new a b = record {
  opening = b.opening ∙ a.opening;
  more = a.more ++ b.more;
  journal = b.journal ∙ ap (λ (j : List Noted). j ++ b.more) a.journal ∙ append_assoc old.journal a.more b.more;
}

goes-on : (old new : BookView) (calls : List Made) → Leads old calls new → GoesOn old new
goes-on old new [] is = unchanged old new is
goes-on old new (made ∷ calls) l = onto old l.0 new (called old l.0 made.who made.call made.answer l.1) (goes-on l.0 new calls l.2)

edits-are : TheEditsAreThoseNoted → (b : BookView) → IsBook b → b.state.edits ≡ edits_of b
edits-are noted b h = sym (ap (λ (m : Machine). m.edits) h.led) ∙ noted b.state.opening b.journal h.legal

found-at : (b : BookView) (id : ℕ) (s : Listed) → IsBook b → IsListedAs (machine_of b) id s → (x : ShownView) × (find (has_id id) b.state.shown ≡ Some x) × (x.scenario ≡ s.scenario)
found-at b id s h listed =
    let x = shown-at b listed.place s h listed.listed in
    (x.0, subst (λ (n : ℕ). find (has_id n) b.state.shown ≡ Some x.0) listed.id x.1, x.2)

shown-of : (o : Option ShownView) (p : PublishedView) → (elim o [ None ↦ None | Some y ↦ y.published ]) ≡ Some p → (x : ShownView) × (o ≡ Some x) × (x.published ≡ Some p)
shown-of None p is = cc
shown-of (Some x) p is = (x, refl, is)

right : TheEditsAreThoseNoted → EachRunIsSimulated → (b : BookView) (id : ℕ) (p : PublishedView) → IsBook b → published_for id b.state.shown ≡ Some p → (s : Listed) × IsListedAs (machine_of b) id s × IsRight b s p
right noted simulated b id p h published =
    let found = shown-of (find (has_id id) b.state.shown) p published in
    let x : ShownView = found.0 in
    let any = find-All (λ (y : ShownView). IfSome y.published (IsOfItsVersion b.state.opening b.state.edits y.scenario)) (has_id id) b.state.shown x h.sound.runs found.1 in
    let of : IsOfItsVersion b.state.opening b.state.edits x.scenario p = subst (λ (o : Option PublishedView). IfSome o (IsOfItsVersion b.state.opening b.state.edits x.scenario)) found.2 any in
    let shown : IsShownFor b.state id 0 p = record { scenario = x; found = found.1; published = found.2; newer = omega arith; version = of } in
    let look = looked simulated b id 0 p h shown in
    let s : Listed = look.listed.0 in
    let listed : IsListedAs (machine_of b) id s = look.listed.1 in
    let it : IsOf (machine_of b) s p = look.is s listed in
    let edits = edits-are noted b h in
    let log : log_of_version (machine_of b) p.version ≡ log_of b p.version = ap (λ (es : List LogEdit). log_at b.state.opening es p.version) edits in
    let is-right : IsRight b s p = record {
      made = subst (λ (es : List LogEdit). p.version ≤ length es) edits it.made;
      added = was-added b listed.place s h listed.listed;
      log = it.log ∙ log;
      scenario = it.scenario;
      simulated = subst (λ (l : List LogEntry). IsSimulated l s.scenario p.run) log it.simulated;
    } in
    (s, listed, is-right)

legal-in : (old new : BookView) (on : GoesOn old new) → IsBook new → IsLegal (opened old.state.opening) (old.journal ++ on.more)
legal-in old new on h = subst (IsLegal (opened old.state.opening)) on.journal (subst (λ (log : List LogEntry). IsLegal (opened log) new.journal) on.opening h.legal)

led-in : (old new : BookView) (on : GoesOn old new) → IsBook new → after_all (opened old.state.opening) (old.journal ++ on.more) ≡ machine_of new
led-in old new on h = sym (ap₂ (λ (log : List LogEntry) (j : List Noted). after_all (opened log) j) on.opening on.journal) ∙ h.led

logs : TheEditsAreThoseNoted → EachVersionKeepsItsLog → (old new : BookView) (v : ℕ) → IsBook old → IsBook new → GoesOn old new → v ≤ length (edits_of old) → log_of new v ≡ log_of old v
logs noted keeps old new v before after on le =
    let opening : List LogEntry = old.state.opening in
    let edits-old : (after_all (opened opening) old.journal).edits ≡ edits_of old = noted opening old.journal before.legal in
    let edits-new : (after_all (opened opening) (old.journal ++ on.more)).edits ≡ edits_of new = ap (λ (m : Machine). m.edits) (led-in old new on after) ∙ edits-are noted new after in
    let made = subst (λ (es : List LogEdit). v ≤ length es) (sym edits-old) le in
    let kept = keeps opening old.journal on.more v (legal-in old new on after) made in
    ap (λ (log : List LogEntry). log_at log (edits_of new) v) on.opening ∙ ap (λ (es : List LogEdit). log_at opening es v) (sym edits-new) ∙ kept ∙ ap (λ (es : List LogEdit). log_at opening es v) edits-old

versions : VersionsNeverGoDown → (old new : BookView) (id : ℕ) (s : Listed) → IsBook old → IsBook new → GoesOn old new → IsListedAs (machine_of new) id s → IsNoOlder (version_shown id old.state.shown) (version_shown id new.state.shown)
versions never old new id s before after on listed =
    let there = found-at new id s after listed in
    let led = led-in old new on after in
    let found : progress_of id (machine_of new).progress ≡ Some (progress_of_shown there.0) = progress-shown id new.state.shown ∙ ap (option_map progress_of_shown) there.1 in
    let stands : Stands id (after_all (opened old.state.opening) (old.journal ++ on.more)) = subst (Stands id) (sym led) (ap is_some found) in
    let no-older = never old.state.opening old.journal on.more id (legal-in old new on after) stands in
    subst (λ (v : Option ℕ). IsNoOlder v (version_shown id new.state.shown)) (ap (λ (m : Machine). published_of id m.progress) before.led ∙ published-shown id old.state.shown)
    (subst (λ (v : Option ℕ). IsNoOlder (published_of id (after_all (opened old.state.opening) old.journal).progress) v) (ap (λ (m : Machine). published_of id m.progress) led ∙ published-shown id new.state.shown) no-older)

-- the main theorem follows from what histories keep and from what runs are
pub main : TheEditsAreThoseNoted → EachVersionKeepsItsLog → VersionsNeverGoDown → EachRunIsSimulated → MainTheorem
main noted keeps never simulated old new calls before after l =
    let on = goes-on old new calls l in
    record {
      logs = λ v le. logs noted keeps old new v before after on le;
      right = λ id p published. right noted simulated new id p after published;
      versions = λ id s listed. versions never old new id s before after on listed;
    }
