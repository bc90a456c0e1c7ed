-- What a book shows: each listed scenario under its id, and what a view returns is true of the book.
use Rattle.std.proofs.Common.{◌≡◌, ℕ, ◌+◌, ◌≤◌, ◌<◌, ◌==◌, List, [], ◌∷◌, length, map, suc, zero, refl, sym, ◌∙◌, ap, subst, Bool, true, false, cond, arith}
use Rattle.std.specs.Prelude.{find, nat_lt, Option, None, Some, Result, Ok, Err, IfOk, slice_get}
use Rattle.std.specs.Option.{option_map}
use Rattle.std.proofs.lemmas.Bool.{eq-eqb, eqb-true, ne_eqb}
use Rattle.swf_text.specs.Entry.{LogEntry}
use Rattle.scenarios.specs.Scenario.{ScenarioView}
use Rattle.scenarios.specs.ScenarioList.{Listed, IdsRise}
use Rattle.checkpoints.specs.Simulated.{IsSimulated, EachRunIsSimulated}
use Rattle.book_machine.specs.declared.reply.Reply.TheVariants as reply
use Rattle.book_machine.specs.Call.{View}
use Rattle.book_machine.specs.Machine.{Machine, Progress, progress_of, view_reply, view_reply_at}
use Rattle.tasks.specs.Published.{PublishedView}
use Rattle.version_book.specs.declared.faults.ViewFault.{ViewFault}
use Rattle.version_book.specs.declared.faults.ViewFault.TheVariants as view
use Rattle.version_book.specs.declared.refusal.Refusal.{Refusal}
use Rattle.version_book.specs.declared.refusal.Refusal.TheVariants as why
use Rattle.version_book.specs.Answers.{view_answer}
use Rattle.version_book.specs.Book.{BookView, ShownView, StateView, progress_of_shown, machine_of}
use Rattle.version_book.specs.BookRules.{IsTrueOf}
use Rattle.version_book.specs.Looks.{IsListedAs, IsLooked, IsOf}
use Rattle.version_book.specs.Lookups.{has_id}
use Rattle.version_book.specs.Sound.{Under, IsBook, under_of_shown, under_of_listed}
use Rattle.version_book.specs.Steps.{Does, IsNoNote}
use Rattle.version_book.specs.Tasks.{IsShownFor}
use Rattle.version_book.proofs.Stepping.{progress-shown}

abbrev IsShown : List ShownView → Listed → Type 0
IsShown xs s = (x : ShownView) × (find (has_id s.id) xs ≡ Some x) × (x.scenario ≡ s.scenario)

show-first : (x : ShownView) (xs : List ShownView) (s : Listed) → under_of_shown x ≡ under_of_listed s → IsShown (x ∷ xs) s
show-first x xs s u =
    let id : x.id ≡ s.id = ap (λ (p : Under). p.0) u in
    let test : (x.id == s.id) ≡ true = eq-eqb x.id s.id id in
    (x, ap (λ (b : Bool). cond b (Some x) (find (has_id s.id) xs)) test, ap (λ (p : Under). p.1) u)

show-later : (x : ShownView) (xs : List ShownView) (s : Listed) → x.id < s.id → IsShown xs s → IsShown (x ∷ xs) s
show-later x xs s lt h =
    let test : (x.id == s.id) ≡ false = ne_eqb x.id s.id (λ e. omega arith) in
    (h.0, ap (λ (b : Bool). cond b (Some x) (find (has_id s.id) xs)) test ∙ h.1, h.2)

id-above : (first : ℕ) (ss : List Listed) (next k : ℕ) (s : Listed) → IdsRise first ss next → slice_get ss k ≡ Some s → first ≤ s.id
id-above first [] next k s h is = cc
id-above first (t ∷ ss) next zero s h is = let same : t ≡ s = cc in subst (λ (u : Listed). first ≤ u.id) same h.0
id-above first (t ∷ ss) next (suc k) s h is = let more = id-above (t.id + 1) ss next k s h.1 is in omega (arith, h.0)

show-at : (first : ℕ) (xs : List ShownView) (ss : List Listed) (next k : ℕ) (s : Listed) → map under_of_shown xs ≡ map under_of_listed ss → IdsRise first ss next → slice_get ss k ≡ Some s → IsShown xs s
show-at first xs [] next k s same h is = cc
show-at first [] (t ∷ ss) next k s same h is = cc
show-at first (x ∷ xs) (t ∷ ss) next zero s same h is =
    let u : under_of_shown x ≡ under_of_listed t = cc in
    let e : t ≡ s = cc in
    show-first x xs s (u ∙ ap under_of_listed e)
show-at first (x ∷ xs) (t ∷ ss) next (suc k) s same h is =
    let u : under_of_shown x ≡ under_of_listed t = cc in
    let us : map under_of_shown xs ≡ map under_of_listed ss = cc in
    let id : x.id ≡ t.id = ap (λ (p : Under). p.0) u in
    let above = id-above (t.id + 1) ss next k s h.1 is in
    show-later x xs s (omega arith) (show-at (t.id + 1) xs ss next k s us h.1 is)

-- the listed scenario at a place is shown under its id
pub shown-at : (b : BookView) (k : ℕ) (s : Listed) → IsBook b → slice_get b.state.listing.scenarios k ≡ Some s → IsShown b.state.shown s
shown-at b k s h is = show-at 1 b.state.shown b.state.listing.scenarios b.state.listing.next k s h.sound.listed h.sound.ids is

record IsAt (id : ℕ) (x : ShownView) (ss : List Listed) : Type 0 where
  pub place : ℕ
  pub listed : Listed
  pub there : slice_get ss place ≡ Some listed
  pub numbered : listed.id ≡ id
  pub scenario : x.scenario ≡ listed.scenario

listed-at : (id : ℕ) (xs : List ShownView) (ss : List Listed) (x : ShownView) → map under_of_shown xs ≡ map under_of_listed ss → find (has_id id) xs ≡ Some x → IsAt id x ss
listed-at id [] ss x same is = cc
listed-at id (y ∷ ys) [] x same is = cc
listed-at id (y ∷ ys) (s ∷ ss) x same is =
    let u : under_of_shown y ≡ under_of_listed s = cc in
    let us : map under_of_shown ys ≡ map under_of_listed ss = cc in
    go (y.id == id) refl u is (listed-at id ys ss x us)
  where
    go : (b : Bool) → (y.id == id) ≡ b → under_of_shown y ≡ under_of_listed s → cond b (Some y) (find (has_id id) ys) ≡ Some x → (find (has_id id) ys ≡ Some x → IsAt id x ss) → IsAt id x (s ∷ ss)
    go true e u is more =
        let same : y ≡ x = cc in
        record {
          place = zero;
          listed = s;
          there = refl;
          numbered = sym (ap (λ (p : Under). p.0) u) ∙ eqb-true y.id id e;
          scenario = ap (λ (z : ShownView). z.scenario) (sym same) ∙ ap (λ (p : Under). p.1) u;
        }
    go false e u is more =
        let at = more is in
        record { place = suc at.place; listed = at.listed; there = at.there; numbered = at.numbered; scenario = at.scenario }

of-listed : EachRunIsSimulated → (b : BookView) (id seen : ℕ) (p : PublishedView) → IsBook b → IsShownFor b.state id seen p → (s : Listed) → IsListedAs (machine_of b) id s → IsOf (machine_of b) s p
of-listed simulated b id seen p book h s listed =
    let shown = shown-at b listed.place s book listed.listed in
    let found : find (has_id s.id) b.state.shown ≡ Some h.scenario = subst (λ (n : ℕ). find (has_id n) b.state.shown ≡ Some h.scenario) (sym listed.id) h.found in
    let same : h.scenario ≡ shown.0 = cc (found, shown.1) in
    let under : p.run.scenario ≡ s.scenario = h.version.scenario ∙ (ap (λ (x : ShownView). x.scenario) same ∙ shown.2) in
    record {
      made = h.version.made;
      log = h.version.log;
      scenario = under;
      simulated = subst (λ (l : List LogEntry). IsSimulated l s.scenario p.run) h.version.log (subst (λ (u : ScenarioView). IsSimulated p.run.log u p.run) under (simulated p.run h.version.run));
    }

-- what is shown for an id is the run of the listed scenario with this id
pub looked : EachRunIsSimulated → (b : BookView) (id seen : ℕ) (p : PublishedView) → IsBook b → IsShownFor b.state id seen p → IsLooked (machine_of b) id p
looked simulated b id seen p book h =
    let at = listed-at id b.state.shown b.state.listing.scenarios h.scenario book.sound.listed h.found in
    record {
      listed = (at.listed, record { place = at.place; listed = at.there; id = at.numbered });
      is = of-listed simulated b id seen p book h;
    }

not-missing-at : (seen : ℕ) (o : Option ℕ) → reply.NoSuchScenario ≡ view_reply_at seen o → ⊥
not-missing-at seen None is = cc
not-missing-at seen (Some found) is = go (nat_lt found seen) is
  where
    go : (b : Bool) → reply.NoSuchScenario ≡ cond b (reply.Behind seen found) (reply.Shown found) → ⊥
    go true e = cc
    go false e = cc

not-missing : (b : BookView) (id seen : ℕ) (s : Listed) → IsBook b → IsListedAs (machine_of b) id s → reply.NoSuchScenario ≡ view_reply id seen (machine_of b) → ⊥
not-missing b id seen s book listed is =
    let shown = shown-at b listed.place s book listed.listed in
    let at : find (has_id id) b.state.shown ≡ Some shown.0 = subst (λ (n : ℕ). find (has_id n) b.state.shown ≡ Some shown.0) listed.id shown.1 in
    let found : progress_of id (map progress_of_shown b.state.shown) ≡ Some (progress_of_shown shown.0) = progress-shown id b.state.shown ∙ ap (option_map progress_of_shown) at in
    not-missing-at seen (progress_of_shown shown.0).published (is ∙ ap (λ (o : Option Progress). elim o [ None ↦ reply.NoSuchScenario | Some p ↦ view_reply_at seen p.published ]) found)

true-of : EachRunIsSimulated → (b : BookView) (after : StateView) (id seen : ℕ) (result : Result PublishedView (Refusal ViewFault)) → IsBook b → IfOk result (IsShownFor b.state id seen) → Does b.state after (View id seen) (view_answer result) → IsTrueOf (machine_of b) id result
true-of simulated b after id seen (Ok p) book shown does = looked simulated b id seen p book shown
true-of simulated b after id seen (Err why.JournalFull) book shown does = tt
true-of simulated b after id seen (Err (why.Fault view.NoSuchScenario)) book shown does = λ s listed. not-missing b id seen s book listed (does.reply (length b.journal))
true-of simulated b after id seen (Err (why.Fault view.NotYet)) book shown does = tt
true-of simulated b after id seen (Err (why.Fault (view.Behind x y))) book shown does = tt
true-of simulated b after id seen (Err why.Memory) book shown does = tt

-- what a view returns is true of the book, also of an equal one
pub shown-true : EachRunIsSimulated → {b v : BookView} (after : StateView) (id seen : ℕ) (result : Result PublishedView (Refusal ViewFault)) → b ≡ v → IsBook b → IfOk result (IsShownFor b.state id seen) → Does b.state after (View id seen) (view_answer result) → IsTrueOf (machine_of v) id result
shown-true simulated {b} {v} after id seen result is book shown does = subst (λ (w : BookView). IsTrueOf (machine_of w) id result) is (true-of simulated b after id seen result book shown does)

-- a view that took no note shows nothing, which is true of any machine
pub no-note-true : (m : Machine) (id notes : ℕ) (r : Refusal ViewFault) → IsNoNote notes r → IsTrueOf m id (Err r)
no-note-true m id notes why.JournalFull is = tt
no-note-true m id notes (why.Fault fault) is = absurd is
no-note-true m id notes why.Memory is = tt
