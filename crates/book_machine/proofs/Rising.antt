-- Published versions over a history and each way in which it goes on: what goes on, and stands in the end, is no older,
-- and what a sound state has published was made.
use Rattle.std.proofs.Common.{◌≡◌, ℕ, ◌+◌, ◌<◌, ◌≤◌, ◌==◌, List, [], ◌∷◌, ◌++◌, map, Bool, true, false, cond, Option, None, Some, is_some, refl, sym, ap, subst, arith}
use Rattle.std.specs.List.{AllByRecursion}
use Rattle.std.proofs.lemmas.Bool.{true≢false}
use Rattle.std.proofs.lemmas.Bool.Decides.{nat_tests}
use Rattle.swf_text.specs.Entry.{LogEntry}
use Rattle.scenarios.specs.ScenarioList.{Listed, IdsRise}
use Rattle.book_machine.specs.Machine.{Machine, Progress, opened, version, progress_of, published_of, after}
use Rattle.book_machine.specs.History.{Noted, IsLegal, after_all}
use Rattle.book_machine.specs.Laws.{IsNoOlder, Stands}
use Rattle.book_machine.specs.Sound.{IsMade, IsProgress, IsSound}
use Rattle.book_machine.proofs.Later.{GoesOn}
use Rattle.book_machine.proofs.Steps.{all_goes, after_all-append}
use Rattle.book_machine.proofs.Sound.{sound-opened, sound_after}

abbrev shown : Option Progress → Option ℕ
shown o = elim o [ None ↦ None | Some p ↦ p.published ]

pub published-made : (v id w : ℕ) (ps : List Progress) → AllByRecursion (IsProgress v) ps → published_of id ps ≡ Some w → w ≤ v
published-made v id w [] all is = cc
published-made v id w (p ∷ ps) all is = go (p.id == id) is (published-made v id w ps all.1)
  where
    go : (b : Bool) → shown (cond b (Some p) (progress_of id ps)) ≡ Some w → (published_of id ps ≡ Some w → w ≤ v) → w ≤ v
    go true e more = let made : IsMade v (Some w) = subst (IsMade v) e all.0.published in made
    go false e more = more e

above : (first : ℕ) (ss : List Listed) (next : ℕ) → IdsRise first ss next → first ≤ next
above first [] next h = h
above first (s ∷ ss) next h = let more = above (s.id + 1) ss next h.1 in let le : first ≤ s.id = h.0 in omega arith

id_below : (id first : ℕ) (ps : List Progress) (ss : List Listed) (next : ℕ) → map (λ p. p.id) ps ≡ map (λ s. s.id) ss → IdsRise first ss next → is_some (progress_of id ps) ≡ true → id < next
id_below id first [] ss next same h stands = absurd (true≢false (sym stands))
id_below id first (p ∷ ps) [] next same h stands = cc
id_below id first (p ∷ ps) (s ∷ ss) next same h stands =
    let one : p.id ≡ s.id = cc in
    let rest : map (λ q. q.id) ps ≡ map (λ t. t.id) ss = cc in
    go (p.id == id) refl one stands (id_below id (s.id + 1) ps ss next rest h.1)
  where
    go : (b : Bool) → (p.id == id) ≡ b → p.id ≡ s.id → is_some (cond b (Some p) (progress_of id ps)) ≡ true → (is_some (progress_of id ps) ≡ true → id < next) → id < next
    go true e one st more =
        let up : s.id + 1 ≤ next = above (s.id + 1) ss next h.1 in
        let is : p.id ≡ id = grind (arith, nat_tests) in
        omega arith
    go false e one st more = more st

goes-published : (a b : Option Progress) → GoesOn a b → is_some b ≡ true → IsNoOlder (shown a) (shown b)
goes-published a None h stands = absurd (true≢false (sym stands))
goes-published None (Some q) h stands = absurd h
goes-published (Some p) (Some q) h stands = h

later : (id : ℕ) (m : Machine) (more : List Noted) → IsSound m → Stands id (after_all m more) → IsNoOlder (published_of id m.progress) (published_of id (after_all m more).progress)
later id m more h stands = go (progress_of id m.progress) refl
  where
    go : (a : Option Progress) → progress_of id m.progress ≡ a → IsNoOlder (published_of id m.progress) (published_of id (after_all m more).progress)
    go None is = subst (λ o. IsNoOlder (shown o) (published_of id (after_all m more).progress)) (sym is) tt
    go (Some p) is =
        let there : is_some (progress_of id m.progress) ≡ true = ap is_some is in
        let lt = id_below id 1 m.progress m.listing.scenarios m.listing.next h.ids h.rise there in
        goes-published (progress_of id m.progress) (progress_of id (after_all m more).progress) (all_goes id m more lt).on stands

legal_front : (m : Machine) (notes more : List Noted) → IsLegal m (notes ++ more) → IsLegal m notes
legal_front m [] more legal = tt
legal_front m (note ∷ notes) more legal = (legal.0, legal.1, legal_front (after note.call m) notes more legal.2)

-- over a legal history, a scenario's published version never goes down while its id stands
pub versions : (log : List LogEntry) (notes more : List Noted) (id : ℕ) → IsLegal (opened log) (notes ++ more) → Stands id (after_all (opened log) (notes ++ more)) → IsNoOlder (published_of id (after_all (opened log) notes).progress) (published_of id (after_all (opened log) (notes ++ more)).progress)
versions log notes more id legal =
    let mid : Machine = after_all (opened log) notes in
    let sound : IsSound mid = sound_after (opened log) notes (sound-opened log) (legal_front (opened log) notes more legal) in
    let P : Machine → Type 0 = λ m. Stands id m → IsNoOlder (published_of id mid.progress) (published_of id m.progress) in
    subst P (sym (after_all-append (opened log) notes more)) (later id mid more sound)

-- after a legal history, no version is published that was not yet made
pub none_ahead : (log : List LogEntry) (notes : List Noted) (id v : ℕ) → IsLegal (opened log) notes → published_of id (after_all (opened log) notes).progress ≡ Some v → v ≤ version (after_all (opened log) notes)
none_ahead log notes id v legal is =
    let m : Machine = after_all (opened log) notes in
    let sound : IsSound m = sound_after (opened log) notes (sound-opened log) legal in
    published-made (version m) id v m.progress sound.progress is
