-- A log that was just opened is sound, and each call keeps a state sound, so each state of a legal history is.
use Rattle.std.proofs.Common.{◌≡◌, ℕ, ◌+◌, ◌<◌, ◌≤◌, ◌==◌, List, [], ◌∷◌, ◌++◌, length, filter, find, Bool, true, false, cond, not, Option, None, Some, is_some, refl, sym, ◌∙◌, ap, subst, arith, length-append}
use Rattle.std.specs.List.{AllByRecursion}
use Rattle.std.proofs.lemmas.Bool.Decides.{nat_tests}
use Rattle.swf_text.specs.Entry.{LogEntry}
use Rattle.job_table.specs.Edit.{LogEdit, fault_of}
use Rattle.scenarios.specs.Scenario.{ScenarioView}
use Rattle.scenarios.specs.ScenarioList.{Listed, add_fault, id_of, with_scenario}
use Rattle.book_machine.specs.Call.{BookCall, Edit, AddScenario, DropScenario, Retry, Claim, Finish, GiveUp, View}
use Rattle.book_machine.specs.Machine.{Machine, Progress, Ticket, opened, version, current, progress_of, ticket_of, changed, publish, marked, fresh, closed, due, is_due, dropped, are_all_out, is_below, after, noted, note_limit}
use Rattle.book_machine.specs.History.{Noted, IsLegal, after_all}
use Rattle.book_machine.specs.Laws.{Stands}
use Rattle.book_machine.specs.Sound.{IsMade, IsProgress, IsClaim, IsSound}
use Rattle.book_machine.proofs.Lists.{all_weaken, all_end, all_map, all_filter, length_filter, rise_filter, rise_end}
use Rattle.book_machine.proofs.Later.{alter, progress_of-other, stands-end, stands-changed, publish_id}
use Rattle.book_machine.proofs.Ids.{ids-end, ids-without, ids_without, ids_filter, ids_changed, ids_end}

made_more : (v : ℕ) (o : Option ℕ) → IsMade v o → IsMade (v + 1) o
made_more v None h = tt
made_more v (Some w) h = omega (arith, h)

altered : (v k : ℕ) (f : Progress → Progress) → ((p : Progress) → IsProgress v p → IsProgress v (f p)) → (p : Progress) → IsProgress v p → IsProgress v (alter k f p)
altered v k f keep p h = go (p.id == k)
  where
    go : (b : Bool) → IsProgress v (cond b (f p) p)
    go true = keep p h
    go false = h

published_made : (v w : ℕ) → w ≤ v → (p : Progress) → IsProgress v p → IsProgress v (publish w p)
published_made v w le p h = go (is_below p.published w)
  where
    go : (b : Bool) → IsProgress v (cond b (record p { published = Some w }) p)
    go true = record { published = le; mark = h.mark }
    go false = h

found_ticket : (P : Ticket → Type 0) (number : ℕ) (t : Ticket) (ts : List Ticket) → AllByRecursion P ts → ticket_of number ts ≡ Some t → P t
found_ticket P number t [] all is = cc
found_ticket P number t (u ∷ ts) all is = go (u.number == number) is (found_ticket P number t ts all.1)
  where
    go : (b : Bool) → cond b (Some u) (ticket_of number ts) ≡ Some t → (ticket_of number ts ≡ Some t → P t) → P t
    go true e more = let same : u ≡ t = cc in subst P same all.0
    go false e more = more e

due_stands : (m : Machine) (p : Progress) (ps : List Progress) → find (is_due m) ps ≡ Some p → is_some (progress_of p.id ps) ≡ true
due_stands m p [] is = cc
due_stands m p (q ∷ ps) is = go (is_due m q) (q.id == p.id) refl is (due_stands m p ps)
  where
    go : (d b : Bool) → (q.id == p.id) ≡ b → cond d (Some q) (find (is_due m) ps) ≡ Some p → (find (is_due m) ps ≡ Some p → is_some (progress_of p.id ps) ≡ true) → is_some (cond b (Some q) (progress_of p.id ps)) ≡ true
    go d true e found more = refl
    go true false e found more =
        let same : q ≡ p = cc in
        let ids : q.id ≡ p.id = ap (λ (r : Progress). r.id) same in
        absurd (grind (arith, nat_tests))
    go false false e found more = more found

claims : (old new : Machine) → old.next_ticket ≤ new.next_ticket → version old ≤ version new → ((id : ℕ) → Stands id old → Stands id new) → (ts : List Ticket) → AllByRecursion (IsClaim old) ts → AllByRecursion (IsClaim new) ts
claims old new tickets versions stands ts all =
    all_weaken (IsClaim old) (IsClaim new) (λ t c. record {
      number = let a = c.number in omega (arith, a, tickets);
      made = let a = c.made in omega (arith, a, versions);
      stands = stands t.id c.stands;
    }) ts all

sound-same : (m : Machine) → IsSound m → m.notes < note_limit → IsSound (noted m)
sound-same m h lt = record {
  ids = h.ids;
  rise = h.rise;
  progress = h.progress;
  tickets = claims m (noted m) (omega arith) (omega arith) (λ id s. s) m.tickets h.tickets;
  numbers = h.numbers;
  standing = h.standing;
  versions = let a = h.versions in omega arith;
  next_id = let a = h.next_id in omega arith;
  first_ticket = h.first_ticket;
  next_ticket = let a = h.next_ticket in omega arith;
  notes = omega (arith, lt);
}

sound-edit : (m : Machine) (edit : LogEdit) → IsSound m → m.notes < note_limit → IsSound (noted (record m { edits = m.edits ++ edit ∷ [] }))
sound-edit m edit h lt =
    let len : length (m.edits ++ edit ∷ []) ≡ version m + 1 = omega (arith, length-append m.edits (edit ∷ [])) in
    let more : AllByRecursion (IsProgress (version m + 1)) m.progress =
    all_weaken (IsProgress (version m)) (IsProgress (version m + 1)) (λ p q. record { published = made_more (version m) p.published q.published; mark = made_more (version m) p.mark q.mark }) m.progress h.progress in
    record {
      ids = h.ids;
      rise = h.rise;
      progress = subst (λ v. AllByRecursion (IsProgress v) m.progress) (sym len) more;
      tickets = claims m (noted (record m { edits = m.edits ++ edit ∷ [] })) (omega arith) (omega (arith, len)) (λ id s. s) m.tickets h.tickets;
      numbers = h.numbers;
      standing = h.standing;
      versions = let a = h.versions in omega (arith, len, a);
      next_id = let a = h.next_id in omega arith;
      first_ticket = h.first_ticket;
      next_ticket = let a = h.next_ticket in omega arith;
      notes = omega (arith, lt);
    }

sound-add : (m : Machine) (name : List ℕ) (scenario : ScenarioView) → IsSound m → m.notes < note_limit → IsSound (noted (record m { listing = with_scenario name scenario m.listing; progress = m.progress ++ fresh m.listing.next ∷ [] }))
sound-add m name scenario h lt =
    let new : Machine = noted (record m { listing = with_scenario name scenario m.listing; progress = m.progress ++ fresh m.listing.next ∷ [] }) in
    let one : Listed = record { name = name; id = m.listing.next; scenario = scenario } in
    record {
      ids = ids_end (fresh m.listing.next) one refl m.progress m.listing.scenarios h.ids;
      rise = ids-end 1 m.listing.scenarios m.listing.next one refl h.rise;
      progress = all_end (IsProgress (version m)) m.progress (fresh m.listing.next) h.progress (record { published = tt; mark = tt });
      tickets = claims m new (omega arith) (omega arith) (λ id s. stands-end id (fresh m.listing.next) m.progress s) m.tickets h.tickets;
      numbers = h.numbers;
      standing = h.standing;
      versions = let a = h.versions in omega arith;
      next_id = let a = h.next_id in omega arith;
      first_ticket = h.first_ticket;
      next_ticket = let a = h.next_ticket in omega arith;
      notes = omega (arith, lt);
    }

sound-drop : (m : Machine) (name : List ℕ) (k : ℕ) → id_of name m.listing ≡ Some k → IsSound m → m.notes < note_limit → IsSound (noted (dropped name k m))
sound-drop m name k found h lt =
    let new : Machine = noted (dropped name k m) in
    record {
      ids = ids_filter k m.progress ∙ ap (filter (λ i. not (i == k))) h.ids ∙ ids_without name k 1 m.listing.scenarios m.listing.next h.rise found;
      rise = ids-without name 1 m.listing.scenarios m.listing.next h.rise;
      progress = all_filter (IsProgress (version m)) (IsProgress (version m)) (λ p. not (p.id == k)) (λ p e q. q) m.progress h.progress;
      tickets = all_filter (IsClaim m) (IsClaim new) (λ t. not (t.id == k)) (λ t e c.
          let apart : (t.id == k) ≡ false = grind (arith, nat_tests) in
          record { number = c.number; made = c.made; stands = ap is_some (progress_of-other t.id k apart m.progress) ∙ c.stands }) m.tickets h.tickets;
      numbers = rise_filter (λ t. t.number) (λ t. not (t.id == k)) 0 m.tickets h.numbers;
      standing = let a = h.standing in let b = length_filter (λ (t : Ticket). not (t.id == k)) m.tickets in omega (arith, a, b);
      versions = let a = h.versions in omega arith;
      next_id = let a = h.next_id in omega arith;
      first_ticket = h.first_ticket;
      next_ticket = let a = h.next_ticket in omega arith;
      notes = omega (arith, lt);
    }

sound-changed : (m : Machine) (k : ℕ) (f : Progress → Progress) (test : Ticket → Bool) → ((p : Progress) → (f p).id ≡ p.id) → ((p : Progress) → IsProgress (version m) p → IsProgress (version m) (f p)) → IsSound m → m.notes < note_limit → IsSound (noted (record m { progress = changed k f m.progress; tickets = filter test m.tickets }))
sound-changed m k f test keep sound h lt =
    let new : Machine = noted (record m { progress = changed k f m.progress; tickets = filter test m.tickets }) in
    record {
      ids = ids_changed k f keep m.progress ∙ h.ids;
      rise = h.rise;
      progress = all_map (IsProgress (version m)) (IsProgress (version m)) (alter k f) (altered (version m) k f sound) m.progress h.progress;
      tickets = all_filter (IsClaim m) (IsClaim new) test (λ t e c. record { number = c.number; made = c.made; stands = stands-changed t.id k f keep m.progress ∙ c.stands }) m.tickets h.tickets;
      numbers = rise_filter (λ t. t.number) test 0 m.tickets h.numbers;
      standing = let a = h.standing in let b = length_filter test m.tickets in omega (arith, a, b);
      versions = let a = h.versions in omega arith;
      next_id = let a = h.next_id in omega arith;
      first_ticket = h.first_ticket;
      next_ticket = let a = h.next_ticket in omega arith;
      notes = omega (arith, lt);
    }

filter-all : {X : Type 0} (xs : List X) → filter (λ _. true) xs ≡ xs
filter-all [] = refl
filter-all (x ∷ xs) = ap (λ ys. x ∷ ys) (filter-all xs)

sound-retry : (m : Machine) (k : ℕ) → IsSound m → m.notes < note_limit → IsSound (noted (record m { progress = changed k (λ p. record p { mark = None }) m.progress }))
sound-retry m k h lt =
    let f : Progress → Progress = λ p. record p { mark = None } in
    subst (λ ts. IsSound (noted (record m { progress = changed k (λ p. record p { mark = None }) m.progress; tickets = ts }))) (filter-all m.tickets)
    (sound-changed m k f (λ _. true) (λ p. refl) (λ p q. record { published = q.published; mark = tt }) h lt)

sound-closed : (m : Machine) (number : ℕ) → IsSound m → m.notes < note_limit → IsSound (noted (record m { tickets = closed number m.tickets }))
sound-closed m number h lt =
    let new : Machine = noted (record m { tickets = closed number m.tickets }) in
    record {
      ids = h.ids;
      rise = h.rise;
      progress = h.progress;
      tickets = all_filter (IsClaim m) (IsClaim new) (λ t. not (t.number == number)) (λ t e c. record { number = c.number; made = c.made; stands = c.stands }) m.tickets h.tickets;
      numbers = rise_filter (λ t. t.number) (λ t. not (t.number == number)) 0 m.tickets h.numbers;
      standing = let a = h.standing in let b = length_filter (λ (t : Ticket). not (t.number == number)) m.tickets in omega (arith, a, b);
      versions = let a = h.versions in omega arith;
      next_id = let a = h.next_id in omega arith;
      first_ticket = h.first_ticket;
      next_ticket = let a = h.next_ticket in omega arith;
      notes = omega (arith, lt);
    }

sound-claim : (m : Machine) (p : Progress) → due m ≡ Some p → are_all_out m ≡ false → IsSound m → m.notes < note_limit → IsSound (noted (record m { tickets = m.tickets ++ record { number = m.next_ticket; id = p.id; version = version m } ∷ []; next_ticket = m.next_ticket + 1 }))
sound-claim m p found free h lt =
    let one : Ticket = record { number = m.next_ticket; id = p.id; version = version m } in
    let new : Machine = noted (record m { tickets = m.tickets ++ one ∷ []; next_ticket = m.next_ticket + 1 }) in
    let len : length (m.tickets ++ one ∷ []) ≡ length m.tickets + 1 = omega (arith, length-append m.tickets (one ∷ [])) in
    let capacity : length m.tickets < 256 = grind (arith, nat_tests) in
    record {
      ids = h.ids;
      rise = h.rise;
      progress = h.progress;
      tickets = all_end (IsClaim new) m.tickets one (claims m new (omega arith) (omega arith) (λ id s. s) m.tickets h.tickets) (record { number = omega arith; made = omega arith; stands = due_stands m p m.progress found });
      numbers = rise_end (λ t. t.number) m.next_ticket one refl 0 m.tickets (let a = h.first_ticket in omega arith) (all_weaken (IsClaim m) (λ t. t.number < m.next_ticket) (λ t c. c.number) m.tickets h.tickets) h.numbers;
      standing = omega (arith, len, capacity);
      versions = let a = h.versions in omega arith;
      next_id = let a = h.next_id in omega arith;
      first_ticket = omega arith;
      next_ticket = let a = h.next_ticket in omega arith;
      notes = omega (arith, lt);
    }

edit_sound : (m : Machine) (edit : LogEdit) (b : Bool) → IsSound m → m.notes < note_limit → IsSound (noted (cond b m (record m { edits = m.edits ++ edit ∷ [] })))
edit_sound m edit true h lt = sound-same m h lt
edit_sound m edit false h lt = sound-edit m edit h lt

add_sound : (m : Machine) (name : List ℕ) (scenario : ScenarioView) (b : Bool) → IsSound m → m.notes < note_limit → IsSound (noted (cond b m (record m { listing = with_scenario name scenario m.listing; progress = m.progress ++ fresh m.listing.next ∷ [] })))
add_sound m name scenario true h lt = sound-same m h lt
add_sound m name scenario false h lt = sound-add m name scenario h lt

drop_sound : (m : Machine) (name : List ℕ) (o : Option ℕ) → id_of name m.listing ≡ o → IsSound m → m.notes < note_limit → IsSound (noted (elim o [ None ↦ m | Some k ↦ dropped name k m ]))
drop_sound m name None is h lt = sound-same m h lt
drop_sound m name (Some k) is h lt = sound-drop m name k is h lt

claim_sound : (m : Machine) (o : Option Progress) (b : Bool) → due m ≡ o → are_all_out m ≡ b → IsSound m → m.notes < note_limit → IsSound (noted (elim o [ None ↦ m | Some p ↦ cond b m (record m { tickets = m.tickets ++ record { number = m.next_ticket; id = p.id; version = version m } ∷ []; next_ticket = m.next_ticket + 1 }) ]))
claim_sound m None b is e h lt = sound-same m h lt
claim_sound m (Some p) true is e h lt = sound-same m h lt
claim_sound m (Some p) false is e h lt = sound-claim m p is e h lt

finish_sound : (m : Machine) (number : ℕ) (fits : Bool) (o : Option Ticket) → ticket_of number m.tickets ≡ o → IsSound m → m.notes < note_limit → IsSound (noted (elim o [ None ↦ m | Some t ↦ cond fits (record m { progress = changed t.id (publish t.version) m.progress; tickets = closed number m.tickets }) m ]))
finish_sound m number fits None is h lt = sound-same m h lt
finish_sound m number false (Some t) is h lt = sound-same m h lt
finish_sound m number true (Some t) is h lt =
    let claim : IsClaim m t = found_ticket (IsClaim m) number t m.tickets h.tickets is in
    sound-changed m t.id (publish t.version) (λ u. not (u.number == number)) (publish_id t.version) (published_made (version m) t.version claim.made) h lt

give_up_sound : (m : Machine) (number : ℕ) (t : Ticket) (b : Bool) → ticket_of number m.tickets ≡ Some t → IsSound m → m.notes < note_limit → IsSound (noted (record m { progress = cond b (changed t.id (λ p. record p { mark = Some t.version }) m.progress) m.progress; tickets = closed number m.tickets }))
give_up_sound m number t true is h lt =
    let claim : IsClaim m t = found_ticket (IsClaim m) number t m.tickets h.tickets is in
    sound-changed m t.id (λ p. record p { mark = Some t.version }) (λ u. not (u.number == number)) (λ p. refl) (λ p q. record { published = q.published; mark = claim.made }) h lt
give_up_sound m number t false is h lt = sound-closed m number h lt

given_up_sound : (m : Machine) (number : ℕ) (o : Option Ticket) → ticket_of number m.tickets ≡ o → IsSound m → m.notes < note_limit → IsSound (noted (elim o [ None ↦ m | Some t ↦ record m { progress = marked t m; tickets = closed number m.tickets } ]))
given_up_sound m number None is h lt = sound-same m h lt
given_up_sound m number (Some t) is h lt = give_up_sound m number t (t.version == version m) is h lt

pub step_sound : (m : Machine) (call : BookCall) → IsSound m → m.notes < note_limit → IsSound (after call m)
step_sound m (Edit edit) h lt = edit_sound m edit (is_some (fault_of edit (current m))) h lt
step_sound m (AddScenario name scenario) h lt = add_sound m name scenario (is_some (add_fault name m.listing)) h lt
step_sound m (DropScenario name) h lt = drop_sound m name (id_of name m.listing) refl h lt
step_sound m (Retry k) h lt = sound-retry m k h lt
step_sound m Claim h lt = claim_sound m (due m) (are_all_out m) refl refl h lt
step_sound m (Finish number fits) h lt = finish_sound m number fits (ticket_of number m.tickets) refl h lt
step_sound m (GiveUp number) h lt = given_up_sound m number (ticket_of number m.tickets) refl h lt
step_sound m (View k seen) h lt = sound-same m h lt

-- a log that was just opened is a sound state
pub sound-opened : (log : List LogEntry) → IsSound (opened log)
sound-opened log = record {
  ids = refl;
  rise = omega arith;
  progress = tt;
  tickets = tt;
  numbers = tt;
  standing = omega arith;
  versions = omega arith;
  next_id = omega arith;
  first_ticket = omega arith;
  next_ticket = omega arith;
  notes = omega arith;
}

-- the calls of a legal history keep a state sound
pub sound_after : (m : Machine) (notes : List Noted) → IsSound m → IsLegal m notes → IsSound (after_all m notes)
sound_after m [] h legal = h
sound_after m (note ∷ notes) h legal = sound_after (after note.call m) notes (step_sound m note.call h legal.0) legal.2
