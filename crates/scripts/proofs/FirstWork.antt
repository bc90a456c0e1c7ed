-- A book that was just opened is worked, one scenario after another, until every one shows the log as it was opened; each takes two notes.
use Rattle.std.proofs.Common.{◌≡◌, ℕ, ◌+◌, ◌*◌, ◌<◌, ◌≤◌, List, [], ◌∷◌, ◌++◌, length, map, cond, Bool, true, false, not, Option, None, Some, is_some, eqb, refl, sym, ◌∙◌, ap, ap₂, subst, inl, arith, append_assoc, append-nil}
use Rattle.std.specs.Prelude.{find, count_by}
use Rattle.std.specs.List.{list_any}
use Rattle.std.proofs.lemmas.Bool.{eq-eqb}
use Rattle.std.proofs.lemmas.Grind.{common_steps}
use Rattle.std.proofs.lemmas.List.{map-append}
use Rattle.swf_text.specs.Entry.{LogEntry}
use Rattle.scenarios.specs.ScenarioList.{Listed, Listing, IdsRise}
use Rattle.book_machine.specs.declared.settle_state.SettleState.TheVariants as settle
use Rattle.book_machine.specs.Call.{Claim, Finish}
use Rattle.book_machine.specs.Machine.{Machine, Progress, Ticket, after, are_all_out, changed, closed, fresh, is_due, is_good, is_waiting, note_limit, noted, publish, settled, ticket_of, version}
use Rattle.version_book.specs.Settling.{Ended, Published, AreWorked, IsWorked, Settles}
use Rattle.scripts.proofs.Starts.{fresh_of, start, state}

-- a scenario shows the log as it was opened
abbrev pub shown : ℕ → Progress
shown id = record { id = id; published = Some 0; mark = None }

-- these scenarios show the log as it was opened
abbrev pub shown_of : List Listed → List Progress
shown_of scenarios = map (λ (s : Listed). shown s.id) scenarios

module _ (log : List LogEntry) (list : Listing) where
  due-behind : (progress : List Progress) (next notes : ℕ) (xs : List Listed) (ys : List Progress) → find (is_due (state log list progress next notes)) (shown_of xs ++ ys) ≡ find (is_due (state log list progress next notes)) ys
  due-behind progress next notes [] ys = refl
  due-behind progress next notes (x ∷ xs) ys = due-behind progress next notes xs ys

  none-due : (progress : List Progress) (next notes : ℕ) (xs : List Listed) → find (is_due (state log list progress next notes)) (shown_of xs) ≡ None
  none-due progress next notes [] = refl
  none-due progress next notes (x ∷ xs) = none-due progress next notes xs

  abbrev before_one : List Listed → Listed → List Listed → List Progress
  before_one front s back = shown_of front ++ fresh s.id ∷ fresh_of back

  abbrev after_one : List Listed → Listed → List Listed → List Progress
  after_one front s back = shown_of front ++ shown s.id ∷ fresh_of back

  either : (b : Bool) (p : Progress) → cond b p p ≡ p
  either true p = refl
  either false p = refl

  apart : (a b : ℕ) → a < b → eqb b a ≡ false
  apart a b lt = grind (arith, common_steps)

  changed-back : (id first : ℕ) (back : List Listed) (last : ℕ) → id < first → IdsRise first back last → changed id (publish 0) (fresh_of back) ≡ fresh_of back
  changed-back id first [] last lt rise = refl
  changed-back id first (x ∷ back) last lt rise =
      let other : eqb x.id id ≡ false = apart id x.id (omega (arith, lt, rise.0)) in
      ap₂ (λ (p : Progress) (ps : List Progress). p ∷ ps) (ap (λ (b : Bool). cond b (shown x.id) (fresh x.id)) other) (changed-back id (x.id + 1) back last (omega (arith, lt, rise.0)) rise.1)

  changed-one : (front : List Listed) (s : Listed) (back : List Listed) (last : ℕ) → IdsRise (s.id + 1) back last → changed s.id (publish 0) (before_one front s back) ≡ after_one front s back
  changed-one [] s back last rise =
      ap₂ (λ (p : Progress) (ps : List Progress). p ∷ ps) (ap (λ (b : Bool). cond b (shown s.id) (fresh s.id)) (eq-eqb s.id s.id refl)) (changed-back s.id (s.id + 1) back last (omega arith) rise)
  changed-one (x ∷ front) s back last rise =
      ap₂ (λ (p : Progress) (ps : List Progress). p ∷ ps) (either (eqb x.id s.id) (shown x.id)) (changed-one front s back last rise)

  abbrev claimed_by : Machine → Option Progress → Machine
  claimed_by m o = elim o [
    | None ↦ m
    | Some p ↦ cond (are_all_out m) m (record m { tickets = m.tickets ++ record { number = m.next_ticket; id = p.id; version = version m } ∷ []; next_ticket = m.next_ticket + 1 })
  ]

  abbrev finished_by : ℕ → Machine → Option Ticket → Machine
  finished_by n m o = elim o [ None ↦ m | Some t ↦ record m { progress = changed t.id (publish t.version) m.progress; tickets = closed n m.tickets } ]

  abbrev ticket_for : ℕ → Listed → Ticket
  ticket_for number s = record { number = number; id = s.id; version = 0 }

  abbrev claimed : List Progress → Listed → ℕ → ℕ → Machine
  claimed progress s next notes = record (state log list progress (next + 1) (notes + 1)) { tickets = ticket_for next s ∷ [] }

  found-ticket : (next : ℕ) (s : Listed) → ticket_of next (ticket_for next s ∷ []) ≡ Some (ticket_for next s)
  found-ticket next s = ap (λ (b : Bool). cond b (Some (ticket_for next s)) None) (eq-eqb next next refl)

  closed-ticket : (next : ℕ) (s : Listed) → closed next (ticket_for next s ∷ []) ≡ []
  closed-ticket next s = rw (eq-eqb next next refl) refl

  claims-one : (front : List Listed) (s : Listed) (back : List Listed) (next notes : ℕ) → after Claim (state log list (before_one front s back) next notes) ≡ claimed (before_one front s back) s next notes
  claims-one front s back next notes =
      ap (λ (o : Option Progress). noted (claimed_by (state log list (before_one front s back) next notes) o)) (due-behind (before_one front s back) next notes front (fresh s.id ∷ fresh_of back))

  finishes-one : (front : List Listed) (s : Listed) (back : List Listed) (last next notes : ℕ) → IdsRise (s.id + 1) back last → after (Finish next true) (claimed (before_one front s back) s next notes) ≡ state log list (after_one front s back) (next + 1) (notes + 1 + 1)
  finishes-one front s back last next notes rise =
      ap (λ (o : Option Ticket). noted (finished_by next (claimed (before_one front s back) s next notes) o)) (found-ticket next s)
      ∙ ap₂ (λ (ps : List Progress) (ts : List Ticket). record (state log list ps (next + 1) (notes + 1 + 1)) { tickets = ts }) (changed-one front s back last rise) (closed-ticket next s)

  work-one : (front : List Listed) (s : Listed) (back : List Listed) (last next notes : ℕ) → IdsRise (s.id + 1) back last → notes + 1 < note_limit → IsWorked false (state log list (before_one front s back) next notes) Published (state log list (after_one front s back) (next + 1) (notes + 1 + 1))
  work-one front s back last next notes rise capacity = record {
    claims = record { some_due = ap is_some (due-behind (before_one front s back) next notes front (fresh s.id ∷ fresh_of back)); free = refl };
    capacity = capacity;
    cause = tt;
    made = sym (ap (after (Finish next true)) (claims-one front s back next notes) ∙ finishes-one front s back last next notes rise);
  }

  pub record AreAllWorked (front back : List Listed) (next notes : ℕ) : Type 0 where
    pub ends : List Ended
    pub ticket : ℕ
    pub noted_then : ℕ
    pub counted : noted_then ≡ notes + 2 * length back
    pub worked : AreWorked false (state log list (shown_of front ++ fresh_of back) next notes) ends (state log list (shown_of (front ++ back)) ticket noted_then)

  one-behind : (front : List Listed) (s : Listed) (back : List Listed) → shown_of (front ++ s ∷ []) ++ fresh_of back ≡ after_one front s back
  one-behind front s back =
      ap (λ (ps : List Progress). ps ++ fresh_of back) (map-append (λ (x : Listed). shown x.id) front (s ∷ [])) ∙ append_assoc (shown_of front) (shown s.id ∷ []) (fresh_of back)

  all-worked : (front back : List Listed) (first last next notes : ℕ) → IdsRise first back last → notes + 2 * length back < note_limit → AreAllWorked front back next notes
  all-worked front [] first last next notes rise capacity = record {
    ends = [];
    ticket = next;
    noted_then = notes;
    counted = omega arith;
    worked = ap (λ (ps : List Progress). state log list ps next notes) (ap shown_of (append-nil front) ∙ sym (append-nil (shown_of front)));
  }
  all-worked front (s ∷ back) first last next notes rise capacity =
      let later = all-worked (front ++ s ∷ []) back (s.id + 1) last (next + 1) (notes + 1 + 1) rise.1 (omega (arith, capacity)) in
      let from : AreWorked false (state log list (after_one front s back) (next + 1) (notes + 1 + 1)) later.ends (state log list (shown_of ((front ++ s ∷ []) ++ back)) later.ticket later.noted_then) = subst (λ (ps : List Progress). AreWorked false (state log list ps (next + 1) (notes + 1 + 1)) later.ends (state log list (shown_of ((front ++ s ∷ []) ++ back)) later.ticket later.noted_then)) (one-behind front s back) later.worked in
      record {
        ends = Published ∷ later.ends;
        ticket = later.ticket;
        noted_then = later.noted_then;
        counted = omega (arith, later.counted);
        worked = (
          state log list (after_one front s back) (next + 1) (notes + 1 + 1),
          work-one front s back last next notes rise.1 (omega (arith, capacity)),
          subst (λ (xs : List Listed). AreWorked false (state log list (after_one front s back) (next + 1) (notes + 1 + 1)) later.ends (state log list (shown_of xs) later.ticket later.noted_then)) (append_assoc front (s ∷ []) back) from,
        );
      }

  -- the work that is due leads to this state, where every scenario shows the log as it was opened
  pub record IsFirstWork (new : Machine) : Type 0 where
    pub settles : Settles false (start log list) new
    pub ticket : ℕ
    pub noted_then : ℕ
    pub few : noted_then < note_limit
    pub is : new ≡ state log list (shown_of list.scenarios) ticket noted_then

  -- a book just opened, with at most 64 scenarios whose ids rise, is worked until every scenario shows the log
  pub first-work : (last : ℕ) → IdsRise 1 list.scenarios last → length list.scenarios ≤ 64 → (new : Machine) × IsFirstWork new
  first-work last rise few =
      let all = all-worked [] list.scenarios 1 last 1 (length list.scenarios) rise (omega (arith, few)) in
      let new = state log list (shown_of list.scenarios) all.ticket all.noted_then in (
        new,
        record {
          settles = (all.ends, new, all.worked, inl (inl (none-due (shown_of list.scenarios) all.ticket all.noted_then list.scenarios), refl));
          ticket = all.ticket;
          noted_then = all.noted_then;
          few = omega (arith, few, all.counted);
          is = refl;
        },
      )

  none-waits : (progress : List Progress) (next notes : ℕ) (xs : List Listed) → list_any (is_waiting 0 (state log list progress next notes)) (shown_of xs) ≡ false
  none-waits progress next notes [] = refl
  none-waits progress next notes (x ∷ xs) = none-waits progress next notes xs

  none-behind : (xs : List Listed) → count_by (λ p. not (is_good 0 p)) (shown_of xs) ≡ 0
  none-behind [] = refl
  none-behind (x ∷ xs) = none-behind xs

  -- where every scenario shows the log as it was opened, the book is settled for a session that has seen no later version
  pub settled-done : (next notes : ℕ) → settled 0 (state log list (shown_of list.scenarios) next notes) ≡ settle.Done
  settled-done next notes =
      ap₂ (λ (b : Bool) (n : ℕ). cond b settle.Waiting (cond (eqb n 0) settle.Done (settle.Failed n))) (none-waits (shown_of list.scenarios) next notes list.scenarios) (none-behind list.scenarios)
