-- What workers have called stands in their lists, and so in the history of their desk: claims, and what became of each.
use Rattle.std.proofs.Common.{◌≡◌, ◌⊎◌, ◌||◌, ◌==◌, ℕ, zero, suc, ◌<◌, Bool, true, false, cond, filter, get_or, List, [], ◌∷◌, length, map, Option, Some, None, refl, sym, ap, subst, ◌∙◌, arith, inl, inr}
use Rattle.std.specs.Prelude.{slice_get}
use Rattle.std.specs.List.{All, list_any}
use Rattle.std.proofs.lemmas.Bool.{eqb-true}
use Rattle.std.proofs.lemmas.List.Elements.{All-append, All-cons, All-head, All-nil, All-tail}
use Rattle.std.proofs.lemmas.Option.{slice_get_within}
use Rattle.book_machine.specs.declared.caller.Caller.{Caller}
use Rattle.book_machine.specs.declared.caller.Caller.TheVariants as caller
use Rattle.book_machine.specs.declared.reply.Reply.{Reply}
use Rattle.book_machine.specs.Call.{BookCall, Claim, Finish, GiveUp}
use Rattle.book_machine.specs.History.{Noted}
use Rattle.workers.specs.Callers.{IsNewWorker, SessionView, WorkerView}
use Rattle.workers.specs.Closing.{IsAnswered}
use Rattle.workers.specs.Lists.{ListedView, listed_by, part_of, same_caller}
use Rattle.workers.specs.Work.{WorksOn, held_after, held_after_call}
use Rattle.easybook.specs.Along.{AreWork, IsWork, MayCall}

work_call : (held : Option ℕ) (call : BookCall) (r : Reply) (now : Option ℕ) → held_after_call held call r ≡ Some now → IsWork call
work_call held Claim r now h = tt
work_call held (Finish ticket fits) r now h = tt
work_call held (GiveUp ticket) r now h = tt
work_call None call r now h = absurd (cc h)
work_call (Some t) call r now h = absurd (cc h)

work_added : (held : Option ℕ) (added : List ListedView) (last : Option ℕ) → held_after held added ≡ Some last → AreWork added
work_added held [] last h = All-nil (λ (e : ListedView). IsWork e.call)
work_added held (e ∷ es) last h = go (held_after_call held e.call e.reply) refl h (λ now k. work_added now es last k)
  where
    go : (o : Option (Option ℕ)) → held_after_call held e.call e.reply ≡ o → elim o [ None ↦ None | Some now ↦ held_after now es ] ≡ Some last → ((now : Option ℕ) → held_after now es ≡ Some last → AreWork es) → AreWork (e ∷ es)
    go None is k rest = absurd (cc k)
    go (Some now) is k rest = All-cons (λ (x : ListedView). IsWork x.call) e es (work_call held e.call e.reply now is) (rest now k)

-- a worker that was just opened has called nothing
pub new_work : (w : WorkerView) → IsNewWorker w → AreWork w.list
new_work w new = subst AreWork (sym (ap (λ (v : WorkerView). v.list) new.0)) (All-nil (λ (e : ListedView). IsWork e.call))

-- a list of such calls that goes on as a worker's does is a list of such calls
pub more_work : (old new : List ListedView) → AreWork old → WorksOn old new → AreWork new
more_work old new work on = subst AreWork (sym on.2) (All-append (λ (e : ListedView). IsWork e.call) old on.0 work (work_added None on.0 on.1 on.3))

behind : (b : Bool) (n : Noted) (rest : List Noted) → AreWork (map listed_by (cond b (n ∷ rest) rest)) → AreWork (map listed_by rest)
behind true n rest work = All-tail (λ (e : ListedView). IsWork e.call) (listed_by n) (map listed_by rest) work
behind false n rest work = work

here : (b : Bool) (n : Noted) (rest : List Noted) → b ≡ true → AreWork (map listed_by (cond b (n ∷ rest) rest)) → IsWork n.call
here true n rest is work = All-head (λ (e : ListedView). IsWork e.call) (listed_by n) (map listed_by rest) work
here false n rest is work = absurd (cc is)

work_in : (who : Caller) (notes : List Noted) (k : ℕ) (d : Noted) → k < length notes → AreWork (part_of who notes) → same_caller (get_or notes k d).caller who ≡ true → IsWork (get_or notes k d).call
work_in who [] k d lt work same = absurd (omega (arith, lt))
work_in who (n ∷ ns) zero d lt work same = here (same_caller n.caller who) n (filter (λ (m : Noted). same_caller m.caller who) ns) same work
work_in who (n ∷ ns) (suc k) d lt work same =
    work_in who ns k d (omega (arith, lt)) (behind (same_caller n.caller who) n (filter (λ (m : Noted). same_caller m.caller who) ns) work) same

either_true : (x y : Bool) → (x || y) ≡ true → (x ≡ true) ⊎ (y ≡ true)
either_true true y h = inl refl
either_true false y h = inr h

no_worker : (m : ℕ) (ws : List WorkerView) → list_any (λ (w : WorkerView). same_caller (caller.Session m) (caller.Worker w.number)) ws ≡ true → ⊥
no_worker m [] h = absurd (cc h)
no_worker m (w ∷ ws) h = no_worker m ws h

no_session : (m : ℕ) (ss : List SessionView) → list_any (λ (s : SessionView). same_caller (caller.Worker m) (caller.Session s.number)) ss ≡ true → ⊥
no_session m [] h = absurd (cc h)
no_session m (s ∷ ss) h = no_session m ss h

has_session : (m : ℕ) (ss : List SessionView) → list_any (λ (s : SessionView). same_caller (caller.Session m) (caller.Session s.number)) ss ≡ true → (k : ℕ) × (s : SessionView) × (slice_get ss k ≡ Some s) × (m ≡ s.number)
has_session m [] h = absurd (cc h)
has_session m (s ∷ ss) h = elim (either_true (m == s.number) (list_any (λ (x : SessionView). same_caller (caller.Session m) (caller.Session x.number)) ss) h) [
  | inl first ↦ (0, s, refl, eqb-true m s.number first)
  | inr later ↦ let found = has_session m ss later in (suc found.0, found.1, found.2, found.3)
]

of_worker : (m : ℕ) (ws : List WorkerView) (P : List ListedView → Type 0) → list_any (λ (w : WorkerView). same_caller (caller.Worker m) (caller.Worker w.number)) ws ≡ true → ((k : ℕ) (d : WorkerView) → k < length ws → (get_or ws k d).number ≡ m → P (get_or ws k d).list) → (list : List ListedView) × P list
of_worker m [] P h each = absurd (cc h)
of_worker m (w ∷ ws) P h each = elim (either_true (m == w.number) (list_any (λ (x : WorkerView). same_caller (caller.Worker m) (caller.Worker x.number)) ws) h) [
  | inl first ↦ (w.list, each 0 w (omega arith) (sym (eqb-true m w.number first)))
  | inr later ↦ of_worker m ws P later (λ k d lt is. each (suc k) d (omega (arith, lt)) is)
]

same_self : (who : Caller) → same_caller who who ≡ true
same_self (caller.Session k) = grind arith
same_self (caller.Worker k) = grind arith

may : (sessions : List SessionView) (workers : List WorkerView) (notes : List Noted) (count : ℕ)
    → ((k : ℕ) (s : SessionView) → slice_get sessions k ≡ Some s → s.number ≡ k) → length sessions ≡ count → All (λ (w : WorkerView). AreWork w.list) workers → IsAnswered sessions workers notes
    → (k : ℕ) (d : Noted) → k < length notes → (who : Caller) → (get_or notes k d).caller ≡ who
    → (list_any (λ (s : SessionView). same_caller who (caller.Session s.number)) sessions || list_any (λ (w : WorkerView). same_caller who (caller.Worker w.number)) workers) ≡ true → MayCall count who (get_or notes k d).call
may sessions workers notes count numbers same work answered k d lt (caller.Session m) is known = elim (either_true _ _ known) [
  | inl one ↦
      let found = has_session m sessions one in
      let within : found.0 < length sessions = slice_get_within sessions found.0 found.1 found.2 in
      omega (arith, within, same, numbers found.0 found.1 found.2, found.3)
  | inr other ↦ absurd (no_worker m workers other)
]
may sessions workers notes count numbers same work answered k d lt (caller.Worker m) is known = elim (either_true _ _ known) [
  | inl other ↦ absurd (no_session m sessions other)
  | inr one ↦
      let mine = of_worker m workers (λ list. AreWork list × (list ≡ part_of (caller.Worker m) notes)) one
      (λ j e within number. (work j e within, answered.by_workers j e within ∙ ap (λ (i : ℕ). part_of (caller.Worker i) notes) number)) in
      work_in (caller.Worker m) notes k d lt (subst AreWork mine.1.1 mine.1.0) (ap (λ (c : Caller). same_caller c (caller.Worker m)) is ∙ same_self (caller.Worker m))
]

-- where the callers' lists are the notes, sessions stand at the places of their numbers, and workers have only worked, nobody else calls anything
pub all_may : (sessions : List SessionView) (workers : List WorkerView) (notes : List Noted) (count : ℕ)
    → ((k : ℕ) (s : SessionView) → slice_get sessions k ≡ Some s → s.number ≡ k) → length sessions ≡ count → All (λ (w : WorkerView). AreWork w.list) workers → IsAnswered sessions workers notes
    → All (λ (n : Noted). MayCall count n.caller n.call) notes
all_may sessions workers notes count numbers same work answered k d lt = may sessions workers notes count numbers same work answered k d lt (get_or notes k d).caller refl (answered.known k d lt)
