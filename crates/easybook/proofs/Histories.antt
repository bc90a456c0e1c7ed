-- The responses to the sessions side by side stand in the one history of their desk: those to one session, to all of them, and to one more.
use Rattle.std.proofs.Common.{◌≡◌, ◌⊎◌, ℕ, zero, suc, ◌≤◌, ◌<◌, true, List, [], ◌∷◌, ◌++◌, length, Some, refl, sym, ap, subst, ◌∙◌, arith, inl, inr, length-append}
use Rattle.std.specs.Prelude.{slice_get}
use Rattle.std.specs.List.{All}
use Rattle.std.proofs.lemmas.List.{nil_from_length}
use Rattle.std.proofs.lemmas.Option.{get_or_from_slice_get, slice_get_within}
use mathlib.Core.List.{IsPrefix}
use Rattle.book_machine.specs.declared.caller.Caller.TheVariants as caller
use Rattle.book_machine.specs.History.{Noted}
use Rattle.book_machine.specs.Machine.{Machine}
use Rattle.chronicle.specs.Events.{Happened}
use Rattle.swf_text.specs.Text.{lines}
use Rattle.workers.specs.Callers.{IsNewSession, SessionView, WorkerView}
use Rattle.workers.specs.Closing.{IsAnswered, StandInOne}
use Rattle.workers.specs.Lists.{part_of}
use Rattle.scripts.specs.Analysts.{LinesBy}
use Rattle.scripts.specs.Transcript.{looked_at}
use Rattle.scripts.proofs.Lemmas.{lines-lift}
use Rattle.easybook.specs.Along.{AreAnsweredAlong, AreWork, IsAnsweredAlong, MayCall, rules_along}
use Rattle.easybook.specs.DeskRules.{AreAtDesk, IsAnsweredAtDesk, IsWorkedAtDesk, desk_rules}
use Rattle.easybook.proofs.Alongs.{IsFitting, IsWhole, desk_lifts, place_of}
use Rattle.easybook.proofs.Own.{goes_by_others, own, own_grows}
use Rattle.easybook.proofs.Workings.{all_may}

-- where a new session worked the script of its number to the end, all that was written is what it produced for the script
pub worked_new : (A : Type 0) (opening : Machine) (comments scripts shown : List (List ℕ)) (first last session : SessionView) (script before text : List ℕ)
    → IsNewSession first → slice_get scripts first.number ≡ Some script → shown ≡ comments → before ≡ [] → last ≡ session → IsWorkedAtDesk A opening shown first script last before text
    → IsAnsweredAtDesk A opening comments scripts (record { session = session; text = text })
worked_new A opening comments scripts shown first last session script before text new is same empty there w =
    let all : text ≡ w.0 = w.2 ∙ ap (λ (bs : List ℕ). bs ++ w.0) empty in
    record {
      first = first;
      new = new;
      script = script;
      is_script = is;
      answered = subst (λ (cs : List (List ℕ)). LinesBy (desk_rules opening) A cs first (looked_at A (lines script)) 1 text session) same
          (subst (λ (s : SessionView). LinesBy (desk_rules opening) A shown first (looked_at A (lines script)) 1 text s) there
          (subst (λ (out : List ℕ). LinesBy (desk_rules opening) A shown first (looked_at A (lines script)) 1 out last) (sym all) w.1));
    }

along_its_number : (A : Type 0) (comments scripts : List (List ℕ)) (opening : Machine) (events : List Happened) (s : SessionView) (text script : List ℕ) (a : IsAnsweredAtDesk A opening comments scripts (record { session = s; text = text }))
    → (s.front.kept ≡ true) × IsPrefix s.front.events events → slice_get scripts a.first.number ≡ Some script → s.list ≡ own a.first.number events
    → IsAnsweredAlong A comments opening events a.first.number script text
along_its_number A comments scripts opening events s text script a seen is mine =
    let who : ℕ = a.first.number in
    let empty : length a.first.list ≡ 0 = ap (λ (f : SessionView). length f.list) a.new.0 in
    let lift = lines-lift (desk_rules opening) (rules_along opening who) place_of (IsFitting who) (IsWhole who) A (desk_lifts opening who) comments a.first (looked_at A (lines a.script)) 1 text s a.answered (refl, λ kept. omega (arith, empty)) in
    let few : length s.list ≤ length (own who s.front.events) = lift.0.1 seen.0 in
    let grown : length (own who s.front.events) ≤ length (own who events) = own_grows who s.front.events events seen.1 in
    let all : length s.list ≡ length (own who events) = ap length mine in
    let h = lift.1 (seen.0, omega (arith, few, grown, all)) in
    let same : a.script ≡ script = cc (a.is_script, is) in
    record {
      first = place_of a.first;
      last = place_of s;
      begins = (a.first.front.events, refl, nil_from_length (own who a.first.front.events) (omega (arith, h.0.1, empty)));
      unseen = ap (λ (f : SessionView). f.seen) a.new.0;
      answered = subst (λ (bytes : List ℕ). LinesBy (rules_along opening who) A comments (place_of a.first) (looked_at A (lines bytes)) 1 text (place_of s)) same h.1;
      ends = goes_by_others who s.front.events events seen.1 (omega (arith, few, grown, all));
    }

keeps_number : (A : Type 0) (comments scripts : List (List ℕ)) (opening : Machine) (s : SessionView) (text : List ℕ) (a : IsAnsweredAtDesk A opening comments scripts (record { session = s; text = text })) → s.number ≡ a.first.number
keeps_number A comments scripts opening s text a =
    let who : ℕ = a.first.number in
    let empty : length a.first.list ≡ 0 = ap (λ (f : SessionView). length f.list) a.new.0 in
    (lines-lift (desk_rules opening) (rules_along opening who) place_of (IsFitting who) (IsWhole who) A (desk_lifts opening who) comments a.first (looked_at A (lines a.script)) 1 text s a.answered (refl, λ kept. omega (arith, empty))).0.0

along_one : (A : Type 0) (comments scripts : List (List ℕ)) (opening : Machine) (events : List Happened) (k : ℕ) (s : SessionView) (text script : List ℕ)
    → s.number ≡ k → IsAnsweredAtDesk A opening comments scripts (record { session = s; text = text })
    → (s.front.kept ≡ true) × IsPrefix s.front.events events → slice_get scripts k ≡ Some script → s.list ≡ own s.number events
    → IsAnsweredAlong A comments opening events k script text
along_one A comments scripts opening events k s text script is_k a seen is mine =
    let number : s.number ≡ a.first.number = keeps_number A comments scripts opening s text a in
    let same : a.first.number ≡ k = sym number ∙ is_k in
    let at : slice_get scripts a.first.number ≡ Some script = ap (slice_get scripts) same ∙ is in
    let list : s.list ≡ own a.first.number events = mine ∙ ap (λ (n : ℕ). own n events) number in
    subst (λ (n : ℕ). IsAnsweredAlong A comments opening events n script text) same (along_its_number A comments scripts opening events s text script a seen at list)

at_place : {X : Type 0} (P : X → Type 0) (xs : List X) (k : ℕ) (x : X) → All P xs → slice_get xs k ≡ Some x → P x
at_place P xs k x all is = subst P (get_or_from_slice_get xs k x x is) (all k x (slice_get_within xs k x is))

has_place : {X Y : Type 0} (xs : List X) (ys : List Y) (k : ℕ) (y : Y) → length xs ≡ length ys → slice_get ys k ≡ Some y → (x : X) × (slice_get xs k ≡ Some x)
has_place xs [] k y same is = absurd (cc is)
has_place [] (z ∷ ys) k y same is = absurd (omega (arith, same))
has_place (x ∷ xs) (z ∷ ys) zero y same is = (x, refl)
has_place (x ∷ xs) (z ∷ ys) (suc k) y same is = has_place xs ys k y (omega (arith, same)) is

-- texts that sessions at a desk produced answer their scripts along the one history in which all sessions stand, where there are as many
-- texts as scripts, the callers' lists are its notes and the workers have only worked
pub all_along : (A : Type 0) (comments scripts : List (List ℕ)) (opening : Machine) (sessions : List SessionView) (texts : List (List ℕ)) (workers : List WorkerView) (notes : List Noted) (left : Machine)
    → AreAtDesk A opening comments scripts sessions texts → All (λ (w : WorkerView). AreWork w.list) workers → StandInOne opening sessions workers notes left → IsAnswered sessions workers notes → length texts ≡ length scripts
    → AreAnsweredAlong A comments opening scripts texts
all_along A comments scripts opening sessions texts workers notes left desk work one outcome count = record {
  events = one.events;
  legal = one.legal;
  as_many = count;
  each = λ k script text is_script is_text.
      let has = has_place sessions texts k text desk.as_many is_text in
      let s : SessionView = has.0 in
      let h = desk.each k s text has.1 is_text in
      let seen = at_place (λ (x : SessionView). (x.front.kept ≡ true) × IsPrefix x.front.events one.events) sessions k s one.by_sessions has.1 in
      let mine : s.list ≡ part_of (caller.Session s.number) notes = at_place (λ (x : SessionView). x.list ≡ part_of (caller.Session x.number) notes) sessions k s outcome.by_sessions has.1 in
      let there : s.list ≡ own s.number one.events = mine ∙ ap (part_of (caller.Session s.number)) (sym one.calls) in
      along_one A comments scripts opening one.events k s text script h.0 h.1 seen is_script there;
  only = subst (All (λ (n : Noted). MayCall (length scripts) n.caller n.call)) (sym one.calls)
      (all_may sessions workers notes (length scripts) (λ j s is. let has = has_place texts sessions j s (sym desk.as_many) is in (desk.each j s has.0 is has.1).0) (desk.as_many ∙ count) work outcome);
}

-- texts that answer scripts along one history answer equal scripts, with equal comments, from an equal state on
pub along_as : (A : Type 0) (comments comments' scripts scripts' : List (List ℕ)) (opening opening' : Machine) (texts : List (List ℕ)) → comments ≡ comments' → opening ≡ opening' → scripts ≡ scripts'
    → AreAnsweredAlong A comments opening scripts texts → AreAnsweredAlong A comments' opening' scripts' texts
along_as A comments comments' scripts scripts' opening opening' texts cs os ss h =
    subst (λ (c : List (List ℕ)). AreAnsweredAlong A c opening' scripts' texts) cs (subst (λ (o : Machine). AreAnsweredAlong A comments o scripts' texts) os (subst (λ (s : List (List ℕ)). AreAnsweredAlong A comments opening s texts) ss h))

no_parts : (A : Type 0) (opening : Machine) (comments scripts : List (List ℕ)) → AreAtDesk A opening comments scripts [] []
no_parts A opening comments scripts = record { as_many = refl; each = λ k s text is at. absurd (cc is) }

-- no sessions, with no texts, are sessions at a desk with the texts that they produced
pub no_parts_of : (A : Type 0) (opening : Machine) (comments scripts : List (List ℕ)) (sessions : List SessionView) (texts : List (List ℕ)) → sessions ≡ [] → texts ≡ [] → AreAtDesk A opening comments scripts sessions texts
no_parts_of A opening comments scripts sessions texts none empty =
    subst (λ (ss : List SessionView). AreAtDesk A opening comments scripts ss texts) (sym none) (subst (λ (ts : List (List ℕ)). AreAtDesk A opening comments scripts [] ts) (sym empty) (no_parts A opening comments scripts))

got_push : {X : Type 0} (xs : List X) (y : X) (k : ℕ) (x : X) → slice_get (xs ++ y ∷ []) k ≡ Some x → (slice_get xs k ≡ Some x) ⊎ ((k ≡ length xs) × (y ≡ x))
got_push [] y zero x is = inr (refl, cc is)
got_push [] y (suc k) x is = absurd (cc is)
got_push (z ∷ xs) y zero x is = inl is
got_push (z ∷ xs) y (suc k) x is = elim (got_push xs y k x is) [
  | inl h ↦ inl h
  | inr h ↦ inr (omega (arith, h.0), h.1)
]

either_place : (A : Type 0) (opening : Machine) (comments scripts : List (List ℕ)) (sessions : List SessionView) (texts : List (List ℕ)) (s : SessionView) (text : List ℕ)
    → AreAtDesk A opening comments scripts sessions texts → s.number ≡ length texts → IsAnsweredAtDesk A opening comments scripts (record { session = s; text = text })
    → (k : ℕ) (x : SessionView) (y : List ℕ) → (slice_get sessions k ≡ Some x) ⊎ ((k ≡ length sessions) × (s ≡ x)) → (slice_get texts k ≡ Some y) ⊎ ((k ≡ length texts) × (text ≡ y))
    → (x.number ≡ k) × IsAnsweredAtDesk A opening comments scripts (record { session = x; text = y })
either_place A opening comments scripts sessions texts s text desk number a k x y (inl is) (inl at) = desk.each k x y is at
either_place A opening comments scripts sessions texts s text desk number a k x y (inl is) (inr at) =
    let within : k < length sessions = slice_get_within sessions k x is in absurd (omega (arith, within, desk.as_many, at.0))
either_place A opening comments scripts sessions texts s text desk number a k x y (inr is) (inl at) =
    let within : k < length texts = slice_get_within texts k y at in absurd (omega (arith, within, desk.as_many, is.0))
either_place A opening comments scripts sessions texts s text desk number a k x y (inr is) (inr at) = (
  ap (λ (v : SessionView). v.number) (sym is.1) ∙ (number ∙ sym at.0),
  subst (λ (v : SessionView). IsAnsweredAtDesk A opening comments scripts (record { session = v; text = y })) is.1
      (subst (λ (t : List ℕ). IsAnsweredAtDesk A opening comments scripts (record { session = s; text = t })) at.1 a),
)

one_more : (A : Type 0) (opening : Machine) (comments scripts : List (List ℕ)) (sessions : List SessionView) (texts : List (List ℕ)) (s : SessionView) (text : List ℕ)
    → AreAtDesk A opening comments scripts sessions texts → s.number ≡ length texts → IsAnsweredAtDesk A opening comments scripts (record { session = s; text = text })
    → AreAtDesk A opening comments scripts (sessions ++ s ∷ []) (texts ++ text ∷ [])
one_more A opening comments scripts sessions texts s text desk number a = record {
  as_many = omega (arith, desk.as_many, length-append sessions (s ∷ []), length-append texts (text ∷ []));
  each = λ k x y is at. either_place A opening comments scripts sessions texts s text desk number a k x y (got_push sessions s k x is) (got_push texts text k y at);
}

-- sessions at a desk with the texts that they produced, and one more of the next number with its text, are sessions with their texts
pub one_more_of : (A : Type 0) (opening : Machine) (comments scripts : List (List ℕ)) (sessions : List SessionView) (texts : List (List ℕ)) (s : SessionView) (text : List ℕ) (more : List SessionView) (longer : List (List ℕ))
    → AreAtDesk A opening comments scripts sessions texts → s.number ≡ length texts → IsAnsweredAtDesk A opening comments scripts (record { session = s; text = text })
    → more ≡ sessions ++ s ∷ [] → longer ≡ texts ++ text ∷ [] → AreAtDesk A opening comments scripts more longer
one_more_of A opening comments scripts sessions texts s text more longer desk number a so then =
    subst (λ (ss : List SessionView). AreAtDesk A opening comments scripts ss longer) (sym so)
    (subst (λ (ts : List (List ℕ)). AreAtDesk A opening comments scripts (sessions ++ s ∷ []) ts) (sym then) (one_more A opening comments scripts sessions texts s text desk number a))
