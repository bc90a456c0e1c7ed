-- A session's own calls in a history, and that none of them comes between.
use Rattle.std.proofs.Common.{◌≡◌, ℕ, ◌+◌, ◌≤◌, Bool, true, List, [], ◌∷◌, ◌++◌, length, map, filter, refl, sym, ap, ◌∙◌, arith, length-append}
use Rattle.std.specs.Prelude.{◌==◌}
use Rattle.std.proofs.lemmas.List.{map-append, nil_from_length}
use Rattle.std.proofs.lemmas.List.Elements.{filter-append, filter_map-append}
use Rattle.std.proofs.lemmas.Bool.Decides.{Decides-eqb}
use mathlib.Core.List.{IsPrefix}
use Rattle.book_machine.specs.declared.caller.Caller.TheVariants as caller
use Rattle.book_machine.specs.declared.reply.Reply.{Reply}
use Rattle.book_machine.specs.Call.{BookCall}
use Rattle.book_machine.specs.History.{Noted}
use Rattle.book_machine.specs.Machine.{Machine}
use Rattle.chronicle.specs.Events.{Happened, Called, note_in, notes_of}
use Rattle.version_book.specs.Steps.{Answer, full, memory, outcome, note_of}
use Rattle.workers.specs.History.{CalledAt}
use Rattle.workers.specs.Lists.{ListedView, Gains, listed_view, listed_by, part_of, same_caller}
use Rattle.easybook.specs.Along.{Goes}

-- the session's calls among these events, each with its reply
abbrev pub own : ℕ → List Happened → List ListedView
own who events = part_of (caller.Session who) (notes_of events)

abbrev made_by : ℕ → Noted → Bool
made_by who n = same_caller n.caller (caller.Session who)

pub own_append : (who : ℕ) (xs ys : List Happened) → own who (xs ++ ys) ≡ own who xs ++ own who ys
own_append who xs ys =
    ap (λ (ns : List Noted). map listed_by (filter (made_by who) ns)) (filter_map-append note_in xs ys)
    ∙ (ap (map listed_by) (filter-append (made_by who) (notes_of xs) (notes_of ys))
    ∙ map-append listed_by (filter (made_by who) (notes_of xs)) (filter (made_by who) (notes_of ys)))

own_length : (who : ℕ) (xs ys : List Happened) → length (own who (xs ++ ys)) ≡ length (own who xs) + length (own who ys)
own_length who xs ys = ap length (own_append who xs ys) ∙ length-append (own who xs) (own who ys)

one : (who : ℕ) (call : BookCall) (reply : Reply) → length (own who (Called (note_of (caller.Session who) call reply) ∷ [])) ≡ 1
one who call reply =
    let same : (who == who) ≡ true = (Decides-eqb who who).1 refl in
    rw same refl

-- how many calls an answer notes: one if it is a reply, otherwise none
abbrev pub noted : Answer → ℕ
noted full = 0
noted memory = 0
noted (outcome reply) = 1

-- a list that gained a call by its answer has as many calls more as the answer notes
pub list_noted : (old new : List ListedView) (call : BookCall) (answer : Answer) → Gains old new call answer → length new ≡ length old + noted answer
list_noted old new call full g = omega (arith, ap length g)
list_noted old new call memory g = omega (arith, ap length g)
list_noted old new call (outcome reply) g = ap length g ∙ length-append old (listed_view call reply ∷ [])

-- a history in which a session made a call has as many of the session's calls more as the answer notes
pub own_noted : (opening : Machine) (who : ℕ) (before : List Happened) (call : BookCall) (answer : Answer) (after : List Happened) → CalledAt opening before (caller.Session who) call answer after → length (own who after) ≡ length (own who before) + noted answer
own_noted opening who before call full after h = omega (arith, ap (λ (es : List Happened). length (own who es)) h.1)
own_noted opening who before call memory after h = omega (arith, ap (λ (es : List Happened). length (own who es)) h)
own_noted opening who before call (outcome reply) after h =
    ap (λ (es : List Happened). length (own who es)) h.2 ∙ (own_length who before (Called (note_of (caller.Session who) call reply) ∷ []) ∙ ap (λ (n : ℕ). length (own who before) + n) (one who call reply))

-- a beginning of a history has no more of a session's calls than the history
pub own_grows : (who : ℕ) (old new : List Happened) → IsPrefix old new → length (own who old) ≤ length (own who new)
own_grows who old new p =
    let parts : length (own who new) ≡ length (own who old) + length (own who p.0) = ap (λ (es : List Happened). length (own who es)) (sym p.1) ∙ own_length who old p.0 in
    omega (arith, parts)

-- where a beginning of a history has as many of a session's calls as the whole, the history goes on by no call of the session
pub goes_by_others : (who : ℕ) (old new : List Happened) → IsPrefix old new → length (own who new) ≤ length (own who old) → Goes who old new
goes_by_others who old new p few =
    let parts : length (own who new) ≡ length (own who old) + length (own who p.0) = ap (λ (es : List Happened). length (own who es)) (sym p.1) ∙ own_length who old p.0 in
    (p.0, sym p.1, nil_from_length (own who p.0) (omega (arith, parts, few)))
