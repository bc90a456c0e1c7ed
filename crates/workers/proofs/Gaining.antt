-- What a list gains is what the book notes.
use Rattle.std.proofs.Common.{◌≡◌, ◌<◌, ℕ, List, [], ◌∷◌, ◌++◌, length, ◌∙◌, ap, append-nil, length-append, arith}
use Rattle.std.specs.Prelude.{Option, None, Some}
use Rattle.std.specs.Option.{option_map}
use Rattle.std.specs.List.{slice_get}
use Rattle.std.proofs.lemmas.Option.{slice_get_past, slice_get-get_or}
use Rattle.std.proofs.Math.Seq.{get_or-append_seam}
use Rattle.book_machine.specs.declared.caller.Caller.{Caller}
use Rattle.book_machine.specs.declared.reply.Reply.{Reply}
use Rattle.book_machine.specs.Call.{BookCall}
use Rattle.book_machine.specs.History.{Noted}
use Rattle.version_book.specs.Book.{BookView}
use Rattle.version_book.specs.Steps.{Answer, Answers, full, memory, outcome, reply_in, note_of}
use Rattle.workers.specs.Lists.{ListedView, Gains, gained, reply_behind}

behind_all : (xs : List Noted) → reply_behind (length xs) xs ≡ None
behind_all xs = ap (option_map (λ (n : Noted). n.reply)) (slice_get_past xs (length xs) (omega arith))

behind_last : (xs : List Noted) (x : Noted) → reply_behind (length xs) (xs ++ x ∷ []) ≡ Some x.reply
behind_last xs x =
    let within : length xs < length (xs ++ x ∷ []) = omega (arith, length-append xs (x ∷ [])) in
    let is : slice_get (xs ++ x ∷ []) (length xs) ≡ Some x = slice_get-get_or (xs ++ x ∷ []) (length xs) x within ∙ ap Some (get_or-append_seam xs x [] x) in
    ap (option_map (λ (n : Noted). n.reply)) is

noted : (old new : BookView) (who : Caller) (call : BookCall) (answer : Answer) → Answers old new who call answer → reply_behind (length old.journal) new.journal ≡ reply_in answer
noted old new who call full h = ap (λ (b : BookView). reply_behind (length old.journal) b.journal) h.1 ∙ behind_all old.journal
noted old new who call memory h = ap (λ (b : BookView). reply_behind (length old.journal) b.journal) h.1 ∙ behind_all old.journal
noted old new who call (outcome reply) h = ap (reply_behind (length old.journal)) h.3 ∙ behind_last old.journal (note_of who call reply)

gains_reply : (old new : List ListedView) (call : BookCall) (answer : Answer) → new ≡ old ++ gained call (reply_in answer) → Gains old new call answer
gains_reply old new call full is = is ∙ append-nil old
gains_reply old new call memory is = is ∙ append-nil old
gains_reply old new call (outcome reply) is = is

-- a list to which the noted reply was added gains the call
pub gains : (old new : BookView) (who : Caller) (call called : BookCall) (answer : Answer) (list more : List ListedView) (notes : ℕ) (reply : Option Reply)
    → Answers old new who call answer → notes ≡ length old.journal → reply ≡ reply_behind notes new.journal → called ≡ call → more ≡ list ++ gained called reply → Gains list more call answer
gains old new who call called answer list more notes reply answers from is same added =
    let same_reply : reply ≡ reply_in answer = is ∙ (ap (λ (n : ℕ). reply_behind n new.journal) from ∙ noted old new who call answer answers) in
    gains_reply list more call answer (added ∙ (ap (λ (c : BookCall). list ++ gained c reply) same ∙ ap (λ (r : Option Reply). list ++ gained call r) same_reply))
