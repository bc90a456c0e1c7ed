-- A legal history goes on by each event that the machine accepts; what is no call changes no calls. Its beginnings are legal and lead on.
use Rattle.std.proofs.Common.{◌≡◌, ◌∙◌, List, [], ◌∷◌, ◌++◌, Option, None, Some, refl, ap, sym, subst}
use Rattle.std.proofs.lemmas.List.{append-nil}
use Rattle.std.specs.List.{cons_option}
use Rattle.book_machine.specs.declared.caller.Caller.{Caller}
use Rattle.book_machine.specs.Machine.{Machine, after}
use Rattle.book_machine.specs.History.{Noted, IsLegal, after_all}
use Rattle.chronicle.specs.Events.{Happened, Called, Opened, Stopped, note_in, notes_of, IsLegalFrom, state_after, IsAccepted}
use Rattle.chronicle.specs.Laws.{EachBeginningLeadsOn, NotesBeginToo}

pub notes_append : (before more : List Happened) → notes_of (before ++ more) ≡ notes_of before ++ notes_of more
notes_append [] more = refl
notes_append (e ∷ before) more = go (note_in e) (notes_append before more)
  where
    go : (o : Option Noted) → notes_of (before ++ more) ≡ notes_of before ++ notes_of more → cons_option o (notes_of (before ++ more)) ≡ cons_option o (notes_of before) ++ notes_of more
    go None h = h
    go (Some note) h = ap (λ notes. note ∷ notes) h

legal_end : (m : Machine) (notes : List Noted) (note : Noted) → IsLegal m notes → IsAccepted (after_all m notes) note → IsLegal m (notes ++ note ∷ [])
legal_end m [] note legal fits = (fits.0, fits.1, tt)
legal_end m (n ∷ notes) note legal fits = (legal.0, legal.1, legal_end (after n.call m) notes note legal.2 fits)

-- a legal history stays legal with a call more that is accepted where it ends
pub legal_called : (m : Machine) (events : List Happened) (note : Noted) → IsLegalFrom m events → IsAccepted (state_after m events) note → IsLegalFrom m (events ++ Called note ∷ [])
legal_called m events note legal fits = subst (IsLegal m) (sym (notes_append events (Called note ∷ []))) (legal_end m (notes_of events) note legal fits)

same_notes : (events : List Happened) → notes_of events ++ [] ≡ notes_of events
same_notes events = append-nil (notes_of events)

-- a legal history stays legal with a caller opened behind it
pub legal_opened : (m : Machine) (events : List Happened) (who : Caller) → IsLegalFrom m events → IsLegalFrom m (events ++ Opened who ∷ [])
legal_opened m events who legal = subst (IsLegal m) (sym (notes_append events (Opened who ∷ []) ∙ same_notes events)) legal

-- a legal history stays legal with the stop of the desk behind it
pub legal_stopped : (m : Machine) (events : List Happened) → IsLegalFrom m events → IsLegalFrom m (events ++ Stopped ∷ [])
legal_stopped m events legal = subst (IsLegal m) (sym (notes_append events (Stopped ∷ []) ∙ same_notes events)) legal

legal_first : (m : Machine) (notes more : List Noted) → IsLegal m (notes ++ more) → IsLegal m notes
legal_first m [] more legal = tt
legal_first m (n ∷ notes) more legal = (legal.0, legal.1, legal_first (after n.call m) notes more legal.2)

legal_rest : (m : Machine) (notes more : List Noted) → IsLegal m (notes ++ more) → IsLegal (after_all m notes) more
legal_rest m [] more legal = legal
legal_rest m (n ∷ notes) more legal = legal_rest (after n.call m) notes more legal.2

after_append : (m : Machine) (notes more : List Noted) → after_all m (notes ++ more) ≡ after_all (after_all m notes) more
after_append m [] more = refl
after_append m (n ∷ notes) more = after_append (after n.call m) notes more

-- a beginning of a legal history is legal; the rest is legal from the state after it, and leads where the whole leads
pub leads_on : EachBeginningLeadsOn
leads_on m events more legal =
    let both = notes_append events more in
    let apart : IsLegal m (notes_of events ++ notes_of more) = subst (IsLegal m) both legal in (
      legal_first m (notes_of events) (notes_of more) apart,
      legal_rest m (notes_of events) (notes_of more) apart,
      ap (after_all m) both ∙ after_append m (notes_of events) (notes_of more),
    )

-- the calls of a beginning are a beginning of the calls
pub notes_begin : NotesBeginToo
notes_begin events more p = (notes_of p.0, sym (notes_append events p.0) ∙ ap notes_of p.1)
