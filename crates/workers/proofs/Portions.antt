-- A list beside its caller's part of the notes, note after note: what is asked holds exactly where what is left of the list is the part of the
-- notes left. A note of another caller is passed by, and one of this caller is that of the next call, or else the list is not the part.
use Rattle.std.proofs.Common.{◌≡◌, ◌==◌, ◌↔◌, ◌<◌, ◌≤◌, ◌+◌, ℕ, Bool, true, false, cond, IsTrue, List, [], ◌∷◌, drop, map, filter, length, get_or, refl, sym, ◌∙◌, ap, ap₂, subst, arith, inl, inr, ◌⊎◌}
use Rattle.std.proofs.lemmas.Bool.{cases_lt}
use Rattle.std.proofs.Math.ListN.{drop_of_length-le}
use Rattle.std.proofs.lemmas.Bool.Decides.{nat_tests}
use Rattle.std.proofs.lemmas.List.{nil_from_length, drop_more, drop-map, get_or-map, get_or_default, length-map}
use Rattle.std.proofs.lemmas.List.Elements.{All-get_or}
use Rattle.std.specs.List.{All}
use Rattle.book_machine.specs.declared.caller.Caller.{Caller}
use Rattle.book_machine.specs.declared.note.Note.{Note}
use Rattle.book_machine.specs.History.{Noted}
use Rattle.book_machine.specs.Noted.{noted_of}
use Rattle.workers.specs.declared.listed_call.ListedCall.{ListedCall}
use Rattle.workers.specs.Lists.{ListedView, listed_by, listed_of, part_of, same_caller}

-- where the test of a claim fails, false decides any claim from which that one follows
pub refuses : (b : Bool) (P Q : Type 0) → (IsTrue b ↔ P) → b ≡ false → (Q → P) → IsTrue false ↔ Q
refuses b P Q decides is into = (λ f. cc, λ q. sym is ∙ decides.1 (into q))

more-at : {X : Type 0} (P : X → Type 0) (xs : List X) (i : ℕ) (x : X) → ((k : ℕ) (d : X) → k < i → P (get_or xs k d)) → i < length xs → x ≡ get_or xs i x → P x → (k : ℕ) (d : X) → k < i + 1 → (k < i) ⊎ (i ≤ k) → P (get_or xs k d)
more-at P xs i x before lt is here k d below (inl less) = before k d less
more-at P xs i x before lt is here k d below (inr over) =
    let same : i ≡ k = omega arith in
    subst P (is ∙ (get_or_default xs i x d lt ∙ ap (λ (n : ℕ). get_or xs n d) same)) here

-- what holds of the elements before a place, and of the one at it, holds of all before the next place
pub more : {X : Type 0} (P : X → Type 0) (xs : List X) (i : ℕ) (x : X) → ((k : ℕ) (d : X) → k < i → P (get_or xs k d)) → i < length xs → x ≡ get_or xs i x → P x → (k : ℕ) (d : X) → k < i + 1 → P (get_or xs k d)
more P xs i x before lt is here k d below = more-at P xs i x before lt is here k d below (cases_lt k i)

-- what a note at a place says stands at this place of what the notes say
pub noted-at : {A : Type 0} (notes : List (Note A)) (i : ℕ) (x : Note A) (d : Noted) → i < length notes → x ≡ get_or notes i x → noted_of x ≡ get_or (map noted_of notes) i d
noted-at notes i x d lt is = ap noted_of is ∙ sym (get_or-map noted_of notes i x d lt)

-- a place of notes is one of what they say
pub within : {A : Type 0} (notes : List (Note A)) (i : ℕ) → i < length notes → i < length (map (noted_of {A = A}) notes)
within notes i lt = omega (arith, length-map notes noted_of)

-- what holds of all that the notes say holds of what one at a place says
pub at-noted : {A : Type 0} (P : Noted → Type 0) (notes : List (Note A)) (i : ℕ) (x : Note A) → i < length notes → x ≡ get_or notes i x → All P (map noted_of notes) → P (noted_of x)
at-noted P notes i x lt is all = subst P (sym (noted-at notes i x (noted_of x) lt is)) (All-get_or P (map noted_of notes) i (noted_of x) (within notes i lt) all)

-- what the notes after the opening ones say is the journal after these
pub later : {A : Type 0} (js ns : List (Note A)) (o : ℕ) (journal : List Noted) → ns ≡ drop o js → map noted_of js ≡ journal → map noted_of ns ≡ drop o journal
later js ns o journal is same = ap (map noted_of) is ∙ (sym (drop-map noted_of o js) ∙ ap (drop o) same)

mine : (who : Caller) (n : Noted) (ns : List Noted) → same_caller n.caller who ≡ true → part_of who (n ∷ ns) ≡ listed_by n ∷ part_of who ns
mine who n ns is =
    let rest = filter (λ (m : Noted). same_caller m.caller who) ns in
    ap (λ (b : Bool). map listed_by (cond b (n ∷ rest) rest)) is

others : (who : Caller) (n : Noted) (ns : List Noted) → same_caller n.caller who ≡ false → part_of who (n ∷ ns) ≡ part_of who ns
others who n ns is =
    let rest = filter (λ (m : Noted). same_caller m.caller who) ns in
    ap (λ (b : Bool). map listed_by (cond b (n ∷ rest) rest)) is

abbrev pub IsPart : {A : Type 0} → Caller → List (ListedCall A) → List (Note A) → Type 0
IsPart who list notes = map listed_of list ≡ part_of who (map noted_of notes)

from-here : {A : Type 0} (who : Caller) (notes : List (Note A)) (i : ℕ) (x : Note A) → i < length notes → x ≡ get_or notes i x
    → part_of who (map noted_of (drop i notes)) ≡ part_of who (noted_of x ∷ map noted_of (drop (i + 1) notes))
from-here who notes i x lt is = ap (λ (ns : List (Note _)). part_of who (map noted_of ns)) (drop_more notes i x lt ∙ ap (λ (n : Note _). n ∷ drop (i + 1) notes) (sym is))

from-mine : {A : Type 0} (who : Caller) (notes : List (Note A)) (i : ℕ) (x : Note A) → i < length notes → x ≡ get_or notes i x → same_caller x.caller who ≡ true
    → part_of who (map noted_of (drop i notes)) ≡ listed_by (noted_of x) ∷ part_of who (map noted_of (drop (i + 1) notes))
from-mine who notes i x lt is by = from-here who notes i x lt is ∙ mine who (noted_of x) (map noted_of (drop (i + 1) notes)) by

-- where the next call listed is that of the caller's note, what is asked comes to the rest of the list and the notes behind
pub goes-on : {A : Type 0} (P : Type 0) (who : Caller) (left : List (ListedCall A)) (first : ListedCall A) (rest : List (ListedCall A)) (notes : List (Note A)) (i : ℕ) (x : Note A)
    → (P ↔ IsPart who left (drop i notes)) → i < length notes → x ≡ get_or notes i x → same_caller x.caller who ≡ true → left ≡ first ∷ rest → listed_of first ≡ listed_by (noted_of x)
    → P ↔ IsPart who rest (drop (i + 1) notes)
goes-on P who left first rest notes i x inv lt is by split same =
    let e = from-mine who notes i x lt is by in
    let l : map listed_of left ≡ listed_of first ∷ map listed_of rest = ap (map listed_of) split in (
      (λ p. let heads : listed_of first ∷ map listed_of rest ≡ listed_by (noted_of x) ∷ part_of who (map noted_of (drop (i + 1) notes)) = sym l ∙ (inv.0 p ∙ e) in cc),
      (λ q. inv.1 (l ∙ (ap₂ (λ (h : ListedView) t. h ∷ t) same q ∙ sym e))),
    )

-- where the note is another caller's, what is asked comes to the same list and the notes behind
pub passes : {A : Type 0} (P : Type 0) (who : Caller) (left : List (ListedCall A)) (notes : List (Note A)) (i : ℕ) (x : Note A)
    → (P ↔ IsPart who left (drop i notes)) → i < length notes → x ≡ get_or notes i x → same_caller x.caller who ≡ false
    → P ↔ IsPart who left (drop (i + 1) notes)
passes P who left notes i x inv lt is by =
    let e = from-here who notes i x lt is ∙ others who (noted_of x) (map noted_of (drop (i + 1) notes)) by in
    ((λ p. inv.0 p ∙ e), (λ q. inv.1 (q ∙ sym e)))

-- where the note is the caller's and no call is left, what is asked does not hold
pub runs-out : {A : Type 0} (P : Type 0) (who : Caller) (left : List (ListedCall A)) (notes : List (Note A)) (i : ℕ) (x : Note A)
    → (P ↔ IsPart who left (drop i notes)) → i < length notes → x ≡ get_or notes i x → same_caller x.caller who ≡ true → length left ≡ 0 → IsTrue false ↔ P
runs-out P who left notes i x inv lt is by empty =
    let e = from-mine who notes i x lt is by in
    ((λ f. cc), (λ p. let heads : [] ≡ listed_by (noted_of x) ∷ part_of who (map noted_of (drop (i + 1) notes)) = sym (ap (map listed_of) (nil_from_length left empty)) ∙ (inv.0 p ∙ e) in cc))

-- where the note is the caller's and another call is listed next, what is asked does not hold
pub differs : {A : Type 0} (P : Type 0) (who : Caller) (left : List (ListedCall A)) (first : ListedCall A) (rest : List (ListedCall A)) (notes : List (Note A)) (i : ℕ) (x : Note A) (b : Bool)
    → (P ↔ IsPart who left (drop i notes)) → i < length notes → x ≡ get_or notes i x → same_caller x.caller who ≡ true → left ≡ first ∷ rest → (IsTrue b ↔ (listed_of first ≡ listed_by (noted_of x))) → b ≡ false
    → IsTrue false ↔ P
differs P who left first rest notes i x b inv lt is by split decides fails =
    let e = from-mine who notes i x lt is by in
    let l : map listed_of left ≡ listed_of first ∷ map listed_of rest = ap (map listed_of) split in
    refuses b (listed_of first ≡ listed_by (noted_of x)) P decides fails (λ p. let heads : listed_of first ∷ map listed_of rest ≡ listed_by (noted_of x) ∷ part_of who (map noted_of (drop (i + 1) notes)) = sym l ∙ (inv.0 p ∙ e) in cc)

empty-part : {A : Type 0} (P : Type 0) (who : Caller) (left : List (ListedCall A)) (notes : List (Note A)) (i : ℕ) (b : Bool)
    → (P ↔ IsPart who left (drop i notes)) → drop i notes ≡ [] → (IsTrue b ↔ (left ≡ [])) → IsTrue b ↔ P
empty-part P who [] notes i b inv none decides = ((λ t. inv.1 (sym (ap (λ (ns : List (Note _)). part_of who (map noted_of ns)) none))), (λ p. decides.1 refl))
empty-part P who (e ∷ left) notes i b inv none decides =
    ((λ t. let h : e ∷ left ≡ [] = decides.0 t in cc), (λ p. let h : listed_of e ∷ map listed_of left ≡ [] = inv.0 p ∙ ap (λ (ns : List (Note _)). part_of who (map noted_of ns)) none in cc))

is-nil : {X : Type 0} (xs : List X) (b : Bool) → b ≡ (length xs == 0) → IsTrue b ↔ (xs ≡ [])
is-nil xs b is =
    ((λ t. let e : (length xs == 0) ≡ true = sym is ∙ t in nil_from_length xs (grind (arith, nat_tests))), (λ e. is ∙ ap (λ (l : List _). length l == 0) e))

-- where no note is left, what is asked holds exactly where no call of the list is left
pub at-end : {A : Type 0} (P : Type 0) (who : Caller) (left : List (ListedCall A)) (notes : List (Note A)) (i : ℕ) (b : Bool)
    → (P ↔ IsPart who left (drop i notes)) → length notes ≤ i → b ≡ (length left == 0) → IsTrue b ↔ P
at-end P who left notes i b inv over is = empty-part P who left notes i b inv (drop_of_length-le notes over) (is-nil left b is)
