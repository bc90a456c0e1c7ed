-- Edits that are applied one after another, up to the last one or the first that is refused.
use Rattle.std.proofs.Common.{◌≡◌, ℕ, ◌+◌, ◌≤◌, ◌<◌, List, [], ◌∷◌, ◌++◌, ◌⊎◌, inl, inr, map, take, drop, length, get_or, None, Some, refl, sym, ◌∙◌, ap, subst}
use Rattle.std.proofs.lemmas.List.{take_more, take_all, drop_more, take-append-drop, map-append}
use Rattle.swf_text.specs.Entry.{LogEntry}
use Rattle.job_table.specs.Accepted.{AreAccepted, IsEdit}
use Rattle.job_table.specs.declared.fault.EditFault.{EditFault}
use Rattle.job_table.specs.declared.fault.EditFault.TheVariants as faults
use Rattle.job_table.specs.Edit.{LogEdit, IsRefusal, applied, fault_of, log_after}
use Rattle.rejoin.specs.Editing.{IsFirstRefusal}

-- the edits so far were accepted, and this is the log after them
pub record Edited (log : List LogEntry) (edits : List LogEdit) (now : List LogEntry) : Type 0 where
  pub accepted : AreAccepted log edits
  pub after : now ≡ log_after log edits

log_after-more : (log : List LogEntry) (edits : List LogEdit) (e : LogEdit) → log_after log (edits ++ e ∷ []) ≡ applied e (log_after log edits)
log_after-more log [] e = refl
log_after-more log (x ∷ xs) e = log_after-more (applied x log) xs e

accepted-more : (log : List LogEntry) (edits : List LogEdit) (e : LogEdit) → AreAccepted log edits → IsEdit e → fault_of e (log_after log edits) ≡ None → AreAccepted log (edits ++ e ∷ [])
accepted-more log [] e a is ok = (is, ok, tt)
accepted-more log (x ∷ xs) e (y, z, a) is ok = (y, z, accepted-more (applied x log) xs e a is ok)

first-refusal : (log : List LogEntry) (front rest : List LogEdit) (e : LogEdit) (fault : EditFault) → AreAccepted log front → fault_of e (log_after log front) ≡ Some fault → IsFirstRefusal fault log (front ++ e ∷ rest)
first-refusal log [] rest e fault a h = inl h
first-refusal log (x ∷ xs) rest e fault (y, z, a) h = inr (z, first-refusal (applied x log) xs rest e fault a h)

refusal-is : (fault : EditFault) (e : LogEdit) (log : List LogEntry) → IsRefusal fault e log → (fault ≡ faults.Memory) ⊎ (fault_of e log ≡ Some fault)
refusal-is faults.Memory e log h = inl refl
refusal-is faults.DuplicateJob e log h = inr h
refusal-is faults.TableFull e log h = inr h
refusal-is faults.NoSuchJob e log h = inr h
refusal-is faults.BadField e log h = inr h
refusal-is faults.BadValue e log h = inr h

module _ {X : Type 0} (f : X → LogEdit) where
  -- where the next edit is accepted, and applied to the log after the first i, this is the log after the first i + 1
  pub edited-more : (log now new : List LogEntry) (xs : List X) (i : ℕ) (d : X) (e : LogEdit) → i < length xs → e ≡ f (get_or xs i d) → IsEdit e → fault_of e now ≡ None → new ≡ applied e now → Edited log (map f (take i xs)) now → Edited log (map f (take (i + 1) xs)) new
  edited-more log now new xs i d e l is sound ok put h =
      let more : map f (take i xs) ++ e ∷ [] ≡ map f (take (i + 1) xs) = ap (λ (x : LogEdit). map f (take i xs) ++ x ∷ []) is ∙ sym (ap (map f) (take_more xs i d l) ∙ map-append f (take i xs) (get_or xs i d ∷ [])) in
      subst (λ (ys : List LogEdit). Edited log ys new) more
      (record {
        accepted = accepted-more log (map f (take i xs)) e h.accepted sound (subst (λ (l' : List LogEntry). fault_of e l' ≡ None) h.after ok);
        after = put ∙ ap (applied e) h.after ∙ sym (log_after-more log (map f (take i xs)) e);
      })

  -- where the next edit is refused, it was out of memory, or its fault is that of the first refusal
  pub edited-refused : (log now : List LogEntry) (xs : List X) (i : ℕ) (d : X) (e : LogEdit) (fault : EditFault) → i < length xs → e ≡ f (get_or xs i d) → IsRefusal fault e now → Edited log (map f (take i xs)) now
      → (fault ≡ faults.Memory) ⊎ IsFirstRefusal fault log (map f xs)
  edited-refused log now xs i d e fault l is refused h =
      let whole : map f (take i xs) ++ e ∷ map f (drop (i + 1) xs) ≡ map f xs =
      ap (λ (x : LogEdit). map f (take i xs) ++ x ∷ map f (drop (i + 1) xs)) is
      ∙ sym (map-append f (take i xs) (get_or xs i d ∷ drop (i + 1) xs))
      ∙ ap (λ (ys : List X). map f (take i xs ++ ys)) (sym (drop_more xs i d l))
      ∙ ap (map f) (take-append-drop i xs) in
      go (refusal-is fault e now refused) whole
    where
      go : (fault ≡ faults.Memory) ⊎ (fault_of e now ≡ Some fault) → map f (take i xs) ++ e ∷ map f (drop (i + 1) xs) ≡ map f xs → (fault ≡ faults.Memory) ⊎ IsFirstRefusal fault log (map f xs)
      go (inl memory) whole = inl memory
      go (inr first) whole =
          inr (subst (IsFirstRefusal fault log) whole (first-refusal log (map f (take i xs)) (map f (drop (i + 1) xs)) e fault h.accepted (subst (λ (l' : List LogEntry). fault_of e l' ≡ Some fault) h.after first)))

  -- the log after the edits up to the end is the log after all
  pub edited-all : (log now : List LogEntry) (xs : List X) (i : ℕ) → length xs ≤ i → Edited log (map f (take i xs)) now → Edited log (map f xs) now
  edited-all log now xs i l h = subst (λ (ys : List X). Edited log (map f ys) now) (take_all i xs l) h
