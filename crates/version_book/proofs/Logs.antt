-- Logs after edits, one more, or from a version on.
use Rattle.std.proofs.Common.{◌≡◌, ℕ, ◌≤◌, List, [], ◌∷◌, ◌++◌, length, take, drop, refl, sym, ◌∙◌, ap, subst, arith}
use Rattle.std.proofs.lemmas.List.{take-append-drop, take-append-le, take_all}
use Rattle.swf_text.specs.Entry.{LogEntry}
use Rattle.job_table.specs.Accepted.{AreAccepted}
use Rattle.job_table.specs.Edit.{LogEdit, applied, log_after, log_at}

-- the log after some edits and then others is the one that the others lead to from the log after the first
pub log_after-append : (log : List LogEntry) (es fs : List LogEdit) → log_after log (es ++ fs) ≡ log_after (log_after log es) fs
log_after-append log [] fs = refl
log_after-append log (e ∷ es) fs = log_after-append (applied e log) es fs

-- edits that are accepted, and others that are accepted on the log after them, are accepted one after another
pub AreAccepted-append : (log : List LogEntry) (es fs : List LogEdit) → AreAccepted log es → AreAccepted (log_after log es) fs → AreAccepted log (es ++ fs)
AreAccepted-append log [] fs h g = g
AreAccepted-append log (e ∷ es) fs h g = (h.0, h.1, AreAccepted-append (applied e log) es fs h.2 g)

AreAccepted-rest : (log : List LogEntry) (es fs : List LogEdit) → AreAccepted log (es ++ fs) → AreAccepted (log_after log es) fs
AreAccepted-rest log [] fs h = h
AreAccepted-rest log (e ∷ es) fs h = AreAccepted-rest (applied e log) es fs h.2

-- where all edits are accepted, those since a version are accepted on its log
pub AreAccepted-since : (log : List LogEntry) (es : List LogEdit) (v : ℕ) → AreAccepted log es → AreAccepted (log_at log es v) (drop v es)
AreAccepted-since log es v h = AreAccepted-rest log (take v es) (drop v es) (subst (AreAccepted log) (sym (take-append-drop v es)) h)

-- the edits since a version lead from its log to the log after all edits
pub log_after-since : (log : List LogEntry) (es : List LogEdit) (v : ℕ) → log_after log es ≡ log_after (log_at log es v) (drop v es)
log_after-since log es v = ap (log_after log) (sym (take-append-drop v es)) ∙ log_after-append log (take v es) (drop v es)

-- the log of the version that counts all edits is the log after them
pub log_at-now : (log : List LogEntry) (es : List LogEdit) → log_at log es (length es) ≡ log_after log es
log_at-now log es = ap (log_after log) (take_all (length es) es (omega arith))

-- the log of a version that was made stays with one edit more
pub log_at-stays : (log : List LogEntry) (es : List LogEdit) (e : LogEdit) (v : ℕ) → v ≤ length es → log_at log (es ++ e ∷ []) v ≡ log_at log es v
log_at-stays log es e v le = ap (log_after log) (take-append-le v es (e ∷ []) le)
