-- One edit after another.
use Rattle.std.proofs.Common.{◌≡◌, ℕ, zero, suc, ◌+◌, List, [], ◌∷◌, Some, take, slice_get, ap, add-one}
use Rattle.swf_text.specs.Entry.{LogEntry}
use Rattle.job_table.specs.Edit.{LogEdit, applied, log_after, log_at}

next-of : (log : List LogEntry) (edits : List LogEdit) (v : ℕ) (edit : LogEdit) → slice_get edits v ≡ Some edit → log_after log (take (suc v) edits) ≡ applied edit (log_after log (take v edits))
next-of log [] v edit h = cc
next-of log (e ∷ es) zero edit h = let same : e ≡ edit = cc in ap (λ (x : LogEdit). applied x log) same
next-of log (e ∷ es) (suc v) edit h = next-of (applied e log) es v edit h

-- the version after one is that version with the next accepted edit applied
pub next-version : (opening : List LogEntry) (accepted : List LogEdit) (version : ℕ) (edit : LogEdit) → slice_get accepted version ≡ Some edit → log_at opening accepted (version + 1) ≡ applied edit (log_at opening accepted version)
next-version opening accepted version edit h = rw (add-one) (next-of opening accepted version edit h)
