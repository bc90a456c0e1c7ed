-- All entries of a table come from second 0 on.
use Rattle.std.proofs.Common.{◌≡◌, List, [], ◌∷◌, nat_le, refl, ap, ◌∙◌, arith}
use Rattle.std.proofs.lemmas.Bool.{cond-true, le-leb}
use Rattle.swf_text.specs.Entry.{LogEntry, submit_of}
use Rattle.job_table.specs.Table.{entries_from}

-- the entries from second 0 on are all entries
pub from-zero : (es : List LogEntry) → entries_from 0 es ≡ es
from-zero [] = refl
from-zero (e ∷ es) = cond-true (nat_le 0 (submit_of e)) (e ∷ entries_from 0 es) (entries_from 0 es) (le-leb 0 (submit_of e) (omega arith)) ∙ ap (λ l. e ∷ l) (from-zero es)
