-- The log of a collection is its one rising arrangement: no later entry of it comes before an earlier one, and where each entry
-- comes before the next, each comes before all later ones.
use Rattle.std.proofs.Common.{◌≡◌, List, [], ◌∷◌, Bool, true, false, cond, arith, refl}
use Rattle.std.specs.List.Sorted.{IsPermutation}
use Rattle.std.proofs.lemmas.List.Sorted.{IsPermutation-refl, IsPermutation-cons, IsPermutation-trans, IsPermutation-append_left, IsPermutation-append_comm}
use Rattle.swf_text.specs.Entry.{LogEntry, number_of_entry, submit_of}
use Rattle.swf_text.specs.Log.{IsRising, comes_before, with_entry, log_of}
use Rattle.job_table.specs.Arranged.{IsDistinct, LogIsRising, LogIsTheOnlyOne}
use Rattle.job_table.proofs.Arrangement.{Leads, Rises, Climbs, Opens, Opens-later, Rises-Climbs, comes-back, comes-trans, numbered-permutation, arrangement-unique}

two-entries : (a b : LogEntry) (es : List LogEntry) → IsPermutation (a ∷ b ∷ es) (b ∷ a ∷ es)
two-entries a b es = IsPermutation-append_left es (a ∷ b ∷ []) (b ∷ a ∷ []) (IsPermutation-append_comm (a ∷ []) (b ∷ []))

pub with_entry-permutes : (e : LogEntry) (es : List LogEntry) → IsPermutation (e ∷ es) (with_entry e es)
with_entry-permutes e [] = IsPermutation-refl (e ∷ [])
with_entry-permutes e (x ∷ es) = go (comes_before x e) (with_entry-permutes e es)
  where
    go : (b : Bool) → IsPermutation (e ∷ es) (with_entry e es) → IsPermutation (e ∷ x ∷ es) (cond b (x ∷ with_entry e es) (e ∷ x ∷ es))
    go true i = IsPermutation-trans (e ∷ x ∷ es) (x ∷ e ∷ es) (x ∷ with_entry e es) (two-entries e x es) (IsPermutation-cons x (e ∷ es) (with_entry e es) i)
    go false i = IsPermutation-refl (e ∷ x ∷ es)

-- the log of a collection is a permutation of it
pub log_of-permutes : (es : List LogEntry) → IsPermutation es (log_of es)
log_of-permutes [] = IsPermutation-refl []
log_of-permutes (e ∷ es) = IsPermutation-trans (e ∷ es) (e ∷ log_of es) (with_entry e (log_of es)) (IsPermutation-cons e es (log_of es) (log_of-permutes es)) (with_entry-permutes e (log_of es))

Opens-placed : (x e : LogEntry) (es : List LogEntry) → comes_before e x ≡ false → Opens submit_of number_of_entry x es → Opens submit_of number_of_entry x (with_entry e es)
Opens-placed x e [] h o = (h, tt)
Opens-placed x e (y ∷ es) h o = go (comes_before y e) (Opens-placed x e es h o.1)
  where
    go : (b : Bool) → Opens submit_of number_of_entry x (with_entry e es) → Opens submit_of number_of_entry x (cond b (y ∷ with_entry e es) (e ∷ y ∷ es))
    go true i = (o.0, i)
    go false i = (h, o)

Climbs-placed : (e : LogEntry) (es : List LogEntry) → Climbs submit_of number_of_entry es → Climbs submit_of number_of_entry (with_entry e es)
Climbs-placed e [] c = (tt, tt)
Climbs-placed e (x ∷ es) c = go (comes_before x e) refl (Climbs-placed e es c.1)
  where
    go : (b : Bool) → comes_before x e ≡ b → Climbs submit_of number_of_entry (with_entry e es) → Climbs submit_of number_of_entry (cond b (x ∷ with_entry e es) (e ∷ x ∷ es))
    go true h i = (Opens-placed x e es (comes-back (submit_of x) (number_of_entry x) (submit_of e) (number_of_entry e) h) c.0, i)
    go false h i = ((h, Opens-later submit_of number_of_entry e x es h c.0), c)

-- in the log of a collection no later entry comes before an earlier one
pub Climbs-log : (es : List LogEntry) → Climbs submit_of number_of_entry (log_of es)
Climbs-log [] = tt
Climbs-log (e ∷ es) = Climbs-placed e (log_of es) (Climbs-log es)

Leads-later : (x y : LogEntry) (es : List LogEntry) → comes_before x y ≡ true → Leads submit_of number_of_entry y es → Leads submit_of number_of_entry x es
Leads-later x y [] h l = tt
Leads-later x y (z ∷ es) h l = (comes-trans (submit_of x) (number_of_entry x) (submit_of y) (number_of_entry y) (submit_of z) (number_of_entry z) h l.0, Leads-later x y es h l.1)

-- where each entry comes before the next, each comes before all later ones
pub Rises-IsRising : (es : List LogEntry) → IsRising es → Rises submit_of number_of_entry es
Rises-IsRising [] r = tt
Rises-IsRising (x ∷ []) r = (tt, tt)
Rises-IsRising (x ∷ y ∷ es) r =
    let rest = Rises-IsRising (y ∷ es) r.1 in
    ((r.0, Leads-later x y es r.0 rest.0), rest)

-- where each entry comes before all later ones, each comes before the next
pub IsRising-Rises : (es : List LogEntry) → Rises submit_of number_of_entry es → IsRising es
IsRising-Rises [] r = tt
IsRising-Rises (x ∷ []) r = tt
IsRising-Rises (x ∷ y ∷ es) r = (r.0.0, IsRising-Rises (y ∷ es) r.1)

-- in the log of entries with distinct numbers, each comes before all later ones
pub log_of-rises : (es : List LogEntry) → IsDistinct es → Rises submit_of number_of_entry (log_of es)
log_of-rises es d = Rises-Climbs submit_of number_of_entry (log_of es) (λ n. omega (arith, d n, numbered-permutation number_of_entry es (log_of es) (log_of-permutes es) n)) (Climbs-log es)

-- the log of entries with distinct numbers has the same entries, and rises
pub log-is-rising : LogIsRising
log-is-rising es d = (log_of-permutes es, IsRising-Rises (log_of es) (log_of-rises es d))

-- each rising arrangement of entries with distinct numbers is their log
pub log-is-the-only-one : LogIsTheOnlyOne
log-is-the-only-one es arranged d p r = arrangement-unique submit_of number_of_entry es arranged (log_of es) p (log_of-permutes es) (Rises-IsRising arranged r) (log_of-rises es d)
