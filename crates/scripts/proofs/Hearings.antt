-- Lines that are read part after part.
use Rattle.std.proofs.Common.{◌≡◌, ℕ, false, List, [], ◌∷◌, ◌++◌, Option, Some, None, sym, ap, subst, ◌∙◌, append_assoc}
use Rattle.std.specs.Io.KnownBytes.{Consumes}
use Rattle.std.proofs.KnownBytes.{Consumes-trans}
use Rattle.std.proofs.lemmas.List.Elements.{All-append, All-nil}
use Rattle.swf_text.specs.Text.{is_feed}
use Rattle.scripts.specs.Hearing.{Grows, HasNoFeed, IsBegun, IsHeard, IsPassed, Reads}
use Rattle.scripts.specs.declared.hearing.LineEnd.{LineEnd}
use Rattle.scripts.specs.declared.hearing.LineEnd.TheVariants.{Feed, Input, Open}

-- no line feed is among no bytes
pub no_byte : HasNoFeed []
no_byte = All-nil (λ b. is_feed b ≡ false)

-- bytes without a line feed, and others without one behind them, have none
pub joined : (xs ys : List ℕ) → HasNoFeed xs → HasNoFeed ys → HasNoFeed (xs ++ ys)
joined xs ys = All-append (λ b. is_feed b ≡ false) xs ys

-- what is read behind other bytes is read with them, to the same end
pub reads_behind : (from mid to : Option (List ℕ)) (done part : List ℕ) (end : LineEnd) → Consumes from mid done → Reads mid to part end → Reads from to (done ++ part) end
reads_behind from mid to done part Feed p q =
    subst (Consumes from to) (sym (append_assoc done part (10 ∷ []))) (Consumes-trans from mid to done (part ++ 10 ∷ []) p q)
reads_behind from mid to done part Open p q = Consumes-trans from mid to done part p q
reads_behind None mid to done part Input p q = tt
reads_behind (Some x) None to done part Input p q = absurd p
reads_behind (Some x) (Some y) to done part Input p q = (p ∙ ap (λ l. done ++ l) q.0, q.1)

-- a line that grew by a part that was read has no line feed, and was read as it stands now
pub grown : (from mid to : Option (List ℕ)) (old new : List ℕ) (end : LineEnd) → Consumes from mid old → HasNoFeed old → Grows mid to old new end → record { one_line : HasNoFeed new; is_read : Reads from to new end }
grown from mid to old new end p none g = record {
  one_line = subst HasNoFeed (sym g.3) (joined old g.0 none g.1);
  is_read = subst (λ (bytes : List ℕ). Reads from to bytes end) (sym g.3) (reads_behind from mid to old g.0 end p g.2);
}

-- what was passed over of a line, and what was then read of it, are passed over, to the same end
pub passed_more : (from mid to : Option (List ℕ)) (done bytes : List ℕ) (end : LineEnd) → HasNoFeed done → Consumes from mid done → IsHeard mid to bytes end → IsPassed from to end
passed_more from mid to done bytes end none p h = (done ++ bytes, joined done bytes none h.one_line, reads_behind from mid to done bytes end p h.is_read)

-- what was passed over of a line, and the part of it that was then read, are passed over, and the line goes on
pub passed_on : (from mid to : Option (List ℕ)) (done bytes : List ℕ) → HasNoFeed done → Consumes from mid done → IsBegun mid to bytes → IsPassed from to Open
passed_on from mid to done bytes none p b = (done ++ bytes, joined done bytes none b.one_line, reads_behind from mid to done bytes Open p b.is_read)
