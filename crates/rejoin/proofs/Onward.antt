-- How each step of a re-simulation brings the new segments on: an old one is not reached, refused, reached, reused behind another one, or resumed from.
use Rattle.std.proofs.Common.{◌≡◌, ℕ, ◌+◌, ◌≤◌, Bool, true, false, List, [], ◌∷◌, ◌++◌, drop, length, Some, refl, sym, ◌∙◌, ap, arith, inl, inr}
use Rattle.std.specs.Prelude.{Result, Ok, Err, OnOk}
use Rattle.std.proofs.lemmas.Bool.{false≢true}
use Rattle.std.proofs.lemmas.List.{length-append, length-drop}
use Rattle.scenarios.specs.Plan.{Plan}
use Rattle.event_loop.specs.Events.{Progress, begun}
use Rattle.checkpoints.specs.Coming.{NoneComes}
use Rattle.checkpoints.specs.Nodes.{AreFrom}
use Rattle.checkpoints.specs.Pieces.{all_in}
use Rattle.checkpoints.specs.Segment.{SegmentView}
use Rattle.rejoin.specs.Reused.{next_first, MayBegin, IsReused}
use Rattle.rejoin.specs.Patch.{AreReused}
use Rattle.rejoin.specs.Rejoining.{ChangeView, IsChange, IsClear, AreTaken, Stands}
use Rattle.rejoin.specs.Noted.{IsNoted}
use Rattle.rejoin.specs.Joining.{IsWorking, IsBehindReused, IsUpTo}
use Rattle.rejoin.specs.declared.ledger.Ledger.{Ledger}
use Rattle.rejoin.specs.declared.patch.Patch.{Patch}
use Rattle.rejoin.proofs.Meeting.{AreNew, resumed-noted}
use Rattle.rejoin.proofs.Placed.{from-taken}
use Rattle.rejoin.proofs.Turns.{keep-behind, keep-reached, pass-missed, pass-refused, resumed-behind, stands-as, stands-begins}

-- where all is done up to a place, and the last new segment is not a reused one, the engine is at work
pub working-of : {A : Type 0} (c : ChangeView) (n at : ℕ) (patch : Patch A) → IsUpTo c n at patch → patch.last_reused ≡ false → IsWorking c n at patch
working-of c n at patch (inl working) e = working
working-of c n at patch (inr behind) e = absurd (false≢true (sym e ∙ behind.reused))

-- where all is done up to a place, and the last new segment is a reused one, the re-simulation stands behind it
pub behind-of : {A : Type 0} (c : ChangeView) (n at : ℕ) (patch : Patch A) → IsUpTo c n at patch → patch.last_reused ≡ true → IsBehindReused c n at patch
behind-of c n at patch (inl working) e = absurd (false≢true (sym working.working ∙ e))
behind-of c n at patch (inr behind) e = behind

reused-few : (p q : Plan) (front rest us : List SegmentView) → AreReused p q front rest us → length us ≤ length front
reused-few p q [] rest us e = let l = ap length e in omega (arith, l)
reused-few p q (s ∷ front) rest us (inl (k, (vs, e, more))) = let l = ap length e in let m = reused-few p q front rest vs more in omega (arith, l, m)
reused-few p q (s ∷ front) rest us (inr (never, more)) = let m = reused-few p q front rest us more in omega (arith, m)

taken-few : (c : ChangeView) (at : ℕ) (us : List SegmentView) → AreTaken c (drop at c.old) us → length us ≤ at
taken-few c at us (front, e, kept) =
    let few = reused-few c.was c.is front (drop at c.old) us kept in
    let whole = ap length e ∙ length-append front (drop at c.old) in
    let left = length-drop at c.old in
    omega (arith, few, whole, left)

-- no more old segments are reused than stand before the place
pub stands-few : (c : ChangeView) (n at : ℕ) (kept : Bool) (now : Progress) (ss : List SegmentView) (handled reused : ℕ) → Stands c n at kept now ss handled reused → reused ≤ at
stands-few c n at true now ss handled reused (us, count, (b, after)) = let l = taken-few c at us after.taken in omega (arith, count, l)
stands-few c n at false now ss handled reused (us, count, going, plan, on) = let l = taken-few c at us on.taken in omega (arith, count, l)

abbrev pub Passes : {A : Type 0} → ChangeView → ℕ → Ledger A → Ledger A → Type 0
Passes c at old new = (position : ℕ) → MayBegin c.is position → IsNoted c at position old → IsNoted c (at + 1) position new

-- a step that goes one place on behind a reused segment, unless it fails, however many event seconds a segment may hold, does so for n of them
pub next-of : {A T E : Type 0} (c : ChangeView) (n at : ℕ) (old new : Patch A) (r : Result T E) → OnOk r ((m : ℕ) → IsBehindReused c m at old → IsUpTo c m (at + 1) new) → IsBehindReused c n at old → OnOk r (IsUpTo c n (at + 1) new)
next-of c n at old new (Ok x) next behind = next n behind
next-of c n at old new (Err e) next behind = tt

module _ {A : Type 0} (c : ChangeView) (ok : IsChange c) (n at : ℕ) (s : SegmentView) (here : drop at c.old ≡ s ∷ drop (at + 1) c.old) where
  passed-on : (patch : Patch A) (ledger : Ledger A) → IsWorking c n at patch → Passes c at patch.ledger ledger → Stands c n (at + 1) false patch.engine (all_in c.is patch.segments) patch.handled patch.reused → IsUpTo c n (at + 1) (record patch { ledger = ledger })
  passed-on patch ledger w passes stands = inl (record {
    working = w.working;
    stands = stands;
    noted = passes patch.engine.position (stands-begins c n at patch.engine (all_in c.is patch.segments) patch.handled patch.reused w.stands) w.noted;
    places = w.places;
  })

  -- an old segment that the engine doesn't reach is passed over, with its starts noted
  pub missed-on : (patch : Patch A) (ledger : Ledger A) → IsWorking c n at patch → Passes c at patch.ledger ledger → NoneComes patch.engine (next_first (drop at c.old)) → (patch.engine.position ≡ s.first → ⊥) → IsUpTo c n (at + 1) (record patch { ledger = ledger })
  missed-on patch ledger w passes none other =
      passed-on patch ledger w passes (pass-missed c ok n at s here patch.engine (all_in c.is patch.segments) patch.handled patch.reused w.stands none other)

  -- an old segment that is not reused is passed over, with its starts noted
  pub refused-on : (patch : Patch A) (ledger : Ledger A) → IsWorking c n at patch → Passes c at patch.ledger ledger → (IsReused c.was c.is s.first (next_first (drop (at + 1) c.old)) → ⊥) → IsUpTo c n (at + 1) (record patch { ledger = ledger })
  refused-on patch ledger w passes never =
      passed-on patch ledger w passes (pass-refused c ok n at s here patch.engine (all_in c.is patch.segments) patch.handled patch.reused w.stands never)

  reused-on : (patch new : Patch A) (handled : ℕ) → AreFrom c.old (all_in c.is patch.segments) patch.places.items → Stands c n (at + 1) true new.engine (all_in c.is patch.segments ++ s ∷ []) handled (patch.reused + 1)
      → all_in c.is new.segments ≡ all_in c.is patch.segments ++ s ∷ [] → new.places.items ≡ patch.places.items ++ Some at ∷ [] → new.reused ≡ patch.reused + 1 → new.handled ≡ handled → new.last_reused ≡ true → IsUpTo c n (at + 1) new
  reused-on patch new handled places stands added placed one held last = inr (record {
    reused = last;
    stands = stands-as c n (at + 1) true new.engine (all_in c.is new.segments) (all_in c.is patch.segments ++ s ∷ []) new.handled handled new.reused (patch.reused + 1) added held one stands;
    places = from-taken c.old (all_in c.is patch.segments) (all_in c.is new.segments) patch.places.items new.places.items s at (drop (at + 1) c.old) places here added placed;
  })

  -- an old segment that the engine reaches, and that is reused, is the last new one
  pub reached-on : (patch new : Patch A) → IsWorking c n at patch → patch.engine.position ≡ s.first → IsReused c.was c.is s.first (next_first (drop (at + 1) c.old))
      → all_in c.is new.segments ≡ all_in c.is patch.segments ++ s ∷ [] → new.places.items ≡ patch.places.items ++ Some at ∷ [] → new.reused ≡ patch.reused + 1 → new.handled ≡ patch.handled + patch.engine.handled → new.last_reused ≡ true → IsUpTo c n (at + 1) new
  reached-on patch new w reached kept =
      reused-on patch new (patch.handled + patch.engine.handled) w.places (keep-reached c ok n at s here patch.engine new.engine (all_in c.is patch.segments) patch.handled patch.reused w.stands reached kept)

  -- behind a reused segment the next old one is the last new one, where no touched number is submitted in its stretch
  pub followed-on : (patch new : Patch A) → IsBehindReused c n at patch → IsClear c.was c.is s.first (next_first (drop (at + 1) c.old))
      → all_in c.is new.segments ≡ all_in c.is patch.segments ++ s ∷ [] → new.places.items ≡ patch.places.items ++ Some at ∷ [] → new.reused ≡ patch.reused + 1 → new.handled ≡ patch.handled → new.last_reused ≡ true → IsUpTo c n (at + 1) new
  followed-on patch new b clear =
      reused-on patch new patch.handled b.places (keep-behind c ok n at s here patch.engine new.engine (all_in c.is patch.segments) patch.handled patch.reused b.stands clear)

  -- behind a reused segment, where some touched number is submitted in the next old one's stretch, an engine is at work from there, with new notes
  pub resumed-on : (patch : Patch A) (engine : Progress) (started : ℕ) (fresh ledger : Ledger A) → IsBehindReused c n at patch → (IsClear c.was c.is s.first (next_first (drop (at + 1) c.old)) → ⊥) → engine ≡ begun c.is s.first → AreNew c s.first fresh → Passes c at fresh ledger
      → IsUpTo c n (at + 1) (record patch { engine = engine; last_reused = false; ledger = ledger; started = started })
  resumed-on patch engine started fresh ledger b touched resumed new passes = inl (record {
    working = refl;
    stands = resumed-behind c ok n at s here patch.engine engine (all_in c.is patch.segments) patch.handled patch.reused b.stands touched resumed;
    noted = resumed-noted c ok n at s here patch.engine engine (all_in c.is patch.segments) patch.handled patch.reused b.stands resumed fresh ledger new passes;
    places = b.places;
  })
