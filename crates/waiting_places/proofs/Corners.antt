-- A corner comes to its place, and those behind it that are as large and as long leave: what is known is kept.
use Rattle.std.proofs.Common.{◌≡◌, ℕ, ◌+◌, ◌-◌, ◌≤◌, ◌<◌, List, length, set, arith, ap, ◌∙◌, ⊎_elim}
use Rattle.std.proofs.lemmas.Bool.{cases_lt}
use Rattle.std.proofs.lemmas.List.{get_or-set_same, get_or-set_other}
use Rattle.std.specs.List.{CopiedTo, SameBelow}
use Rattle.waiting_places.specs.declared.corner.Corner.{Corner}
use Rattle.waiting_places.specs.Bounds.{FrontierView, AreAsLong, IsBelow, IsPlace, Keeps, at_corner}

abbrev nothing : Corner
nothing = record { size = 0; estimate = 0 }

wider : (f : FrontierView) (size estimate larger longer : ℕ) → IsBelow f size estimate → size ≤ larger → estimate ≤ longer → IsBelow f larger longer
wider f size estimate larger longer below l m =
    let small = below.small in
    let short = below.short in
    record { corner = below.corner; there = below.there; small = omega arith; short = omega arith }

-- one comes to a place, and those from there up to another leave
abbrev pub after : FrontierView → Corner → ℕ → ℕ → List Corner → FrontierView
after f corner at end moved = record { stale = f.stale; len = f.len + 1 + at - end; corners = set moved at corner }

module _ (f : FrontierView) (corner : Corner) (at end : ℕ) (place : IsPlace f corner.size at) (longer : AreAsLong f corner.estimate at end) (len : length f.corners ≡ 64) (few : f.len + 1 + at ≤ end + 64) (moved : List Corner)
    (same : SameBelow f.corners moved (at + 1)) (copied : CopiedTo f.corners moved end (at + 1) (f.len - end)) (long : length moved ≡ length f.corners) where
  here : at_corner (set moved at corner) at ≡ corner
  here = let a = longer.ahead in let b = longer.within in get_or-set_same moved at corner nothing (omega (arith, long, len, few, a, b))

  -- one is at its place
  pub put_met : IsBelow (after f corner at end moved) corner.size corner.estimate
  put_met =
      let a = longer.ahead in
      let b = longer.within in
      record {
        corner = at;
        there = omega arith;
        small = let e = ap (λ (c : Corner). c.size) here in omega (arith, e);
        short = let e = ap (λ (c : Corner). c.estimate) here in omega (arith, e);
      }

  -- what is known is kept
  pub put_kept : Keeps f (after f corner at end moved)
  put_kept size estimate below =
      ⊎_elim
      (λ (front : below.corner < at).
      let e = get_or-set_other moved at below.corner corner nothing (λ (is : below.corner ≡ at). omega (arith, front, is)) ∙ same below.corner nothing (omega arith) in
      moves below.corner (omega arith) e)
      (λ (behind : at ≤ below.corner).
      ⊎_elim
      (λ (leaves : below.corner < end).
      let l = place.behind below.corner behind below.there in
      let m = longer.long below.corner behind leaves in
      wider (after f corner at end moved) corner.size corner.estimate size estimate put_met (let s = below.small in omega (arith, l, s)) (let s = below.short in omega (arith, m, s)))
      (λ (stays : end ≤ below.corner).
      let to = at + 1 + (below.corner - end) in
      let from : end + (to - (at + 1)) ≡ below.corner = omega arith in
      let e = get_or-set_other moved at to corner nothing (λ (is : to ≡ at). omega (arith, is)) ∙ copied to nothing (omega arith) (let t = below.there in omega (arith, t, stays)) ∙ ap (λ (k : ℕ). at_corner f.corners k) from in
      moves to (let t = below.there in omega (arith, t, stays)) e)
      (cases_lt below.corner end))
      (cases_lt below.corner at)
    where
      moves : (to : ℕ) → to < f.len + 1 + at - end → at_corner (set moved at corner) to ≡ at_corner f.corners below.corner → IsBelow (after f corner at end moved) size estimate
      moves to there is =
          record {
            corner = to;
            there = there;
            small = let e = ap (λ (c : Corner). c.size) is in let s = below.small in omega (arith, e, s);
            short = let e = ap (λ (c : Corner). c.estimate) is in let s = below.short in omega (arith, e, s);
          }
