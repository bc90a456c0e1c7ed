-- Each turn of a re-simulation: a segment is worked, an old one is reached or not, and at the end all is done.
use Rattle.std.proofs.Common.{◌≡◌, ℕ, zero, suc, ◌+◌, ◌-◌, ◌^◌, ◌≤◌, ◌<◌, Bool, true, false, List, [], ◌∷◌, ◌++◌, drop, length, Option, None, Some, IfSome, refl, sym, ◌∙◌, ap, subst, arith, add-zero, ◌⊎◌, inl, inr}
use Rattle.std.proofs.lemmas.List.{length-append, drop_all}
use Rattle.scenarios.specs.Plan.{Plan}
use Rattle.cluster_state.specs.Snapshot.{numbers_of}
use Rattle.easy_rule.specs.Simulation.{IsEvent, before, bound}
use Rattle.scenarios.specs.SoundPlan.{IsPlan}
use Rattle.timeline.specs.Laws.{IsQuiet}
use Rattle.timeline.proofs.Lemmas.{events-end-by-the-bound, short-plan}
use Rattle.easy_rule.specs.declared.start.Start.{Start}
use Rattle.event_loop.specs.Events.{Progress, events_before, begun}
use Rattle.event_loop.specs.Going.{IsRunOn}
use Rattle.event_loop.proofs.Lemmas.{events_before-more}
use Rattle.checkpoints.specs.Coming.{NoneComes}
use Rattle.checkpoints.specs.Worked.{WorksUpTo}
use Rattle.checkpoints.specs.Segment.{SegmentView}
use Rattle.checkpoints.specs.Cut.{Spans, IsCut, Over}
use Rattle.checkpoints.proofs.Lemmas.{span-bounded}
use Rattle.rejoin.specs.Reused.{next_first, MayBegin, IsReused}
use Rattle.rejoin.specs.Older.{IsFirstOf}
use Rattle.rejoin.specs.Patch.{AreReused, EndsPiece, IsPiece, IsRejoined}
use Rattle.rejoin.specs.Rejoining.{ChangeView, IsChange, IsClear, AreTaken, IsSpent, IsOn, IsAfter, Stands}
use Rattle.rejoin.proofs.Marks.{marks-grow}
use Rattle.rejoin.proofs.Patching.{all-are-reused, patched-chain}
use Rattle.rejoin.proofs.Rejoining.{on-begins, on-worked, on-passed, on-missed, on-reused, after-reused, after-snapshot, after-resumed, on-begun, on-few}

grow-for : (q : Plan) (a n : ℕ) → events_before q a ≤ events_before q (a + n)
grow-for q a zero = let e = ap (events_before q) (add-zero a) in omega (arith, e)
grow-for q a (suc n) =
    let one : a + suc n ≡ (a + n) + 1 = omega arith in
    let e = ap (events_before q) one ∙ events_before-more q (a + n) in
    omega (arith, e, grow-for q a n)

-- no fewer event seconds come before a later second
pub events-grow : (q : Plan) (a b : ℕ) → a ≤ b → events_before q a ≤ events_before q b
events-grow q a b l = let whole : a + (b - a) ≡ b = omega arith in let e = ap (events_before q) whole in omega (arith, e, grow-for q a (b - a))

-- an engine that was just begun stands before all old segments, with no new ones and nothing handled or reused
pub stands-begun : (c : ChangeView) → IsChange c → (n : ℕ) (now : Progress) (ss : List SegmentView) → now ≡ begun c.is 0 → ss ≡ [] → Stands c n 0 false now ss 0 0
stands-begun c ok n now ss e none = (
  [],
  refl,
  ap (λ (x : Progress). x.failed) e,
  ap (λ (x : Progress). x.plan) e,
  subst (λ (zs : List SegmentView). IsOn c n c.old zs [] now.position (0 + now.handled)) (sym none)
      (subst (λ (x : Progress). IsOn c n c.old [] [] x.position (0 + x.handled)) (sym e) (on-begins c ok n)),
)

first-in : (at : ℕ) (old : List SegmentView) (c : ℕ) → next_first (drop at old) ≡ Some c → IsFirstOf old c
first-in zero [] c is = cc
first-in (suc at) [] c is = cc
first-in zero (s ∷ ss) c is = let same : s.first ≡ c = cc in inl same
first-in (suc at) (s ∷ ss) c is = inr (first-in at ss c is)

ends-piece : (q : Plan) (at : ℕ) (old : List SegmentView) (now : Progress) → now.plan ≡ q → NoneComes now (next_first (drop at old)) → IfSome (next_first (drop at old)) (λ c. now.position ≤ c) → EndsPiece q old now.position
ends-piece q at old now plan = go (next_first (drop at old)) (first-in at old)
  where
    go : (next : Option ℕ) → ((c : ℕ) → next ≡ Some c → IsFirstOf old c) → NoneComes now next → IfSome next (λ c. now.position ≤ c) → EndsPiece q old now.position
    go None first none within = inr (subst (λ (p : Plan). Over p now.position) plan none)
    go (Some c) first none within = inl (c, first c refl, within, subst (λ (p : Plan). IsQuiet p now.position c) plan none)

is-piece : (c : ChangeView) (n at k a : ℕ) (new : Progress) → new.plan ≡ c.is → IfSome (next_first (drop at c.old)) (λ e. new.position ≤ e) → events_before c.is new.position ≡ events_before c.is a + k → k ≤ n
    → (events_before c.is new.position ≡ events_before c.is a + n) ⊎ NoneComes new (next_first (drop at c.old)) → IsPiece c.is c.old n k new.position
is-piece c n at k a new plan within counted short (inl full) = record { short = short; ends = inl (omega (arith, counted, full)) }
is-piece c n at k a new plan within counted short (inr none) = record { short = short; ends = inr (ends-piece c.is at c.old new plan none within) }

-- with a segment that an engine worked, up to the old segments that are left, behind the new ones, it still stands before these
pub stands-worked : (c : ChangeView) (n at : ℕ) (now new : Progress) (ss : List SegmentView) (s : SegmentView) (starts : List Start) (handled reused : ℕ) → Stands c n at false now ss handled reused → IsRunOn now new starts → Spans now.plan s now.position new.position → WorksUpTo now new n (next_first (drop at c.old))
    → Stands c n at false new (ss ++ s ∷ []) handled reused
stands-worked c n at now new ss s starts handled reused (us, count, going, plan, on) run spans events =
    let a = now.position in
    let b = new.position in
    let sp : Spans c.is s a b = subst (λ (q : Plan). Spans q s a b) plan spans in
    let few : events_before c.is b ≤ events_before c.is a + n = subst (λ (q : Plan). events_before q b ≤ events_before q a + n) plan events.short in
    let all : (events_before c.is b ≡ events_before c.is a + n) ⊎ NoneComes new (next_first (drop at c.old)) = subst (λ (q : Plan). (events_before q b ≡ events_before q a + n) ⊎ NoneComes new (next_first (drop at c.old))) plan events.full in
    let held : new.handled + events_before c.is a ≡ now.handled + events_before c.is b = subst (λ (q : Plan). new.handled + events_before q a ≡ now.handled + events_before q b) plan run.further.counted in
    let x = sp.ends.1 in
    let y = sp.ends.2 in
    let grow = events-grow c.is a b (omega (arith, x, y)) in
    let k = events_before c.is b - events_before c.is a in
    let is : events_before c.is b ≡ events_before c.is a + k = omega (arith, grow) in
    let piece = is-piece c n at k a new (run.further.plan ∙ plan) events.within is (omega (arith, few)) all in
    let more = on-worked c n (drop at c.old) ss us s a b (handled + now.handled) k on sp events.within is piece in
    let sum : (handled + now.handled) + k ≡ handled + new.handled = omega (arith, held, grow) in
    (us, count, run.going, run.further.plan ∙ plan, subst (λ h. IsOn c n (drop at c.old) (ss ++ s ∷ []) us b h) sum more)

-- behind a segment that was worked fewer seconds are left up to the bound
pub work-down : (c : ChangeView) → IsChange c → (n at : ℕ) (now new : Progress) (ss : List SegmentView) (s : SegmentView) (handled reused : ℕ) → Stands c n at false now ss handled reused → Spans now.plan s now.position new.position → bound c.is + 1 - new.position < bound c.is + 1 - now.position
work-down c ok n at now new ss s handled reused (us, count, going, plan, on) spans =
    let sp : Spans c.is s now.position new.position = subst (λ (q : Plan). Spans q s now.position new.position) plan spans in
    let l = span-bounded c.is s now.position new.position ok.alike.right sp in
    let x = sp.ends.1 in
    let y = sp.ends.2 in
    omega (arith, l, x, y)

-- where an engine at work stands, a segment may begin
pub stands-begins : (c : ChangeView) (n at : ℕ) (now : Progress) (ss : List SegmentView) (handled reused : ℕ) → Stands c n at false now ss handled reused → MayBegin c.is now.position
stands-begins c n at now ss handled reused (us, count, going, plan, on) = on-begun c n (drop at c.old) ss us now.position (handled + now.handled) on

-- a segment begins at most one second after the bound
pub bounded : (q : Plan) (b : ℕ) → IsPlan q → MayBegin q b → b ≤ bound q + 1
bounded q b p (inl e) = omega (arith, e)
bounded q b p (inr (t, e, ev)) = let l = events-end-by-the-bound q t p ev in omega (arith, l, e)

-- fewer than 2^49 event seconds are worked
pub stands-short : (c : ChangeView) → IsChange c → (n at : ℕ) (now : Progress) (ss : List SegmentView) (handled reused : ℕ) → Stands c n at false now ss handled reused → handled + now.handled < 2 ^ 49
stands-short c ok n at now ss handled reused (us, count, going, plan, on) =
    let few = on-few c n (drop at c.old) ss us now.position (handled + now.handled) on in
    let l = bounded c.is now.position ok.alike.right (on-begun c n (drop at c.old) ss us now.position (handled + now.handled) on) in
    let short = short-plan c.is ok.alike.right in
    omega (arith, few, l, short)

module _ (c : ChangeView) (ok : IsChange c) (n at : ℕ) (s : SegmentView) (here : drop at c.old ≡ s ∷ drop (at + 1) c.old) where
  on-here : (ss us : List SegmentView) (a h : ℕ) → IsOn c n (drop at c.old) ss us a h → IsOn c n (s ∷ drop (at + 1) c.old) ss us a h
  on-here ss us a h on = subst (λ (zs : List SegmentView). IsOn c n zs ss us a h) here on

  after-here : (ss us : List SegmentView) (b h : ℕ) → IsAfter c n (drop at c.old) ss us b h → IsAfter c n (s ∷ drop (at + 1) c.old) ss us b h
  after-here ss us b h af = subst (λ (zs : List SegmentView). IsAfter c n zs ss us b h) here af

  one-more : (us : List SegmentView) (reused : ℕ) → reused ≡ length us → reused + 1 ≡ length (us ++ s ∷ [])
  one-more us reused e = let l = length-append us (s ∷ []) in omega (arith, e, l)

  -- where no event second comes before the next old segment, and the engine isn't at it, the engine stands before those behind it
  pub pass-missed : (now : Progress) (ss : List SegmentView) (handled reused : ℕ) → Stands c n at false now ss handled reused → NoneComes now (next_first (drop at c.old)) → (now.position ≡ s.first → ⊥) → Stands c n (at + 1) false now ss handled reused
  pass-missed now ss handled reused (us, count, going, plan, on) none ne =
      let on' = on-here ss us now.position (handled + now.handled) on in
      let quiet : NoneComes now (Some s.first) = subst (λ (o : Option ℕ). NoneComes now o) (ap next_first here) none in
      let l : now.position ≤ s.first = on'.within in
      (us, count, going, plan, on-missed c ok n s (drop (at + 1) c.old) ss us now.position (handled + now.handled) on' (omega (arith, l, ne)) (λ t x y ev. quiet t x y (subst (λ (q : Plan). IsEvent q t) (sym plan) ev)))

  -- where the next old segment is not reused, the engine stands before those behind it
  pub pass-refused : (now : Progress) (ss : List SegmentView) (handled reused : ℕ) → Stands c n at false now ss handled reused → (IsReused c.was c.is s.first (next_first (drop (at + 1) c.old)) → ⊥) → Stands c n (at + 1) false now ss handled reused
  pass-refused now ss handled reused (us, count, going, plan, on) not-reused =
      (us, count, going, plan, on-passed c ok n s (drop (at + 1) c.old) ss us now.position (handled + now.handled) (on-here ss us now.position (handled + now.handled) on) not-reused)

  -- where the engine is at the next old segment's first second, and it is reused, the re-simulation stands behind it
  pub keep-reached : (now new : Progress) (ss : List SegmentView) (handled reused : ℕ) → Stands c n at false now ss handled reused → now.position ≡ s.first → IsReused c.was c.is s.first (next_first (drop (at + 1) c.old)) → Stands c n (at + 1) true new (ss ++ s ∷ []) (handled + now.handled) (reused + 1)
  keep-reached now new ss handled reused (us, count, going, plan, on) e k =
      (us ++ s ∷ [], one-more us reused count, on-reused c ok n s (drop (at + 1) c.old) ss us now.position (handled + now.handled) (on-here ss us now.position (handled + now.handled) on) e k)

  -- behind a reused segment, where no touched number is submitted in the next old one's stretch, the re-simulation stands behind that one
  pub keep-behind : (now new : Progress) (ss : List SegmentView) (handled reused : ℕ) → Stands c n at true now ss handled reused → IsClear c.was c.is s.first (next_first (drop (at + 1) c.old)) → Stands c n (at + 1) true new (ss ++ s ∷ []) handled (reused + 1)
  keep-behind now new ss handled reused (us, count, (b, af)) clear =
      (us ++ s ∷ [], one-more us reused count, after-reused c ok n s (drop (at + 1) c.old) ss us b handled (after-here ss us b handled af) clear)

  -- behind a reused segment the next old one has the snapshot of the new plan's state
  pub behind-snapshot : (now : Progress) (ss : List SegmentView) (handled reused : ℕ) → Stands c n at true now ss handled reused → s.before ≡ numbers_of (before c.is s.first)
  behind-snapshot now ss handled reused (us, count, (b, af)) = after-snapshot c ok n s (drop (at + 1) c.old) ss us b handled (after-here ss us b handled af)

  -- behind a reused segment, where some touched number is submitted in the next old one's stretch, an engine begun there stands before those behind it
  pub resumed-behind : (now new : Progress) (ss : List SegmentView) (handled reused : ℕ) → Stands c n at true now ss handled reused → (IsClear c.was c.is s.first (next_first (drop (at + 1) c.old)) → ⊥) → new ≡ begun c.is s.first → Stands c n (at + 1) false new ss handled reused
  resumed-behind now new ss handled reused (us, count, (b, af)) touched e =
      let on : IsOn c n (drop (at + 1) c.old) ss us s.first handled = after-resumed c ok n s (drop (at + 1) c.old) ss us b handled (after-here ss us b handled af) touched in (
        us,
        count,
        ap (λ (x : Progress). x.failed) e,
        ap (λ (x : Progress). x.plan) e,
        subst (λ (x : Progress). IsOn c n (drop (at + 1) c.old) ss us x.position (handled + x.handled)) (sym e)
            (subst (λ h. IsOn c n (drop (at + 1) c.old) ss us s.first h) (sym (add-zero handled)) on),
      )

spent-all : (c : ChangeView) → IsChange c → (h b : ℕ) → IsSpent c h b → MayBegin c.is b → IsSpent c h (bound c.is + 1)
spent-all c ok h b spent may marks all = let x = spent marks all in let y = marks-grow marks b (bound c.is + 1) (bounded c.is b ok.alike.right may) in omega (arith, x, y)

taken-all : (c : ChangeView) (at : ℕ) (us : List SegmentView) → length c.old ≤ at → AreTaken c (drop at c.old) us → AreReused c.was c.is c.old [] us
taken-all c at us l taken =
    let none : drop at c.old ≡ [] = drop_all at c.old l in
    let t : AreTaken c [] us = subst (λ (zs : List SegmentView). AreTaken c zs us) none taken in
    all-are-reused c.was c.is c.old t.0 us t.1 t.2

-- where no old segment is left behind a reused one, the re-simulation is done
pub done-reused : (c : ChangeView) → IsChange c → (n at : ℕ) (now : Progress) (ss : List SegmentView) (handled reused : ℕ) → length c.old ≤ at → Stands c n at true now ss handled reused → IsRejoined c.was c.is c.old n ss handled reused
done-reused c ok n at now ss handled reused l (us, count, (b, af)) =
    let none : drop at c.old ≡ [] = drop_all at c.old l in
    record {
      taken = us;
      all = taken-all c at us l af.taken;
      count = count;
      patched = (b, af.patched, (let last : IsAfter c n [] ss us b handled = subst (λ (zs : List SegmentView). IsAfter c n zs ss us b handled) none af in last.ends));
      spent = spent-all c ok handled b af.spent (inr af.event);
    }

-- where no old segment is left, and no event second comes any more, the re-simulation is done
pub done-worked : (c : ChangeView) → IsChange c → (n at : ℕ) (now : Progress) (ss : List SegmentView) (handled reused : ℕ) → length c.old ≤ at → Stands c n at false now ss handled reused → NoneComes now (next_first (drop at c.old)) → IsRejoined c.was c.is c.old n ss (handled + now.handled) reused
done-worked c ok n at now ss handled reused l (us, count, going, plan, on) none =
    let nothing : drop at c.old ≡ [] = drop_all at c.old l in
    let over' : NoneComes now None = subst (λ (zs : List SegmentView). NoneComes now (next_first zs)) nothing none in
    record {
      taken = us;
      all = taken-all c at us l on.taken;
      count = count;
      patched = (now.position, on.patched, (λ t x ev. over' t x (subst (λ (q : Plan). IsEvent q t) (sym plan) ev)));
      spent = spent-all c ok (handled + now.handled) now.position on.spent (on-begun c n (drop at c.old) ss us now.position (handled + now.handled) on);
    }

-- a re-simulation stands as it does with equal segments and counts
pub stands-as : (c : ChangeView) (n at : ℕ) (kept : Bool) (engine : Progress) (ts ss : List SegmentView) (g h r k : ℕ) → ts ≡ ss → g ≡ h → r ≡ k → Stands c n at kept engine ss h k → Stands c n at kept engine ts g r
stands-as c n at kept engine ts ss g h r k b d e st =
    subst (λ (zs : List SegmentView). Stands c n at kept engine zs g r) (sym b) (subst (λ x. Stands c n at kept engine ss x r) (sym d) (subst (λ x. Stands c n at kept engine ss h x) (sym e) st))

-- the new segments of a re-simulation that is done are a cut of the new plan
pub rejoined-cut : (p q r : Plan) (old : List SegmentView) (n : ℕ) (ss : List SegmentView) (handled reused : ℕ) → IsRejoined p q old n ss handled reused → q ≡ r → IsCut r ss
rejoined-cut p q r old n ss handled reused done e =
    subst (λ (x : Plan). IsCut x ss) e (done.patched.0, patched-chain q old n 0 done.patched.0 ss done.taken handled done.patched.1, done.patched.2)
