-- Where a ledger says that two simulations have met, and no touched number waits or runs, their states are equal, so the old segment that begins there
-- is reused, if no touched number is submitted in its stretch; and how the ledger is kept from second to second.
use Rattle.std.proofs.Common.{◌≡◌, ℕ, zero, suc, ◌+◌, ◌≤◌, ◌<◌, ◌^◌, ◌↔◌, ◌||◌, Bool, true, false, cond, nat_eq, count_by, List, [], ◌∷◌, ◌++◌, length, get_or, take, drop, All, IsTrue, Option, Some, None, refl, sym, ◌∙◌, ap, subst, arith, ⊎_elim, inr}
use Rattle.std.specs.Prelude.{IfSome, IsSome}
use Rattle.std.specs.List.{Contains}
use Rattle.std.specs.BTreeMap.{BTreeMap}
use Rattle.std.proofs.lemmas.Bool.{cond-true, cond-false, cases_Bool, eq-eqb, eqb-true, false≢true}
use Rattle.std.proofs.lemmas.List.{take-append-drop}
use Rattle.std.proofs.lemmas.List.Elements.{All-contains, All-weaker}
use Rattle.std.proofs.lemmas.List.Sums.{sum_by-cons}
use Rattle.scenarios.specs.Job.{EffectiveJob}
use Rattle.scenarios.specs.Plan.{Plan, job_numbered}
use Rattle.scenarios.specs.SoundPlan.{IsPlan}
use Rattle.cluster_state.specs.Snapshot.{numbers_of}
use Rattle.easy_rule.specs.declared.start.Start.{Start}
use Rattle.easy_rule.specs.Simulation.{before, bound, starts_before, start_of}
use Rattle.timeline.specs.Ledger.{ledger_of}
use Rattle.timeline.specs.Meeting.{AgreeBut, HaveMet, NoneOf}
use Rattle.timeline.proofs.Lemmas.{short-plan, starts-below, snapshots-meet}
use Rattle.event_loop.proofs.Lemmas.{before-of-plan}
use Rattle.checkpoints.specs.Segment.{SegmentView}
use Rattle.event_loop.specs.Events.{Progress, begun}
use Rattle.checkpoints.specs.Cut.{Spans, Chain}
use Rattle.checkpoints.proofs.Lemmas.{span-bounded}
use Rattle.rejoin.specs.Touched.{IsTouched}
use Rattle.rejoin.specs.Reused.{next_first, MayBegin, IsEnd, IsReused}
use Rattle.rejoin.specs.Rejoining.{ChangeView, IsChange, IsClear, Stands}
use Rattle.rejoin.specs.Noted.{AreNotes, AreStarts, Follows, HasNone, Keeps, IsNoted, ledger_at}
use Rattle.rejoin.specs.declared.ledger.Ledger.{Ledger as Notes}
use Rattle.rejoin.specs.Started.{among, count_before}
use Rattle.rejoin.proofs.Alike.{stable-found, untouched-equal-numbers-are-equal-states}
use Rattle.rejoin.proofs.Noting.{no-start}
use Rattle.rejoin.proofs.Following.{IsMore, All-back, ended-later, follows-new, follows-old}
use Rattle.rejoin.proofs.Started.{few-starts, starts-tell-who-stands}
use Rattle.rejoin.proofs.Rejoining.{spans-here}
use Rattle.rejoin.proofs.Walk.{start-same}
use Rattle.rejoin.proofs.Turns.{bounded}

or-here : (b c : Bool) → b ≡ true → (b || c) ≡ true
or-here true c e = refl
or-here false c e = absurd (false≢true e)

or-more : (b c : Bool) → c ≡ true → (b || c) ≡ true
or-more true c e = refl
or-more false c e = e

pub among-true : (ns : List ℕ) (n : ℕ) → Contains ns n → among ns n ≡ true
among-true [] n (k, l, e) = absurd (omega (arith, l))
among-true (m ∷ ms) n (zero, l, e) = or-here (nat_eq m n) (among ms n) (eq-eqb m n e)
among-true (m ∷ ms) n (suc k, l, e) = or-more (nat_eq m n) (among ms n) (among-true ms n (k, omega (arith, l), e))

pub true-among : (ns : List ℕ) (n : ℕ) → among ns n ≡ true → Contains ns n
true-among [] n e = absurd (false≢true e)
true-among (m ∷ ms) n e = go (nat_eq m n) refl (true-among ms n) e
  where
    go : (b : Bool) → nat_eq m n ≡ b → (among ms n ≡ true → Contains ms n) → (b || among ms n) ≡ true → Contains (m ∷ ms) n
    go true f h g = (0, omega arith, eqb-true m n f)
    go false f h g = let c = h g in (suc c.0, omega (arith, c.1), c.2)

-- a test that says whether a number is in a list says what `among` does
pub outcome-among : (ns : List ℕ) (n : ℕ) (r : Bool) → IsTrue r ↔ Contains ns n → r ≡ among ns n
outcome-among ns n true h = sym (among-true ns n (h.0 refl))
outcome-among ns n false h = go (among ns n) refl
  where
    go : (b : Bool) → among ns n ≡ b → false ≡ b
    go true e = h.1 (true-among ns n e)
    go false e = refl

pub agree-but : (c : ChangeView) → IsChange c → AgreeBut (among c.touched) c.was c.is
agree-but c ok = record {
  left = ok.alike.left;
  right = ok.alike.right;
  others = λ n e. stable-found (job_numbered c.was.jobs n) (job_numbered c.is.jobs n) (λ d. false≢true (sym e ∙ among-true c.touched n (ok.touched.whole n d)));
}

touched-is : (c : ChangeView) → IsChange c → (n : ℕ) → among c.touched n ≡ true → IsTouched c.was c.is n
touched-is c ok n e = All-contains (IsTouched c.was c.is) c.touched n ok.touched.each (true-among c.touched n e)

pub met-of-reused : (c : ChangeView) → IsChange c → (a : ℕ) (next : Option ℕ) → IsReused c.was c.is a next
    → HaveMet (among c.touched) c.was c.is a × NoneOf (among c.touched) (numbers_of (before c.was a)) × NoneOf (among c.touched) (numbers_of (before c.is a))
met-of-reused c ok a next k = (snapshots-meet (among c.touched) c.was c.is a (agree-but c ok)).0 (k.same, λ n e l. k.untouched n (touched-is c ok n e) l)

pub reused-of-met : (c : ChangeView) → IsChange c → (a : ℕ) (next : Option ℕ) → MayBegin c.is a → HaveMet (among c.touched) c.was c.is a
    → NoneOf (among c.touched) (numbers_of (before c.was a)) × NoneOf (among c.touched) (numbers_of (before c.is a)) → IsClear c.was c.is a next → IsReused c.was c.is a next
reused-of-met c ok a next begins met none clear =
    let both = (snapshots-meet (among c.touched) c.was c.is a (agree-but c ok)).1 (met, none.0, none.1) in
    record { begins = begins; same = both.0; untouched = λ n d l. both.1 n (among-true c.touched n (ok.touched.whole n d)) l; submits = clear }

pub met-of-same : (c : ChangeView) → IsChange c → (a : ℕ) → before c.was a ≡ before c.is a → HaveMet (among c.touched) c.was c.is a
met-of-same c ok a e =
    let h = ok.alike in
    let back = (untouched-equal-numbers-are-equal-states (before c.was a) (before c.is a) c.was c.is (before-of-plan c.was a h.left) (before-of-plan c.is a h.right) h.procs h.order).1 e in
    ((snapshots-meet (among c.touched) c.was c.is a (agree-but c ok)).0 (back.0, λ n t l. back.1 n (touched-is c ok n t) l)).0

pub fresh-keeps : (c : ChangeView) → IsChange c → (a : ℕ) (old new : BTreeMap ℕ ℕ) (until : ℕ) → before c.was a ≡ before c.is a → HasNone old → HasNone new → until ≡ 0 → Keeps a (ledger_at c a a) old new until
fresh-keeps c ok a old new until e none-old none-new zero' =
    let met = met-of-same c ok a e in
    record {
      tells_here = λ n. none-old n ∙ sym (ap (λ (l : List Start). start_of l n) met.none_here);
      tells_there = λ n. none-new n ∙ sym (ap (λ (l : List Start). start_of l n) met.none_there);
      tells_until = λ t l. ((λ _. let m = met.ended in omega (arith, m, l)), (λ _. omega (arith, zero')));
    }

pub outcome-met : (c : ChangeView) (a : ℕ) (old new : BTreeMap ℕ ℕ) (until : ℕ) → Keeps a (ledger_at c a a) old new until → (HasNone old × HasNone new × (until ≤ a)) ↔ HaveMet (among c.touched) c.was c.is a
outcome-met c a old new until k = (
  (λ h. record {
    none_here = no-start (ledger_at c a a).here (λ n. sym (k.tells_here n) ∙ h.0 n);
    none_there = no-start (ledger_at c a a).there (λ n. sym (k.tells_there n) ∙ h.1 n);
    ended = (k.tells_until a (omega arith)).0 h.2;
  }),
  (λ met. (
    (λ n. k.tells_here n ∙ ap (λ (l : List Start). start_of l n) met.none_here),
    (λ n. k.tells_there n ∙ ap (λ (l : List Start). start_of l n) met.none_there),
    (k.tells_until a (omega arith)).1 met.ended,
  )),
)

later-keeps : (c : ChangeView) (from to a b : ℕ) (old new : BTreeMap ℕ ℕ) (until : ℕ) → from ≤ to → Keeps from (ledger_at c a b) old new until → Keeps to (ledger_at c a b) old new until
later-keeps c from to a b old new until l k = record { tells_here = k.tells_here; tells_there = k.tells_there; tells_until = λ t m. k.tells_until t (omega (arith, l, m)) }

count-there : (xs : List Start) (k : ℕ) (d : Start) → k < length xs → 1 ≤ count_by (λ (x : Start). nat_eq x.number (get_or xs k d).number) xs
count-there [] k d l = absurd (omega (arith, l))
count-there (x ∷ xs) zero d l =
    let more = sum_by-cons (λ (y : Start). cond {A = ℕ} (nat_eq y.number x.number) 1 0) x xs in
    let one = cond-true {A = ℕ} (nat_eq x.number x.number) 1 0 (eq-eqb x.number x.number refl) in
    omega (arith, more, one)
count-there (x ∷ xs) (suc k) d l =
    let n = (get_or xs k d).number in
    let more = sum_by-cons (λ (y : Start). cond {A = ℕ} (nat_eq y.number n) 1 0) x xs in
    let rest = count-there xs k d (omega (arith, l)) in
    omega (arith, more, rest)

job-there : (js : List EffectiveJob) (n : ℕ) → 1 ≤ count_by (λ (j : EffectiveJob). nat_eq j.number n) js → IsSome (job_numbered js n)
job-there [] n l = absurd (omega (arith, l))
job-there (j ∷ js) n l =
    let more = sum_by-cons (λ (i : EffectiveJob). cond {A = ℕ} (nat_eq i.number n) 1 0) j js in
    ⊎_elim
    (λ (here : nat_eq j.number n ≡ true). subst IsSome (sym (cond-true (nat_eq j.number n) (Some j) (job_numbered js n) here)) refl)
    (λ (other : nat_eq j.number n ≡ false).
    let none = cond-false {A = ℕ} (nat_eq j.number n) 1 0 other in
    subst IsSome (sym (cond-false (nat_eq j.number n) (Some j) (job_numbered js n) other)) (job-there js n (omega (arith, l, more, none))))
    (cases_Bool (nat_eq j.number n))

pub early-starts : (plan : Plan) (t : ℕ) → IsPlan plan → t ≤ bound plan + 1 → All (λ (x : Start). x.at < 2 ^ 49) (starts_before plan t)
early-starts plan t p l = let short = short-plan plan p in All-weaker (λ (x : Start). x.at < t) (λ (x : Start). x.at < 2 ^ 49) (λ x m. omega (arith, m, l, short)) (starts_before plan t) (starts-below plan t)

started-jobs : (plan : Plan) (t : ℕ) → IsPlan plan → t ≤ bound plan + 1 → All (λ (x : Start). IsSome (job_numbered plan.jobs x.number)) (starts_before plan t)
started-jobs plan t p l k d m =
    let xs = starts_before plan t in
    let n = (get_or xs k d).number in
    let one = count-there xs k d m in
    let few = few-starts plan t n p l in
    job-there plan.jobs n (omega (arith, one, few))

module _ (c : ChangeView) (ok : IsChange c) where
  pub new-starts : (t : ℕ) → t ≤ bound c.is + 1 → AreStarts (among c.touched) c.is.jobs (starts_before c.is t)
  new-starts t l =
      let p = ok.alike.right in
      record {
        single = p.once;
        once = λ n. let few = few-starts c.is t n p l in let one = p.once n in omega (arith, few, one);
        have_jobs = λ k d m e. started-jobs c.is t p l k d m;
        early = early-starts c.is t p l;
      }

  pub old-starts : (t : ℕ) → t ≤ bound c.was + 1 → AreStarts (among c.touched) c.is.jobs (starts_before c.was t)
  old-starts t l =
      let p = ok.alike.left in
      record {
        single = ok.alike.right.once;
        once = λ n. let few = few-starts c.was t n p l in let one = p.once n in omega (arith, few, one);
        have_jobs = λ k d m e. subst IsSome ((agree-but c ok).others (get_or (starts_before c.was t) k d).number e) (started-jobs c.was t p l k d m);
        early = early-starts c.was t p l;
      }

  old-end : (at : ℕ) (s : SegmentView) (rest : List SegmentView) → drop at c.old ≡ s ∷ rest → (m : ℕ) × Spans c.was s s.first m × IsEnd c.was (next_first rest) m × (m ≤ bound c.was + 1) × (s.first ≤ m)
  old-end at s rest e =
      let whole : c.old ≡ take at c.old ++ s ∷ rest = sym (take-append-drop at c.old) ∙ ap (λ (t : List SegmentView). take at c.old ++ t) e in
      let sp = spans-here c.was c.old ok.cut s rest (take at c.old, whole) in
      let x = sp.1.ends.1 in
      let y = sp.1.ends.2 in
      (sp.0, sp.1, sp.2, span-bounded c.was s s.first sp.0 ok.alike.left sp.1, omega (arith, x, y))

  module _ {A : Type 0} (at : ℕ) (notes notes' : Notes A) where
    -- with the starts of the new plan's next segment noted, all is noted up to its end before the same old segments
    pub noted-worked : (s : SegmentView) (a b : ℕ) → Spans c.is s a b → IsNoted c at a notes
        → ((from : ℕ) (xs others : List Start) → AreStarts (among c.touched) c.is.jobs (xs ++ s.starts) → All (λ (x : Start). x.at < 2 ^ 49) others
        → Keeps from (ledger_of (among c.touched) c.is.jobs others xs) notes.was notes.is notes.until → Keeps from (ledger_of (among c.touched) c.is.jobs others (xs ++ s.starts)) notes'.was notes'.is notes'.until)
        → IsMore c.touched c.is.jobs s.starts notes.started notes'.started notes.ended notes'.ended → IsNoted c at b notes'
    noted-worked s a b sp noted step more = go (drop at c.old) refl noted
      where
        go : (left : List SegmentView) → drop at c.old ≡ left → IfSome (next_first left) (λ f. AreNotes c f a notes) → IfSome (next_first left) (λ f. AreNotes c f b notes')
        go [] e k = tt
        go (z ∷ rest) e k =
            let x = sp.ends.1 in
            let y = sp.ends.2 in
            let e' = old-end at z rest e in
            let few = e'.3 in
            let up = e'.4 in
            let later' : a ≤ b = omega (arith, x, y) in
            let starts = subst (AreStarts (among c.touched) c.is.jobs) sp.starts (new-starts b (span-bounded c.is s a b ok.alike.right sp)) in
            record {
              others = subst (λ (xs : List Start). Keeps b (ledger_of (among c.touched) c.is.jobs (starts_before c.was z.first) xs) notes'.was notes'.is notes'.until) (sym sp.starts)
                  (step b (starts_before c.is a) (starts_before c.was z.first) starts (early-starts c.was z.first ok.alike.left (omega (arith, few, up)))
                  (later-keeps c a b z.first a notes.was notes.is notes.until later' k.others));
              touched = follows-new a b c z.first a b notes.started notes'.started notes.ended notes'.ended s.starts later' sp.starts starts.once (All-back (λ (q : Start). q.at < 2 ^ 49) (starts_before c.is a) s.starts starts.early) more k.touched;
            }

    -- with the starts of the next old segment noted, all is noted up to the same position before those behind it
    pub noted-passed : (s : SegmentView) → drop at c.old ≡ s ∷ drop (at + 1) c.old → (position : ℕ) → MayBegin c.is position → IsNoted c at position notes
        → ((from : ℕ) (xs others : List Start) → AreStarts (among c.touched) c.is.jobs (xs ++ s.starts) → All (λ (x : Start). x.at < 2 ^ 49) others
        → Keeps from (ledger_of (among c.touched) c.is.jobs xs others) notes.was notes.is notes.until → Keeps from (ledger_of (among c.touched) c.is.jobs (xs ++ s.starts) others) notes'.was notes'.is notes'.until)
        → IsMore c.touched c.was.jobs s.starts notes.started notes'.started notes.ended notes'.ended → IsNoted c (at + 1) position notes'
    noted-passed s here position begins noted step more = go (next_first (drop (at + 1) c.old)) refl
      where
        go : (next : Option ℕ) → next_first (drop (at + 1) c.old) ≡ next → IfSome next (λ f. AreNotes c f position notes')
        go None e = tt
        go (Some f) e =
            let k : AreNotes c s.first position notes = subst (λ (left : List SegmentView). IfSome (next_first left) (λ a. AreNotes c a position notes)) here noted in
            let e' = old-end at s (drop (at + 1) c.old) here in
            let ends : f ≡ e'.0 = subst (λ (o : Option ℕ). IsEnd c.was o e'.0) e e'.2 in
            let l = bounded c.is position ok.alike.right begins in
            let starts = subst (AreStarts (among c.touched) c.is.jobs) e'.1.starts (old-starts e'.0 e'.3) in
            subst (λ m. AreNotes c m position notes') (sym ends)
            (record {
              others = subst (λ (xs : List Start). Keeps position (ledger_of (among c.touched) c.is.jobs xs (starts_before c.is position)) notes'.was notes'.is notes'.until) (sym e'.1.starts)
                  (step position (starts_before c.was s.first) (starts_before c.is position) starts (early-starts c.is position ok.alike.right l) k.others);
              touched = follows-old position c s.first e'.0 position notes.started notes'.started notes.ended notes'.ended s.starts e'.1.starts starts.once (All-back (λ (q : Start). q.at < 2 ^ 49) (starts_before c.was s.first) s.starts starts.early) more k.touched;
            })

-- where no old segment is left, all is noted that is asked for
pub noted-last : {A : Type 0} (c : ChangeView) (at position : ℕ) (notes : Notes A) → next_first (drop at c.old) ≡ None → IsNoted c at position notes
noted-last c at position notes e = subst (λ (next : Option ℕ). IfSome next (λ a. AreNotes c a position notes)) (sym e) tt

-- where an engine is at work, what spans some seconds in its plan spans them in the new plan
pub stands-spans : (c : ChangeView) (n at : ℕ) (now : Progress) (ss : List SegmentView) (handled reused : ℕ) → Stands c n at false now ss handled reused → (s : SegmentView) (a b : ℕ) → Spans now.plan s a b → Spans c.is s a b
stands-spans c n at now ss handled reused (us, count, going, plan, on) s a b sp = subst (λ (q : Plan). Spans q s a b) plan sp

none-of-same : (c : ChangeView) → IsChange c → (a : ℕ) → before c.was a ≡ before c.is a → NoneOf (among c.touched) (numbers_of (before c.was a)) × NoneOf (among c.touched) (numbers_of (before c.is a))
none-of-same c ok a e =
    let h = ok.alike in
    let back = (untouched-equal-numbers-are-equal-states (before c.was a) (before c.is a) c.was c.is (before-of-plan c.was a h.left) (before-of-plan c.is a h.right) h.procs h.order).1 e in
    let here : NoneOf (among c.touched) (numbers_of (before c.is a)) = λ n t l. back.1 n (touched-is c ok n t) l in
    (subst (λ s. NoneOf (among c.touched) (numbers_of s)) (sym e) here, here)

outcome-none : (c : ChangeView) → IsChange c → (a started ended submitted : ℕ) → a ≤ bound c.was + 1 → a ≤ bound c.is + 1 → Follows a c a a started ended → submitted ≡ count_before a c.submits → submitted < 2 ^ 64
    → ((submitted ≤ started) × (ended ≤ a)) ↔ (NoneOf (among c.touched) (numbers_of (before c.was a)) × NoneOf (among c.touched) (numbers_of (before c.is a)))
outcome-none c ok a started ended submitted within-was within-is follows is small =
    let was = starts-tell-who-stands c.was c.touched a ok.alike.left within-was ok.single in
    let new = starts-tell-who-stands c.is c.touched a ok.alike.right within-is ok.single in
    let counts = ok.counts a in
    let count = follows.count in
    let few-was = was.0 in
    let few-new = new.0 in (
      (λ (l, m).
          let h = (follows.tells a (omega arith)).0 m in (
            was.1.0 (omega (arith, l, is, counts, count, few-was, few-new), h.0),
            new.1.0 (omega (arith, l, is, counts, count, few-was, few-new), h.1),
          )),
      (λ (x, y).
          let u = was.1.1 x in
          let v = new.1.1 y in
          let same-was = u.0 in
          let same-new = v.0 in (
            omega (arith, is, counts, count, same-was, same-new, small),
            (follows.tells a (omega arith)).1 (u.1, v.1),
          )),
    )

fresh-follows : (c : ChangeView) → IsChange c → (a started ended : ℕ) → a ≤ bound c.was + 1 → a ≤ bound c.is + 1 → before c.was a ≡ before c.is a → started ≡ count_before a c.submits → started < 2 ^ 64 → ended ≡ 0 → Follows a c a a started ended
fresh-follows c ok a started ended within-was within-is e is small zero' =
    let none = none-of-same c ok a e in
    let was = (starts-tell-who-stands c.was c.touched a ok.alike.left within-was ok.single).1.1 none.0 in
    let new = (starts-tell-who-stands c.is c.touched a ok.alike.right within-is ok.single).1.1 none.1 in
    let counts = ok.counts a in
    let same-was = was.0 in
    let same-new = new.0 in
    record {
      count = omega (arith, is, counts, same-was, same-new, small);
      tells = λ t l. (
        (λ _. (ended-later c.touched c.was.jobs (starts_before c.was a) a t l was.1, ended-later c.touched c.is.jobs (starts_before c.is a) a t l new.1)),
        (λ _. omega (arith, zero')),
      );
    }

pub record IsFresh (c : ChangeView) (a : ℕ) : Type 0 where
  pub same : before c.was a ≡ before c.is a
  pub within_was : a ≤ bound c.was + 1
  pub within_is : a ≤ bound c.is + 1

-- notes of no start yet, which count as many touched starts as touched numbers are submitted before the second
pub record AreNew {A : Type 0} (c : ChangeView) (a : ℕ) (notes : Notes A) : Type 0 where
  pub none_was : HasNone notes.was
  pub none_is : HasNone notes.is
  pub until : notes.until ≡ 0
  pub started : notes.started ≡ count_before a c.submits
  pub small : notes.started < 2 ^ 64
  pub ended : notes.ended ≡ 0

-- notes with nothing in the maps, and no end, that count as many starts as touched numbers are submitted before a second are new there
pub new-notes : {A : Type 0} (c : ChangeView) (a b n : ℕ) (notes : Notes A) → b ≡ a → n ≡ count_before b c.submits → n < 2 ^ 64 → HasNone notes.was → HasNone notes.is → notes.until ≡ 0 → notes.started ≡ n → notes.ended ≡ 0 → AreNew c a notes
new-notes c a b n notes same count small was is until started ended = record {
  none_was = was;
  none_is = is;
  until = until;
  started = started ∙ count ∙ ap (λ t. count_before t c.submits) same;
  small = subst (λ k. k < 2 ^ 64) (sym started) small;
  ended = ended;
}

fresh-noted : {A : Type 0} (c : ChangeView) → IsChange c → (at position : ℕ) (notes : Notes A) → IfSome (next_first (drop at c.old)) (λ a. (position ≡ a) × IsFresh c a) → AreNew c position notes → IsNoted c at position notes
fresh-noted c ok at position notes same new = go (next_first (drop at c.old)) same
  where
    go : (next : Option ℕ) → IfSome next (λ a. (position ≡ a) × IsFresh c a) → IfSome next (λ a. AreNotes c a position notes)
    go None s = tt
    go (Some a) s =
        let n = subst (λ p. AreNew c p notes) s.0 new in
        subst (λ b. AreNotes c a b notes) (sym s.0)
        (record {
          others = fresh-keeps c ok a notes.was notes.is notes.until s.1.same n.none_was n.none_is n.until;
          touched = fresh-follows c ok a notes.started notes.ended s.1.within_was s.1.within_is s.1.same n.started n.small n.ended;
        })

module _ {A : Type 0} (c : ChangeView) (ok : IsChange c) (at position : ℕ) (s : SegmentView) (rest : List SegmentView) (here : drop at c.old ≡ s ∷ rest) (stands : position ≡ s.first) (notes : Notes A) (noted : IsNoted c at position notes) where
  notes-here : AreNotes c s.first s.first notes
  notes-here = subst (λ p. AreNotes c s.first p notes) stands (subst (λ (left : List SegmentView). IfSome (next_first left) (λ a. AreNotes c a position notes)) here noted)

  noted-met : (HasNone notes.was × HasNone notes.is × (notes.until ≤ position)) ↔ HaveMet (among c.touched) c.was c.is s.first
  noted-met = subst (λ p. (HasNone notes.was × HasNone notes.is × (notes.until ≤ p)) ↔ HaveMet (among c.touched) c.was c.is s.first) (sym stands) (outcome-met c s.first notes.was notes.is notes.until notes-here.others)

  noted-none : MayBegin c.is position → (submitted : ℕ) → submitted ≡ count_before position c.submits → submitted < 2 ^ 64
      → ((submitted ≤ notes.started) × (notes.ended ≤ position)) ↔ (NoneOf (among c.touched) (numbers_of (before c.was s.first)) × NoneOf (among c.touched) (numbers_of (before c.is s.first)))
  noted-none begins submitted is small =
      let e = old-end c ok at s rest here in
      let few = e.3 in
      let up = e.4 in
      let l = bounded c.is position ok.alike.right begins in
      subst (λ p. ((submitted ≤ notes.started) × (notes.ended ≤ p)) ↔ (NoneOf (among c.touched) (numbers_of (before c.was s.first)) × NoneOf (among c.touched) (numbers_of (before c.is s.first)))) (sym stands)
      (outcome-none c ok s.first notes.started notes.ended submitted (omega (arith, few, up)) (omega (arith, l, stands)) notes-here.touched (subst (λ p. submitted ≡ count_before p c.submits) stands is) small)

  -- at an old segment's first second three tests tell whether it is reused: that the simulations have met, that the touched numbers
  -- have started and ended, and that none of them is submitted in its stretch
  pub decided : MayBegin c.is position → (submitted : ℕ) → submitted ≡ count_before position c.submits → submitted < 2 ^ 64 → (met ended clear : Bool) → IsTrue met ↔ (HasNone notes.was × HasNone notes.is × (notes.until ≤ position))
      → IsTrue ended ↔ ((submitted ≤ notes.started) × (notes.ended ≤ position)) → IsTrue clear ↔ IsClear c.was c.is s.first (next_first rest) → (IsTrue met × IsTrue ended × IsTrue clear) ↔ IsReused c.was c.is s.first (next_first rest)
  decided begins submitted is small met ended clear met-is ended-is clear-is =
      let none = noted-none begins submitted is small in (
        (λ (m, e, f). reused-of-met c ok s.first (next_first rest) (subst (MayBegin c.is) stands begins) (noted-met.0 (met-is.0 m)) (none.0 (ended-is.0 e)) (clear-is.0 f)),
        (λ k. let all = met-of-reused c ok s.first (next_first rest) k in (met-is.1 (noted-met.1 all.0), ended-is.1 (none.1 (all.1, all.2)), clear-is.1 k.submits)),
      )

first-begins : (p : Plan) (ss : List SegmentView) (e : ℕ) → Chain p 0 ss e → IfSome (next_first ss) (λ a. 0 ≡ a)
first-begins p [] e chain = tt
first-begins p (s ∷ ss) e (m, sp, rest) = sym sp.first

-- where an engine was just begun, new notes at second 0 have all that is asked for before the first old segment
pub begun-noted : {A : Type 0} (c : ChangeView) → IsChange c → (engine : Progress) → engine ≡ begun c.is 0 → (notes : Notes A) → AreNew c 0 notes → IsNoted c 0 engine.position notes
begun-noted c ok engine e notes new =
    let position : engine.position ≡ 0 = ap (λ (x : Progress). x.position) e in
    subst (λ p. IsNoted c 0 p notes) (sym position) (fresh-noted c ok 0 0 notes (go (next_first c.old) (first-begins c.was c.old ok.cut.0 ok.cut.1)) new)
  where
    go : (next : Option ℕ) → IfSome next (λ a. 0 ≡ a) → IfSome next (λ a. (0 ≡ a) × IsFresh c a)
    go None s = tt
    go (Some a) s = (s, subst (IsFresh c) s (record { same = start-same c.was c.is ok.alike; within_was = omega arith; within_is = omega arith }))

-- where an engine is resumed at an old segment behind a reused one, new notes that have passed this segment have all that is asked for before the next
pub resumed-noted : {A : Type 0} (c : ChangeView) → IsChange c → (n at : ℕ) (s : SegmentView) → drop at c.old ≡ s ∷ drop (at + 1) c.old → (now engine : Progress) (ss : List SegmentView) (handled reused : ℕ) → Stands c n at true now ss handled reused → engine ≡ begun c.is s.first
    → (notes notes' : Notes A) → AreNew c s.first notes → ((position : ℕ) → MayBegin c.is position → IsNoted c at position notes → IsNoted c (at + 1) position notes') → IsNoted c (at + 1) engine.position notes'
resumed-noted c ok n at s here now engine ss handled reused (us, count, (b, af)) e notes notes' new passed =
    let ends : s.first ≡ b = subst (λ (left : List SegmentView). IsEnd c.is (next_first left) b) here af.ends in
    let same : before c.was s.first ≡ before c.is s.first = subst (λ t. before c.was t ≡ before c.is t) (sym ends) af.same in
    let position : engine.position ≡ s.first = ap (λ (x : Progress). x.position) e in
    let begins : MayBegin c.is s.first = subst (MayBegin c.is) (sym ends) (inr af.event) in
    let e' = old-end c ok at s (drop (at + 1) c.old) here in
    let few = e'.3 in
    let up = e'.4 in
    let fresh : IsFresh c s.first = record { same = same; within_was = omega (arith, few, up); within_is = bounded c.is s.first ok.alike.right begins } in
    subst (λ p. IsNoted c (at + 1) p notes') (sym position)
    (passed s.first begins (fresh-noted c ok at s.first notes (subst (λ (left : List SegmentView). IfSome (next_first left) (λ a. (s.first ≡ a) × IsFresh c a)) (sym here) (refl, fresh)) new))
