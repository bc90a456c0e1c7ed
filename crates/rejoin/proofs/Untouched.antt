-- Where no number is touched, all old segments are reused, and nothing is worked.
use Rattle.std.proofs.Common.{◌≡◌, ℕ, zero, suc, ◌+◌, ◌≤◌, false, List, [], ◌∷◌, ◌++◌, length, refl, sym, ◌∙◌, ap, subst, arith, append-nil, inl, inr}
use Rattle.std.proofs.lemmas.Bool.{cond-true}
use Rattle.scenarios.specs.Plan.{Plan}
use Rattle.easy_rule.specs.Simulation.{bound}
use Rattle.event_loop.specs.Events.{events_before, has_event}
use Rattle.event_loop.proofs.Lemmas.{events_before-more, has-event}
use Rattle.checkpoints.specs.Segment.{SegmentView}
use Rattle.checkpoints.specs.Cut.{Spans, IsCut}
use Rattle.rejoin.specs.Touched.{IsTouched, NothingTouched}
use Rattle.rejoin.specs.Reused.{next_first, IsReused}
use Rattle.rejoin.specs.Laws.{AreAlike}
use Rattle.rejoin.specs.Bound.{marked}
use Rattle.rejoin.specs.Rejoining.{ChangeView, IsChange}
use Rattle.rejoin.specs.Patch.{AreReused, Patched, IsRejoined, AllReused}
use Rattle.rejoin.proofs.Turns.{events-grow}
use Rattle.rejoin.proofs.Walk.{work-is-older-work, older-reused-is-reused}

marked-none : (n : ℕ) → marked (λ t. false) n ≡ 0
unfolding marked
marked-none zero = refl
marked-none (suc n) = let i = marked-none n in omega (arith, i)

each-reused : (p q : Plan) (old : List SegmentView) → AreAlike p q → IsCut p old → NothingTouched p q → (front : List SegmentView) (s : SegmentView) (rest : List SegmentView) → old ≡ front ++ s ∷ rest → IsReused p q s.first (next_first rest)
each-reused p q old alike cut none front s rest e = older-reused-is-reused p q front s rest alike (subst (IsCut p) e cut) (inl none)

all-taken : (p q : Plan) (ss us : List SegmentView) → ((front : List SegmentView) (s : SegmentView) (rest : List SegmentView) → ss ≡ front ++ s ∷ rest → IsReused p q s.first (next_first rest)) → AreReused p q ss [] us → us ≡ ss
all-taken p q [] us all e = e
all-taken p q (s ∷ ss) us all (inl (k, (vs, e, rest))) = e ∙ ap (λ (l : List SegmentView). s ∷ l) (all-taken p q ss vs (λ front t left f. all (s ∷ front) t left (ap (λ (l : List SegmentView). s ∷ l) f)) rest)
all-taken p q (s ∷ ss) us all (inr (never, rest)) = absurd (never (subst (λ (l : List SegmentView). IsReused p q s.first (next_first l)) (sym (append-nil ss)) (all [] s ss refl)))

span-counts : (q : Plan) (s : SegmentView) (a b : ℕ) → Spans q s a b → events_before q a + 1 ≤ events_before q b
span-counts q s a b sp =
    let t = sp.ends.0 in
    let grow = events-grow q a t sp.ends.1 in
    let e = ap (events_before q) sp.ends.2 ∙ events_before-more q t in
    let one = cond-true {A = ℕ} (has_event q t) 1 0 (has-event q t sp.ends.3) in
    omega (arith, grow, e, one)

none-worked : (q : Plan) (old : List SegmentView) (n a b h : ℕ) (new us : List SegmentView) → h ≡ 0 → Patched q old n a new us h b → new ≡ us
none-worked q old n a b h [] us z (e, u, w) = sym u
none-worked q old n a b h (s ∷ ss) us z (m, sp, inl (vs, e, rest)) = ap (λ (l : List SegmentView). s ∷ l) (none-worked q old n m b h ss vs z rest) ∙ sym e
none-worked q old n a b h (s ∷ ss) us z (m, sp, inr (k, held, few, (g, e, rest))) =
    absurd (let more = span-counts q s a m sp in omega (arith, more, held, e, z))

segments-reused : (c : ChangeView) → IsChange c → (new : List SegmentView) (n handled reused : ℕ) → IsRejoined c.was c.is c.old n new handled reused → NothingTouched c.was c.is → AllReused c.old new handled reused
segments-reused c ok new n handled reused done none =
    let spent = done.spent (λ t. false) (λ t work. absurd ((work-is-older-work c.was c.is c.old t ok.alike ok.cut work).touched none)) in
    let zero' : handled ≡ 0 = let m = marked-none (bound c.is + 1) in omega (arith, spent, m) in
    let all : done.taken ≡ c.old = all-taken c.was c.is c.old done.taken (each-reused c.was c.is c.old ok.alike ok.cut none) done.all in
    record {
      same = none-worked c.is c.old n 0 done.patched.0 handled new done.taken zero' done.patched.1 ∙ all;
      none = zero';
      all = done.count ∙ ap length all;
    }

-- where no number is touched, a re-simulation that is done has all old segments, and nothing was worked
pub all-reused : (c : ChangeView) (p q : Plan) (old seen new : List SegmentView) (n handled reused : ℕ) → IsChange c → c.was ≡ p → c.is ≡ q → c.old ≡ old → new ≡ seen → IsRejoined c.was c.is c.old n seen handled reused → NothingTouched p q → AllReused old new handled reused
all-reused c p q old seen new n handled reused ok was is same put done none =
    let untouched : NothingTouched c.was c.is = λ m t. none m (subst (λ (x : Plan). IsTouched x q m) was (subst (λ (x : Plan). IsTouched c.was x m) is t)) in
    let all = segments-reused c ok seen n handled reused done untouched in
    record { same = put ∙ all.same ∙ same; none = all.none; all = all.all ∙ ap length same }
