-- Who stands before the seconds of a gap: the numbers of the states, which are snapshots; and pieces become segments by frames that have them.
use Rattle.std.proofs.Common.{◌≡◌, ℕ, zero, suc, ◌+◌, ◌^◌, ◌≤◌, ◌<◌, nat_le, List, [], ◌∷◌, ◌++◌, map, length, All, Some, refl, sym, ◌∙◌, ap, arith, subst, append-nil}
use Rattle.std.specs.Prelude.{slice_get}
use Rattle.std.specs.List.{filter_map, flat_map}
use Rattle.std.specs.List.Sorted.{IsNonDecreasing}
use Rattle.std.proofs.lemmas.List.{map-append}
use Rattle.std.proofs.lemmas.Bool.{cond_both, leb-true, leb-false}
use Rattle.std.proofs.lemmas.List.Elements.{All-nil, All-cons, All-head, All-tail, All-weaker}
use Rattle.frames.specs.Frames.{by_key, with_key, standing_at}
use Rattle.scenarios.specs.Plan.{Plan, job_numbered}
use Rattle.scenarios.specs.SoundPlan.{IsPlan}
use Rattle.scenarios.specs.declared.placed.Placed.{Placed}
use Rattle.cluster_state.specs.declared.snapshot.RunningNumber.{RunningNumber}
use Rattle.cluster_state.specs.State.{State}
use Rattle.cluster_state.specs.Snapshot.{Numbers, IsSnapshot, NumbersRise, number_of, numbers_of, restored, running_numbered}
use Rattle.cluster_state.proofs.Lemmas.{standing-numbers, numbers-give-the-state-back}
use Rattle.easy_rule.specs.Simulation.{before, starts_before, start_of}
use Rattle.timeline.specs.Stretches.{WaitingStandInAStretch, RunningStandInAStretch, coming_between, placed_stretch, started_of, waiting_stretches}
use Rattle.timeline.proofs.Lemmas.{each-state-is-sound}
use Rattle.event_loop.proofs.Lemmas.{before-of-plan}
use Rattle.checkpoints.specs.Segment.{SegmentView}
use Rattle.checkpoints.specs.Cut.{Chain}
use Rattle.checkpoints.specs.Pieces.{PieceView, segment_of}
use Rattle.checkpoints.specs.Closing.{BaseView, GapView, FramesView, base_of, last_of, numbers_in, numbers_at, segments_at}
use Rattle.checkpoints.proofs.Gaps.{IsBase, base-is, chain-seam, gap-outcome, seconds-rise, seconds-within}

abbrev from_number : ℕ → RunningNumber → Type 0
from_number n r = n ≤ r.number

all-with : (n : ℕ) (r : RunningNumber) (rs : List RunningNumber) → n ≤ r.number → All (from_number n) rs → All (from_number n) (with_key (λ (x : RunningNumber). x.number) r rs)
all-with n r [] one all = All-cons (from_number n) r [] one all
all-with n r (x ∷ xs) one all =
    cond_both (nat_le r.number x.number) (r ∷ x ∷ xs) (x ∷ with_key (λ (y : RunningNumber). y.number) r xs) (λ l. All (from_number n) l)
    (λ _. All-cons (from_number n) r (x ∷ xs) one all)
    (λ _. All-cons (from_number n) x (with_key (λ (y : RunningNumber). y.number) r xs) (All-head (from_number n) x xs all) (all-with n r xs one (All-tail (from_number n) x xs all)))

rise-with : (r : RunningNumber) (rs : List RunningNumber) → NumbersRise rs → NumbersRise (with_key (λ (x : RunningNumber). x.number) r rs)
rise-with r [] h = (All-nil (from_number r.number), tt)
rise-with r (x ∷ xs) h =
    cond_both (nat_le r.number x.number) (r ∷ x ∷ xs) (x ∷ with_key (λ (y : RunningNumber). y.number) r xs) NumbersRise
    (λ e. (let l = leb-true r.number x.number e in
    (All-cons (from_number r.number) x xs l (All-weaker (from_number x.number) (from_number r.number) (λ z m. omega (arith, l, m)) xs h.0), h)))
    (λ e. (let l = leb-false r.number x.number e in
    let first : x.number ≤ r.number = omega (arith, l) in
    (all-with x.number r xs first h.0, rise-with r xs h.1)))

rise-by : (rs : List RunningNumber) → NumbersRise (by_key (λ (x : RunningNumber). x.number) rs)
rise-by [] = tt
rise-by (r ∷ rs) = rise-with r (by_key (λ (x : RunningNumber). x.number) rs) (rise-by rs)

early : (rs : List Placed) → All (λ r. r.start < 2 ^ 49) rs → All (λ (r : RunningNumber). r.start < 2 ^ 49) (map number_of rs)
early [] a = All-nil (λ (r : RunningNumber). r.start < 2 ^ 49)
early (r ∷ rs) a =
    All-cons (λ (r : RunningNumber). r.start < 2 ^ 49) (number_of r) (map number_of rs) (All-head (λ r. r.start < 2 ^ 49) r rs a) (early rs (All-tail (λ r. r.start < 2 ^ 49) r rs a))

one-rises : (t : ℕ) → IsNonDecreasing (t ∷ [])
one-rises t zero zero d le l = omega arith
one-rises t zero (suc j) d le l = absurd (omega arith)
one-rises t (suc i) j d le l = absurd (omega arith)

pub is-snapshot : (plan : Plan) (t : ℕ) → IsPlan plan → RunningStandInAStretch → IsSnapshot (numbers_of (before plan t))
is-snapshot plan t p runs =
    let s : State = before plan t in
    let sound = each-state-is-sound plan t p in
    let by = runs plan (t ∷ []) [] 0 t t t p (one-rises t) refl (omega arith) (omega arith) (sym (append-nil (starts_before plan t))) in
    record {
      once = λ n. (let a = standing-numbers s n in
          let b = sound.once n in
          omega (arith, a, b));
      rising = subst NumbersRise (sym by) (rise-by (standing_at 0 (map (placed_stretch (t ∷ [])) (s.running ++ started_of plan.jobs []))));
      started = early s.running sound.started;
    }

both : (w w' : List ℕ) (r r' : List RunningNumber) → w ≡ w' → r ≡ r' → ◌≡◌ {A = Numbers} (record { waiting = w; running = r }) (record { waiting = w'; running = r' })
both w w' r r' a b = rw (a, b) refl

module _ (plan : Plan) (base : BaseView) (k : ℕ) (p : IsPlan plan) (h : IsBase plan base k) where
  back : restored (numbers_of (before plan base.second)) plan ≡ before plan base.second
  back = let sound = each-state-is-sound plan base.second p in
      (numbers-give-the-state-back (before plan base.second) plan (before-of-plan plan base.second p) sound.fits).1

  waited : filter_map (job_numbered plan.jobs) base.numbers.waiting ≡ (before plan base.second).waiting
  waited = ap (λ (n : Numbers). filter_map (job_numbered plan.jobs) n.waiting) h.numbers ∙ ap (λ (s : State). s.waiting) back

  ran : filter_map (running_numbered plan.jobs) base.numbers.running ≡ (before plan base.second).running
  ran = ap (λ (n : Numbers). filter_map (running_numbered plan.jobs) n.running) h.numbers ∙ ap (λ (s : State). s.running) back

  pub stands-at : (gap : GapView) (u place t : ℕ) → WaitingStandInAStretch → RunningStandInAStretch → IsNonDecreasing gap.seconds → slice_get gap.seconds place ≡ Some t → k ≤ t → t ≤ u
      → starts_before plan u ≡ starts_before plan base.second ++ gap.starts → numbers_at plan base gap u place ≡ numbers_of (before plan t)
  stands-at gap u place t waits runs rising here low high outcome =
      let first = h.first in
      let from : base.second ≤ t = omega (arith, first, low) in
      let w = waits plan gap.seconds gap.starts place t base.second u p rising here from high outcome in
      let r = runs plan gap.seconds gap.starts place t base.second u p rising here from high outcome in
      both _ _ _ _
      (ap (λ js. standing_at place (waiting_stretches gap.seconds (js ++ coming_between plan.jobs base.second u) (start_of gap.starts))) waited ∙ sym w)
      (ap (λ rs. by_key (λ (x : RunningNumber). x.number) (standing_at place (map (placed_stretch gap.seconds) (rs ++ started_of plan.jobs gap.starts)))) ran ∙ sym r)

-- the numbers that stand at the place of a piece behind segments are those of the state before the piece's first second
pub stands-behind : (plan : Plan) (ss : List SegmentView) (ps : List PieceView) (q : PieceView) (m : ℕ) → IsPlan plan → WaitingStandInAStretch → RunningStandInAStretch → Chain plan 0 (ss ++ map (segment_of plan) (ps ++ q ∷ [])) m
    → (gap : GapView) → gap.seconds ≡ map (λ (p : PieceView). p.first) ps ++ q.first ∷ [] → gap.starts ≡ (base_of (last_of ss)).starts ++ flat_map (λ (p : PieceView). p.starts) ps
    → (place t : ℕ) → slice_get (map (λ (p : PieceView). p.first) (ps ++ q ∷ [])) place ≡ Some t → numbers_at plan (base_of (last_of ss)) gap q.first place ≡ numbers_of (before plan t)
stands-behind plan ss ps q m p waits runs c gap seconds starts place t e =
    let base : BaseView = base_of (last_of ss) in
    let two = chain-seam plan 0 m ss (map (segment_of plan) (ps ++ q ∷ [])) c in
    let is : IsBase plan base two.0 = base-is plan two.0 ss two.1 in
    let all : gap.seconds ≡ map (λ (p : PieceView). p.first) (ps ++ q ∷ []) = seconds ∙ sym (map-append (λ (p : PieceView). p.first) ps (q ∷ [])) in
    let within = seconds-within plan two.0 m place t ps q two.2 e in
    stands-at plan base two.0 p is gap q.first place t waits runs
    (subst IsNonDecreasing (sym all) (seconds-rise plan two.0 m (ps ++ q ∷ []) two.2))
    (subst (λ l. slice_get l place ≡ Some t) (sym all) e) within.0 within.1
    (gap-outcome plan two.0 m base ps q is two.2 ∙ ap (λ l. starts_before plan base.second ++ l) (sym starts))

-- the first seconds of pieces behind segments never fall
pub behind-rise : (plan : Plan) (ss : List SegmentView) (ps : List PieceView) (q : PieceView) (m : ℕ) → Chain plan 0 (ss ++ map (segment_of plan) (ps ++ q ∷ [])) m → IsNonDecreasing (map (λ (p : PieceView). p.first) ps ++ q.first ∷ [])
behind-rise plan ss ps q m c =
    let two = chain-seam plan 0 m ss (map (segment_of plan) (ps ++ q ∷ [])) c in
    subst IsNonDecreasing (map-append (λ (p : PieceView). p.first) ps (q ∷ [])) (seconds-rise plan two.0 m (ps ++ q ∷ []) two.2)

abbrev pub AreIn : Plan → FramesView → ℕ → List PieceView → Type 0
AreIn plan frames k ps = (place t : ℕ) → slice_get (map (λ (p : PieceView). p.first) ps) place ≡ Some t → numbers_in (k + place) frames ≡ numbers_of (before plan t)

as-segment : (first : ℕ) (m n : Numbers) (p : PieceView) → m ≡ n → ◌≡◌ {A = SegmentView} (record { first = p.first; before = m; starts = p.starts; part = p.part }) (record { first = p.first; before = n; starts = p.starts; part = p.part })
as-segment first m n p e = rw e refl

-- by frames that have the numbers before each piece's first second, from place k on, the pieces become the plan's segments
pub segments-are : (plan : Plan) (frames : FramesView) (k : ℕ) (ps : List PieceView) → AreIn plan frames k ps → segments_at k frames ps ≡ map (segment_of plan) ps
segments-are plan frames k [] h = refl
segments-are plan frames k (p ∷ ps) h =
    let at : k + 0 ≡ k = omega arith in
    let here : numbers_in k frames ≡ numbers_of (before plan p.first) = subst (λ i. numbers_in i frames ≡ numbers_of (before plan p.first)) at (h 0 p.first refl) in
    let rest = segments-are plan frames (k + 1) ps (λ place t e. subst (λ i. numbers_in i frames ≡ numbers_of (before plan t)) (let s : k + suc place ≡ k + 1 + place = omega arith in s) (h (suc place) t e)) in
    ap (λ s. s ∷ segments_at (k + 1) frames ps) (as-segment k (numbers_in k frames) (numbers_of (before plan p.first)) p here) ∙ ap (λ l. segment_of plan p ∷ l) rest

has-second : (ps : List PieceView) (place : ℕ) → place < length ps → (t : ℕ) × (slice_get (map (λ (p : PieceView). p.first) ps) place ≡ Some t)
has-second [] place l = absurd (omega arith)
has-second (p ∷ ps) zero l = (p.first, refl)
has-second (p ∷ ps) (suc place) l = has-second ps place (omega arith)

-- frames that have, at each place, the numbers before the first second of the piece there have them from place 0 on
pub there-in : (plan : Plan) (frames : FramesView) (ps : List PieceView) → ((place t : ℕ) → slice_get (map (λ (p : PieceView). p.first) ps) place ≡ Some t → numbers_in place frames ≡ numbers_of (before plan t)) → AreIn plan frames 0 ps
there-in plan frames ps h place t e = subst (λ i. numbers_in i frames ≡ numbers_of (before plan t)) (let s : place ≡ 0 + place = omega arith in s) (h place t e)

-- one piece more becomes one segment more, by the next place of the frames
pub segments-more : (frames : FramesView) (k place : ℕ) (ps : List PieceView) (p : PieceView) → place ≡ k + length ps → segments_at k frames (ps ++ p ∷ []) ≡ segments_at k frames ps ++ segments_at place frames (p ∷ [])
segments-more frames k place [] p e = let at : place ≡ k = omega (arith, e) in ap (λ i. segments_at i frames (p ∷ [])) (sym at)
segments-more frames k place (q ∷ qs) p e =
    ap (λ l. record { first = q.first; before = numbers_in k frames; starts = q.starts; part = q.part } ∷ l) (segments-more frames (k + 1) place qs p (omega (arith, e)))

-- where frames have the numbers before each piece's first second, those at a piece's place are a snapshot
pub snapshots-there : (plan : Plan) (frames : FramesView) (ps : List PieceView) (place : ℕ) → IsPlan plan → RunningStandInAStretch → AreIn plan frames 0 ps → place < length ps → IsSnapshot (numbers_in place frames)
snapshots-there plan frames ps place p runs h l =
    let s = has-second ps place l in
    subst IsSnapshot (sym (subst (λ i. numbers_in i frames ≡ numbers_of (before plan s.0)) (let z : 0 + place ≡ place = omega arith in z) (h place s.0 s.1))) (is-snapshot plan s.0 p runs)
