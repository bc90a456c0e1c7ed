-- The state before each second has its closed form, by submit seconds and starts: its lists stand in order, and in them each number finds
-- what it should.
use Rattle.std.proofs.Common.{◌≡◌, ℕ, zero, suc, ◌+◌, ◌-◌, ◌≤◌, ◌<◌, ◌⊎◌, Bool, true, false, cond, not, ◌&&◌, nat_eq, nat_lt, nat_le, List, [], ◌∷◌, ◌++◌, length, Option, Some, None, All, find, filter, refl, sym, ◌∙◌, ap, arith, subst, inl, inr, ⊎_elim}
use Rattle.std.specs.Prelude.{is_none, ◌↔◌, IfSome, IsSomeAnd}
use Rattle.std.specs.List.{filter_map}
use Rattle.std.specs.Option.{option_and_then, option_map, option_or}
use Rattle.std.proofs.lemmas.List.Elements.{All-nil, All-cons, All-append, All-weaker}
use Rattle.std.proofs.lemmas.Bool.{cond_both, cond-true, cond-false, cases_Bool, cases_lt, eqb-true, lt-ltb, le-ltb, le-leb, lt-leb}
use Rattle.scenarios.specs.Job.{EffectiveJob}
use Rattle.scenarios.specs.Plan.{Plan, job_numbered}
use Rattle.scenarios.specs.SoundPlan.{IsPlan}
use Rattle.scenarios.specs.declared.order.Order.{Order}
use Rattle.scenarios.specs.declared.placed.Placed.{Placed}
use Rattle.scenarios.specs.Placed.{real_end}
use Rattle.cluster_state.specs.State.{State}
use Rattle.cluster_state.specs.Ends.{by_number}
use Rattle.cluster_state.proofs.Lemmas.{All-find, standing-numbers, All-without, sum_by-filter-le}
use Rattle.easy_rule.specs.declared.start.Start.{Start}
use Rattle.easy_rule.specs.Simulation.{before, starts_before, submitted, ready, bound, sim, start_of}
use Rattle.easy_rule.proofs.Lemmas.{decided-keeps}
use Rattle.timeline.specs.Closed.{NumbersStandUntilTheyEnd, StartsAreFinal, StatesFollowFromStarts, known_start, waits_before, lasting, runs_before}
use Rattle.timeline.proofs.Rest.{rests}
use Rattle.timeline.proofs.Bound.{all-have-ended}
use Rattle.timeline.proofs.Once.{later}
use Rattle.timeline.proofs.Seconds.{starts-below}
use Rattle.timeline.proofs.Sound.{each-state-is-sound}
use Rattle.timeline.proofs.Lookups.{look, many, job_of, job_in, kept, look-has, none-look, some-look, look-filter, many-by_number, look-by_number, many-filter_map, look-filter_map, start-append}
use Rattle.timeline.proofs.Rows.{Rises, Ahead, NotAbove, rises-filter, rises-append, rises-without, rises-placed, rises-by_number, rises-jobs, ahead-once, above-once, same-rows}
use Rattle.timeline.proofs.Standing.{Stands, stands-in}

pub record InRows (plan : Plan) (t : ℕ) (s : State) : Type 0 where
  pub procs : s.procs ≡ plan.procs
  pub order : s.order ≡ plan.order
  pub came : All (λ j. j.submit < t) s.waiting
  pub waiting : Rises Ahead s.waiting
  pub running : Rises NotAbove s.running

all-pass : (js : List EffectiveJob) (t : ℕ) → All (λ (j : EffectiveJob). j.submit ≡ t) (filter (λ (j : EffectiveJob). nat_eq j.submit t) js)
all-pass [] t = All-nil (λ (j : EffectiveJob). j.submit ≡ t)
all-pass (j ∷ js) t =
    cond_both (nat_eq j.submit t) (j ∷ filter (λ (j : EffectiveJob). nat_eq j.submit t) js) (filter (λ (j : EffectiveJob). nat_eq j.submit t) js) (λ l. All (λ (j : EffectiveJob). j.submit ≡ t) l)
    (λ y. All-cons (λ (j : EffectiveJob). j.submit ≡ t) j (filter (λ (j : EffectiveJob). nat_eq j.submit t) js) (eqb-true j.submit t y) (all-pass js t))
    (λ y. all-pass js t)

-- before second t machine and order are the plan's, the waiting jobs came before t and stand in order of arrival, and the running ones do not fall by number
pub in-rows : (plan : Plan) (t : ℕ) → IsPlan plan → InRows plan t (before plan t)
unfolding before
in-rows plan zero p = record { procs = refl; order = refl; came = All-nil (λ (j : EffectiveJob). j.submit < 0); waiting = tt; running = tt }
in-rows plan (suc t) p =
    let s = before plan t in
    let z = ready plan s t in
    let i = in-rows plan t p in
    let keeps : Placed → Bool = λ r. not (nat_eq (real_end r) t) in
    let now : EffectiveJob → Bool = λ j. nat_eq j.submit t in
    let jobs = rises-filter Ahead now plan.jobs (rises-jobs plan.jobs p.rising) in
    let here : All (λ (j : EffectiveJob). j.submit ≡ t) (submitted plan t) = all-pass plan.jobs t in
    let behind : All (λ (j : EffectiveJob). All (Ahead j) (submitted plan t)) s.waiting =
    All-weaker (λ (j : EffectiveJob). j.submit < t) (λ (j : EffectiveJob). All (Ahead j) (submitted plan t))
    (λ j l. All-weaker (λ (k : EffectiveJob). k.submit ≡ t) (Ahead j) (λ k e. inl (let m : j.submit < k.submit = omega (arith, l, e) in m)) (submitted plan t) here)
    s.waiting i.came in
    decided-keeps (InRows plan (suc t)) t
    (λ s' job e h. record {
      procs = h.procs;
      order = h.order;
      came = All-without (λ (j : EffectiveJob). j.submit < suc t) job.number s'.waiting h.came;
      waiting = rises-without job.number s'.waiting h.waiting;
      running = rises-placed (record { job = job; start = t }) s'.running h.running;
    })
    (length z.waiting) z
    (record {
      procs = i.procs;
      order = i.order;
      came = All-append (λ (j : EffectiveJob). j.submit < suc t) s.waiting (submitted plan t)
          (All-weaker (λ (j : EffectiveJob). j.submit < t) (λ (j : EffectiveJob). j.submit < suc t) (λ j l. omega (arith, l)) s.waiting i.came)
          (All-weaker (λ (j : EffectiveJob). j.submit ≡ t) (λ (j : EffectiveJob). j.submit < suc t) (λ j e. omega (arith, e)) (submitted plan t) here);
      waiting = rises-append Ahead s.waiting (submitted plan t) i.waiting jobs behind;
      running = rises-filter NotAbove keeps s.running i.running;
    })

abbrev pub waits : ℕ → Option EffectiveJob → Option ℕ → Option EffectiveJob
waits t None start = None
waits t (Some j) None = cond (nat_lt j.submit t) (Some j) None
waits t (Some j) (Some start) = None

-- where a number stands so before t, its job waits if it is submitted before t and has no start, and otherwise nobody
pub waits-here : (t : ℕ) (o : Option EffectiveJob) (start : Option ℕ) (w : Option EffectiveJob) (r : Option Placed) → Stands t o start w r → w ≡ waits t o start
waits-here t None start w r h = h.1
waits-here t (Some j) None w r h = h.0
waits-here t (Some j) (Some start) w r h = h.2

-- a job waits before t just where it has no start and is submitted before t
pub waits-by : (t : ℕ) (j : EffectiveJob) (start : Option ℕ) → cond (is_none start && nat_lt j.submit t) (Some j) None ≡ waits t (Some j) start
waits-by t j None = refl
waits-by t j (Some start) = refl

waits-is : (plan : Plan) (n t : ℕ) (o : Option EffectiveJob) → job_numbered plan.jobs n ≡ o → kept (waits_before plan t) o ≡ waits t o (known_start plan t n)
waits-is plan n t None e = refl
waits-is plan n t (Some j) e =
    subst (λ m. kept (waits_before plan t) (Some j) ≡ waits t (Some j) (known_start plan t m)) (look-has job_of n plan.jobs j e) (waits-by t j (known_start plan t j.number))

waiting-is : (plan : Plan) (t : ℕ) → IsPlan plan → (before plan t).waiting ≡ filter (waits_before plan t) plan.jobs
waiting-is plan t p =
    let s = before plan t in
    let test = waits_before plan t in
    same-rows job_of Ahead ahead-once s.waiting (filter test plan.jobs) (in-rows plan t p).waiting (rises-filter Ahead test plan.jobs (rises-jobs plan.jobs p.rising))
    (λ n. (let k = (each-state-is-sound plan t p).once n in omega (arith, k)))
    (λ n. (let k = p.once n in let l = sum_by-filter-le (λ (j : EffectiveJob). cond {A = ℕ} (nat_eq j.number n) 1 0) test plan.jobs in omega (arith, k, l)))
    (λ n.
    waits-here t (job_numbered plan.jobs n) (known_start plan t n) (look job_of n s.waiting) (look job_in n s.running) (stands-in plan n t p)
    ∙ sym (look-filter job_of n test plan.jobs (p.once n) ∙ waits-is plan n t (job_numbered plan.jobs n) refl))

abbrev pub runs : ℕ → Option EffectiveJob → Option ℕ → Option Placed
runs t None start = None
runs t (Some j) start = lasting t j start

-- where a number stands so before t, its job runs if it has a start and ends at t or later, and otherwise nobody
pub runs-here : (t : ℕ) (o : Option EffectiveJob) (start : Option ℕ) (w : Option EffectiveJob) (r : Option Placed) → Stands t o start w r → r ≡ runs t o start
runs-here t None start w r h = h.2
runs-here t (Some j) None w r h = h.1
runs-here t (Some j) (Some start) w r h = h.3

runs-is : (plan : Plan) (n t : ℕ) (o : Option EffectiveJob) → job_numbered plan.jobs n ≡ o → option_and_then (runs_before plan t) o ≡ runs t o (known_start plan t n)
runs-is plan n t None e = refl
runs-is plan n t (Some j) e = ap (λ m. lasting t j (known_start plan t m)) (look-has job_of n plan.jobs j e)

lasting-same : (t : ℕ) (j : EffectiveJob) (start : Option ℕ) (r : Placed) → lasting t j start ≡ Some r → r.job.number ≡ j.number
lasting-same t j None r e = absurd (let k : None ≡ Some r = e in cc)
lasting-same t j (Some start) r e =
    let made : Placed = record { job = j; start = start } in
    ⊎_elim
    (λ (y : nat_le t (start + j.length) ≡ true).
    let k : Some made ≡ Some r = sym (cond-true (nat_le t (start + j.length)) (Some made) None y) ∙ e in
    let same : made ≡ r = cc in
    ap (λ (x : Placed). x.job.number) (sym same))
    (λ (y : nat_le t (start + j.length) ≡ false). absurd (let k : None ≡ Some r = sym (cond-false (nat_le t (start + j.length)) (Some made) None y) ∙ e in cc))
    (cases_Bool (nat_le t (start + j.length)))

running-is : (plan : Plan) (t : ℕ) → IsPlan plan → (before plan t).running ≡ by_number (filter_map (runs_before plan t) plan.jobs)
running-is plan t p =
    let s = before plan t in
    let g = runs_before plan t in
    let rs = filter_map g plan.jobs in
    let same : (j : EffectiveJob) (r : Placed) → g j ≡ Some r → r.job.number ≡ j.number = λ j r e. lasting-same t j (known_start plan t j.number) r e in
    let few : (n : ℕ) → many job_in n rs ≤ 1 = λ n. (let k = p.once n in let l = many-filter_map job_of job_in g n plan.jobs same in omega (arith, k, l)) in
    same-rows job_in NotAbove above-once s.running (by_number rs) (in-rows plan t p).running (rises-by_number rs)
    (λ n. (let k = (each-state-is-sound plan t p).once n in omega (arith, k)))
    (λ n. (let k = few n in let l = many-by_number n rs in omega (arith, k, l)))
    (λ n.
    runs-here t (job_numbered plan.jobs n) (known_start plan t n) (look job_of n s.waiting) (look job_in n s.running) (stands-in plan n t p)
    ∙ sym (look-by_number n rs (few n) ∙ look-filter_map job_of job_in g n plan.jobs same (p.once n) ∙ runs-is plan n t (job_numbered plan.jobs n) refl))

made-of : (s : State) (m : ℕ) (o : Order) (js : List EffectiveJob) (rs : List Placed) → s.procs ≡ m → s.order ≡ o → s.waiting ≡ js → s.running ≡ rs
    → s ≡ (let z : State = record { procs = m; order = o; waiting = js; running = rs } in z)
made-of s m o js rs a b c d = λ i. record { procs = a i; order = b i; waiting = c i; running = d i }

-- the state before each second follows from submit seconds and starts
pub states-follow-from-starts : StatesFollowFromStarts
states-follow-from-starts plan t p =
    let rows = in-rows plan t p in
    made-of (before plan t) plan.procs plan.order (filter (waits_before plan t) plan.jobs) (by_number (filter_map (runs_before plan t) plan.jobs)) rows.procs rows.order (waiting-is plan t p) (running-is plan t p)

abbrev Lasts : ℕ → Option EffectiveJob → Option ℕ → Type 0
Lasts t o start = IsSomeAnd o (λ j. (j.submit < t) × IfSome start (λ s. t ≤ s + j.length))

lasts-there : (t : ℕ) (o : Option EffectiveJob) (start : Option ℕ) (w : Option EffectiveJob) (r : Option Placed) → Stands t o start w r → Lasts t o start → ((j : EffectiveJob) × (w ≡ Some j)) ⊎ ((x : Placed) × (r ≡ Some x))
lasts-there t None start w r h k = absurd k
lasts-there t (Some j) None w r h k = inl (j, h.0 ∙ cond-true (nat_lt j.submit t) (Some j) None (lt-ltb j.submit t k.0))
lasts-there t (Some j) (Some s) w r h k =
    let x : Placed = record { job = j; start = s } in
    inr (x, h.3 ∙ cond-true (nat_le t (s + j.length)) (Some x) None (le-leb t (s + j.length) k.1))

there-lasts : (t : ℕ) (o : Option EffectiveJob) (start : Option ℕ) (w : Option EffectiveJob) (r : Option Placed) → Stands t o start w r → (w ≡ None → r ≡ None → ⊥) → Lasts t o start
there-lasts t None start w r h some = absurd (some h.1 h.2)
there-lasts t (Some j) None w r h some =
    ⊎_elim
    (λ (l : j.submit < t). (l, tt))
    (λ (l : t ≤ j.submit). absurd (some (h.0 ∙ cond-false (nat_lt j.submit t) (Some j) None (le-ltb j.submit t l)) h.1))
    (cases_lt j.submit t)
there-lasts t (Some j) (Some s) w r h some =
    let e = s + j.length in
    let x : Placed = record { job = j; start = s } in
    let l = h.0 in
    let m = h.1 in
    ⊎_elim
    (λ (y : e < t). absurd (some h.2 (h.3 ∙ cond-false (nat_le t e) (Some x) None (lt-leb t e y))))
    (λ (y : t ≤ e). ((let z : j.submit < t = omega (arith, l, m) in z), y))
    (cases_lt e t)

-- a number waits or runs before t where, and only where, its job is submitted before t and has not ended before it
pub numbers-stand-until-they-end : NumbersStandUntilTheyEnd
numbers-stand-until-they-end plan t n p =
    let s = before plan t in
    let o = job_numbered plan.jobs n in
    let start = known_start plan t n in
    let w = look job_of n s.waiting in
    let r = look job_in n s.running in
    let here = stands-in plan n t p in
    let held = standing-numbers s n in (
      (λ l. there-lasts t o start w r here (λ nobody none. (let a = none-look job_of n s.waiting nobody in let b = none-look job_in n s.running none in omega (arith, l, held, a, b)))),
      (λ k.
          ⊎_elim
          (λ (a : (j : EffectiveJob) × (w ≡ Some j)). (let l = some-look job_of n s.waiting a.0 a.1 in omega (arith, l, held)))
          (λ (b : (x : Placed) × (r ≡ Some x)). (let l = some-look job_in n s.running b.0 b.1 in omega (arith, l, held)))
          (lasts-there t o start w r here k)),
    )

start-found : (n : ℕ) (xs : List Start) (a : ℕ) → start_of xs n ≡ Some a → (x : Start) × (find (λ (y : Start). nat_eq y.number n) xs ≡ Some x) × (x.at ≡ a)
start-found n xs a e = go (find (λ (y : Start). nat_eq y.number n) xs) refl e
  where
    go : (o : Option Start) → find (λ (y : Start). nat_eq y.number n) xs ≡ o → option_map (λ (y : Start). y.at) o ≡ Some a → (x : Start) × (find (λ (y : Start). nat_eq y.number n) xs ≡ Some x) × (x.at ≡ a)
    go None f h = absurd (let k : None ≡ Some a = h in cc)
    go (Some x) f h = (x, f, (let k : Some x.at ≡ Some a = h in let same : x.at ≡ a = cc in same))

-- what holds of the seconds of all these starts holds of the second of a number's
pub start-all : (P : ℕ → Type 0) (n : ℕ) (xs : List Start) (a : ℕ) → All (λ (x : Start). P x.at) xs → start_of xs n ≡ Some a → P a
start-all P n xs a all e =
    let f = start-found n xs a e in
    subst P f.2 (All-find (λ (x : Start). P x.at) (λ (y : Start). nat_eq y.number n) xs f.0 f.1 all)

-- of a start before t and one from t on, either of which may be missing, the first that is there comes before t just where it is the former
pub final : (a b o : Option ℕ) (t start : ℕ) → o ≡ option_or a b → ((u : ℕ) → a ≡ Some u → u < t) → ((u : ℕ) → b ≡ Some u → t ≤ u) → (a ≡ Some start) ↔ ((o ≡ Some start) × (start < t))
final None b o t start e f g = (
  (λ h. absurd (let k : None ≡ Some start = h in cc)),
  (λ (h, l). absurd (let k = g start (sym e ∙ h) in omega (arith, k, l))),
)
final (Some u) b o t start e f g = ((λ h. (e ∙ h, f start h)), (λ (h, l). sym e ∙ h))

-- the start of a number before t is its start in the whole simulation, where that comes before t
pub starts-are-final : StartsAreFinal
starts-are-final plan t n start p =
    let b = bound plan + 1 in
    ⊎_elim
    (λ (l : t < b).
    let more = later plan t (b - t) in
    let whole : t + (b - t) ≡ b = omega (arith, l) in
    let split : sim plan ≡ starts_before plan t ++ more.0 = ap (starts_before plan) (sym whole) ∙ more.1 in
    final (known_start plan t n) (start_of more.0 n) (start_of (sim plan) n) t start (ap (λ xs. start_of xs n) split ∙ start-append n (starts_before plan t) more.0)
    (λ u e. start-all (λ m. m < t) n (starts_before plan t) u (starts-below plan t) e)
    (λ u e. start-all (λ m. t ≤ m) n more.0 u more.2 e))
    (λ (l : b ≤ t).
    let rest : b + (t - b) ≡ t = omega (arith, l) in
    let late = rests plan b (t - b) plan.procs plan.order (omega arith) (all-have-ended plan b p (omega arith)) in
    let same : starts_before plan t ≡ sim plan = ap (starts_before plan) (sym rest) ∙ late.1 in (
      (λ h. (ap (λ xs. start_of xs n) (sym same) ∙ h, start-all (λ m. m < t) n (starts_before plan t) start (starts-below plan t) h)),
      (λ (h, m). ap (λ xs. start_of xs n) same ∙ h),
    ))
    (cases_lt t b)
