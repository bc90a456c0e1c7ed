-- The numbers of the states before rising seconds stand at their places of the jobs' stretches.
use Rattle.std.proofs.Common.{◌≡◌, ℕ, ◌+◌, ◌-◌, ◌≤◌, ◌<◌, Bool, true, false, cond, ◌&&◌, nat_le, nat_lt, List, [], ◌∷◌, ◌++◌, length, map, filter, slice_get, Option, Some, None, arith, refl, sym, ap, ◌∙◌, ⊎_elim}
use Rattle.std.specs.Prelude.{◌↔◌, is_none}
use Rattle.std.specs.List.{filter_map}
use Rattle.std.specs.List.Sorted.{IsNonDecreasing}
use Rattle.std.specs.Option.{option_map}
use Rattle.std.proofs.lemmas.Bool.{cases_lt, cond-true, cond-false, lt-ltb, le-ltb, le-leb, lt-leb, true≢false}
use Rattle.std.proofs.lemmas.Option.{slice_get_within, get_or_from_slice_get}
use Rattle.frames.specs.Frames.{by_key, stands, standing_at, with_key}
use Rattle.scenarios.specs.Job.{EffectiveJob}
use Rattle.scenarios.specs.Plan.{Plan}
use Rattle.scenarios.specs.declared.placed.Placed.{Placed}
use Rattle.cluster_state.specs.declared.snapshot.RunningNumber.{RunningNumber}
use Rattle.cluster_state.specs.State.{placed}
use Rattle.cluster_state.specs.Ends.{by_number}
use Rattle.cluster_state.specs.Snapshot.{Numbers, number_of, numbers_of}
use Rattle.easy_rule.specs.Simulation.{before, sim, start_of, starts_before}
use Rattle.timeline.specs.Closed.{known_start, lasting, runs_before, waits_before}
use Rattle.timeline.specs.Stretches.{AllStartsTell, LaterStartsTell, StatesStandInStretches, TellsStart, place_after, running_stretch, running_stretches, standing_in, start_by, waiting_stretch, waiting_stretches}
use Rattle.timeline.proofs.Closed.{start-all, starts-are-final, states-follow-from-starts, final}
use Rattle.timeline.proofs.Lookups.{many, job_in, many-here, many-tail, many-by_number, start-append}
use Rattle.timeline.proofs.Once.{later}
use Rattle.timeline.proofs.Seconds.{starts-below}
use Rattle.timeline.proofs.Sound.{each-state-is-sound}
use Rattle.timeline.proofs.Places.{IsAt, within-first, behind-first, not-yet, first-of, unless-started, standing-map, standing-filter_map, map-filter_map}

-- the second that is read from rising seconds at a place stands at it
pub is-at : (seconds : List ℕ) (place t : ℕ) → IsNonDecreasing seconds → slice_get seconds place ≡ Some t → IsAt seconds place t
is-at seconds place t rising e = record { rising = rising; within = slice_get_within seconds place t e; second = get_or_from_slice_get seconds place t 0 e }

-- a job's waiting stretch stands at the place of t just where the job is submitted before t and has no start before it
pub waits-by-start : (seconds : List ℕ) (place t : ℕ) (job : EffectiveJob) (start : Option ℕ) → IsAt seconds place t
    → stands place (waiting_stretch seconds job start) ≡ (is_none (start_by t start) && nat_lt job.submit t)
waits-by-start seconds place t job None at =
    first-of (nat_le (place_after seconds job.submit) place) (nat_lt place (length seconds)) (nat_lt job.submit t) (behind-first seconds place t job.submit at) (lt-ltb place (length seconds) at.within)
waits-by-start seconds place t job (Some start) at =
    unless-started (nat_lt start t) (nat_le (place_after seconds job.submit) place) (nat_lt place (place_after seconds start)) (nat_lt job.submit t) start
    (behind-first seconds place t job.submit at) (within-first seconds place t start at ∙ not-yet t start)

pub waits-there : (plan : Plan) (seconds : List ℕ) (place t : ℕ) (job : EffectiveJob) (start : Option ℕ) → IsAt seconds place t → TellsStart plan t job.number start
    → stands place (waiting_stretch seconds job start) ≡ waits_before plan t job
waits-there plan seconds place t job start at tells = waits-by-start seconds place t job start at ∙ ap (λ o. is_none o && nat_lt job.submit t) (sym tells)

runs-by-start : (t : ℕ) (job : EffectiveJob) (start : ℕ) (q r a b : Bool) → a ≡ q → b ≡ r → nat_le t (start + job.length) ≡ r
    → cond (a && b) (let n : RunningNumber = record { number = job.number; start = start } in Some n) None ≡ option_map number_of (lasting t job (cond q (Some start) None))
runs-by-start t job start true true true true e f g = sym (ap (λ c. option_map number_of (cond c (let p : Placed = record { job = job; start = start } in Some p) None)) g)
runs-by-start t job start true false true false e f g = sym (ap (λ c. option_map number_of (cond c (let p : Placed = record { job = job; start = start } in Some p) None)) g)
runs-by-start t job start false r false b e f g = refl
runs-by-start t job start true false true true e f g = absurd (true≢false f)
runs-by-start t job start true true true false e f g = absurd (true≢false (sym f))
runs-by-start t job start true r false b e f g = absurd (true≢false (sym e))
runs-by-start t job start false r true b e f g = absurd (true≢false e)

runs-by : (seconds : List ℕ) (place t : ℕ) (job : EffectiveJob) (start : Option ℕ) → IsAt seconds place t
    → standing_in place (running_stretch seconds job start) ≡ option_map number_of (lasting t job (start_by t start))
runs-by seconds place t job None at = refl
runs-by seconds place t job (Some start) at =
    runs-by-start t job start (nat_lt start t) (nat_le t (start + job.length)) (nat_le (place_after seconds start) place) (nat_lt place (place_after seconds (start + job.length)))
    (behind-first seconds place t start at) (within-first seconds place t (start + job.length) at) refl

pub runs-there : (plan : Plan) (seconds : List ℕ) (place t : ℕ) (job : EffectiveJob) (start : Option ℕ) → IsAt seconds place t → TellsStart plan t job.number start
    → standing_in place (running_stretch seconds job start) ≡ option_map number_of (runs_before plan t job)
runs-there plan seconds place t job start at tells = runs-by seconds place t job start at ∙ ap (λ o. option_map number_of (lasting t job o)) (sym tells)

-- the number of a running job in a snapshot
abbrev pub number_in : RunningNumber → ℕ
number_in r = r.number

numbers-placed : (r : Placed) (xs : List Placed) → many job_in r.job.number xs ≡ 0 → map number_of (placed r xs) ≡ with_key number_in (number_of r) (map number_of xs)
numbers-placed r [] none = refl
numbers-placed r (x ∷ xs) none =
    let n = r.job.number in
    let m = x.job.number in
    let rest = numbers-placed r xs (let k = many-tail job_in n x xs in omega (arith, k, none)) in
    let other : m ≡ n → ⊥ = λ e. (let k = many-here job_in n x xs e in omega (arith, k, none)) in
    go (nat_lt n m) (nat_le n m) (same n m (λ e. other (sym e))) rest
  where
    same : (n m : ℕ) → (n ≡ m → ⊥) → nat_lt n m ≡ nat_le n m
    same n m ne =
        ⊎_elim
        (λ (l : n < m). lt-ltb n m l ∙ sym (le-leb n m (omega (arith, l))))
        (λ (l : m ≤ n). le-ltb n m l ∙ sym (lt-leb n m (omega (arith, l, ne))))
        (cases_lt n m)

    go : (a b : Bool) → a ≡ b → map number_of (placed r xs) ≡ with_key number_in (number_of r) (map number_of xs)
        → map number_of (cond a (r ∷ x ∷ xs) (x ∷ placed r xs)) ≡ cond b (number_of r ∷ number_of x ∷ map number_of xs) (number_of x ∷ with_key number_in (number_of r) (map number_of xs))
    go true true e rest = refl
    go false false e rest = ap (λ (l : List RunningNumber). number_of x ∷ l) rest
    go true false e rest = absurd (true≢false e)
    go false true e rest = absurd (true≢false (sym e))

-- where no two running jobs have one number, their numbers are the same, sorted before or after they are taken
pub numbers-by_number : (rs : List Placed) → ((n : ℕ) → many job_in n rs ≤ 1) → map number_of (by_number rs) ≡ by_key number_in (map number_of rs)
numbers-by_number [] once = refl
numbers-by_number (r ∷ rs) once =
    let n = r.job.number in
    let none : many job_in n (by_number rs) ≡ 0 = (let o = once n in let k = many-here job_in n r rs refl in let b = many-by_number n rs in omega (arith, o, k, b)) in
    numbers-placed r (by_number rs) none ∙ ap (with_key number_in (number_of r)) (numbers-by_number rs (λ m. (let o = once m in let k = many-tail job_in m r rs in omega (arith, o, k))))

made-of : (ws vs : List ℕ) (rs qs : List RunningNumber) → ws ≡ vs → rs ≡ qs
    → (let a : Numbers = record { waiting = ws; running = rs } in a) ≡ (let b : Numbers = record { waiting = vs; running = qs } in b)
made-of ws vs rs qs a b = λ i. record { waiting = a i; running = b i }

-- the item of a job's waiting stretch is its number
pub of-number : (seconds : List ℕ) (j : EffectiveJob) (start : Option ℕ) → (waiting_stretch seconds j start).item ≡ j.number
of-number seconds j None = refl
of-number seconds j (Some start) = refl

-- the numbers of the state before one of rising seconds are those that stand at its place of the jobs' stretches, by starts that tell that second's
pub states-stand-in-stretches : StatesStandInStretches
states-stand-in-stretches plan seconds start place t p rising e tells =
    let at = is-at seconds place t rising e in
    let s = before plan t in
    let rs = filter_map (runs_before plan t) plan.jobs in
    let is = states-follow-from-starts plan t p in
    let running-is : s.running ≡ by_number rs = ap (λ z. z.running) is in
    let once : (n : ℕ) → many job_in n rs ≤ 1 =
    λ n. (let o = (each-state-is-sound plan t p).once n in
    let b = many-by_number n rs in
    let r = ap (many job_in n) running-is in
    omega (arith, o, b, r)) in
    let waiting = standing-map place (waits_before plan t) (λ (j : EffectiveJob). j.number) (λ j. waiting_stretch seconds j (start j.number))
    (λ j. of-number seconds j (start j.number)) (λ j. waits-there plan seconds place t j (start j.number) at (tells j.number)) plan.jobs in
    let running = numbers-by_number rs once ∙ ap (by_key number_in) (map-filter_map number_of (runs_before plan t) plan.jobs
    ∙ standing-filter_map place (λ j. option_map number_of (runs_before plan t j)) (λ j. running_stretch seconds j (start j.number)) (λ j. runs-there plan seconds place t j (start j.number) at (tells j.number)) plan.jobs) in
    ap numbers_of is
    ∙ made-of (map (λ (j : EffectiveJob). j.number) (filter (waits_before plan t) plan.jobs)) (standing_at place (waiting_stretches seconds plan.jobs start))
    (map number_of (by_number rs)) (by_key number_in (standing_at place (running_stretches seconds plan.jobs start))) waiting running

known-by : (t : ℕ) (a o : Option ℕ) → ((start : ℕ) → (a ≡ Some start) ↔ ((o ≡ Some start) × (start < t))) → a ≡ start_by t o
known-by t None None h = refl
known-by t (Some s) None h = absurd (let k : None ≡ Some s = ((h s).0 refl).0 in cc)
known-by t a (Some u) h =
    ⊎_elim
    (λ (l : u < t). (h u).1 (refl, l) ∙ sym (cond-true (nat_lt u t) (Some u) None (lt-ltb u t l)))
    (λ (l : t ≤ u). go a refl l ∙ sym (cond-false (nat_lt u t) (Some u) None (le-ltb u t l)))
    (cases_lt u t)
  where
    go : (b : Option ℕ) → a ≡ b → t ≤ u → a ≡ None
    go None e l = e
    go (Some s) e l = absurd (let k = (h s).0 e in let same : Some u ≡ Some s = k.0 in let is : u ≡ s = cc in let m = k.1 in omega (arith, l, is, m))

-- the starts of the whole simulation tell, of each second, who has started before it, and when
pub all-starts-tell : AllStartsTell
all-starts-tell plan t p n = known-by t (known_start plan t n) (start_of (sim plan) n) (λ start. starts-are-final plan t n start p)

-- the starts before a second tell the same of that second and of each earlier one
pub later-starts-tell : LaterStartsTell
later-starts-tell plan t u l n =
    let more = later plan t (u - t) in
    let whole : t + (u - t) ≡ u = omega (arith, l) in
    let split : starts_before plan u ≡ starts_before plan t ++ more.0 = ap (starts_before plan) (sym whole) ∙ more.1 in
    known-by t (known_start plan t n) (start_of (starts_before plan u) n)
    (λ start. final (known_start plan t n) (start_of more.0 n) (start_of (starts_before plan u) n) t start (ap (λ xs. start_of xs n) split ∙ start-append n (starts_before plan t) more.0)
    (λ u e. start-all (λ m. m < t) n (starts_before plan t) u (starts-below plan t) e)
    (λ u e. start-all (λ m. t ≤ m) n more.0 u more.2 e))
