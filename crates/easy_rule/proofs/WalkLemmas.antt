-- The walk over the running jobs in the order of their expected ends. Where enough has come back its second is the shadow time, and it has read
-- at most a block of the ends.
use Rattle.std.proofs.Common.{◌≡◌, ℕ, ◌+◌, ◌-◌, ◌^◌, ◌≤◌, ◌<◌, cond, nat_le, zero, suc, List, [], ◌∷◌, ◌++◌, length, take, length-append, All, sum_by, count_by, append_assoc, refl, sym, ◌∙◌, ap, arith, subst, inl, inr, ⊎_elim}
use Rattle.std.proofs.lemmas.List.{length_push}
use Rattle.std.proofs.lemmas.List.Sums.{sum_by-append, sum_by-cons, sum_by_push}
use Rattle.std.proofs.lemmas.List.Elements.{All-cons, All-head, All-tail, All-nil, All-push, All-weaker}
use Rattle.std.proofs.lemmas.Bool.{le-leb, cond-true, cases_lt}
use Rattle.scenarios.specs.Job.{IsWithinLimits}
use Rattle.scenarios.specs.declared.placed.Placed.{Placed}
use Rattle.scenarios.specs.Placed.{expected_end}
use Rattle.cluster_state.specs.State.{State, IsSound, free, busy, back_by, available}
use Rattle.cluster_state.specs.Ends.{block_limit, IsPast, by_end}
use Rattle.cluster_state.proofs.Lemmas.{NotLater, NoneEndsSooner, rises-by_end, sum_by-by_end, length-by_end, All-by_end, none-back}
use Rattle.easy_rule.specs.declared.shadow_time.Shadow.{Shadow}
use Rattle.easy_rule.specs.Rule.{shadow_time, shadow_at, ends_read, IsLeast}
use Rattle.easy_rule.proofs.RuleLemmas.{shadow_time-IsLeast, back-each, back-le-busy}

end-le : (a b : Placed) → NotLater a b → expected_end a ≤ expected_end b
end-le a b (inl l) = omega arith
end-le a b (inr p) = let k = p.0 in omega (arith, k)

all-back : (P : Placed → Type 0) (xs ys : List Placed) → All P (xs ++ ys) → All P ys
all-back P [] ys a = a
all-back P (x ∷ xs) ys a = all-back P xs ys (All-tail P x (xs ++ ys) a)

around : (xs ys : List Placed) (r : Placed) → NoneEndsSooner (xs ++ r ∷ ys) → All (λ x. expected_end x ≤ expected_end r) xs × All (λ x. expected_end r ≤ expected_end x) ys
around [] ys r h = (All-nil (λ x. expected_end x ≤ expected_end r), All-weaker (NotLater r) (λ x. expected_end r ≤ expected_end x) (λ x n. end-le r x n) ys h.0)
around (x ∷ xs) ys r h =
    let rest = around xs ys r h.1 in
    let before : expected_end x ≤ expected_end r = end-le x r (All-head (NotLater x) r ys (all-back (NotLater x) xs (r ∷ ys) h.0)) in
    (All-cons (λ y. expected_end y ≤ expected_end r) x xs before rest.0, rest.1)

few : (rs : List Placed) → All (λ r. IsWithinLimits r.job) rs → length rs ≤ busy rs
few [] a = omega arith
few (r ∷ rs) a =
    let one = (All-head (λ (x : Placed). IsWithinLimits x.job) r rs a).takes_some in
    omega (arith, one, few rs (All-tail (λ (x : Placed). IsWithinLimits x.job) r rs a), sum_by-cons (λ (x : Placed). x.job.size) r rs)

-- what the walk knows, of which these are left: what is free once those behind it have ended, and where that is enough they have by its second;
-- none left is expected to end before it, and before it too little is available; how many ends are read, and that the rest of a block gives enough
pub record IsWalk (s : State) (need capacity time reads : ℕ) (rest : List Placed) : Type 0 where
  pub behind : List Placed
  pub order : by_end s.running ≡ behind ++ rest
  pub gives : capacity ≡ free s + busy behind
  pub ended : need ≤ capacity → All (λ r. expected_end r ≤ time) behind
  pub later : All (λ r. time ≤ expected_end r) rest
  pub short : (u : ℕ) → u < time → available s u < need
  pub counted : reads ≤ length behind
  pub near : need ≤ capacity + busy (take (block_limit - reads) rest)
  pub early : reads ≤ block_limit

-- a walk may begin behind some first ones with which too little is free, where it is enough with a block of the others
pub walk-begins : {s : State} {need capacity : ℕ} {rest : List Placed} → IsPast s need capacity rest → need ≤ capacity + busy (take block_limit rest) → IsWalk s need capacity 0 0 rest
walk-begins p most =
    record {
      behind = p.passed;
      order = p.order;
      gives = p.gives;
      ended = λ enough. absurd (let few = p.short in omega (arith, enough, few));
      later = λ k d lt. omega arith;
      short = λ u lt. absurd (omega (arith, lt));
      counted = omega arith;
      near = most;
      early = omega arith;
    }

first-gives : (n : ℕ) (r : Placed) (after : List Placed) → busy (take n (r ∷ after)) ≤ r.job.size + busy (take (n - 1) after)
first-gives zero r after = omega arith
first-gives (suc n) r after =
    let same : suc n - 1 ≡ n = omega arith in
    omega (arith, sum_by-cons (λ (x : Placed). x.job.size) r (take n after), ap (λ (k : ℕ). busy (take k after)) same)

none-holds : (rs : List Placed) → busy (take 0 rs) ≡ 0
none-holds [] = refl
none-holds (r ∷ rs) = refl

module _ {s : State} {need capacity time reads : ℕ} {rest : List Placed} (w : IsWalk s need capacity time reads rest) where
  available-at : (t : ℕ) → available s t ≡ free s + sum_by (back_by t) w.behind + sum_by (back_by t) rest
  available-at t = omega (arith, sum_by-by_end (back_by t) s.running, ap (sum_by (back_by t)) w.order, sum_by-append (back_by t) w.behind rest)

  held : busy s.running ≡ busy w.behind + busy rest
  held = sym (sum_by-by_end (λ (r : Placed). r.job.size) s.running) ∙ ap busy w.order ∙ sum_by-append (λ (r : Placed). r.job.size) w.behind rest

  module _ {r : Placed} {after : List Placed} (next : rest ≡ r ∷ after) where
    order_here : by_end s.running ≡ w.behind ++ r ∷ after
    order_here = w.order ∙ ap (λ (l : List Placed). w.behind ++ l) next

    near : All (λ x. expected_end x ≤ expected_end r) w.behind × All (λ x. expected_end r ≤ expected_end x) after
    near = around w.behind after r (subst NoneEndsSooner order_here (rises-by_end s.running))

    held_here : busy s.running ≡ busy w.behind + (r.job.size + busy after)
    held_here = held ∙ ap (λ (l : List Placed). busy w.behind + busy l) next ∙ ap (λ (n : ℕ). busy w.behind + n) (sum_by-cons (λ (x : Placed). x.job.size) r after)

    too_little : capacity < need → (u : ℕ) → u < expected_end r → available s u < need
    too_little m u lt =
        let from : All (λ x. u < expected_end x) rest = subst (All (λ (x : Placed). u < expected_end x)) (sym next)
        (All-cons (λ x. u < expected_end x) r after lt (All-weaker (λ x. expected_end r ≤ expected_end x) (λ x. u < expected_end x) (λ x h. omega arith) after near.1)) in
        let none = none-back u rest from in
        let some = back-le-busy u w.behind in
        let all = available-at u in
        let gives = w.gives in
        omega (arith, none, some, all, gives, m)

    near_here : need ≤ capacity + r.job.size + busy (take (block_limit - (reads + 1)) after)
    near_here =
        let near = w.near in
        let left : block_limit - reads - 1 ≡ block_limit - (reads + 1) = omega arith in
        omega (arith, near, ap (λ (l : List Placed). busy (take (block_limit - reads) l)) next, first-gives (block_limit - reads) r after, ap (λ (n : ℕ). busy (take n after)) left)

    in_block : capacity < need → reads + 1 ≤ block_limit
    in_block m =
        ⊎_elim
        (λ (lt : reads < block_limit). omega (arith, lt))
        (λ (le : block_limit ≤ reads).
        let near = w.near in
        let none : block_limit - reads ≡ 0 = omega (arith, le) in
        absurd (omega (arith, near, m, ap (λ (n : ℕ). busy (take n rest)) none, none-holds rest)))
        (cases_lt reads block_limit)

    -- a walk goes on past the next one where too little has come back
    pub walk-more : capacity < need → IsWalk s need (capacity + r.job.size) (expected_end r) (reads + 1) after
    walk-more m =
        record {
          behind = w.behind ++ r ∷ [];
          order = order_here ∙ sym (append_assoc w.behind (r ∷ []) after);
          gives = let gives = w.gives in omega (arith, gives, sum_by_push (λ (x : Placed). x.job.size) w.behind r);
          ended = λ _. All-push (λ x. expected_end x ≤ expected_end r) w.behind r near.0 (omega arith);
          later = near.1;
          short = too_little m;
          counted = let counted = w.counted in omega (arith, counted, length_push w.behind r);
          near = near_here;
          early = in_block m;
        }

    -- where the next one is expected to end after the walk's second, so are all that are left
    pub walk-stops : time < expected_end r → All (λ x. time < expected_end x) rest
    walk-stops later =
        subst (All (λ (x : Placed). time < expected_end x)) (sym next)
        (All-cons (λ x. time < expected_end x) r after later (All-weaker (λ x. expected_end r ≤ expected_end x) (λ x. time < expected_end x) (λ x h. omega (arith, later, h)) after near.1))

    -- what is free once the next one has ended too is no more than the machine has
    pub walk-capacity : IsSound s → capacity + r.job.size ≤ s.procs
    walk-capacity h = let gives = w.gives in let fits = h.fits in omega (arith, gives, fits, held_here)

    -- the start of the next one is within the limit on seconds
    pub early-end : IsSound s → r.start < 2 ^ 49
    early-end h = All-head (λ (x : Placed). x.start < 2 ^ 49) r after (all-back (λ (x : Placed). x.start < 2 ^ 49) w.behind (r ∷ after) (subst (All (λ (x : Placed). x.start < 2 ^ 49)) order_here (All-by_end (λ (x : Placed). x.start < 2 ^ 49) s.running h.started)))

  -- where none is left enough has come back, if the machine has so much
  pub walk-ends : IsSound s → need ≤ s.procs → rest ≡ [] → (need ≤ capacity) × All (λ x. time < expected_end x) rest
  walk-ends h within none =
      let gives = w.gives in
      let fits = h.fits in
      let left : busy rest ≡ 0 = ap busy none in
      (omega (arith, gives, fits, held, left, within), subst (All (λ (x : Placed). time < expected_end x)) (sym none) (All-nil (λ x. time < expected_end x)))

  -- a walk reads no more ends than the machine has processors
  pub walk-few : IsSound s → reads ≤ s.procs
  walk-few h =
      let counted = w.counted in
      let fits = h.fits in
      omega (arith, counted, fits, few s.running h.running_limits, length-by_end s.running, ap (λ (l : List Placed). length l) w.order, length-append w.behind rest)

  -- where the others end later, what is available at the walk's second is what has come back
  pub walk-all : need ≤ capacity → All (λ r. time < expected_end r) rest → capacity ≡ available s time
  walk-all enough late =
      let a = available-at time in
      let b = back-each time w.behind (w.ended enough) in
      let c = none-back time rest late in
      let gives = w.gives in
      omega (arith, a, b, c, gives)

  module _ (enough : need ≤ capacity) where
    -- where enough has come back, enough is available at the walk's second
    pub walk-enough : need ≤ available s time
    walk-enough =
        let a = available-at time in
        let b = back-each time w.behind (w.ended enough) in
        let gives = w.gives in
        omega (arith, a, b, gives, enough)

    done : IsSound s → need ≤ s.procs → time ≡ shadow_time s need
    done h within =
        let least = shadow_time-IsLeast s need h.fits within in
        let down : shadow_time s need ≤ time = least.least time walk-enough in
        ⊎_elim
        (λ (l : shadow_time s need < time). absurd (let m = w.short (shadow_time s need) l in let n = least.holds in omega (arith, m, n)))
        (λ (l : time ≤ shadow_time s need). omega (arith, l, down))
        (cases_lt (shadow_time s need) time)

    -- where enough has come back, the second of the walk and what is over of all that is available then are the shadow
    pub walk-shadow : (all extra : ℕ) → IsSound s → need ≤ s.procs → all ≡ available s time → extra ≡ all - need → let v : Shadow = record { time = time; extra = extra } in v ≡ shadow_at s need
    walk-shadow all extra h within is e =
        let P : ℕ → ℕ → Shadow = λ a b. record { time = a; extra = b } in
        let over : extra ≡ available s time - need = omega (arith, e, is) in
        ap (P time) over ∙ ap (λ x. P x (available s x - need)) (done h within)

    -- where enough has come back, the second of the walk is the least at which enough is available
    pub walk-least : IsSound s → need ≤ s.procs → IsLeast (λ t. need ≤ available s t) time
    walk-least h within = subst (IsLeast (λ t. need ≤ available s t)) (sym (done h within)) (shadow_time-IsLeast s need h.fits within)

count-all : (t : ℕ) (rs : List Placed) → All (λ r. expected_end r ≤ t) rs → count_by (λ r. nat_le (expected_end r) t) rs ≡ length rs
count-all t [] a = refl
count-all t (r ∷ rs) a =
    let one = cond-true {A = ℕ} (nat_le (expected_end r) t) 1 0 (le-leb (expected_end r) t (All-head (λ r. expected_end r ≤ t) r rs a)) in
    let k = sum_by-cons (λ (r : Placed). cond {A = ℕ} (nat_le (expected_end r) t) 1 0) r rs in
    let l = count-all t rs (All-tail (λ r. expected_end r ≤ t) r rs a) in
    omega (arith, one, k, l)

module _ {s : State} {need capacity time reads : ℕ} {rest : List Placed} (w : IsWalk s need capacity time reads rest) (enough : need ≤ capacity) where
  walk-counts : length w.behind ≤ count_by (λ r. nat_le (expected_end r) time) s.running
  walk-counts =
      let f : Placed → ℕ = λ r. cond (nat_le (expected_end r) time) 1 0 in
      omega (arith, sum_by-by_end f s.running, ap (sum_by f) w.order, sum_by-append f w.behind rest, count-all time w.behind (w.ended enough))

  all_run : length s.running ≡ length w.behind + length rest
  all_run = sym (length-by_end s.running) ∙ ap (λ (l : List Placed). length l) w.order ∙ length-append w.behind rest

  -- where enough has come back, the ends read and that of the next one are no more than a walk up to this second reads at most
  pub walk-reads : {r : Placed} {after : List Placed} → rest ≡ r ∷ after → reads + 1 ≤ ends_read s time
  walk-reads next = let counted = w.counted in let some : 1 ≤ length rest = subst (λ (l : List Placed). 1 ≤ length l) (sym next) (omega arith) in omega (arith, walk-counts, all_run, counted, some)

  -- where enough has come back, the ends read are no more than a walk up to this second reads at most
  pub walk-reads-all : reads ≤ ends_read s time
  walk-reads-all = let counted = w.counted in omega (arith, walk-counts, all_run, counted)
