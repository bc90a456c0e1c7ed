-- A job that arrives alone, starts at once, and leaves nobody who may start: either nobody else waits, or the head waits on, and the job is the
-- only one that may be backfilled.
use Rattle.std.proofs.Common.{◌≡◌, ℕ, ◌+◌, ◌≤◌, Bool, true, false, cond, nat_eq, List, [], ◌∷◌, ◌++◌, length, take, Option, Some, None, IfSome, All, find, slice_get, refl, sym, ◌∙◌, ap, arith, subst, ⊎_elim}
use Rattle.std.specs.Option.{option_map}
use Rattle.std.proofs.lemmas.List.Sums.{sum_by-cons, sum_by-append}
use Rattle.std.proofs.lemmas.List.Elements.{All-head, All-tail, All-nil, All-cons, All-weaker}
use Rattle.std.proofs.lemmas.Bool.{cases_Bool, cond-true, cond-false, eq-eqb, true≢false}
use Rattle.scenarios.specs.Job.{EffectiveJob}
use Rattle.scenarios.specs.declared.placed.Placed.{Placed}
use Rattle.cluster_state.specs.State.{State, ClusterView, IsSound, arrived, started, free, holders}
use Rattle.cluster_state.proofs.Lemmas.{in_order-All, sum_by-placed, without-last}
use Rattle.easy_rule.specs.declared.shadow_time.Shadow.{Shadow}
use Rattle.easy_rule.specs.Rule.{next, may_backfill, shadow_of}
use Rattle.easy_rule.specs.Pass.{less, candidates, IsPass}
use Rattle.easy_rule.specs.Decision.{IsDecision, IsSettledFront}
use Rattle.easy_rule.specs.AtOnce.{StartsAtOnce, with_arrival}
use Rattle.easy_rule.proofs.NextLemmas.{Member, found-member, found-passes, in_order-member, next-candidates}
use Rattle.easy_rule.proofs.PassLemmas.{find-none, none-passes, All-in_order, next-empty, pass-started, pass-shadow, still-refused, less-extra, ways}
use Rattle.easy_rule.proofs.BehindLemmas.{behind-is}
use Rattle.easy_rule.proofs.Begun.{begun-none, begun-more, begun-done, head-next}

pub record IsOnly (s : State) (now : ℕ) (left : Option Shadow) (job : EffectiveJob) : Type 0 where
  pub fits : job.size ≤ free s
  pub first : next (arrived s job) now ≡ Some job
  pub done : next (started (arrived s job) job now) now ≡ None
  pub shadow : IfSome left (λ w. shadow_of (started (arrived s job) job now) ≡ Some w)

-- where the state is sound once a job has arrived, nobody had its number before
pub nobody-has : (s : State) (job : EffectiveJob) → IsSound (arrived s job) → holders s job.number ≡ 0
nobody-has s job h =
    let f : EffectiveJob → ℕ = λ j. cond (nat_eq j.number job.number) 1 0 in
    let one = cond-true {A = ℕ} (nat_eq job.number job.number) 1 0 (eq-eqb job.number job.number refl) in
    omega (arith, h.once job.number, one, sum_by-append f s.waiting (job ∷ []), sum_by-cons f job [])

only-alone : (s : State) (now : ℕ) (job : EffectiveJob) → IsSound (arrived s job) → s.waiting ≡ [] → job.size ≤ free s → IsOnly s now None job
only-alone s now job h queue fits =
    let none = nobody-has s job h in
    let gone = without-last job s.waiting (omega (arith, none)) in
    let nobody = ap length (gone ∙ queue) in
    record {
      fits = fits;
      first = head-next (arrived s job) now job (ap (λ (js : List EffectiveJob). slice_get (js ++ job ∷ []) 0) queue) fits;
      done = next-empty (started (arrived s job) job now) now (omega (arith, nobody));
      shadow = tt;
    }

front-of : (xs ys : List EffectiveJob) → take (length xs) (xs ++ ys) ≡ xs
front-of [] ys = refl
front-of (x ∷ xs) ys = ap (λ l. x ∷ l) (front-of xs ys)

last-of : (P : EffectiveJob → Type 0) (xs : List EffectiveJob) (job : EffectiveJob) → All P (xs ++ job ∷ []) → P job
last-of P [] job a = All-head P job [] a
last-of P (x ∷ xs) job a = last-of P xs job (All-tail P x (xs ++ job ∷ []) a)

only-last : (q : EffectiveJob → Bool) (xs : List EffectiveJob) (job k : EffectiveJob) → All (λ j. q j ≡ false) xs → q k ≡ true → Member (xs ++ job ∷ []) k → job ≡ k
only-last q [] job k a y m = ⊎_elim (λ (same : job ≡ k). same) (λ (never : ⊥). absurd never) m
only-last q (x ∷ xs) job k a y m =
    ⊎_elim
    (λ (same : x ≡ k). absurd (true≢false (sym y ∙ ap q (sym same) ∙ All-head (λ j. q j ≡ false) x xs a)))
    (λ (later : Member (xs ++ job ∷ []) k). only-last q xs job k (All-tail (λ j. q j ≡ false) x xs a) y later)
    m

record Split (q : EffectiveJob → Bool) (xs : List EffectiveJob) (job : EffectiveJob) : Type 0 where
  pub passed : List EffectiveJob
  pub rest : List EffectiveJob
  pub parts : xs ≡ passed ++ job ∷ rest
  pub refused : All (λ j. q j ≡ false) passed

split : (q : EffectiveJob → Bool) (xs : List EffectiveJob) (job : EffectiveJob) → find q xs ≡ Some job → Split q xs job
split q [] job e = cc
split q (x ∷ xs) job e =
    ⊎_elim
    (λ (y : q x ≡ true).
    let k : Some x ≡ Some job = sym (cond-true (q x) (Some x) (find q xs) y) ∙ e in
    let same : x ≡ job = cc in
    record { passed = []; rest = xs; parts = ap (λ (z : EffectiveJob). z ∷ xs) same; refused = All-nil (λ j. q j ≡ false) })
    (λ (n : q x ≡ false).
    let r = split q xs job (sym (cond-false (q x) (Some x) (find q xs) n) ∙ e) in
    record { passed = x ∷ r.passed; rest = r.rest; parts = ap (λ l. x ∷ l) r.parts; refused = All-cons (λ j. q j ≡ false) x r.passed n r.refused })
    (cases_Bool (q x))

found-only : (q : EffectiveJob → Bool) (s : State) (job : EffectiveJob) → All (λ j. q j ≡ false) s.waiting → q job ≡ true → find q (candidates (arrived s job)) ≡ Some job
found-only q s job refused may = go (find q (candidates (arrived s job))) refl
  where
    go : (o : Option EffectiveJob) → find q (candidates (arrived s job)) ≡ o → find q (candidates (arrived s job)) ≡ Some job
    go None e =
        let all = in_order-All (λ j. q j ≡ false) s.order (s.waiting ++ job ∷ []) (none-passes q (candidates (arrived s job)) e) in
        absurd (true≢false (sym may ∙ last-of (λ j. q j ≡ false) s.waiting job all))
    go (Some k) e =
        let m = in_order-member s.order (s.waiting ++ job ∷ []) k (found-member q (candidates (arrived s job)) k e) in
        e ∙ ap Some (sym (only-last q s.waiting job k refused (found-passes q (candidates (arrived s job)) k e) m))

only-behind : (s : State) (now : ℕ) (w : Shadow) (job : EffectiveJob) → IsSound (arrived s job) → IsSettledFront (arrived s job) now (length s.waiting) w → may_backfill now (free s) w job ≡ true → IsOnly s now (Some (less w now job)) job
only-behind s now w job h settled may =
    let t = arrived s job in
    let u = started t job now in
    let left = less w now job in
    let q : EffectiveJob → Bool = may_backfill now (free s) w in
    let q' : EffectiveJob → Bool = may_backfill now (free u) left in
    let b = behind-is t now (length s.waiting) w settled in
    let refused : All (λ j. q j ≡ false) s.waiting = subst (λ js. All (λ j. q j ≡ false) js) (front-of s.waiting (job ∷ [])) b.refused in
    let found : find q (candidates t) ≡ Some job = found-only q s job refused may in
    let parts = split q (candidates t) job found in
    let p : IsPass t now w (job ∷ parts.rest) = record { head = b.head; later = b.later; queue = b.queue; waits = b.waits; shadow = b.shadow; passed = parts.passed; parts = parts.parts; refused = parts.refused } in
    let p' : IsPass u now left parts.rest = pass-started t now w job parts.rest h p may in
    let none = nobody-has s job h in
    let freed : free u ≤ free s = omega (arith, sum_by-placed (λ (x : Placed). x.job.size) (record { job = job; start = now }) s.running) in
    let still : All (λ j. q' j ≡ false) s.waiting =
    All-weaker (λ j. q j ≡ false) (λ j. q' j ≡ false) (λ j. still-refused now (free s) (free u) w left j freed (omega arith) (less-extra w now job)) s.waiting refused in
    let all : All (λ j. q' j ≡ false) u.waiting = subst (λ js. All (λ j. q' j ≡ false) js) (sym (without-last job s.waiting (omega (arith, none)))) still in
    record {
      fits = (ways now (free s) w job may).0;
      first = next-candidates t now b.head b.later b.queue b.waits ∙ ap (λ v. find (may_backfill now (free t) v) (candidates t)) (sym b.shadow) ∙ found;
      done = next-candidates u now p'.head p'.later p'.queue p'.waits ∙ ap (λ v. find (may_backfill now (free u) v) (candidates u)) (sym p'.shadow)
          ∙ find-none q' (candidates u) (All-in_order (λ j. q' j ≡ false) s.order u.waiting all);
      shadow = pass-shadow u now left parts.rest p';
    }

-- a job that may start at once as it arrives is the only one that starts, and leaves what is left of the shadow that was known
pub only-one : (s : State) (now : ℕ) (last_shadow : Option Shadow) (job : EffectiveJob) → IsSound (arrived s job) → StartsAtOnce s now last_shadow job → IfSome last_shadow (λ w. IsSettledFront (arrived s job) now (length s.waiting) w)
    → IsOnly s now (option_map (λ w. less w now job) last_shadow) job
only-one s now None job h starts settled = only-alone s now job h starts.0 starts.1
only-one s now (Some w) job h starts settled = only-behind s now w job h settled starts

-- the start of the only job that starts is the whole decision
pub only-decides : (old new : ClusterView) (now : ℕ) (left : Option Shadow) (job : EffectiveJob) (jobs : List EffectiveJob) → IsSound (arrived old.state job) → IsOnly old.state now left job → new.state ≡ started (arrived old.state job) job now → old.spare ≤ new.spare + 1
    → jobs ≡ job ∷ [] → IsDecision (with_arrival old job) new now jobs
only-decides old new now left job jobs h only is spare e =
    let v = with_arrival old job in
    begun-done v new now jobs (ap (λ (z : State). next z now) is ∙ only.done) (begun-more v v new now [] jobs job h only.first is spare e (begun-none v now [] refl))

-- what the only job that starts leaves of the shadow that was known is the shadow of the state then
pub only-leaves : (s new : State) (now : ℕ) (last_shadow left : Option Shadow) (job : EffectiveJob) → IsOnly s now (option_map (λ w. less w now job) last_shadow) job → new ≡ started (arrived s job) job now → left ≡ option_map (λ w. less w now job) last_shadow
    → IfSome left (λ w. shadow_of new ≡ Some w)
only-leaves s new now last_shadow left job only is e =
    let moved : IfSome (option_map (λ w. less w now job) last_shadow) (λ w. shadow_of new ≡ Some w) =
    subst (λ (z : State). IfSome (option_map (λ w. less w now job) last_shadow) (λ w. shadow_of z ≡ Some w)) (sym is) only.shadow in
    subst (λ (o : Option Shadow). IfSome o (λ w. shadow_of new ≡ Some w)) (sym e) moved
