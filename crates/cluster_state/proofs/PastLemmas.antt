-- What is passed over leaves at most a block to walk over, and what those give back that are expected to have ended by a second.
use Rattle.std.proofs.Common.{◌≡◌, ℕ, zero, suc, ◌+◌, ◌≤◌, ◌<◌, ◌++◌, Bool, true, false, not, nat_le, List, [], ◌∷◌, All, length, take, drop, sum_by, refl, sym, subst, ap, ◌∙◌, arith, inl, inr, ⊎_elim}
use Rattle.std.specs.List.{position_or_len}
use Rattle.std.proofs.Math.Seq.{drop-cons}
use Rattle.std.proofs.lemmas.Bool.{cases_lt, cond-true, cond-false, lt-leb}
use Rattle.std.proofs.lemmas.Bool.Decides.{nat_tests}
use Rattle.std.proofs.lemmas.List.{take_all}
use Rattle.std.proofs.lemmas.List.Elements.{All-cons, All-head, All-tail, All-weaker}
use Rattle.std.proofs.lemmas.List.Sums.{sum_by-cons}
use Rattle.blocks.specs.Rows.{AreFilled, block_of, flat, place_in, stands}
use Rattle.scenarios.specs.declared.placed.Placed.{Placed}
use Rattle.scenarios.specs.Placed.{expected_end}
use Rattle.cluster_state.specs.State.{back_by, busy}
use Rattle.cluster_state.specs.Ends.{EndsSooner, RisesByEnd, block_limit, by_number}
use Rattle.cluster_state.proofs.NumberLemmas.{sum_by-by_number}

front-holds : (n : ℕ) (block later : List Placed) → length block ≤ n → busy block ≤ busy (take n (block ++ later))
front-holds n [] later le = omega arith
front-holds zero (r ∷ block) later le = absurd (omega (arith, le))
front-holds (suc n) (r ∷ block) later le =
    let size : Placed → ℕ = λ x. x.job.size in
    omega (arith, front-holds n block later (omega (arith, le)), sum_by-cons size r block, sum_by-cons size r (take n (block ++ later)))

within-limit : (n : ℕ) (blocks : List (List Placed)) → AreFilled blocks → length (block_of blocks n) ≤ block_limit
within-limit n [] filled = omega arith
within-limit zero (block ∷ blocks) filled = filled.0.high
within-limit (suc n) (block ∷ blocks) filled = within-limit n blocks filled.1

-- where the passed blocks hold too few processors, and enough with the next one, they do with as many first ones of the rest as a block may have
pub past-most : (blocks : List (List Placed)) (n processors held : ℕ) (rest : List Placed) → AreFilled blocks → held ≡ busy (flat (take n blocks)) → held < processors → (n < length blocks → processors ≤ held + busy (block_of blocks n)) → rest ≡ flat (drop n blocks) → processors ≤ busy (by_number (flat blocks)) → processors ≤ held + busy (take block_limit rest)
past-most blocks n processors held rest filled hold fewer most is all =
    ⊎_elim
    (λ (lt : n < length blocks).
    let block = block_of blocks n in
    let later = flat (drop (suc n) blocks) in
    let first : flat (drop n blocks) ≡ block ++ later = ap flat (drop-cons blocks n [] lt) in
    let holds : busy block ≤ busy (take block_limit rest)
    = subst (λ (l : List Placed). busy block ≤ busy (take block_limit l)) (sym (is ∙ first)) (front-holds block_limit block later (within-limit n blocks filled)) in
    let more = most lt in
    omega (arith, more, holds))
    (λ (le : length blocks ≤ n).
    let whole : busy (flat (take n blocks)) ≡ busy (flat blocks) = ap (λ (l : List (List Placed)). busy (flat l)) (take_all n blocks le) in
    let same : busy (by_number (flat blocks)) ≡ busy (flat blocks) = sum_by-by_number (λ (r : Placed). r.job.size) (flat blocks) in
    absurd (omega (arith, whole, same, hold, fewer, all)))
    (cases_lt n (length blocks))

-- nothing is given back by a second at which none is expected to have ended
pub none-back : (t : ℕ) (rs : List Placed) → All (λ r. t < expected_end r) rs → sum_by (back_by t) rs ≡ 0
none-back t [] a = refl
none-back t (r ∷ rs) a =
    let one = cond-false {A = ℕ} (nat_le (expected_end r) t) r.job.size 0 (lt-leb (expected_end r) t (All-head (λ r. t < expected_end r) r rs a)) in
    omega (arith, one, sum_by-cons (back_by t) r rs, none-back t rs (All-tail (λ r. t < expected_end r) r rs a))

-- those in front of the first that is expected to end past a second hold what is given back by then
pub ended-weigh : (t : ℕ) (rs : List Placed) → RisesByEnd rs → busy (take (place_in expected_end (λ r. r.job.number) (t + 1) 0 rs) rs) ≡ sum_by (back_by t) rs
ended-weigh t [] h = refl
ended-weigh t (r ∷ rs) h = go (ended-weigh t rs h.1) (nat_le (expected_end r) t) refl
  where
    size : Placed → ℕ
    size x = x.job.size

    later : Placed → Bool
    later x = not (stands expected_end (λ r. r.job.number) (t + 1) 0 x)

    not-before : (x : Placed) → EndsSooner r x → t < expected_end r → t < expected_end x
    not-before x (inl l) past = omega arith
    not-before x (inr p) past = let same = p.0 in omega (arith, same)

    go : busy (take (position_or_len later rs) rs) ≡ sum_by (back_by t) rs → (b : Bool) → nat_le (expected_end r) t ≡ b → busy (take (position_or_len later (r ∷ rs)) (r ∷ rs)) ≡ sum_by (back_by t) (r ∷ rs)
    go others true e =
        let k = position_or_len later rs in
        let passed : not (later r) ≡ true = grind (arith, nat_tests, e) in
        let at : position_or_len later (r ∷ rs) ≡ suc k = let one : 1 + k ≡ suc k = omega arith in cond-true {A = ℕ} (not (later r)) (1 + k) 0 passed ∙ one in
        let own : back_by t r ≡ size r = cond-true {A = ℕ} (nat_le (expected_end r) t) (size r) 0 e in
        omega (arith, ap (λ (n : ℕ). busy (take n (r ∷ rs))) at, sum_by-cons size r (take k rs), others, own, sum_by-cons (back_by t) r rs)
    go others false e =
        let past : t < expected_end r = grind (arith, nat_tests, e) in
        let stays : not (later r) ≡ false = grind (arith, nat_tests, e) in
        let at : position_or_len later (r ∷ rs) ≡ 0 = cond-false {A = ℕ} (not (later r)) (1 + position_or_len later rs) 0 stays in
        let late : All (λ x. t < expected_end x) rs = All-weaker (EndsSooner r) (λ x. t < expected_end x) (λ x s. not-before x s past) rs h.0 in
        omega (arith, ap (λ (n : ℕ). busy (take n (r ∷ rs))) at, none-back t (r ∷ rs) (All-cons (λ x. t < expected_end x) r rs past late))
