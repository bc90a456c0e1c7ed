-- The starts of one second, one after another.
use Rattle.std.proofs.Common.{◌≡◌, ℕ, ◌+◌, ◌-◌, ◌<◌, List, [], ◌∷◌, ◌++◌, append_assoc, append-nil, Some, None, sym, ◌∙◌, ap, arith}
use Rattle.scenarios.specs.Job.{EffectiveJob}
use Rattle.cluster_state.specs.State.{State, started}
use Rattle.easy_rule.specs.declared.start.Start.{Start}
use Rattle.easy_rule.specs.Rule.{next, decided, decisions}
use Rattle.easy_rule.proofs.Lemmas.{decided-start, decided-stop, decisions-start, decisions-stop}

-- after one more start of up to n, the rest of them lead to the same state
pub state-more : (n i : ℕ) (s r : State) (job : EffectiveJob) (now : ℕ) → i < n → next s now ≡ Some job → decided (n - i) s now ≡ r → decided (n - (i + 1)) (started s job now) now ≡ r
state-more n i s r job now l e k =
    ap (λ m. decided m (started s job now) now) (let z : n - (i + 1) ≡ n - i - 1 = omega arith in z) ∙ sym (decided-start (n - i) s job now (omega arith) e) ∙ k

-- with one more start of up to n behind those before, the rest of them make the same starts
pub starts-more : (n i : ℕ) (s : State) (xs r : List Start) (job : EffectiveJob) (now : ℕ) → i < n → next s now ≡ Some job → xs ++ decisions (n - i) s now ≡ r
    → (xs ++ record { number = job.number; at = now } ∷ []) ++ decisions (n - (i + 1)) (started s job now) now ≡ r
starts-more n i s xs r job now l e k =
    let x : Start = record { number = job.number; at = now } in
    append_assoc xs (x ∷ []) (decisions (n - (i + 1)) (started s job now) now)
    ∙ ap (λ m. xs ++ x ∷ decisions m (started s job now) now) (let z : n - (i + 1) ≡ n - i - 1 = omega arith in z)
    ∙ ap (λ l. xs ++ l) (sym (decisions-start (n - i) s job now (omega arith) e)) ∙ k

-- where nobody is next, the state is the one to which all starts lead
pub state-stop : (n : ℕ) (s r : State) (now : ℕ) → next s now ≡ None → decided n s now ≡ r → s ≡ r
state-stop n s r now e k = sym (decided-stop n s now e) ∙ k

-- where nobody is next, the starts so far are all
pub starts-stop : (n : ℕ) (s : State) (xs r : List Start) (now : ℕ) → next s now ≡ None → xs ++ decisions n s now ≡ r → xs ≡ r
starts-stop n s xs r now e k = sym (append-nil xs) ∙ ap (λ l. xs ++ l) (sym (decisions-stop n s now e)) ∙ k

-- after the last turn the state is the one to which all starts lead
pub state-end : (n : ℕ) (s r : State) (now : ℕ) → n ≡ 0 → decided n s now ≡ r → s ≡ r
unfolding decided
state-end n s r now z k = sym (ap (λ m. decided m s now) z) ∙ k

-- after the last turn the starts so far are all
pub starts-end : (n : ℕ) (s : State) (xs r : List Start) (now : ℕ) → n ≡ 0 → xs ++ decisions n s now ≡ r → xs ≡ r
unfolding decisions
starts-end n s xs r now z k = sym (append-nil xs) ∙ ap (λ m. xs ++ decisions m s now) (sym z) ∙ k
