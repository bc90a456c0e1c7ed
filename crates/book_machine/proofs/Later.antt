-- How the progress of a scenario goes on: what a look-up by id finds after each change.
use Rattle.std.proofs.Common.{◌≡◌, ℕ, ◌<◌, ◌==◌, List, [], ◌∷◌, ◌++◌, Bool, true, false, cond, not, filter, Option, None, Some, is_some, option_map, refl, sym, ◌∙◌, ap, subst, arith}
use Rattle.std.proofs.lemmas.Bool.{true≢false}
use Rattle.std.proofs.lemmas.Bool.Decides.{nat_tests}
use Rattle.std.specs.Prelude.{nat_lt}
use Rattle.book_machine.specs.Machine.{Progress, progress_of, changed, publish, fresh, is_below}
use Rattle.book_machine.specs.Laws.{IsNoOlder}

-- the progress of one scenario, changed where it has this id
abbrev pub alter : ℕ → (Progress → Progress) → Progress → Progress
alter k f p = cond (p.id == k) (f p) p

-- a progress that may be changed keeps its id where the change keeps ids
pub alter_id : (k : ℕ) (f : Progress → Progress) → ((p : Progress) → (f p).id ≡ p.id) → (p : Progress) → (alter k f p).id ≡ p.id
alter_id k f keep p = go (p.id == k)
  where
    go : (b : Bool) → (cond b (f p) p).id ≡ p.id
    go true = keep p
    go false = refl

pub progress_of-changed : (id k : ℕ) (f : Progress → Progress) → ((p : Progress) → (f p).id ≡ p.id) → (ps : List Progress) → progress_of id (changed k f ps) ≡ option_map (alter k f) (progress_of id ps)
progress_of-changed id k f keep [] = refl
progress_of-changed id k f keep (p ∷ ps) =
    ap (λ n. cond (n == id) (Some (alter k f p)) (progress_of id (changed k f ps))) (alter_id k f keep p) ∙ go (p.id == id) (progress_of-changed id k f keep ps)
  where
    go : (b : Bool) → progress_of id (changed k f ps) ≡ option_map (alter k f) (progress_of id ps) → cond b (Some (alter k f p)) (progress_of id (changed k f ps)) ≡ option_map (alter k f) (cond b (Some p) (progress_of id ps))
    go true more = refl
    go false more = more

pub progress_of-same : (id : ℕ) (ps : List Progress) → progress_of id (filter (λ p. not (p.id == id)) ps) ≡ None
progress_of-same id [] = refl
progress_of-same id (p ∷ ps) = go (p.id == id) refl (progress_of-same id ps)
  where
    go : (b : Bool) → (p.id == id) ≡ b → progress_of id (filter (λ q. not (q.id == id)) ps) ≡ None → progress_of id (cond (not b) (p ∷ filter (λ q. not (q.id == id)) ps) (filter (λ q. not (q.id == id)) ps)) ≡ None
    go true e more = more
    go false e more = ap (λ t. cond t (Some p) (progress_of id (filter (λ q. not (q.id == id)) ps))) e ∙ more

-- with all of one id left out, a look-up by another id finds what it found
pub progress_of-other : (id k : ℕ) → (id == k) ≡ false → (ps : List Progress) → progress_of id (filter (λ p. not (p.id == k)) ps) ≡ progress_of id ps
progress_of-other id k apart [] = refl
progress_of-other id k apart (p ∷ ps) = go (p.id == k) refl (progress_of-other id k apart ps)
  where
    go : (b : Bool) → (p.id == k) ≡ b → progress_of id (filter (λ q. not (q.id == k)) ps) ≡ progress_of id ps → progress_of id (cond (not b) (p ∷ filter (λ q. not (q.id == k)) ps) (filter (λ q. not (q.id == k)) ps)) ≡ cond (p.id == id) (Some p) (progress_of id ps)
    go true e more =
        let other : (p.id == id) ≡ false = grind (arith, nat_tests) in
        more ∙ sym (ap (λ t. cond t (Some p) (progress_of id ps)) other)
    go false e more = ap (λ o. cond (p.id == id) (Some p) o) more

pub progress_of-end : (id : ℕ) (q : Progress) → (q.id == id) ≡ false → (ps : List Progress) → progress_of id (ps ++ q ∷ []) ≡ progress_of id ps
progress_of-end id q apart [] = ap (λ t. cond t (Some q) None) apart
progress_of-end id q apart (p ∷ ps) = ap (λ o. cond (p.id == id) (Some p) o) (progress_of-end id q apart ps)

-- an id that is found is found still with one more at the end
pub stands-end : (id : ℕ) (q : Progress) (ps : List Progress) → is_some (progress_of id ps) ≡ true → is_some (progress_of id (ps ++ q ∷ [])) ≡ true
stands-end id q [] h = absurd (true≢false (sym h))
stands-end id q (p ∷ ps) h = go (p.id == id) h (stands-end id q ps)
  where
    go : (b : Bool) → is_some (cond b (Some p) (progress_of id ps)) ≡ true → (is_some (progress_of id ps) ≡ true → is_some (progress_of id (ps ++ q ∷ [])) ≡ true) → is_some (cond b (Some p) (progress_of id (ps ++ q ∷ []))) ≡ true
    go true e more = refl
    go false e more = more e

-- after a change that keeps ids, the same ids are found
pub stands-changed : (id k : ℕ) (f : Progress → Progress) → ((p : Progress) → (f p).id ≡ p.id) → (ps : List Progress) → is_some (progress_of id (changed k f ps)) ≡ is_some (progress_of id ps)
stands-changed id k f keep ps = ap is_some (progress_of-changed id k f keep ps) ∙ go (progress_of id ps)
  where
    go : (o : Option Progress) → is_some (option_map (alter k f) o) ≡ is_some o
    go None = refl
    go (Some p) = refl

-- what stood stands still, no older, or is gone; what didn't stand doesn't
abbrev pub GoesOn : Option Progress → Option Progress → Type 0
GoesOn old None = Unit {0}
GoesOn None (Some q) = ⊥
GoesOn (Some p) (Some q) = IsNoOlder p.published q.published

-- what is published is no older than itself
pub IsNoOlder-refl : (o : Option ℕ) → IsNoOlder o o
IsNoOlder-refl None = tt
IsNoOlder-refl (Some v) = omega arith

IsNoOlder-trans : (a b c : Option ℕ) → IsNoOlder a b → IsNoOlder b c → IsNoOlder a c
IsNoOlder-trans None b c h k = tt
IsNoOlder-trans (Some u) None c h k = absurd h
IsNoOlder-trans (Some u) (Some v) None h k = absurd k
IsNoOlder-trans (Some u) (Some v) (Some w) h k = omega (arith, h, k)

-- what is unchanged goes on
pub GoesOn-refl : (o : Option Progress) → GoesOn o o
GoesOn-refl None = tt
GoesOn-refl (Some p) = IsNoOlder-refl p.published

-- what goes on, and then goes on again, goes on over both
pub GoesOn-trans : (a b c : Option Progress) → GoesOn a b → GoesOn b c → GoesOn a c
GoesOn-trans a b None h k = tt
GoesOn-trans a None (Some r) h k = absurd k
GoesOn-trans None (Some q) (Some r) h k = absurd h
GoesOn-trans (Some p) (Some q) (Some r) h k = IsNoOlder-trans p.published q.published r.published h k

-- each scenario goes on over a change that keeps ids and makes nothing published older
pub goes_on-changed : (id k : ℕ) (f : Progress → Progress) → ((p : Progress) → (f p).id ≡ p.id) → ((p : Progress) → IsNoOlder p.published (f p).published) → (ps : List Progress) → GoesOn (progress_of id ps) (progress_of id (changed k f ps))
goes_on-changed id k f keep newer ps = subst (GoesOn (progress_of id ps)) (sym (progress_of-changed id k f keep ps)) (go (progress_of id ps))
  where
    one : (p : Progress) (b : Bool) → IsNoOlder p.published (cond b (f p) p).published
    one p true = newer p
    one p false = IsNoOlder-refl p.published

    go : (o : Option Progress) → GoesOn o (option_map (alter k f) o)
    go None = tt
    go (Some p) = one p (p.id == k)

-- each scenario goes on, or is gone, where all of one id are left out
pub goes_on-dropped : (id k : ℕ) (ps : List Progress) → GoesOn (progress_of id ps) (progress_of id (filter (λ p. not (p.id == k)) ps))
goes_on-dropped id k ps = go (id == k) refl
  where
    go : (b : Bool) → (id == k) ≡ b → GoesOn (progress_of id ps) (progress_of id (filter (λ p. not (p.id == k)) ps))
    go true e =
        let is : id ≡ k = grind (arith, nat_tests) in
        let gone : progress_of id (filter (λ p. not (p.id == k)) ps) ≡ None =
        ap (λ n. progress_of id (filter (λ p. not (p.id == n)) ps)) (sym is) ∙ progress_of-same id ps in
        subst (GoesOn (progress_of id ps)) (sym gone) tt
    go false e = subst (GoesOn (progress_of id ps)) (sym (progress_of-other id k e ps)) (GoesOn-refl (progress_of id ps))

-- a scenario of an id below the next goes on where a fresh one of the next id comes at the end
pub goes_on-end : (id next : ℕ) → id < next → (ps : List Progress) → GoesOn (progress_of id ps) (progress_of id (ps ++ fresh next ∷ []))
goes_on-end id next lt ps =
    let apart : (next == id) ≡ false = grind (arith, nat_tests) in
    subst (GoesOn (progress_of id ps)) (sym (progress_of-end id (fresh next) apart ps)) (GoesOn-refl (progress_of id ps))

-- publishing a version leaves a scenario's id
pub publish_id : (v : ℕ) (p : Progress) → (publish v p).id ≡ p.id
publish_id v p = go (is_below p.published v)
  where
    go : (b : Bool) → (cond b (record p { published = Some v }) p).id ≡ p.id
    go true = refl
    go false = refl

-- publishing a version makes what is published no older
pub publish_newer : (v : ℕ) (p : Progress) → IsNoOlder p.published (publish v p).published
publish_newer v p = go p.published refl
  where
    below : (w : ℕ) (b : Bool) → nat_lt w v ≡ b → p.published ≡ Some w → IsNoOlder (Some w) (cond b (record p { published = Some v }) p).published
    below w true e is = let lt : w < v = grind (arith, nat_tests) in omega arith
    below w false e is = subst (IsNoOlder (Some w)) (sym is) (IsNoOlder-refl (Some w))

    go : (o : Option ℕ) → p.published ≡ o → IsNoOlder o (cond (is_below o v) (record p { published = Some v }) p).published
    go None is = tt
    go (Some w) is = below w (nat_lt w v) refl is
