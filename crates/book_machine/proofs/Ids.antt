-- The ids of the listing and of the progress, which are the same after each change.
use Rattle.std.proofs.Common.{◌≡◌, ℕ, ◌+◌, ◌<◌, ◌≤◌, ◌==◌, List, [], ◌∷◌, ◌++◌, map, filter, Bool, true, false, cond, not, Some, option_map, refl, sym, ◌∙◌, ap, arith}
use Rattle.std.specs.Str.{bytes_eq}
use Rattle.std.proofs.lemmas.Bool.Decides.{nat_tests}
use Rattle.scenarios.specs.ScenarioList.{Listed, IdsRise, named, without}
use Rattle.book_machine.specs.Machine.{Progress, changed}
use Rattle.book_machine.proofs.Later.{alter_id}

lower : (low first : ℕ) (ss : List Listed) (next : ℕ) → low ≤ first → IdsRise first ss next → IdsRise low ss next
lower low first [] next le h = omega (arith, le, h)
lower low first (s ∷ ss) next le h = (omega (arith, le, h.0), h.1)

-- ids that rise below the next still rise with a scenario of the next id at the end, below the id after it
pub ids-end : (first : ℕ) (ss : List Listed) (next : ℕ) (s : Listed) → s.id ≡ next → IdsRise first ss next → IdsRise first (ss ++ s ∷ []) (next + 1)
ids-end first [] next s is h = (omega (arith, h, is), omega (arith, is))
ids-end first (t ∷ ss) next s is h = (h.0, ids-end (t.id + 1) ss next s is h.1)

-- ids that rise still rise without the scenario of a name
pub ids-without : (name : List ℕ) (first : ℕ) (ss : List Listed) (next : ℕ) → IdsRise first ss next → IdsRise first (without name ss) next
ids-without name first [] next h = h
ids-without name first (t ∷ ss) next h = go (bytes_eq name t.name) (ids-without name (t.id + 1) ss next h.1)
  where
    go : (b : Bool) → IdsRise (t.id + 1) (without name ss) next → IdsRise first (cond b ss (t ∷ without name ss)) next
    go true more = lower first (t.id + 1) ss next (let le : first ≤ t.id = h.0 in omega arith) h.1
    go false more = (h.0, more)

pub none_below : (k first : ℕ) (ss : List Listed) (next : ℕ) → k < first → IdsRise first ss next → filter (λ i. not (i == k)) (map (λ s. s.id) ss) ≡ map (λ s. s.id) ss
none_below k first [] next lt h = refl
none_below k first (s ∷ ss) next lt h =
    let above : first ≤ s.id = h.0 in
    let other : (s.id == k) ≡ false = grind (arith, nat_tests) in
    ap (λ b. cond (not b) (s.id ∷ filter (λ i. not (i == k)) (map (λ (t : Listed). t.id) ss)) (filter (λ i. not (i == k)) (map (λ (t : Listed). t.id) ss))) other
    ∙ ap (λ is. s.id ∷ is) (none_below k (s.id + 1) ss next (omega arith) h.1)

found_above : (name : List ℕ) (k first : ℕ) (ss : List Listed) (next : ℕ) → IdsRise first ss next → option_map (λ s. s.id) (named name ss) ≡ Some k → first ≤ k
found_above name k first [] next h found = cc
found_above name k first (s ∷ ss) next h found = go (bytes_eq name s.name) found (found_above name k (s.id + 1) ss next h.1)
  where
    go : (b : Bool) → option_map (λ (t : Listed). t.id) (cond b (Some s) (named name ss)) ≡ Some k → (option_map (λ t. t.id) (named name ss) ≡ Some k → s.id + 1 ≤ k) → first ≤ k
    go true is more = let e : s.id ≡ k = cc in let le : first ≤ s.id = h.0 in omega arith
    go false is more = let le : first ≤ s.id = h.0 in let up : s.id + 1 ≤ k = more is in omega arith

-- without the scenario of a name, the ids are those but its own
pub ids_without : (name : List ℕ) (k first : ℕ) (ss : List Listed) (next : ℕ) → IdsRise first ss next → option_map (λ s. s.id) (named name ss) ≡ Some k → filter (λ i. not (i == k)) (map (λ s. s.id) ss) ≡ map (λ s. s.id) (without name ss)
ids_without name k first [] next h found = cc
ids_without name k first (s ∷ ss) next h found = go (bytes_eq name s.name) found (ids_without name k (s.id + 1) ss next h.1)
  where
    go : (b : Bool) → option_map (λ (t : Listed). t.id) (cond b (Some s) (named name ss)) ≡ Some k → (option_map (λ t. t.id) (named name ss) ≡ Some k → filter (λ i. not (i == k)) (map (λ t. t.id) ss) ≡ map (λ t. t.id) (without name ss))
        → cond (not (s.id == k)) (s.id ∷ filter (λ i. not (i == k)) (map (λ (t : Listed). t.id) ss)) (filter (λ i. not (i == k)) (map (λ (t : Listed). t.id) ss)) ≡ map (λ (t : Listed). t.id) (cond b ss (s ∷ without name ss))
    go true is more =
        let e : s.id ≡ k = cc in
        let same : (s.id == k) ≡ true = grind (arith, nat_tests) in
        ap (λ b. cond (not b) (s.id ∷ filter (λ i. not (i == k)) (map (λ (t : Listed). t.id) ss)) (filter (λ i. not (i == k)) (map (λ (t : Listed). t.id) ss))) same
        ∙ none_below k (s.id + 1) ss next (omega arith) h.1
    go false is more =
        let up : s.id + 1 ≤ k = found_above name k (s.id + 1) ss next h.1 is in
        let other : (s.id == k) ≡ false = grind (arith, nat_tests) in
        ap (λ b. cond (not b) (s.id ∷ filter (λ i. not (i == k)) (map (λ (t : Listed). t.id) ss)) (filter (λ i. not (i == k)) (map (λ (t : Listed). t.id) ss))) other
        ∙ ap (λ is. s.id ∷ is) (more is)

-- with all of one id left out, the progress has its ids but this one
pub ids_filter : (k : ℕ) (ps : List Progress) → map (λ p. p.id) (filter (λ p. not (p.id == k)) ps) ≡ filter (λ i. not (i == k)) (map (λ p. p.id) ps)
ids_filter k [] = refl
ids_filter k (p ∷ ps) = go (p.id == k) (ids_filter k ps)
  where
    go : (b : Bool) → map (λ q. q.id) (filter (λ q. not (q.id == k)) ps) ≡ filter (λ i. not (i == k)) (map (λ q. q.id) ps)
        → map (λ (q : Progress). q.id) (cond (not b) (p ∷ filter (λ q. not (q.id == k)) ps) (filter (λ q. not (q.id == k)) ps)) ≡ cond (not b) (p.id ∷ filter (λ i. not (i == k)) (map (λ (q : Progress). q.id) ps)) (filter (λ i. not (i == k)) (map (λ (q : Progress). q.id) ps))
    go true more = more
    go false more = ap (λ is. p.id ∷ is) more

-- a change that keeps ids leaves the ids of the progress as they are
pub ids_changed : (k : ℕ) (f : Progress → Progress) → ((p : Progress) → (f p).id ≡ p.id) → (ps : List Progress) → map (λ p. p.id) (changed k f ps) ≡ map (λ p. p.id) ps
ids_changed k f keep [] = refl
ids_changed k f keep (p ∷ ps) = let one = alter_id k f keep p in let rest = ids_changed k f keep ps in ap (λ n. n ∷ map (λ (q : Progress). q.id) (changed k f ps)) one ∙ ap (λ ns. p.id ∷ ns) rest

-- where progress and listing have the same ids, they have the same with one more at each end, of one id
pub ids_end : (q : Progress) (s : Listed) → q.id ≡ s.id → (ps : List Progress) (ss : List Listed) → map (λ p. p.id) ps ≡ map (λ t. t.id) ss → map (λ p. p.id) (ps ++ q ∷ []) ≡ map (λ t. t.id) (ss ++ s ∷ [])
ids_end q s is ps ss h = mapped-end ps ∙ ap (λ ns. ns ++ q.id ∷ []) h ∙ ap (λ n. map (λ (t : Listed). t.id) ss ++ n ∷ []) is ∙ sym (listed-end ss)
  where
    mapped-end : (ps : List Progress) → map (λ (p : Progress). p.id) (ps ++ q ∷ []) ≡ map (λ (p : Progress). p.id) ps ++ q.id ∷ []
    mapped-end [] = refl
    mapped-end (p ∷ ps) = ap (λ ns. p.id ∷ ns) (mapped-end ps)

    listed-end : (ss : List Listed) → map (λ (t : Listed). t.id) (ss ++ s ∷ []) ≡ map (λ (t : Listed). t.id) ss ++ s.id ∷ []
    listed-end [] = refl
    listed-end (t ∷ ss) = ap (λ ns. t.id ∷ ns) (listed-end ss)
