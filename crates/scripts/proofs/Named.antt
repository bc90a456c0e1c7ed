-- Scenarios by their names, what a book shows of them, and a search by name, place after place.
use Rattle.std.proofs.Common.{◌≡◌, ℕ, ◌+◌, ◌≤◌, List, [], ◌∷◌, drop, length, suc, zero, refl, sym, ◌∙◌, ap, subst, Bool, true, false, cond, arith}
use Rattle.std.specs.Prelude.{Option, None, Some, slice_get}
use Rattle.std.specs.Option.{option_map}
use Rattle.std.proofs.Math.ListN.{drop_of_length-le}
use Rattle.std.proofs.lemmas.Slice.Eq.{bytes_eq-Decides}
use Rattle.scenarios.specs.ScenarioList.{Listed, has_name, named}

-- where no id is found, no scenario is
pub id-none : (o : Option Listed) → None ≡ option_map (λ (s : Listed). s.id) o → o ≡ None
id-none None is = refl
id-none (Some s) is = cc

-- where an id is found, it is that of a scenario that is found
pub id-some : (o : Option Listed) (id : ℕ) → Some id ≡ option_map (λ (s : Listed). s.id) o → (s : Listed) × (o ≡ Some s) × (id ≡ s.id)
id-some None id is = cc
id-some (Some s) id is = (s, refl, cc)

name-here : (name : List ℕ) (s t : Listed) (ss : List Listed) (b : Bool) → has_name name s ≡ b → (named name ss ≡ Some t → t.name ≡ name) → cond b (Some s) (named name ss) ≡ Some t → t.name ≡ name
name-here name s t ss true has later is =
    let same : s ≡ t = cc in
    subst (λ (u : Listed). u.name ≡ name) same (sym ((bytes_eq-Decides name s.name).0 has))
name-here name s t ss false has later is = later is

-- the scenario that a name finds has this name
pub name-found : (name : List ℕ) (t : Listed) (ss : List Listed) → named name ss ≡ Some t → t.name ≡ name
name-found name t [] is = cc
name-found name t (s ∷ ss) is = name-here name s t ss (has_name name s) refl (name-found name t ss) is

place-here : (name : List ℕ) (s t : Listed) (ss : List Listed) (b : Bool) → (named name ss ≡ Some t → (k : ℕ) × (slice_get ss k ≡ Some t)) → cond b (Some s) (named name ss) ≡ Some t → (k : ℕ) × (slice_get (s ∷ ss) k ≡ Some t)
place-here name s t ss true later is = (0, is)
place-here name s t ss false later is = let more = later is in (suc more.0, more.1)

-- the scenario that a name finds stands at a place of the list
pub place-of : (name : List ℕ) (t : Listed) (ss : List Listed) → named name ss ≡ Some t → (k : ℕ) × (slice_get ss k ≡ Some t)
place-of name t [] is = cc
place-of name t (s ∷ ss) is = place-here name s t ss (has_name name s) (place-of name t ss) is

skips : (name : List ℕ) (ss : List Listed) (k : ℕ) (s : Listed) → slice_get ss k ≡ Some s → has_name name s ≡ false → named name (drop k ss) ≡ named name (drop (suc k) ss)
skips name [] k s is no_name = cc
skips name (t ∷ ss) zero s is no_name =
    let same : t ≡ s = cc in
    ap (λ (b : Bool). cond b (Some t) (named name ss)) (subst (λ (u : Listed). has_name name u ≡ false) (sym same) no_name)
skips name (t ∷ ss) (suc k) s is no_name = skips name ss k s is no_name

-- where the scenario at a place hasn't the name, a search from there on finds what one from the next place on finds
pub not-here : (name : List ℕ) (ss : List Listed) (k : ℕ) (s : Listed) → slice_get ss k ≡ Some s → has_name name s ≡ false → named name (drop k ss) ≡ named name (drop (k + 1) ss)
not-here name ss k s is no_name =
    let e : suc k ≡ k + 1 = omega arith in
    skips name ss k s is no_name ∙ ap (λ (n : ℕ). named name (drop n ss)) e

-- where the scenario at a place has the name, a search from there on finds it
pub is-here : (name : List ℕ) (ss : List Listed) (k : ℕ) (s : Listed) → slice_get ss k ≡ Some s → has_name name s ≡ true → named name (drop k ss) ≡ Some s
is-here name [] k s is has = cc
is-here name (t ∷ ss) zero s is has =
    let same : t ≡ s = cc in
    ap (λ (b : Bool). cond b (Some t) (named name ss)) (subst (λ (u : Listed). has_name name u ≡ true) (sym same) has) ∙ is
is-here name (t ∷ ss) (suc k) s is has = is-here name ss k s is has

-- a search from behind the last scenario finds none
pub none-left : (name : List ℕ) (ss : List Listed) (k : ℕ) → length ss ≤ k → named name (drop k ss) ≡ None
none-left name ss k le = ap (λ (us : List Listed). named name us) (drop_of_length-le ss le)
