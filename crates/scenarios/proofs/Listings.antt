-- Lists of scenarios: the scenarios that clauses see from a map's entries, and what each change keeps: an entry under a new key goes
-- last, and one taken out is a scenario taken out; names stay apart, and ids rise.
use Rattle.std.proofs.Common.{◌≡◌, ℕ, ◌+◌, ◌≤◌, ◌<◌, List, [], ◌∷◌, ◌++◌, length, map, Bool, true, false, is_some, Option, Some, None, option_map, refl, sym, ap, leb, ltb, arith, length-append}
use Rattle.std.specs.List.{AllByRecursion, AllZip}
use Rattle.std.specs.Str.{bytes_eq}
use Rattle.std.specs.Map.{lookup, remove_entry}
use Rattle.std.proofs.lemmas.Slice.Eq.{bytes_eq-Decides}
use Rattle.std.proofs.lemmas.Bool.Decides.{nat_tests}
use Rattle.indexmap.specs.IndexMap.{insert_entry}
use Rattle.scenarios.specs.Name.{is_name}
use Rattle.scenarios.specs.Scenario.{ScenarioView, IsScenario}
use Rattle.scenarios.specs.ScenarioList.{Listed, Listing, named, id_of, AreApart, IdsRise, IsListed, IsListing, add_fault, with_scenario, without, without_scenario}

abbrev V : Type 0
V = ℕ × ScenarioView

module _ {K : Type 0} (bytes : K → List ℕ) where
  -- the scenario of a map's entry: its name is the key's text
  abbrev pub row : K × V → Listed
  row e = record { name = bytes e.0; id = e.1.0; scenario = e.1.1 }

  -- the scenarios of a map's entries
  abbrev pub rows : List (K × V) → List Listed
  rows es = map row es

  -- the id under a name is that of the entry with this key
  pub id_of-rows : (name : List ℕ) (es : List (K × V)) → option_map (λ s. s.id) (named name (rows es)) ≡ option_map (λ v. v.0) (lookup (λ k. bytes_eq name (bytes k)) es)
  id_of-rows name [] = refl
  id_of-rows name (e ∷ es) = go (bytes_eq name (bytes e.0)) refl (id_of-rows name es)
    where
      go : (b : Bool) → bytes_eq name (bytes e.0) ≡ b → option_map (λ s. s.id) (named name (rows es)) ≡ option_map (λ v. v.0) (lookup (λ k. bytes_eq name (bytes k)) es) → option_map (λ s. s.id) (named name (rows (e ∷ es))) ≡ option_map (λ v. v.0) (lookup (λ k. bytes_eq name (bytes k)) (e ∷ es))
      go true t h = rw t refl
      go false t h = rw t h

  -- an entry taken out of the map is a scenario taken out of the list
  pub rows-remove_entry : (name : List ℕ) (es : List (K × V)) → rows (remove_entry (λ k. bytes_eq name (bytes k)) es) ≡ without name (rows es)
  rows-remove_entry name [] = refl
  rows-remove_entry name (e ∷ es) = go (bytes_eq name (bytes e.0)) refl (rows-remove_entry name es)
    where
      go : (b : Bool) → bytes_eq name (bytes e.0) ≡ b → rows (remove_entry (λ k. bytes_eq name (bytes k)) es) ≡ without name (rows es) → rows (remove_entry (λ k. bytes_eq name (bytes k)) (e ∷ es)) ≡ without name (rows (e ∷ es))
      go true t h = rw t refl
      go false t h = rw t (ap (λ l. row e ∷ l) h)

  -- an entry under a new key goes last
  pub rows-insert_entry : (name : List ℕ) (key : K) (v : V) → bytes key ≡ name → (es : List (K × V)) → is_some (option_map (λ s. s.id) (named name (rows es))) ≡ false → rows (insert_entry (λ a b. bytes_eq (bytes a) (bytes b)) es key v) ≡ rows es ++ record { name = name; id = v.0; scenario = v.1 } ∷ []
  rows-insert_entry name key v same [] h = rw same refl
  rows-insert_entry name key v same (e ∷ es) h = go (bytes_eq name (bytes e.0)) refl h (rows-insert_entry name key v same es)
    where
      go : (b : Bool) → bytes_eq name (bytes e.0) ≡ b → is_some (option_map (λ s. s.id) (named name (rows (e ∷ es)))) ≡ false → (is_some (option_map (λ s. s.id) (named name (rows es))) ≡ false → rows (insert_entry (λ a b. bytes_eq (bytes a) (bytes b)) es key v) ≡ rows es ++ record { name = name; id = v.0; scenario = v.1 } ∷ []) → rows (insert_entry (λ a b. bytes_eq (bytes a) (bytes b)) (e ∷ es) key v) ≡ rows (e ∷ es) ++ record { name = name; id = v.0; scenario = v.1 } ∷ []
      go true t h more = let found : true ≡ false = rw t at h in absurd (cc)
      go false t h more = let other : bytes_eq (bytes key) (bytes e.0) ≡ false = rw same t in rw other (ap (λ l. row e ∷ l) (more (rw t at h)))

  -- entries with the same texts and values are the same scenarios
  pub rows-same : (es fs : List (K × V)) → AllZip (λ p q. (bytes q.0 ≡ bytes p.0) × ((q.1.0 ≡ p.1.0) × (q.1.1 ≡ p.1.1))) es fs → rows fs ≡ rows es
  rows-same [] [] h = refl
  rows-same [] (f ∷ fs) h = absurd h
  rows-same (e ∷ es) [] h = absurd h
  rows-same (e ∷ es) (f ∷ fs) h = let rest = rows-same es fs h.1 in let text = h.0.0 in let id = h.0.1.0 in let scenario = h.0.1.1 in cc

-- bytes that the test does not find equal, it does not find equal the other way round
pub bytes_eq-swap : (a b : List ℕ) → bytes_eq a b ≡ false → bytes_eq b a ≡ false
bytes_eq-swap a b h = go (bytes_eq b a) refl
  where
    go : (v : Bool) → bytes_eq b a ≡ v → bytes_eq b a ≡ false
    go true e =
        let same = (bytes_eq-Decides b a).0 e in
        let there = (bytes_eq-Decides a b).1 (sym same) in
        absurd (cc)
    go false e = e

pub is_none-option_map : {A B : Type 0} (f : A → B) (o : Option A) → is_some (option_map f o) ≡ false → o ≡ None
is_none-option_map f None h = refl
is_none-option_map f (Some x) h = let wrong : true ≡ false = h in absurd (cc)

-- a name that isn't found among scenarios, and differs from that of one more behind them, isn't found with that one more either
pub named-append : (name : List ℕ) (ss : List Listed) (s : Listed) → named name ss ≡ None → bytes_eq name s.name ≡ false → named name (ss ++ s ∷ []) ≡ None
named-append name [] s h other = rw other refl
named-append name (t ∷ ss) s h other = go (bytes_eq name t.name) refl h (named-append name ss s)
  where
    go : (b : Bool) → bytes_eq name t.name ≡ b → named name (t ∷ ss) ≡ None → (named name ss ≡ None → bytes_eq name s.name ≡ false → named name (ss ++ s ∷ []) ≡ None) → named name ((t ∷ ss) ++ s ∷ []) ≡ None
    go true e h more = let wrong : Some t ≡ None = rw e at h in absurd (cc)
    go false e h more = rw e (more (rw e at h) other)

-- a name that isn't found isn't that of the first
pub named-first : (name : List ℕ) (t : Listed) (ss : List Listed) → named name (t ∷ ss) ≡ None → (bytes_eq name t.name ≡ false) × (named name ss ≡ None)
named-first name t ss h = go (bytes_eq name t.name) refl h
  where
    go : (b : Bool) → bytes_eq name t.name ≡ b → named name (t ∷ ss) ≡ None → (bytes_eq name t.name ≡ false) × (named name ss ≡ None)
    go true e h = let wrong : Some t ≡ None = rw e at h in absurd (cc)
    go false e h = (e, rw e at h)

pub AreApart-append : (ss : List Listed) (s : Listed) → AreApart ss → named s.name ss ≡ None → AreApart (ss ++ s ∷ [])
AreApart-append [] s apart new = (refl, tt)
AreApart-append (t ∷ ss) s apart new =
    let first = named-first s.name t ss new in
    (named-append t.name ss s apart.0 (bytes_eq-swap s.name t.name first.0), AreApart-append ss s apart.1 first.1)

named-without : (name other : List ℕ) (ss : List Listed) → named name ss ≡ None → named name (without other ss) ≡ None
named-without name other [] h = refl
named-without name other (t ∷ ss) h = go (bytes_eq other t.name) refl (named-first name t ss h) (named-without name other ss)
  where
    go : (b : Bool) → bytes_eq other t.name ≡ b → (bytes_eq name t.name ≡ false) × (named name ss ≡ None) → (named name ss ≡ None → named name (without other ss) ≡ None) → named name (without other (t ∷ ss)) ≡ None
    go true e first more = rw e first.1
    go false e first more = let apart = first.0 in rw (e, apart) (more first.1)

pub AreApart-without : (name : List ℕ) (ss : List Listed) → AreApart ss → AreApart (without name ss)
AreApart-without name [] apart = tt
AreApart-without name (t ∷ ss) apart = go (bytes_eq name t.name) refl (AreApart-without name ss apart.1)
  where
    go : (b : Bool) → bytes_eq name t.name ≡ b → AreApart (without name ss) → AreApart (without name (t ∷ ss))
    go true e more = rw e apart.1
    go false e more = rw e (named-without t.name name ss apart.0, more)

pub IdsRise-append : (first : ℕ) (ss : List Listed) (next : ℕ) (s : Listed) → s.id ≡ next → IdsRise first ss next → IdsRise first (ss ++ s ∷ []) (next + 1)
IdsRise-append first [] next s is h = (omega (arith, h, is), omega (arith, is))
IdsRise-append first (t ∷ ss) next s is h = (h.0, IdsRise-append (t.id + 1) ss next s is h.1)

IdsRise-lower : (low first : ℕ) (ss : List Listed) (next : ℕ) → low ≤ first → IdsRise first ss next → IdsRise low ss next
IdsRise-lower low first [] next le h = omega (arith, le, h)
IdsRise-lower low first (t ∷ ss) next le h = (omega (arith, le, h.0), h.1)

pub IdsRise-without : (name : List ℕ) (first : ℕ) (ss : List Listed) (next : ℕ) → IdsRise first ss next → IdsRise first (without name ss) next
IdsRise-without name first [] next h = h
IdsRise-without name first (t ∷ ss) next h = go (bytes_eq name t.name) refl (IdsRise-without name (t.id + 1) ss next h.1)
  where
    go : (b : Bool) → bytes_eq name t.name ≡ b → IdsRise (t.id + 1) (without name ss) next → IdsRise first (without name (t ∷ ss)) next
    go true e more = rw e (IdsRise-lower first (t.id + 1) ss next (omega (arith, h.0)) h.1)
    go false e more = rw e (h.0, more)

-- the next id is at least the one that the ids rise from
pub next-positive : (first : ℕ) (ss : List Listed) (next : ℕ) → IdsRise first ss next → first ≤ next
next-positive first [] next h = h
next-positive first (t ∷ ss) next h = let more = next-positive (t.id + 1) ss next h.1 in omega (arith, h.0, more)

pub all-append : {X : Type 0} (P : X → Type 0) (xs : List X) (x : X) → AllByRecursion P xs → P x → AllByRecursion P (xs ++ x ∷ [])
all-append P [] x all h = (h, tt)
all-append P (y ∷ xs) x all h = (all.0, all-append P xs x all.1 h)

pub all-without : (P : Listed → Type 0) (name : List ℕ) (ss : List Listed) → AllByRecursion P ss → AllByRecursion P (without name ss)
all-without P name [] all = tt
all-without P name (t ∷ ss) all = go (bytes_eq name t.name) refl (all-without P name ss all.1)
  where
    go : (b : Bool) → bytes_eq name t.name ≡ b → AllByRecursion P (without name ss) → AllByRecursion P (without name (t ∷ ss))
    go true e more = rw e all.1
    go false e more = rw e (all.0, more)

length-without : (name : List ℕ) (ss : List Listed) → length (without name ss) ≤ length ss
length-without name [] = omega arith
length-without name (t ∷ ss) = go (bytes_eq name t.name) refl (length-without name ss)
  where
    go : (b : Bool) → bytes_eq name t.name ≡ b → length (without name ss) ≤ length ss → length (without name (t ∷ ss)) ≤ length (t ∷ ss)
    go true e more = rw e (omega arith)
    go false e more = rw e (omega arith)

pub record CanAdd (name : List ℕ) (list : Listing) : Type 0 where
  pub called : is_name name ≡ true
  pub new : is_some (id_of name list) ≡ false
  pub capacity : length list.scenarios < 64
  pub last : list.next ≤ 4294967295

-- where there is no fault, the name is a name and new, and the list has capacity and an id left
pub can_add : (name : List ℕ) (list : Listing) → add_fault name list ≡ None → CanAdd name list
can_add name list h = go (is_name name) refl (is_some (id_of name list)) refl (leb 64 (length list.scenarios)) refl (ltb 4294967295 list.next) refl h
  where
    go : (a : Bool) → is_name name ≡ a → (b : Bool) → is_some (id_of name list) ≡ b → (c : Bool) → leb 64 (length list.scenarios) ≡ c → (d : Bool) → ltb 4294967295 list.next ≡ d → add_fault name list ≡ None → CanAdd name list
    go false ea b eb c ec d ed h = absurd (grind (arith, nat_tests))
    go true ea true eb c ec d ed h = absurd (grind (arith, nat_tests))
    go true ea false eb true ec d ed h = absurd (grind (arith, nat_tests))
    go true ea false eb false ec true ed h = absurd (grind (arith, nat_tests))
    go true ea false eb false ec false ed h = record { called = ea; new = eb; capacity = grind (arith, nat_tests); last = grind (arith, nat_tests) }

-- a listing stays one with a scenario more that can be added
pub IsListing-with : (name : List ℕ) (scenario : ScenarioView) (list : Listing) → IsListing list → CanAdd name list → IsScenario scenario → IsListing (with_scenario name scenario list)
IsListing-with name scenario list is can set = record {
  listed = all-append IsListed list.scenarios _ is.listed (record { called = can.called; scenario = set });
  apart = AreApart-append list.scenarios _ is.apart (is_none-option_map (λ (s : Listed). s.id) (named name list.scenarios) can.new);
  ids = IdsRise-append 1 list.scenarios list.next _ refl is.ids;
  capacity = simp length-append (let capacity = can.capacity in omega arith);
  last = let last = can.last in omega arith;
}

-- a listing stays one without the scenario of a name
pub IsListing-without : (name : List ℕ) (list : Listing) → IsListing list → IsListing (without_scenario name list)
IsListing-without name list is = record {
  listed = all-without IsListed name list.scenarios is.listed;
  apart = AreApart-without name list.scenarios is.apart;
  ids = IdsRise-without name 1 list.scenarios list.next is.ids;
  capacity = let fewer = length-without name list.scenarios in let capacity = is.capacity in omega arith;
  last = is.last;
}
