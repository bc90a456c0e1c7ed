-- Where seconds rise, those that come no later than a second stand in front; and what stands at a place of stretches.
use Rattle.std.proofs.Common.{◌≡◌, ℕ, zero, suc, ◌+◌, ◌≤◌, ◌<◌, Bool, true, false, cond, not, ◌&&◌, nat_le, nat_lt, List, [], ◌∷◌, length, map, filter, slice_index_or, Option, Some, None, arith, refl, sym, ap, ◌∙◌, ⊎_elim}
use Rattle.std.specs.Prelude.{◌↔◌, is_none}
use Rattle.std.specs.List.{filter_map, cons_option}
use Rattle.std.specs.List.Sorted.{IsNonDecreasing}
use Rattle.std.specs.Option.{option_map}
use Rattle.std.proofs.lemmas.Bool.{cases_lt, cond-true, cond-false, le-leb, lt-leb, lt-ltb, le-ltb, true≢false}
use Rattle.std.proofs.lemmas.List.Sums.{sum_by-cons, count_by-le-length}
use Rattle.frames.specs.Frames.{standing_at, stands}
use Rattle.frames.specs.declared.stretch.Stretch.{Stretch}
use Rattle.timeline.specs.Stretches.{place_after, standing_in}

come : (t x : ℕ) (xs : List ℕ) → x ≤ t → place_after (x ∷ xs) t ≡ place_after xs t + 1
come t x xs l =
    let k = sum_by-cons (λ y. cond {A = ℕ} (nat_le y t) 1 0) x xs in
    let one = cond-true {A = ℕ} (nat_le x t) 1 0 (le-leb x t l) in
    omega (arith, k, one)

late : (t x : ℕ) (xs : List ℕ) → t < x → place_after (x ∷ xs) t ≡ place_after xs t
late t x xs l =
    let k = sum_by-cons (λ y. cond {A = ℕ} (nat_le y t) 1 0) x xs in
    let none = cond-false {A = ℕ} (nat_le x t) 1 0 (lt-leb x t l) in
    omega (arith, k, none)

all-late : (t : ℕ) (xs : List ℕ) → ((i : ℕ) → i < length xs → t < slice_index_or xs i 0) → place_after xs t ≡ 0
all-late t [] h = refl
all-late t (x ∷ xs) h = late t x xs (h 0 (omega arith)) ∙ all-late t xs (λ i l. h (suc i) (omega (arith, l)))

pub reached : (t : ℕ) (xs : List ℕ) (i : ℕ) → IsNonDecreasing xs → i < length xs → (i < place_after xs t) ↔ (slice_index_or xs i 0 ≤ t)
reached t [] i h l = absurd (omega (arith, l))
reached t (x ∷ xs) i h l =
    ⊎_elim
    (λ (m : t < x).
    let none = all-late t (x ∷ xs) (λ j k. (let r = h 0 j 0 (omega arith) k in omega (arith, r, m))) in
    let first = h 0 i 0 (omega arith) l in
    ((λ k. absurd (omega (arith, k, none))), (λ k. absurd (omega (arith, k, m, first)))))
    (λ (m : x ≤ t). go i l m (λ k n. reached t xs k (λ a b d u v. h (suc a) (suc b) d (omega (arith, u)) (omega (arith, v))) n))
    (cases_lt t x)
  where
    go : (k : ℕ) → k < length (x ∷ xs) → x ≤ t → ((j : ℕ) → j < length xs → (j < place_after xs t) ↔ (slice_index_or xs j 0 ≤ t)) → (k < place_after (x ∷ xs) t) ↔ (slice_index_or (x ∷ xs) k 0 ≤ t)
    go zero n m r = let c = come t x xs m in ((λ _. m), (λ _. omega (arith, c)))
    go (suc k) n m r =
        let c = come t x xs m in
        let rest = r k (omega (arith, n)) in
        ((λ p. rest.0 (omega (arith, p, c))), (λ p. let q = rest.1 p in omega (arith, q, c)))

-- where seconds rise, a place with all before it up to t, and all from it on later than t, is the place of the first that comes later than t
pub parted : (t : ℕ) (xs : List ℕ) (n : ℕ) → IsNonDecreasing xs → n ≤ length xs → ((k : ℕ) → k < n → slice_index_or xs k 0 ≤ t) → ((k : ℕ) → n ≤ k → k < length xs → t < slice_index_or xs k 0) → n ≡ place_after xs t
parted t xs n h l before behind =
    let c = count_by-le-length (λ y. nat_le y t) xs in
    ⊎_elim
    (λ (m : n < place_after xs t). absurd (let r = (reached t xs n h (omega (arith, m, c))).0 m in let b = behind n (omega arith) (omega (arith, m, c)) in omega (arith, r, b)))
    (λ (m : place_after xs t ≤ n).
    ⊎_elim
    (λ (k : place_after xs t < n). absurd (let r = (reached t xs (place_after xs t) h (omega (arith, k, l))).1 (before (place_after xs t) k) in omega (arith, r)))
    (λ (k : n ≤ place_after xs t). omega (arith, m, k))
    (cases_lt (place_after xs t) n))
    (cases_lt n (place_after xs t))

-- seconds that rise, with second t at this place
pub record IsAt (seconds : List ℕ) (place t : ℕ) : Type 0 where
  pub rising : IsNonDecreasing seconds
  pub within : place < length seconds
  pub second : slice_index_or seconds place 0 ≡ t

-- the place of t is before that of the first second later than u just where t comes no later than u
pub within-first : (seconds : List ℕ) (place t u : ℕ) → IsAt seconds place t → nat_lt place (place_after seconds u) ≡ nat_le t u
within-first seconds place t u h =
    let r = reached u seconds place h.rising h.within in
    let s = h.second in
    ⊎_elim
    (λ (l : place < place_after seconds u). lt-ltb place (place_after seconds u) l ∙ sym (le-leb t u (let k = r.0 l in omega (arith, k, s))))
    (λ (l : place_after seconds u ≤ place).
    let later : u < t = ⊎_elim (λ (m : u < t). m) (λ (m : t ≤ u). absurd (let k = r.1 (omega (arith, m, s)) in omega (arith, k, l))) (cases_lt u t) in
    le-ltb place (place_after seconds u) l ∙ sym (lt-leb t u later))
    (cases_lt place (place_after seconds u))

-- the place of t is that of the first second later than u, or a later one, just where t comes later than u
pub behind-first : (seconds : List ℕ) (place t u : ℕ) → IsAt seconds place t → nat_le (place_after seconds u) place ≡ nat_lt u t
behind-first seconds place t u h =
    let r = reached u seconds place h.rising h.within in
    let s = h.second in
    ⊎_elim
    (λ (l : place < place_after seconds u). lt-leb (place_after seconds u) place l ∙ sym (le-ltb u t (let k = r.0 l in omega (arith, k, s))))
    (λ (l : place_after seconds u ≤ place).
    let later : u < t = ⊎_elim (λ (m : u < t). m) (λ (m : t ≤ u). absurd (let k = r.1 (omega (arith, m, s)) in omega (arith, k, l))) (cases_lt u t) in
    le-leb (place_after seconds u) place l ∙ sym (lt-ltb u t later))
    (cases_lt place (place_after seconds u))

-- a second comes no later than another just where the other does not come before it
pub not-yet : (t u : ℕ) → nat_le t u ≡ not (nat_lt u t)
not-yet t u =
    ⊎_elim
    (λ (l : u < t). lt-leb t u l ∙ sym (ap not (lt-ltb u t l)))
    (λ (l : t ≤ u). le-leb t u l ∙ sym (ap not (le-ltb u t l)))
    (cases_lt u t)

-- where the second test holds, both hold just where the first does
pub first-of : (a b c : Bool) → a ≡ c → b ≡ true → (a && b) ≡ c
first-of true b c e f = f ∙ e
first-of false b c e f = e

-- where the second test fails, both together fail
pub neither : (a b : Bool) → b ≡ false → (a && b) ≡ false
neither true b f = f
neither false b f = refl

-- to be submitted and not started, by a test, is to have no start, where the start counts by that test, and to be submitted
pub unless-started : (q a b c : Bool) (start : ℕ) → a ≡ c → b ≡ not q → (a && b) ≡ (is_none (cond q (Some start) None) && c)
unless-started true a b c start e f = neither a b f
unless-started false a b c start e f = first-of a b c e f

module _ {X Y : Type 0} where
  -- where each element makes a stretch, and just those that pass stand at a place, the items of those that pass stand there
  pub standing-map : (place : ℕ) (p : X → Bool) (f : X → Y) (g : X → Stretch Y) → ((x : X) → (g x).item ≡ f x) → ((x : X) → stands place (g x) ≡ p x) → (xs : List X)
      → map f (filter p xs) ≡ standing_at place (map g xs)
  standing-map place p f g same here [] = refl
  standing-map place p f g same here (x ∷ xs) = go (stands place (g x)) (p x) (here x) (same x) (standing-map place p f g same here xs)
    where
      go : (a b : Bool) → a ≡ b → (g x).item ≡ f x → map f (filter p xs) ≡ standing_at place (map g xs)
          → map f (cond b (x ∷ filter p xs) (filter p xs)) ≡ map (λ (s : Stretch Y). s.item) (cond a (g x ∷ filter (stands place) (map g xs)) (filter (stands place) (map g xs)))
      go true true e i rest = ap (λ (y : Y). y ∷ map f (filter p xs)) (sym i) ∙ ap (λ (l : List Y). (g x).item ∷ l) rest
      go false false e i rest = rest
      go true false e i rest = absurd (true≢false e)
      go false true e i rest = absurd (true≢false (sym e))

  -- where some elements make a stretch, what stands at a place is what stands there of each one's
  pub standing-filter_map : (place : ℕ) (h : X → Option Y) (g : X → Option (Stretch Y)) → ((x : X) → standing_in place (g x) ≡ h x) → (xs : List X)
      → filter_map h xs ≡ standing_at place (filter_map g xs)
  standing-filter_map place h g here [] = refl
  standing-filter_map place h g here (x ∷ xs) =
      ap (λ o. cons_option o (filter_map h xs)) (sym (here x)) ∙ go (g x) (standing-filter_map place h g here xs)
    where
      with_one : (s : Stretch Y) (b : Bool) → filter_map h xs ≡ standing_at place (filter_map g xs)
          → cons_option (cond b (Some s.item) None) (filter_map h xs) ≡ map (λ (s : Stretch Y). s.item) (cond b (s ∷ filter (stands place) (filter_map g xs)) (filter (stands place) (filter_map g xs)))
      with_one s true rest = ap (λ (l : List Y). s.item ∷ l) rest
      with_one s false rest = rest

      go : (o : Option (Stretch Y)) → filter_map h xs ≡ standing_at place (filter_map g xs) → cons_option (standing_in place o) (filter_map h xs) ≡ standing_at place (cons_option o (filter_map g xs))
      go None rest = rest
      go (Some s) rest = with_one s (stands place s) rest

-- to make something of some elements and then change it is to make it changed
pub map-filter_map : {X Y Z : Type 0} (f : Y → Z) (g : X → Option Y) (xs : List X) → map f (filter_map g xs) ≡ filter_map (λ x. option_map f (g x)) xs
map-filter_map f g [] = refl
map-filter_map {X} {Y} {Z} f g (x ∷ xs) = go (g x) (map-filter_map f g xs)
  where
    go : (o : Option Y) → map f (filter_map g xs) ≡ filter_map (λ x. option_map f (g x)) xs → map f (cons_option o (filter_map g xs)) ≡ cons_option (option_map f o) (filter_map (λ x. option_map f (g x)) xs)
    go None rest = rest
    go (Some y) rest = ap (λ (l : List Z). f y ∷ l) rest
