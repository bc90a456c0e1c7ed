-- What is written, part after part: the texts of the parts up to one of them, a failure in one of them, and a fact that holds of each part
-- that was written.
use Rattle.std.proofs.Common.{◌≡◌, ℕ, zero, suc, ◌+◌, ◌<◌, ◌≤◌, List, [], ◌∷◌, ◌++◌, length, get_or, take, drop, map, min, Option, Result, Ok, Err, ℤ, pos, refl, sym, ap, subst, ◌∙◌, append_assoc, arith}
use Rattle.std.specs.Prelude.{nat_abs}
use Rattle.std.specs.List.{flat_map, AllByRecursion}
use Rattle.std.specs.Io.KnownBytes.{Appends, Keeps}
use Rattle.std.proofs.KnownBytes.{Appends-trans, Appends-kept}
use Rattle.std.proofs.Math.Seq.{take-add, take-append-add}
use Rattle.std.proofs.lemmas.List.{take_all, take_more, take_min, take-append-le, append-nil, map-append, flat_map_more}
use Rattle.swf_text.specs.Number.{greatest}
use Rattle.swf_text.specs.Entry.{AreFields}
use Rattle.swf_text.specs.Writing.{Writes}

-- a write of the bytes from n on goes on after the first n
pub appends_more : (a b c : Option (List ℕ)) (n k : ℕ) (bytes : List ℕ) → Appends a b (take n bytes) → Appends b c (take k (drop n bytes)) → Appends a c (take (n + k) bytes)
appends_more a b c n k bytes p q = subst (Appends a c) (sym (take-add n k bytes)) (Appends-trans a b c (take n bytes) (take k (drop n bytes)) p q)

pub front_kept : (a b c : Option (List ℕ)) (n : ℕ) (bytes : List ℕ) → Appends a b (take n bytes) → Keeps b c → (k : ℕ) × Appends a c (take k bytes)
front_kept a b c n bytes p q = (n, Appends-kept a b c (take n bytes) p q)

-- a failure in a part is one in the whole
pub front_more : (a b : Option (List ℕ)) (xs ys : List ℕ) → (n : ℕ) × Appends a b (take n xs) → (n : ℕ) × Appends a b (take n (xs ++ ys))
front_more a b xs ys q =
    let n = min q.0 (length xs) in
    let same : take n (xs ++ ys) ≡ take q.0 xs = take-append-le n xs ys (omega arith) ∙ take_min q.0 xs in
    (n, subst (Appends a b) (sym same) q.1)

-- and so is one in a later part
pub front_after : (a b c : Option (List ℕ)) (xs ys : List ℕ) → Appends a b xs → (n : ℕ) × Appends b c (take n ys) → (n : ℕ) × Appends a c (take n (xs ++ ys))
front_after a b c xs ys p q = (length xs + q.0, subst (Appends a c) (sym (take-append-add xs ys q.0)) (Appends-trans a b c xs (take q.0 ys) p q.1))

-- what is written after bytes that were appended is written together with them
pub writes_then : {X E : Type 0} (r : Result X E) (a b c : Option (List ℕ)) (xs ys : List ℕ) → Appends a b xs → Writes r b c ys → Writes r a c (xs ++ ys)
writes_then (Ok x) a b c xs ys p q = Appends-trans a b c xs ys p q
writes_then (Err e) a b c xs ys p q = front_after a b c xs ys p q

module _ {X Y : Type 0} (f : Y → List ℕ) (v : X → Y) where
  pub texts_more : (xs : List X) (i : ℕ) (d : X) → i < length xs → flat_map f (map v (take (i + 1) xs)) ≡ flat_map f (map v (take i xs)) ++ f (v (get_or xs i d))
  texts_more xs i d lt = ap (λ (l : List X). flat_map f (map v l)) (take_more xs i d lt) ∙ ap (flat_map f) (map-append v (take i xs) (get_or xs i d ∷ [])) ∙ sym (flat_map_more f [] (map v (take i xs)) (v (get_or xs i d)))

  pub texts_front : (xs : List X) (i : ℕ) (d : X) → i < length xs → flat_map f (map v xs) ≡ flat_map f (map v (take i xs)) ++ (f (v (get_or xs i d)) ++ flat_map f (map v (drop (suc i) xs)))
  texts_front [] i d lt = absurd (omega arith)
  texts_front (x ∷ xs) zero d lt = refl
  texts_front (x ∷ xs) (suc i) d lt = ap (λ (l : List ℕ). f (v x) ++ l) (texts_front xs i d (omega arith)) ∙ sym (append_assoc (f (v x)) (flat_map f (map v (take i xs))) _)

  pub texts_stop : (a b c : Option (List ℕ)) (front back : List ℕ) (xs : List X) (i : ℕ) (d : X) → i < length xs → Appends a b (front ++ flat_map f (map v (take i xs))) → (n : ℕ) × Appends b c (take n (f (v (get_or xs i d)))) → (n : ℕ) × Appends a c (take n (front ++ (flat_map f (map v xs) ++ back)))
  texts_stop a b c front back xs i d lt p q =
      let done = front ++ flat_map f (map v (take i xs)) in
      let here = f (v (get_or xs i d)) in
      let rest = flat_map f (map v (drop (suc i) xs)) in
      let whole : front ++ (flat_map f (map v xs) ++ back) ≡ done ++ (here ++ (rest ++ back)) =
      ap (λ (l : List ℕ). front ++ (l ++ back)) (texts_front xs i d lt) ∙ simp append_assoc in
      subst (λ (l : List ℕ). (n : ℕ) × Appends a c (take n l)) (sym whole) (front_after a b c done (here ++ (rest ++ back)) p (front_more b c here (rest ++ back) q))

  -- the same where nothing comes after the parts, and the write was of bytes that are the part's text
  pub texts_stop_last : (a b c : Option (List ℕ)) (front : List ℕ) (xs : List X) (i : ℕ) (x : X) (bytes : List ℕ) → i < length xs → x ≡ get_or xs i x → bytes ≡ f (v x) → Appends a b (front ++ flat_map f (map v (take i xs))) → (n : ℕ) × Appends b c (take n bytes) → (n : ℕ) × Appends a c (take n (front ++ flat_map f (map v xs)))
  texts_stop_last a b c front xs i x bytes lt here is p q =
      let part : (n : ℕ) × Appends b c (take n (f (v (get_or xs i x)))) = subst (λ (l : List ℕ). (n : ℕ) × Appends b c (take n l)) (is ∙ ap (λ (y : X). f (v y)) here) q in
      subst (λ (l : List ℕ). (n : ℕ) × Appends a c (take n l)) (ap (λ (l : List ℕ). front ++ l) (append-nil (flat_map f (map v xs)))) (texts_stop a b c front [] xs i x lt p part)

  -- one part more
  pub texts_grow : (a b c : Option (List ℕ)) (front : List ℕ) (xs : List X) (i : ℕ) (x : X) (bytes : List ℕ) → i < length xs → x ≡ get_or xs i x → bytes ≡ f (v x) → Appends a b (front ++ flat_map f (map v (take i xs))) → Appends b c bytes → Appends a c (front ++ flat_map f (map v (take (i + 1) xs)))
  texts_grow a b c front xs i x bytes lt here is p q =
      let part : Appends b c (f (v (get_or xs i x))) = subst (Appends b c) (is ∙ ap (λ (y : X). f (v y)) here) q in
      let whole : (front ++ flat_map f (map v (take i xs))) ++ f (v (get_or xs i x)) ≡ front ++ flat_map f (map v (take (i + 1) xs)) =
      append_assoc front (flat_map f (map v (take i xs))) (f (v (get_or xs i x))) ∙ ap (λ (l : List ℕ). front ++ l) (sym (texts_more xs i x lt)) in
      subst (Appends a c) whole (Appends-trans a b c (front ++ flat_map f (map v (take i xs))) (f (v (get_or xs i x))) p part)

all_end : {X : Type 0} (P : X → Type 0) (xs : List X) (x : X) → AllByRecursion P xs → P x → AllByRecursion P (xs ++ x ∷ [])
all_end P [] x h p = (p, tt)
all_end P (y ∷ ys) x h p = (h.0, all_end P ys x h.1 p)

-- a fact on the first i parts and on the next one holds of the first i + 1
pub all_more : {X Y : Type 0} (P : Y → Type 0) (v : X → Y) (xs : List X) (i : ℕ) (d : X) → i < length xs → AllByRecursion P (map v (take i xs)) → P (v (get_or xs i d)) → AllByRecursion P (map v (take (i + 1) xs))
all_more P v xs i d lt h p =
    let e : map v (take (i + 1) xs) ≡ map v (take i xs) ++ v (get_or xs i d) ∷ [] = ap (map v) (take_more xs i d lt) ∙ map-append v (take i xs) (get_or xs i d ∷ []) in
    subst (AllByRecursion P) (sym e) (all_end P (map v (take i xs)) (v (get_or xs i d)) h p)

all_whole : {X Y : Type 0} (P : Y → Type 0) (v : X → Y) (xs : List X) (i : ℕ) → length xs ≤ i → AllByRecursion P (map v (take i xs)) → AllByRecursion P (map v xs)
all_whole {X = X} P v xs i le h = subst (λ (l : List X). AllByRecursion P (map v l)) (take_all i xs le) h

all_same : {X : Type 0} (P : X → Type 0) (xs : List X) → AllByRecursion P (map (λ x. x) xs) → AllByRecursion P xs
all_same P [] h = tt
all_same P (x ∷ xs) h = (h.0, all_same P xs h.1)

-- the eighteen values of a line, by its first and the others
pub fields_within : (values others : List ℤ) (i : ℕ) → length values ≡ 18 → others ≡ drop 1 values → length others ≤ i → nat_abs (get_or values 0 (pos 0)) ≤ greatest → AllByRecursion (λ (v : ℤ). nat_abs v ≤ greatest) (map (λ (v : ℤ). v) (take i others)) → AreFields values
fields_within [] others i count is done first rest = absurd (omega arith)
fields_within (v ∷ vs) others i count is done first rest = record {
  eighteen = count;
  within = (first, subst (AllByRecursion (λ (z : ℤ). nat_abs z ≤ greatest)) is (all_same (λ (z : ℤ). nat_abs z ≤ greatest) others (all_whole (λ (z : ℤ). nat_abs z ≤ greatest) (λ (z : ℤ). z) others i done rest)));
}

-- a fact on each of the first i parts, where there are no more, holds of all
pub all_read : {X : Type 0} (P : X → Type 0) (xs ys : List X) (i : ℕ) → length xs ≤ i → xs ≡ ys → AllByRecursion P (map (λ x. x) (take i xs)) → AllByRecursion P ys
all_read P xs ys i le is h = subst (AllByRecursion P) is (all_same P xs (all_whole P (λ x. x) xs i le h))

-- a list with each element mapped to itself is the list
pub map_same : {X : Type 0} (xs : List X) → map (λ x. x) xs ≡ xs
map_same [] = refl
map_same {X = X} (x ∷ xs) = ap (λ (l : List X). x ∷ l) (map_same xs)

-- the first i elements of a list, each mapped to itself, are the list, where it has no more
pub map_whole : {X : Type 0} (xs : List X) (i : ℕ) → length xs ≤ i → map (λ x. x) (take i xs) ≡ xs
map_whole xs i le = map_same (take i xs) ∙ take_all i xs le
