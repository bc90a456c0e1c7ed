-- The bytes of a line of numbers that is written, none of which is a line feed, a carriage return or above 127, and what it and a comment
-- are read as.
use Rattle.std.proofs.Common.{◌≡◌, ℕ, zero, suc, ◌+◌, ◌-◌, ◌*◌, ◌/◌, ◌%◌, ◌<◌, ◌≤◌, Bool, true, false, cond, eqb, ltb, leb, ◌&&◌, ◌||◌, List, [], ◌∷◌, ◌++◌, length, get_or, drop, map, Some, None, Ok, ℤ, refl, ap, subst, ◌∙◌, arith}
use Rattle.std.specs.Prelude.{nat_abs}
use Rattle.std.specs.List.{AllByRecursion, flat_map, list_all, list_any, suffix_len, prefix_len}
use Rattle.std.specs.Fmt.{decimal as decimal_text}
use Rattle.std.proofs.lemmas.Fmt.{length-decimal-le}
use Rattle.std.proofs.lemmas.Grind.{common_steps}
use Rattle.std.proofs.lemmas.Bool.{le-ltb}
use Rattle.std.proofs.lemmas.List.{take_all, length-append, length-take, length-map}
use Rattle.std.proofs.lemmas.List.Sums.{suffix_len_is}
use Rattle.std.proofs.lemmas.List.Folds.{list_all-append}
use Rattle.swf_text.specs.Entry.{AreFields}
use Rattle.swf_text.specs.declared.line.LineRead.{LineRead}
use Rattle.swf_text.specs.declared.line.LineRead.TheVariants as read
use Rattle.swf_text.specs.Number.{canonical, canonical_parts, greatest, sign_text, fraction_text, without_zeros, six_digits, is_zero}
use Rattle.swf_text.specs.Line.{is_blank, is_return, is_high, without_returns, from_first, fields, values_from, job_of_values, job_line, line_by_front, line_of, IsReadAs}
use Rattle.swf_text.specs.Text.{is_feed}
use Rattle.swf_text.specs.Scan.{ends}
use Rattle.swf_text.specs.Comment.{IsComment}
use Rattle.swf_text.specs.Writing.{spaced}
use Rattle.swf_text.proofs.Numbers.{and_first, and_second}
use Rattle.swf_text.proofs.Plains.{is_plain, plain_no_blank, spelling_plain, word_fields}
use Rattle.swf_text.proofs.Spellings.{Spells-canonical, number_of-canonical}
use Rattle.swf_text.proofs.Words.{fields-blank}
use Rattle.swf_text.proofs.Lines.{IsReadAs-line_of}

-- the numbers of a line with one space between
abbrev pub line_body : List ℤ → List ℕ
line_body [] = []
line_body (v ∷ vs) = canonical v ++ flat_map spaced vs

-- no byte of the line is a line feed
abbrev pub HasNoFeed : List ℕ → Type 0
HasNoFeed line = list_any is_feed line ≡ false

-- where no element of the list passes, the one at a place within it doesn't
pub none_passes : {X : Type 0} (p : X → Bool) (xs : List X) → list_any p xs ≡ false → (k : ℕ) (d : X) → k < length xs → p (get_or xs k d) ≡ false
none_passes p [] h k d lt = absurd (omega arith)
none_passes p (x ∷ xs) h zero d lt = or_left (p x) (list_any p xs) h where
  or_left : (a b : Bool) → (a || b) ≡ false → a ≡ false
  or_left true b h = h
  or_left false b h = refl
none_passes p (x ∷ xs) h (suc k) d lt = none_passes p xs (or_right (p x) (list_any p xs) h) k d (omega arith) where
  or_right : (a b : Bool) → (a || b) ≡ false → b ≡ false
  or_right true b h = absurd cc
  or_right false b h = h

canonical_length : (v : ℤ) → nat_abs v ≤ greatest → length (canonical v) ≤ 28
canonical_length v fits =
    let n = nat_abs v in
    let whole : length (decimal_text (n / 1000000)) ≤ 13 = length-decimal-le 13 (n / 1000000) (omega arith) (omega arith) (omega arith) in
    omega (arith, length-append (sign_text (canonical_parts v).is_negative) ((canonical_parts v).whole ++ fraction_text (canonical_parts v).fraction), length-append (canonical_parts v).whole (fraction_text (canonical_parts v).fraction), whole, sign_length (canonical_parts v).is_negative, fraction_length (n % 1000000) (eqb (n % 1000000) 0))
  where
    sign_length : (s : Bool) → length (sign_text s) ≤ 1
    sign_length true = omega arith
    sign_length false = omega arith

    fraction_length : (m : ℕ) (b : Bool) → length (fraction_text (cond b None (Some (without_zeros (six_digits m))))) ≤ 7
    fraction_length m true = omega arith
    fraction_length m false = omega (arith, length-take (length (six_digits m) - suffix_len is_zero (six_digits m)) (six_digits m))

abbrev AllWithin : List ℤ → Type 0
AllWithin vs = AllByRecursion (λ v. nat_abs v ≤ greatest) vs

plain_of : (v : ℤ) → nat_abs v ≤ greatest → (list_all is_plain (canonical v) ≡ true) × (0 < length (canonical v))
plain_of v fits = spelling_plain (canonical v) v (Spells-canonical v fits)

spaced_fields : (vs : List ℤ) → AllWithin vs → (ends (flat_map spaced vs) ≡ true) × (fields (flat_map spaced vs) ≡ map canonical vs)
spaced_fields [] h = (refl, refl)
spaced_fields (v ∷ vs) h =
    let plain = plain_of v h.0 in
    let rest = spaced_fields vs h.1 in
    (refl, fields-blank 32 (canonical v ++ flat_map spaced vs) refl ∙ word_fields (canonical v) (flat_map spaced vs) plain.0 plain.1 rest.0 ∙ ap (λ (ws : List (List ℕ)). canonical v ∷ ws) rest.1)

body_fields : (vs : List ℤ) → AllWithin vs → fields (line_body vs) ≡ map canonical vs
body_fields [] h = refl
body_fields (v ∷ vs) h =
    let plain = plain_of v h.0 in
    let rest = spaced_fields vs h.1 in
    word_fields (canonical v) (flat_map spaced vs) plain.0 plain.1 rest.0 ∙ ap (λ (ws : List (List ℕ)). canonical v ∷ ws) rest.1

words_read : (place : ℕ) (vs : List ℤ) → AllWithin vs → values_from place (map canonical vs) ≡ Ok vs
unfolding values_from
words_read place [] h = refl
words_read place (v ∷ vs) h = rw (number_of-canonical v h.0, words_read (place + 1) vs h.1) refl

abbrev is_printed : ℕ → Bool
is_printed b = leb 32 b && ltb b 58

plain_printed : (b : ℕ) → is_plain b ≡ true → is_printed b ≡ true
plain_printed b h = grind (arith, common_steps)

all_printed : (bs : List ℕ) → list_all is_plain bs ≡ true → list_all is_printed bs ≡ true
all_printed [] h = refl
all_printed (b ∷ bs) h = rw (plain_printed b (and_first _ _ h), all_printed bs (and_second (is_plain b) (list_all is_plain bs) h)) refl

both_printed : (xs ys : List ℕ) → list_all is_printed xs ≡ true → list_all is_printed ys ≡ true → list_all is_printed (xs ++ ys) ≡ true
both_printed xs ys p q = list_all-append is_printed xs ys ∙ rw (p, q) refl

spaced_printed : (vs : List ℤ) → AllWithin vs → (list_all is_printed (flat_map spaced vs) ≡ true) × (length (flat_map spaced vs) ≤ 29 * length vs)
spaced_printed [] h = (refl, omega arith)
spaced_printed (v ∷ vs) h =
    let rest = spaced_printed vs h.1 in
    (both_printed (canonical v) (flat_map spaced vs) (all_printed (canonical v) (plain_of v h.0).0) rest.0, omega (arith, length-append (canonical v) (flat_map spaced vs), canonical_length v h.0, rest.1))

body_printed : (vs : List ℤ) → AllWithin vs → (list_all is_printed (line_body vs) ≡ true) × (length (line_body vs) ≤ 29 * length vs)
body_printed [] h = (refl, omega arith)
body_printed (v ∷ vs) h =
    let rest = spaced_printed vs h.1 in
    (both_printed (canonical v) (flat_map spaced vs) (all_printed (canonical v) (plain_of v h.0).0) rest.0, omega (arith, length-append (canonical v) (flat_map spaced vs), canonical_length v h.0, rest.1))

none_of : (p : ℕ → Bool) → ((b : ℕ) → is_printed b ≡ true → p b ≡ false) → (bs : List ℕ) → list_all is_printed bs ≡ true → list_any p bs ≡ false
none_of p other [] h = refl
none_of p other (b ∷ bs) h = rw (other b (and_first _ _ h), none_of p other bs (and_second (is_printed b) (list_all is_printed bs) h)) refl

printed_low : (b : ℕ) → is_printed b ≡ true → is_high b ≡ false
printed_low b h = grind (arith, common_steps)

printed_no_feed : (b : ℕ) → is_printed b ≡ true → is_feed b ≡ false
printed_no_feed b h = grind (arith, common_steps)

printed_no_return : (b : ℕ) → is_printed b ≡ true → is_return b ≡ false
printed_no_return b h = grind (arith, common_steps)

plain_no_mark : (b : ℕ) → is_plain b ≡ true → eqb b 59 ≡ false
plain_no_mark b h = grind (arith, common_steps)

returns_none : (bs : List ℕ) → (0 < length bs → is_return (get_or bs (length bs - 1) 0) ≡ false) → without_returns bs ≡ bs
returns_none bs last =
    let none : suffix_len is_return bs ≡ length bs - length bs = suffix_len_is is_return bs (length bs) 0 (omega arith) (λ k le lt. absurd (omega arith)) last in
    take_all (length bs - suffix_len is_return bs) bs (omega arith)

front_kept : (bs : List ℕ) → is_blank (get_or bs 0 0) ≡ false → from_first bs ≡ bs
front_kept [] h = refl
front_kept (b ∷ bs) h = let none : prefix_len is_blank (b ∷ bs) ≡ 0 = rw h refl in ap (λ (k : ℕ). drop k (b ∷ bs)) none

job_front : (line front : List ℕ) → 0 < length front → eqb (get_or front 0 0) 59 ≡ false → line_by_front line front ≡ job_line line
job_front line [] some other = absurd (omega arith)
job_front line (b ∷ bs) some other = rw other refl

comment_front : (line front : List ℕ) → 0 < length front → get_or front 0 0 ≡ 59 → line_by_front line front ≡ read.Comment
comment_front line [] some is = absurd (omega arith)
comment_front line (b ∷ bs) some is = rw is refl

line_kept : (bs : List ℕ) → length bs ≤ 65536 → is_blank (get_or bs 0 0) ≡ false → (0 < length bs → is_return (get_or bs (length bs - 1) 0) ≡ false) → line_of bs ≡ line_by_front bs bs
line_kept bs fits front last =
    let short : ltb 65536 (length bs) ≡ false = le-ltb 65536 (length bs) fits in
    rw short (ap (λ (l : List ℕ). line_by_front l (from_first l)) (returns_none bs last) ∙ ap (line_by_front bs) (front_kept bs front))

body_front : (vs : List ℤ) → AllWithin vs → 0 < length vs → (0 < length (line_body vs)) × (is_plain (get_or (line_body vs) 0 0) ≡ true)
body_front [] h some = absurd (omega arith)
body_front (v ∷ vs) h some =
    let plain = plain_of v h.0 in
    (omega (arith, length-append (canonical v) (flat_map spaced vs), plain.1), front (canonical v) (flat_map spaced vs) plain.0 plain.1)
  where
    front : (w rest : List ℕ) → list_all is_plain w ≡ true → 0 < length w → is_plain (get_or (w ++ rest) 0 0) ≡ true
    front [] rest plain some = absurd (omega arith)
    front (b ∷ w) rest plain some = and_first _ _ plain

job_line_of : (vs : List ℤ) → AreFields vs → line_of (line_body vs) ≡ read.Job (record { 0 = vs })
job_line_of vs h =
    let printed = body_printed vs h.within in
    let front = body_front vs h.within (omega (arith, h.eighteen)) in
    let no_return = none_of is_return printed_no_return (line_body vs) printed.0 in
    let low = none_of is_high printed_low (line_body vs) printed.0 in
    let count : eqb (length (fields (line_body vs))) 18 ≡ true = rw (body_fields vs h.within, length-map vs canonical, h.eighteen) refl in
    line_kept (line_body vs) (omega (arith, printed.1, h.eighteen)) (plain_no_blank (get_or (line_body vs) 0 0) front.1) (λ some. none_passes is_return (line_body vs) no_return (length (line_body vs) - 1) 0 (omega arith))
    ∙ job_front (line_body vs) (line_body vs) front.0 (plain_no_mark (get_or (line_body vs) 0 0) front.1)
    ∙ rw (low, count) (ap job_of_values (ap (values_from 1) (body_fields vs h.within) ∙ words_read 1 vs h.within))

read_as : (line : List ℕ) (r : LineRead) → line_of line ≡ r → IsReadAs line r
read_as line r is = subst (IsReadAs line) is (IsReadAs-line_of line)

-- a line of canonical spellings is read as their job line
pub job_read : (vs : List ℤ) → AreFields vs → IsReadAs (line_body vs) (read.Job (record { 0 = vs }))
job_read vs h = read_as (line_body vs) (read.Job (record { 0 = vs })) (job_line_of vs h)

-- a sound comment is read as itself
pub comment_read : (c : List ℕ) → IsComment c → IsReadAs c read.Comment × (from_first (without_returns c) ≡ c)
comment_read c h =
    let front : is_blank (get_or c 0 0) ≡ false = ap is_blank h.begins in
    let kept = returns_none c (λ some. h.no_return) in
    (read_as c read.Comment (line_kept c h.fits front (λ some. h.no_return) ∙ comment_front c c (filled c h.begins) h.begins), ap from_first kept ∙ front_kept c front)
  where
    filled : (c : List ℕ) → get_or c 0 0 ≡ 59 → 0 < length c
    filled [] h = absurd cc
    filled (b ∷ bs) h = omega arith

-- a line of canonical spellings has no line feed
pub body_no_feed : (vs : List ℤ) → AreFields vs → HasNoFeed (line_body vs)
body_no_feed vs h = none_of is_feed printed_no_feed (line_body vs) (body_printed vs h.within).0
