-- What is printed of pages, and written of it: the lines of all pages are those of all their rows, whether the pages that are ready are written
-- while the next ones are printed, or pages are printed and written one after another. Where the writer fails, a beginning of these lines was
-- written.
use Rattle.std.proofs.Common.{◌≡◌, ℕ, suc, ◌+◌, ◌<◌, List, [], ◌∷◌, ◌++◌, length, get_or, take, drop, Vec, Option, Result, refl, sym, ap, subst, ◌∙◌, append_assoc, arith}
use Rattle.std.specs.List.{flat_map}
use Rattle.std.specs.Io.KnownBytes.{Appends}
use Rattle.std.specs.Vec.{with_items}
use Rattle.std.proofs.KnownBytes.{Appends-trans}
use Rattle.std.proofs.lemmas.Grind.{flat_map-append}
use Rattle.std.proofs.lemmas.List.{append-nil, take_more, take-append-drop, with_items_is}
use Rattle.swf_text.specs.Writing.{Writes}
use Rattle.checkpoints.specs.declared.row.Row.{Row}
use Rattle.report.specs.declared.page.Page.{Page}
use Rattle.report.specs.Pages.{rows_in, lines_in, all_rows, all_lines, IsPrint, ArePrints}
use Rattle.report.specs.Schedule.{row_line}
use Rattle.swf_text.proofs.Lemmas.{front_after, front_more, writes_then}

flat-next : {X Y : Type 0} (f : X → List Y) (xs : List X) (k : ℕ) (d : X) → k < length xs → flat_map f (take (k + 1) xs) ≡ flat_map f (take k xs) ++ f (get_or xs k d)
flat-next f xs k d lt =
    ap (flat_map f) (take_more xs k d lt) ∙ flat_map-append f (take k xs) (get_or xs k d ∷ []) ∙ ap (λ l. flat_map f (take k xs) ++ l) (append-nil (f (get_or xs k d)))

-- with the line of one row more, the lines of the first rows are those of the first ones, one more
pub lines-next : (rows : List Row) (k : ℕ) (d : Row) (old new : List ℕ) → k < length rows → old ≡ flat_map row_line (take k rows) → new ≡ old ++ row_line (get_or rows k d) → new ≡ flat_map row_line (take (k + 1) rows)
lines-next rows k d old new lt is more = more ∙ ap (λ l. l ++ row_line (get_or rows k d)) is ∙ sym (flat-next row_line rows k d lt)

-- a vector that was lent as a slice, and is as long still, holds from then on what the slice held at the end
pub lent : {A : Type 0} (v : Vec Page A) (seen new now : List Page) → seen ≡ v.items → length new ≡ length seen → now ≡ (with_items v new).items → now ≡ new
lent v seen new now is same after = after ∙ with_items_is v new (same ∙ ap length is ∙ sym v.ok.0)

pub record AreLines (old new : List Page) : Type 0 where
  pub rows : all_rows new ≡ all_rows old
  pub lines : all_lines new ≡ flat_map row_line (all_rows old)

joined-lines : (x y : Page) (xs ys : List Page) → IsPrint x y → AreLines xs ys → AreLines (x ∷ xs) (y ∷ ys)
joined-lines x y xs ys p q = record {
  rows = ap (λ l. l ++ all_rows ys) p.rows ∙ ap (λ l. rows_in x ++ l) q.rows;
  lines = ap (λ l. l ++ all_lines ys) p.lines ∙ ap (λ l. flat_map row_line (rows_in x) ++ l) q.lines ∙ sym (flat_map-append row_line (rows_in x) (all_rows xs));
}

pub are-lines : (old new : List Page) → length new ≡ length old → ((place : ℕ) (d : Page) → place < length old → IsPrint (get_or old place d) (get_or new place d)) → AreLines old new
are-lines [] [] count each = record { rows = refl; lines = refl }
are-lines [] (y ∷ ys) count each = absurd (omega (arith, count))
are-lines (x ∷ xs) [] count each = absurd (omega (arith, count))
are-lines (x ∷ xs) (y ∷ ys) count each =
    joined-lines x y xs ys (each 0 x (omega arith)) (are-lines xs ys (omega (arith, count)) (λ place d lt. each (suc place) d (omega (arith, lt))))

-- pages each of which was printed at its place have the same rows as before, and the lines of these rows
pub print-lines : (old new : List Page) → ArePrints old new → AreLines old new
print-lines old new p = are-lines old new p.count p.each

-- where the writer fails in the lines of a page, those before it being written, a beginning of the lines of all pages was written
pub page-failed : (a b c : Option (List ℕ)) (pages : List Page) (k : ℕ) (d : Page) (bytes : List ℕ) → k < length pages → bytes ≡ lines_in (get_or pages k d) → Appends a b (all_lines (take k pages)) → (n : ℕ) × Appends b c (take n bytes) → (n : ℕ) × Appends a c (take n (all_lines pages))
page-failed a b c pages k d bytes lt is before q =
    let front = all_lines (take k pages) in
    let here = lines_in (get_or pages k d) in
    let outcome : (n : ℕ) × Appends b c (take n here) = subst (λ (l : List ℕ). (n : ℕ) × Appends b c (take n l)) is q in
    let both : (n : ℕ) × Appends a c (take n (front ++ here)) = front_after a b c front here before outcome in
    let all : all_lines pages ≡ (front ++ here) ++ all_lines (drop (k + 1) pages) =
    ap all_lines (sym (take-append-drop (k + 1) pages)) ∙ flat_map-append lines_in (take (k + 1) pages) (drop (k + 1) pages) ∙ ap (λ l. l ++ all_lines (drop (k + 1) pages)) (flat-next lines_in pages k d lt) in
    subst (λ (l : List ℕ). (n : ℕ) × Appends a c (take n l)) (sym all) (front_more a c (front ++ here) (all_lines (drop (k + 1) pages)) both)

-- of all rows the first are written; behind them come those of the pages that were printed, those of the next ones, and the rest
pub record IsPrinting (old now : Option (List ℕ)) (ready next : List Page) (rows whole : List Row) : Type 0 where
  pub done : List Row
  pub outcome : Appends old now (flat_map row_line done)
  pub all : done ++ (all_rows ready ++ (all_rows next ++ rows)) ≡ whole
  pub lines : all_lines ready ≡ flat_map row_line (all_rows ready)

-- before the first line is written: the first pages were printed, and the next ones have the rows behind theirs
pub begun : (a : Option (List ℕ)) (first ready next : List Page) (behind rows whole : List Row) → Appends a a [] → AreLines first ready → all_rows first ++ behind ≡ whole → all_rows next ++ rows ≡ behind → IsPrinting a a ready next rows whole
begun a first ready next behind rows whole none p is more = record {
  done = [];
  outcome = none;
  all = ap (λ l. l ++ (all_rows next ++ rows)) p.rows ∙ ap (λ l. all_rows first ++ l) more ∙ is;
  lines = p.lines ∙ ap (flat_map row_line) (sym p.rows);
}

-- what is under way with some pages is so with equal ones
pub alike : {a b : Option (List ℕ)} {ready next : List Page} {rows whole : List Row} (first second : List Page) → IsPrinting a b ready next rows whole → first ≡ ready → second ≡ next → IsPrinting a b first second rows whole
alike first second u p q = rw (p, q) u

lines-of : (a b : Option (List ℕ)) (ready next : List Page) (rows whole : List Row) → (u : IsPrinting a b ready next rows whole) → flat_map row_line u.done ++ all_lines ready ≡ flat_map row_line (u.done ++ all_rows ready)
lines-of a b ready next rows whole u = ap (λ l. flat_map row_line u.done ++ l) u.lines ∙ sym (flat_map-append row_line u.done (all_rows ready))

lines-outcome : (a b c : Option (List ℕ)) (ready next : List Page) (rows whole : List Row) → (u : IsPrinting a b ready next rows whole) → Appends b c (all_lines ready) → Appends a c (flat_map row_line (u.done ++ all_rows ready))
lines-outcome a b c ready next rows whole u w = subst (Appends a c) (lines-of a b ready next rows whole u) (Appends-trans a b c (flat_map row_line u.done) (all_lines ready) u.outcome w)

-- the pages that were ready were written and took the next rows, and the next pages were printed
pub turned : (a b c : Option (List ℕ)) (ready next took prints : List Page) (rows rest whole : List Row) → IsPrinting a b ready next rows whole → Appends b c (all_lines ready) → all_rows took ++ rest ≡ rows → AreLines next prints → IsPrinting a c prints took rest whole
turned a b c ready next took prints rows rest whole u w is p = record {
  done = u.done ++ all_rows ready;
  outcome = lines-outcome a b c ready next rows whole u w;
  all = append_assoc u.done (all_rows ready) (all_rows prints ++ (all_rows took ++ rest))
      ∙ ap (λ l. u.done ++ (all_rows ready ++ l)) (ap (λ l. l ++ (all_rows took ++ rest)) p.rows ∙ ap (λ l. all_rows next ++ l) is) ∙ u.all;
  lines = p.lines ∙ ap (flat_map row_line) (sym p.rows);
}

-- where the writer fails in the lines of the pages that are ready, a beginning of the lines of all rows was written
pub failed : (a b c : Option (List ℕ)) (ready next : List Page) (rows whole : List Row) → IsPrinting a b ready next rows whole → (n : ℕ) × Appends b c (take n (all_lines ready)) → (n : ℕ) × Appends a c (take n (flat_map row_line whole))
failed a b c ready next rows whole u w =
    let front = flat_map row_line (u.done ++ all_rows ready) in
    let all : (u.done ++ all_rows ready) ++ (all_rows next ++ rows) ≡ whole = append_assoc u.done (all_rows ready) (all_rows next ++ rows) ∙ u.all in
    let lines : front ++ flat_map row_line (all_rows next ++ rows) ≡ flat_map row_line whole = sym (flat_map-append row_line (u.done ++ all_rows ready) (all_rows next ++ rows)) ∙ ap (flat_map row_line) all in
    let here : (n : ℕ) × Appends a c (take n front) = subst (λ (l : List ℕ). (n : ℕ) × Appends a c (take n l)) (lines-of a b ready next rows whole u) (front_after a b c (flat_map row_line u.done) (all_lines ready) u.outcome w) in
    subst (λ (l : List ℕ). (n : ℕ) × Appends a c (take n l)) lines (front_more a c front (flat_map row_line (all_rows next ++ rows)) here)

-- no rows are left: once the pages that are ready were written, what comes of writing the next ones comes of writing the lines of all rows
pub ended : {X E : Type 0} (r : Result X E) (a b c d : Option (List ℕ)) (ready next prints : List Page) (rows whole : List Row) → IsPrinting a b ready next rows whole → rows ≡ [] → Appends b c (all_lines ready) → AreLines next prints → Writes r c d (all_lines prints) → Writes r a d (flat_map row_line whole)
ended r a b c d ready next prints rows whole u none w p v =
    let front = u.done ++ all_rows ready in
    let all : front ++ all_rows next ≡ whole = append_assoc u.done (all_rows ready) (all_rows next) ∙ ap (λ l. u.done ++ (all_rows ready ++ l)) (sym (append-nil (all_rows next)) ∙ ap (λ l. all_rows next ++ l) (sym none)) ∙ u.all in
    let lines : flat_map row_line front ++ all_lines prints ≡ flat_map row_line whole = ap (λ l. flat_map row_line front ++ l) p.lines ∙ sym (flat_map-append row_line front (all_rows next)) ∙ ap (flat_map row_line) all in
    subst (Writes r a d) lines (writes_then r a c d (flat_map row_line front) (all_lines prints) (lines-outcome a b c ready next rows whole u w) v)

-- of all rows the first are written, and behind them come these
pub record IsWriting (old now : Option (List ℕ)) (rows whole : List Row) : Type 0 where
  pub done : List Row
  pub outcome : Appends old now (flat_map row_line done)
  pub all : done ++ rows ≡ whole

-- nothing is written, and all rows are left
pub none-done : (a : Option (List ℕ)) (rows : List Row) → Appends a a [] → IsWriting a a rows rows
none-done a rows none = record { done = []; outcome = none; all = refl }

bytes-of : (done : List Row) (page : List Row) (bytes : List ℕ) → bytes ≡ flat_map row_line page → flat_map row_line done ++ bytes ≡ flat_map row_line (done ++ page)
bytes-of done page bytes is = ap (λ l. flat_map row_line done ++ l) is ∙ sym (flat_map-append row_line done page)

-- the lines of a page's rows were written, and the rows behind it are left
pub more-done : (a b c : Option (List ℕ)) (page rows rest whole : List Row) (bytes : List ℕ) → IsWriting a b rows whole → page ++ rest ≡ rows → bytes ≡ flat_map row_line page → Appends b c bytes → IsWriting a c rest whole
more-done a b c page rows rest whole bytes u is lines w = record {
  done = u.done ++ page;
  outcome = subst (Appends a c) (bytes-of u.done page bytes lines) (Appends-trans a b c (flat_map row_line u.done) bytes u.outcome w);
  all = append_assoc u.done page rest ∙ ap (λ l. u.done ++ l) is ∙ u.all;
}

-- where the writer fails in the lines of a page's rows, a beginning of the lines of all rows was written
pub not-done : (a b c : Option (List ℕ)) (page rows rest whole : List Row) (bytes : List ℕ) → IsWriting a b rows whole → page ++ rest ≡ rows → bytes ≡ flat_map row_line page → (n : ℕ) × Appends b c (take n bytes) → (n : ℕ) × Appends a c (take n (flat_map row_line whole))
not-done a b c page rows rest whole bytes u is lines w =
    let front = flat_map row_line (u.done ++ page) in
    let all : (u.done ++ page) ++ rest ≡ whole = append_assoc u.done page rest ∙ ap (λ l. u.done ++ l) is ∙ u.all in
    let text : front ++ flat_map row_line rest ≡ flat_map row_line whole = sym (flat_map-append row_line (u.done ++ page) rest) ∙ ap (flat_map row_line) all in
    let here : (n : ℕ) × Appends a c (take n front) = subst (λ (l : List ℕ). (n : ℕ) × Appends a c (take n l)) (bytes-of u.done page bytes lines) (front_after a b c (flat_map row_line u.done) bytes u.outcome w) in
    subst (λ (l : List ℕ). (n : ℕ) × Appends a c (take n l)) text (front_more a c front (flat_map row_line rest) here)

-- where no rows are left, the lines of all rows were written
pub all-done : (a b : Option (List ℕ)) (rows whole : List Row) → IsWriting a b rows whole → rows ≡ [] → Appends a b (flat_map row_line whole)
all-done a b rows whole u none = subst (Appends a b) (ap (flat_map row_line) (sym (append-nil u.done) ∙ ap (λ l. u.done ++ l) (sym none) ∙ u.all)) u.outcome
