-- A line that is put together from its end, over blanks: from a place among the blanks on it holds the blanks up to the text, and the text.
use Rattle.std.proofs.Common.{◌≡◌, ℕ, ◌+◌, ◌-◌, ◌≤◌, min, List, [], ◌++◌, length, take, drop, sym, ap, ◌∙◌, append_assoc, take-append-drop, arith}
use Rattle.std.specs.Prelude.{replicate, codes}
use Rattle.std.proofs.lemmas.List.{append-nil, drop-append-le, drop-replicate, length-drop, length-replicate, take-replicate, take-take, take_all}
use Rattle.report.specs.Pieces.{right}

from-blank : (line text : List ℕ) (start from : ℕ) → from ≤ start → line ≡ replicate start 32 ++ text → drop from line ≡ replicate (start - from) 32 ++ text
from-blank line text start from le is =
    ap (drop from) is ∙ drop-append-le from (replicate start 32) text (let l = length-replicate {A = ℕ} start 32 in omega (arith, l, le)) ∙ ap (λ (x : List ℕ). x ++ text) (drop-replicate from start 32)

-- where all before a place is blank, all before a lesser place is
pub blanks-before : (line : List ℕ) (from to : ℕ) → from ≤ to → take to line ≡ replicate to 32 → take from line ≡ replicate from 32
blanks-before line from to le blank = sym (take-take from to line le) ∙ ap (take from) blank ∙ take-replicate from to 32 le

-- digits that are put over blanks up to a place are there the text at least this wide, after blanks, before what stood from the place on
pub right-put : (old new digits : List ℕ) (start end width from : ℕ) → start + length digits ≡ end → drop start new ≡ digits ++ drop end old → take start new ≡ take start old → take end old ≡ replicate end 32
    → from ≡ min start (end - width) → width ≤ end → drop from new ≡ right width digits ++ drop end old
right-put old new digits start end width from is written before blank at wide =
    let front : take start new ≡ replicate start 32 = before ∙ blanks-before old start end (omega (arith, is)) blank in
    let whole : new ≡ replicate start 32 ++ (digits ++ drop end old) = sym (take-append-drop start new) ∙ ap (λ (x : List ℕ). x ++ drop start new) front ∙ ap (λ (x : List ℕ). replicate start 32 ++ x) written in
    let pad : start - from ≡ width - length digits = omega (arith, at, is, wide) in
    from-blank new (digits ++ drop end old) start from (omega (arith, at)) whole ∙ ap (λ (k : ℕ). replicate k 32 ++ (digits ++ drop end old)) pad ∙ sym (append_assoc (replicate (width - length digits) 32) digits (drop end old))

-- where digits are put over blanks up to a place, all before a place that is not behind their start is blank still
pub right-blank : (old new digits : List ℕ) (start end from : ℕ) → start + length digits ≡ end → from ≤ start → take start new ≡ take start old → take end old ≡ replicate end 32 → take from new ≡ replicate from 32
right-blank old new digits start end from is le before blank = blanks-before new from start le (before ∙ blanks-before old start end (omega (arith, is)) blank)

-- from the place before it on, a piece that stands behind blanks is a blank and the piece
pub cell-put : (line piece after : List ℕ) (from to : ℕ) → from + 1 ≡ to → drop to line ≡ piece ++ after → take to line ≡ replicate to 32 → drop from line ≡ (codes " " ++ piece) ++ after
cell-put line piece after from to is written blank =
    let whole : line ≡ replicate to 32 ++ (piece ++ after) = sym (take-append-drop to line) ∙ ap (λ (x : List ℕ). x ++ drop to line) blank ∙ ap (λ (x : List ℕ). replicate to 32 ++ x) written in
    let one : to - from ≡ 1 = omega (arith, is) in
    from-blank line (piece ++ after) to from (omega (arith, is)) whole ∙ ap (λ (k : ℕ). replicate k 32 ++ (piece ++ after)) one

step : {all : List ℕ} → (front piece rest text : List ℕ) → all ≡ front ++ text → text ≡ piece ++ rest → all ≡ (front ++ piece) ++ rest
step front piece rest text e is = e ∙ ap (λ (x : List ℕ). front ++ x) is ∙ sym (append_assoc front piece rest)

-- five pieces, one after another, with nothing behind the last
pub five-put : (a b c d e v w x y z none : List ℕ) → v ≡ a ++ w → w ≡ b ++ x → x ≡ c ++ y → y ≡ d ++ z → z ≡ e ++ none → none ≡ [] → v ≡ a ++ b ++ c ++ d ++ e
five-put a b c d e v w x y z none p q r s t empty =
    step (a ++ b ++ c ++ d) e none z (step (a ++ b ++ c) d z y (step (a ++ b) c y x (step a b x w p q) r) s) t
    ∙ ap (λ (l : List ℕ). a ++ b ++ c ++ d ++ e ++ l) empty ∙ append-nil (a ++ b ++ c ++ d ++ e)

-- the slice from a place on that is as long as the line from there is all that stands there
pub slice-rest : (line : List ℕ) (n all : ℕ) → length line ≡ all → take (all - n) (drop n line) ≡ drop n line
slice-rest line n all long = let l = length-drop n line in take_all (all - n) (drop n line) (omega (arith, l, long))
