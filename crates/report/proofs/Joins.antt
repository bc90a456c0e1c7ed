-- A text that grows piece by piece.
use Rattle.std.proofs.Common.{◌≡◌, ◌<◌, ℕ, ◌+◌, List, [], ◌∷◌, ◌++◌, length, get_or, drop, sym, ap, ◌∙◌, append_assoc, drop-cons, add-one}
use Rattle.std.specs.List.{flat_map}

-- one piece more behind a text that was put together
pub joined : {t u : List ℕ} → (o a b : List ℕ) → t ≡ o ++ a → u ≡ t ++ b → u ≡ o ++ (a ++ b)
joined o a b e f = f ∙ ap (λ x. x ++ b) e ∙ append_assoc o a b

-- the first piece, behind what was there, where this is what the piece is
pub begun : {t p : List ℕ} → (o a : List ℕ) → t ≡ o ++ p → p ≡ a → t ≡ o ++ a
begun o a e is = e ∙ ap (λ x. o ++ x) is

-- one piece more behind a text that was put together, where this is what the piece is
pub joined_as : {t u p : List ℕ} → (o a b : List ℕ) → t ≡ o ++ a → u ≡ t ++ p → p ≡ b → u ≡ o ++ (a ++ b)
joined_as {t} o a b e f is = joined o a b e (begun t b f is)

-- three pieces, one after another, behind what was there
pub three : {t u v : List ℕ} → (o a b c : List ℕ) → t ≡ o ++ a → u ≡ t ++ b → v ≡ u ++ c → v ≡ o ++ (a ++ b ++ c)
three o a b c e f g = joined o (a ++ b) c (joined o a b e f) g

-- five pieces, one after another, behind what was there
pub five : {t u v w x : List ℕ} → (o a b c d p : List ℕ) → t ≡ o ++ a → u ≡ t ++ b → v ≡ u ++ c → w ≡ v ++ d → x ≡ w ++ p → x ≡ o ++ (a ++ b ++ c ++ d ++ p)
five o a b c d p e f g h i = joined o (a ++ b ++ c ++ d) p (joined o (a ++ b ++ c) d (three o a b c e f g) h) i

-- a heading that was put into an empty text, and the lines of all that is left, are the heading and the lines of the list
pub headed : {X : Type 0} (f : X → List ℕ) (heading piece empty text : List ℕ) (xs left : List X) → empty ≡ [] → text ≡ empty ++ piece → piece ≡ heading → left ≡ xs → text ++ flat_map f left ≡ heading ++ flat_map f xs
headed f heading piece empty text xs left none more is all =
    ap (λ t. t ++ flat_map f left) (more ∙ ap (λ x. x ++ piece) none ∙ is) ∙ ap (λ ys. heading ++ flat_map f ys) all

-- with the line of the first that is left, the text and the lines of the rest are the whole text still
pub first_line : {X : Type 0} (f : X → List ℕ) (x : X) (left rest : List X) (old new all : List ℕ) → left ≡ x ∷ rest → old ++ flat_map f left ≡ all → new ≡ old ++ f x → new ++ flat_map f rest ≡ all
first_line f x left rest old new all is before more =
    ap (λ t. t ++ flat_map f rest) more ∙ append_assoc old (f x) (flat_map f rest) ∙ ap (λ xs. old ++ flat_map f xs) (sym is) ∙ before

-- with the line of the next of a list, the text and the lines behind that one are the whole text still
pub next_line : {X : Type 0} (f : X → List ℕ) (xs : List X) (k : ℕ) (d : X) (old new all : List ℕ) → k < length xs → old ++ flat_map f (drop k xs) ≡ all → new ≡ old ++ f (get_or xs k d) → new ++ flat_map f (drop (k + 1) xs) ≡ all
next_line f xs k d old new all l before more =
    first_line f (get_or xs k d) (drop k xs) (drop (k + 1) xs) old new all (drop-cons xs k d l ∙ ap (λ j. get_or xs k d ∷ drop j xs) (sym (add-one k))) before more
