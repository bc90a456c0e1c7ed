-- What a change of the scenarios leaves published: no run that was not published before, except one that is handed in.
use Rattle.std.proofs.Common.{◌≡◌, ℕ, ◌==◌, ◌⊎◌, inl, inr, List, [], ◌∷◌, ◌++◌, refl, sym, ◌∙◌, ap, Bool, true, false, not, cond}
use Rattle.std.specs.Prelude.{Option, None, Some, find, filter}
use Rattle.std.proofs.lemmas.Bool.{eqb-true}
use Rattle.book_machine.specs.declared.reply.Reply.{Reply}
use Rattle.book_machine.specs.declared.reply.Reply.TheVariants as reply
use Rattle.tasks.specs.Published.{PublishedView}
use Rattle.version_book.specs.Book.{ShownView, StateView}
use Rattle.version_book.specs.Lookups.{has_id, published_for, publishing, with_change}
use Rattle.version_book.specs.Steps.{KeepsRuns}

abbrev published_in : Option ShownView → Option PublishedView
published_in o = elim o [ None ↦ None | Some x ↦ x.published ]

-- each run that is published was published before, where what is shown stays as it was
pub keeps-same : (old new : StateView) (r : Reply) → new.shown ≡ old.shown → KeepsRuns old new r
keeps-same old new r same id p is = inl (ap (published_for id) (sym same) ∙ is)

same-step : (b c : Bool) (x y : ShownView) (o q : Option ShownView) → b ≡ c → y.published ≡ x.published → published_in o ≡ published_in q → published_in (cond b (Some y) o) ≡ published_in (cond c (Some x) q)
same-step true true x y o q e same rest = same
same-step true false x y o q e same rest = cc
same-step false true x y o q e same rest = cc
same-step false false x y o q e same rest = rest

one-id : (f : ShownView → ShownView) (x : ShownView) (b : Bool) → (f x).id ≡ x.id → (cond b (f x) x).id ≡ x.id
one-id f x true is = is
one-id f x false is = refl

one-run : (f : ShownView → ShownView) (x : ShownView) (b : Bool) → (f x).published ≡ x.published → (cond b (f x) x).published ≡ x.published
one-run f x true is = is
one-run f x false is = refl

published-change : (id k : ℕ) (f : ShownView → ShownView) → ((x : ShownView) → (f x).id ≡ x.id) → ((x : ShownView) → (f x).published ≡ x.published) → (xs : List ShownView) → published_for id (with_change k f xs) ≡ published_for id xs
published-change id k f ids runs [] = refl
published-change id k f ids runs (x ∷ xs) =
    let y : ShownView = cond (has_id k x) (f x) x in
    same-step (has_id id y) (has_id id x) x y (find (has_id id) (with_change k f xs)) (find (has_id id) xs) (ap (λ (i : ℕ). i == id) (one-id f x (has_id k x) (ids x))) (one-run f x (has_id k x) (runs x)) (published-change id k f ids runs xs)

-- each run that is published was published before, where the scenario of an id changes neither its id nor its run
pub keeps-change : (old new : StateView) (r : Reply) (k : ℕ) (f : ShownView → ShownView) → ((x : ShownView) → (f x).id ≡ x.id) → ((x : ShownView) → (f x).published ≡ x.published) → new.shown ≡ with_change k f old.shown → KeepsRuns old new r
keeps-change old new r k f ids runs put id p is = inl (sym (published-change id k f ids runs old.shown) ∙ ap (published_for id) (sym put) ∙ is)

abbrev Left : Option PublishedView → PublishedView → PublishedView → Type 0
Left there p q = (there ≡ Some q) ⊎ (q ≡ p)

put-here : (c : Bool) (x : ShownView) (p q : PublishedView) (o n : Option ShownView) → published_in (cond c (Some (publishing p x)) n) ≡ Some q → (published_in n ≡ Some q → Left (published_in o) p q) → Left (published_in (cond c (Some x) o)) p q
put-here true x p q o n is rest = let same : q ≡ p = cc in inr same
put-here false x p q o n is rest = rest is

kept-here : (c : Bool) (x : ShownView) (p q : PublishedView) (o n : Option ShownView) → published_in (cond c (Some x) n) ≡ Some q → (published_in n ≡ Some q → Left (published_in o) p q) → Left (published_in (cond c (Some x) o)) p q
kept-here true x p q o n is rest = inl is
kept-here false x p q o n is rest = rest is

put-or-kept : (b : Bool) (id : ℕ) (x : ShownView) (p q : PublishedView) (o n : Option ShownView) → published_in (cond (has_id id (cond b (publishing p x) x)) (Some (cond b (publishing p x) x)) n) ≡ Some q → (published_in n ≡ Some q → Left (published_in o) p q) → Left (published_in (cond (has_id id x) (Some x) o)) p q
put-or-kept true id x p q o n is rest = put-here (has_id id x) x p q o n is rest
put-or-kept false id x p q o n is rest = kept-here (has_id id x) x p q o n is rest

published-put : (id k : ℕ) (p q : PublishedView) (xs : List ShownView) → published_for id (with_change k (publishing p) xs) ≡ Some q → Left (published_for id xs) p q
published-put id k p q [] is = inl is
published-put id k p q (x ∷ xs) is = put-or-kept (has_id k x) id x p q (find (has_id id) xs) (find (has_id id) (with_change k (publishing p) xs)) is (published-put id k p q xs)

outcome-so : (there : Option PublishedView) (p q : PublishedView) (v : ℕ) → p.version ≡ v → Left there p q → (there ≡ Some q) ⊎ (reply.Finished v ≡ reply.Finished q.version)
outcome-so there p q v is (inl kept) = inl kept
outcome-so there p q v is (inr same) = inr (ap reply.Finished (sym is) ∙ ap (λ (x : PublishedView). reply.Finished x.version) (sym same))

-- each run that is published was published before, except the one that is put, of the version that is replied as finished
pub keeps-put : (old new : StateView) (k v : ℕ) (p : PublishedView) → p.version ≡ v → new.shown ≡ with_change k (publishing p) old.shown → KeepsRuns old new (reply.Finished v)
keeps-put old new k v p version put id q is = outcome-so (published_for id old.shown) p q v version (published-put id k p q old.shown (ap (published_for id) (sym put) ∙ is))

added-last : (c : Bool) (x : ShownView) (q : PublishedView) → x.published ≡ None → published_in (cond c (Some x) None) ≡ Some q → None ≡ Some q
added-last true x q none is = sym none ∙ is
added-last false x q none is = is

added-rest : (c : Bool) (x : ShownView) (q : PublishedView) (o n : Option ShownView) → published_in (cond c (Some x) n) ≡ Some q → (published_in n ≡ Some q → published_in o ≡ Some q) → published_in (cond c (Some x) o) ≡ Some q
added-rest true x q o n is rest = is
added-rest false x q o n is rest = rest is

published-added : (id : ℕ) (y : ShownView) (q : PublishedView) (xs : List ShownView) → y.published ≡ None → published_for id (xs ++ y ∷ []) ≡ Some q → published_for id xs ≡ Some q
published-added id y q [] none is = added-last (has_id id y) y q none is
published-added id y q (x ∷ xs) none is = added-rest (has_id id x) x q (find (has_id id) xs) (find (has_id id) (xs ++ y ∷ [])) is (published-added id y q xs none)

-- each run that is published was published before, where a scenario is added with nothing published
pub keeps-added : (old new : StateView) (r : Reply) (y : ShownView) → y.published ≡ None → new.shown ≡ old.shown ++ y ∷ [] → KeepsRuns old new r
keeps-added old new r y none put id q is = inl (published-added id y q old.shown none (ap (published_for id) (sym put) ∙ is))

abbrev others : ℕ → List ShownView → List ShownView
others k xs = filter (λ (x : ShownView). not (has_id k x)) xs

gone-step : (b : Bool) (k : ℕ) (x : ShownView) (xs : List ShownView) → has_id k x ≡ b → find (has_id k) xs ≡ None → find (has_id k) (cond (not b) (x ∷ xs) xs) ≡ None
gone-step true k x xs is none = none
gone-step false k x xs is none = ap (λ (c : Bool). cond c (Some x) (find (has_id k) xs)) is ∙ none

gone : (k : ℕ) (xs : List ShownView) → find (has_id k) (others k xs) ≡ None
gone k [] = refl
gone k (x ∷ xs) = gone-step (has_id k x) k x (others k xs) refl (gone k xs)

dropped-here : (c : Bool) (id k : ℕ) (x : ShownView) (q : PublishedView) (xs : List ShownView) → has_id id x ≡ c → has_id k x ≡ true → published_for id (others k xs) ≡ Some q → published_for id xs ≡ Some q → published_in (cond c (Some x) (find (has_id id) xs)) ≡ Some q
dropped-here true id k x q xs is this found rest =
    let same : id ≡ k = sym (eqb-true x.id id is) ∙ eqb-true x.id k this in
    let none : published_for id (others k xs) ≡ None = ap (λ (i : ℕ). published_for i (others k xs)) same ∙ ap published_in (gone k xs) in
    absurd (let no : ◌≡◌ {A = Option PublishedView} None (Some q) = sym none ∙ found in cc)
dropped-here false id k x q xs is this found rest = rest

left-step : (b : Bool) (id k : ℕ) (x : ShownView) (q : PublishedView) (xs : List ShownView) → has_id k x ≡ b → published_for id (cond (not b) (x ∷ others k xs) (others k xs)) ≡ Some q → (published_for id (others k xs) ≡ Some q → published_for id xs ≡ Some q) → published_for id (x ∷ xs) ≡ Some q
left-step true id k x q xs is found rest = dropped-here (has_id id x) id k x q xs refl is found (rest found)
left-step false id k x q xs is found rest = added-rest (has_id id x) x q (find (has_id id) xs) (find (has_id id) (others k xs)) found rest

published-left : (id k : ℕ) (q : PublishedView) (xs : List ShownView) → published_for id (others k xs) ≡ Some q → published_for id xs ≡ Some q
published-left id k q [] is = is
published-left id k q (x ∷ xs) is = left-step (has_id k x) id k x q xs refl is (published-left id k q xs)

-- each run that is published was published before, where the scenario of an id is left out
pub keeps-left : (old new : StateView) (r : Reply) (k : ℕ) → new.shown ≡ others k old.shown → KeepsRuns old new r
keeps-left old new r k put id q is = inl (published-left id k q old.shown (ap (published_for id) (sym put) ∙ is))
