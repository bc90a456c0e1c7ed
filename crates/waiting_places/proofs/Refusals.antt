-- Nobody from one place to another fits an offer: what is so stays so where one comes or leaves, and holds of each offer within it.
use Rattle.std.proofs.Common.{◌≡◌, ℕ, ◌≤◌, ◌<◌, ◌⊎◌, true, false, max, nat_le, ◌&&◌, ◌||◌, List, [], ◌∷◌, ◌++◌, length, set, Option, None, Some, refl, sym, ◌∙◌, ap, arith, subst, ⊎_elim}
use Rattle.std.proofs.lemmas.Bool.{cases_eq, cases_Bool, true≢false}
use Rattle.std.proofs.lemmas.Bool.Decides.{nat_tests}
use Rattle.std.proofs.lemmas.List.{length-append, length-set, get_or-set_same, get_or-set_other, get_or_append_left}
use Rattle.waiting_places.specs.declared.offer.Offer.{Offer}
use Rattle.waiting_places.specs.declared.refused.Refused.{Refused}
use Rattle.waiting_places.specs.Offers.{fits, holds, is_within}
use Rattle.waiting_places.specs.Places.{IsFirst, IsRefused, NonePasses, at_place}
use Rattle.waiting_places.proofs.First.{in_second}

more_fit : (size estimate free extra window free' extra' window' : ℕ) → nat_le free free' && nat_le extra extra' && nat_le window window' ≡ true → nat_le size extra || (nat_le size free && nat_le estimate window) ≡ true → nat_le size extra' || (nat_le size free' && nat_le estimate window') ≡ true
more_fit size estimate free extra window free' extra' window' l h = grind (arith, nat_tests)

module _ {X : Type 0} (size estimate : X → ℕ) (places : List (Option X)) (refused : Refused) (is : IsRefused size estimate places refused) where
  -- one comes behind the last place
  pub still_refused : (more : List (Option X)) (item : X) → more ≡ places ++ Some item ∷ [] → IsRefused size estimate more refused
  still_refused more item e =
      let within = is.within in
      record {
        within = omega (arith, within, ap length e, length-append places (Some item ∷ []));
        none = λ p l u. ap (holds (fits size estimate refused.offer)) (ap (λ (ys : List (Option X)). at_place ys p) e ∙ get_or_append_left places (Some item ∷ []) None p (omega (arith, u, within))) ∙ is.none p l u;
      }

  -- one leaves its place
  pub refused_too : (place : ℕ) → IsRefused size estimate (set places place None) refused
  refused_too place =
      let within = is.within in
      record {
        within = omega (arith, within, length-set {A = Option X} places place None);
        none = λ p l u. ⊎_elim
            (λ (at : p ≡ place).
            let there : place < length places = omega (arith, at, u, within) in
            ap (holds (fits size estimate refused.offer)) (ap (λ (i : ℕ). at_place (set places place None) i) at ∙ get_or-set_same places place None None there))
            (λ (ne : p ≡ place → ⊥). ap (holds (fits size estimate refused.offer)) (get_or-set_other places place p None None ne) ∙ is.none p l u)
            (cases_eq p place);
      }

  none_within : (from : ℕ) (offer : Offer) → nat_le refused.from from && is_within offer refused.offer ≡ true → NonePasses (holds (fits size estimate offer)) places from refused.to
  none_within from offer covers p l u = go (at_place places p) refl
    where
      go : (o : Option X) → at_place places p ≡ o → holds (fits size estimate offer) (at_place places p) ≡ false
      go None at = ap (holds (fits size estimate offer)) at
      go (Some x) at =
          ⊎_elim
          (λ (yes : fits size estimate offer x ≡ true).
          let more : fits size estimate refused.offer x ≡ true = more_fit (size x) (estimate x) offer.free offer.extra offer.window refused.offer.free refused.offer.extra refused.offer.window (within covers) yes in
          absurd (true≢false (sym more ∙ sym (ap (holds (fits size estimate refused.offer)) at) ∙ is.none p (front covers) u)))
          (λ (no : fits size estimate offer x ≡ false). ap (holds (fits size estimate offer)) at ∙ no)
          (cases_Bool (fits size estimate offer x))
        where
          within : nat_le refused.from from && is_within offer refused.offer ≡ true → is_within offer refused.offer ≡ true
          within h = grind (arith, nat_tests)

          front : nat_le refused.from from && is_within offer refused.offer ≡ true → refused.from ≤ p
          front h = grind (arith, nat_tests, l)

  -- who is first to fit an offer from there on is the first, where nobody before fits one within it
  pub first_too : (from known : ℕ) (offer : Offer) → (known ≡ from) ⊎ ((nat_le refused.from from && is_within offer refused.offer ≡ true) × (known ≡ max from refused.to)) → (r : Option ℕ) → IsFirst (holds (fits size estimate offer)) places known (length places) r → IsFirst (holds (fits size estimate offer)) places from (length places) r
  first_too from known offer behind r first =
      ⊎_elim
      (λ (same : known ≡ from). subst (λ (n : ℕ). IsFirst (holds (fits size estimate offer)) places n (length places) r) same first)
      (λ (more : (nat_le refused.from from && is_within offer refused.offer ≡ true) × (known ≡ max from refused.to)).
      let e = more.1 in
      in_second (holds (fits size estimate offer)) places from refused.to known (length places) r (λ p l m. omega (arith, e, l, m)) (omega (arith, e)) (none_within from offer more.0) first)
      behind
