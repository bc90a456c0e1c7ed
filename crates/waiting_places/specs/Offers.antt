-- What is offered, and who fits it.
use Rattle.std.specs.Prelude.{ℕ, Bool, false, ◌&&◌, ◌||◌, nat_le, Option, None, Some}
use Rattle.waiting_places.specs.declared.offer.Offer.{Offer}

-- no more is offered, so who fits the first fits the second
abbrev pub is_within : Offer → Offer → Bool
is_within less more = nat_le less.free more.free && nat_le less.extra more.extra && nat_le less.window more.window

module _ {X : Type 0} where
  -- it takes only what the first does not need, or what is free and no longer than the first can wait
  abbrev pub fits : (X → ℕ) → (X → ℕ) → Offer → X → Bool
  fits size estimate offer x = nat_le (size x) offer.extra || (nat_le (size x) offer.free && nat_le (estimate x) offer.window)

  -- one waits at this place, and passes
  abbrev pub holds : (X → Bool) → Option X → Bool
  holds test None = false
  holds test (Some x) = test x
