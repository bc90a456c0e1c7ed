-- A corner below one who fits an offer fits it.
use Rattle.std.proofs.Common.{◌≡◌, ℕ, ◌≤◌, true, nat_le, ◌&&◌, ◌||◌, arith}
use Rattle.std.proofs.lemmas.Bool.Decides.{nat_tests}
use Rattle.waiting_places.specs.declared.offer.Offer.{Offer}
use Rattle.waiting_places.specs.Bounds.{FrontierView, IsBelow, MayFit, corner_at}

smaller : (a size b estimate extra free window : ℕ) → a ≤ size → b ≤ estimate → nat_le size extra || (nat_le size free && nat_le estimate window) ≡ true → nat_le a extra || (nat_le a free && nat_le b window) ≡ true
smaller a size b estimate extra free window l m h = grind (arith, nat_tests)

-- where one fits an offer, a frontier below it may
pub passes : (f : FrontierView) (size estimate : ℕ) → IsBelow f size estimate → (offer : Offer) → nat_le size offer.extra || (nat_le size offer.free && nat_le estimate offer.window) ≡ true → MayFit offer f
passes f size estimate below offer fits =
    let corner = corner_at f below.corner in
    record {
      corner = below.corner;
      there = below.there;
      fit = smaller corner.size size corner.estimate estimate offer.extra offer.free offer.window below.small below.short fits;
    }
