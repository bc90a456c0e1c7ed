-- What goes through a handover.
use Rattle.std.specs.Prelude.{◌≡◌, List, [], ◌∷◌, Option, None, Some}
use Rattle.handover.specs.declared.parcel.Parcel.{Parcel}
use Rattle.handover.specs.declared.parcel.Parcel.TheVariants as parcel

module _ {Q R : Type 0} where
  -- the request that the first parcel has
  abbrev pub request_of : List (Parcel Q R) → Option Q
  request_of [] = None
  request_of (parcel.Request q ∷ later) = Some q
  request_of (parcel.Response r ∷ later) = None

  -- a response behind a request answers it
  abbrev pub MayFollow : (Q → R → Type 0) → List (Parcel Q R) → Parcel Q R → Type 0
  MayFollow answers before (parcel.Request q) = Unit {0}
  MayFollow answers before (parcel.Response r) = (q : Q) → request_of before ≡ Some q → answers q r
