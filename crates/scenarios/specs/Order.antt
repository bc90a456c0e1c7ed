-- The orders of backfills, and their words, as commands and comments have them.
use Rattle.std.specs.Prelude.{◌≡◌, ℕ, List, [], ◌∷◌, if◌then◌else◌, Option, Some, None, codes, slice_get}
use Rattle.std.specs.Str.{bytes_eq}
use Rattle.scenarios.specs.declared.order.Order.{Order}
use Rattle.scenarios.specs.declared.order.Order.TheVariants.{Arrival, Shortest}

-- all orders
abbrev pub all_orders : List Order
all_orders = Arrival ∷ Shortest ∷ []

-- each order stands in the list
abbrev pub HasEachOrder : List Order → Type 0
HasEachOrder orders = (order : Order) → (place : ℕ) × (slice_get orders place ≡ Some order)

-- the word that names an order
abbrev pub order_word : Order → List ℕ
order_word Arrival = codes "arrival"
order_word Shortest = codes "shortest"

-- the order that a word names
abbrev pub order_of : List ℕ → Option Order
order_of word = if bytes_eq word (codes "arrival") then Some Arrival else (if bytes_eq word (codes "shortest") then Some Shortest else None)
