-- The machine's tests and look-ups, on what the book keeps.
use Rattle.std.specs.Prelude.{ℕ, ◌==◌, ◌&&◌, ◌<◌, not, Bool, false, nat_le, if◌then◌else◌, List, map, count_by, find, Option, None, Some}
use Rattle.std.specs.List.{list_any, AllPairs}
use Rattle.book_machine.specs.declared.settle_state.SettleState.{SettleState}
use Rattle.book_machine.specs.declared.settle_state.SettleState.TheVariants as settle
use Rattle.book_machine.specs.Machine.{is_below}
use Rattle.tasks.specs.Published.{PublishedView}
use Rattle.tasks.specs.Tickets.{TicketView, is_out}
use Rattle.version_book.specs.Book.{ShownView, published_version}

abbrev pub has_id : ℕ → ShownView → Bool
has_id id x = x.id == id

-- a mark of this version
abbrev pub is_mark : Option ℕ → ℕ → Bool
is_mark None v = false
is_mark (Some mark) v = mark == v

-- the version is neither published, nor given up, nor claimed
abbrev pub is_due_at : ℕ → List TicketView → ShownView → Bool
is_due_at v tickets x = is_below (published_version x) v && not (is_mark x.mark v) && not (is_out x.id v tickets)

-- the scenario with this id, changed
abbrev pub with_change : ℕ → (ShownView → ShownView) → List ShownView → List ShownView
with_change id change shown = map (λ x. if has_id id x then change x else x) shown

-- what is shown, with a run published, a mark set, or the mark taken away
abbrev pub publishing : PublishedView → ShownView → ShownView
publishing p x = record x { published = Some p }

abbrev pub marking : ℕ → ShownView → ShownView
marking v x = record x { mark = Some v }

abbrev pub unmarking : ShownView → ShownView
unmarking x = record x { mark = None }

-- what is published for the scenario with this id
abbrev pub published_for : ℕ → List ShownView → Option PublishedView
published_for id shown = elim (find (has_id id) shown) [ None ↦ None | Some x ↦ x.published ]

-- no two scenarios have one id
abbrev pub AreApart : List ShownView → Type 0
AreApart shown = AllPairs (λ (x y : ShownView). x.id < y.id) shown

-- the version that is published for the scenario with this id
abbrev pub version_shown : ℕ → List ShownView → Option ℕ
version_shown id shown = elim (find (has_id id) shown) [ None ↦ None | Some x ↦ published_version x ]

-- ---- how far all scenarios are

abbrev pub is_behind : ℕ → ShownView → Bool
is_behind seen x = is_below (published_version x) seen

-- at the current version v
abbrev pub is_awaited : ℕ → ℕ → ShownView → Bool
is_awaited seen v x = is_behind seen x && not (is_mark x.mark v && nat_le seen v)

abbrev pub settled_at : ℕ → ℕ → List ShownView → SettleState
settled_at seen v shown =
    if list_any (is_awaited seen v) shown then settle.Waiting
    else (if count_by (is_behind seen) shown == 0 then settle.Done else settle.Failed (count_by (is_behind seen) shown))
