-- What a row keeps through each edit.
use Rattle.std.proofs.Common.{◌≡◌, ℕ, ◌+◌, ◌-◌, ◌*◌, ◌^◌, ◌<◌, ◌≤◌, List, [], ◌∷◌, length, get_or, set, insert, remove, ap, sym, subst, ◌∙◌, ◌⊎◌, inl, inr, arith}
use Rattle.std.specs.List.{All, sum_by}
use Rattle.std.proofs.lemmas.Bool.{cases_lt}
use Rattle.std.proofs.lemmas.List.{length-set}
use Rattle.std.proofs.lemmas.List.Edits.{length-insert, length-remove}
use Rattle.std.proofs.lemmas.List.Elements.{All-weaker}
use Rattle.std.proofs.lemmas.List.Sums.{get_or-le-sum_by, sum_by-cons, sum_by-le, sum_by-le-sum_by, sum_by-remove, sum_by-set}
use Rattle.blocks.specs.Rows.{AreFilled, IsFilled, IsRow, cut_at, flat, joined_at, over_of, capacity_of}
use Rattle.blocks.proofs.Edits.{all_is, cut_filled, cut_flat, cut_length, cut_over, filled-remove, filled-set, filled_here, join_filled, join_flat, join_length, join_over}

module _ {X : Type 0} where
  abbrev IsClear : List X → Type 0
  IsClear c = c ≡ []

  most : (cs : List (List X)) → AreFilled cs → sum_by (λ (c : List X). length c) cs ≤ length cs * 128
  most [] s = omega arith
  most (c ∷ cs) s = omega (arith, sum_by-cons (λ (c : List X). length c) c cs, s.0.high, most cs s.1)

  fewer : (c : List X) → over_of c ≤ length c
  fewer c = omega arith

  -- the first block of all, with its item
  pub first_block : (used new : List (List X)) (b c : List X) (x : X) → used ≡ [] → b ≡ [] → c ≡ insert b 0 x → new ≡ insert used 0 c → new ≡ (x ∷ []) ∷ []
  first_block used new b c x none clear e f = f ∙ ap (λ (r : List (List X)). insert r 0 c) none ∙ ap (λ (l : List X). l ∷ []) (e ∙ ap (λ (l : List X). insert l 0 x) clear)

  module _ {used empty : List (List X)} {over len ur er : ℕ} (row : IsRow used empty over len ur er) where
    -- one block is over by no more items than all blocks together
    pub over_here : (k : ℕ) → k < length used → length (get_or used k []) - 65 ≤ over
    over_here k lt = omega (arith, get_or-le-sum_by over_of used k [] lt, row.overs)

    -- a row has at most 2 ^ 47 items
    pub many : len ≤ 2 ^ 47
    many = omega (arith, row.all, all_is used, most used row.filled, row.few)

    -- its items weigh less than 2 ^ 127 together, if each weighs less than 2 ^ 64
    pub weighs : (f : X → ℕ) → All (λ x. f x < 2 ^ 64) (flat used) → sum_by f (flat used) < 2 ^ 127
    weighs f fit =
        let each : All (λ x. f x ≤ 18446744073709551616) (flat used) = All-weaker (λ x. f x < 2 ^ 64) (λ x. f x ≤ 18446744073709551616) (λ x (k : f x < 2 ^ 64). omega (arith, k)) (flat used) fit in
        omega (arith, sum_by-le f 18446744073709551616 (flat used) each, many, row.all)

    -- a row is over by at most 2 ^ 47 items
    pub over_many : over ≤ 2 ^ 47
    over_many = omega (arith, row.overs, sum_by-le-sum_by over_of (λ (c : List X). length c) used (λ (c : List X). fewer c), most used row.filled, row.few)

    -- a block has some of the items
    pub here_all : (k : ℕ) → k < length used → length (get_or used k []) ≤ len
    here_all k lt = omega (arith, row.all, all_is used, get_or-le-sum_by (λ (c : List X). length c) used k [] lt)

    -- a row that had no block in use, and now has one with one item, keeps what a row keeps
    pub begun_row : (x : X) (new rest : List (List X)) (ur' er' : ℕ) → used ≡ [] → new ≡ (x ∷ []) ∷ [] → All IsClear rest → length rest + 1 ≡ length empty → ur ≤ ur' → er ≤ er' → IsRow new rest over 1 ur' er'
    begun_row x new rest ur' er' none e clear fewer wide capacity =
        let count : length new ≡ length used + 1 = omega (arith, ap (λ (r : List (List X)). length r) e, ap (λ (r : List (List X)). length r) none) in
        let over_none : over ≡ 0 = row.overs ∙ ap (sum_by over_of) none in
        record {
          filled = subst AreFilled (sym e) (record { low = omega arith; high = omega arith }, tt);
          cleared = clear;
          overs = over_none ∙ sym (ap (sum_by over_of) e);
          owed = omega (arith, over_none);
          all = sym (ap (λ (r : List (List X)). length (flat r)) e);
          few = omega (arith, row.few, fewer, count);
          usable = omega (arith, row.usable, fewer, count, wide);
          returnable = omega (arith, row.returnable, fewer, count, capacity);
        }

    -- a row with the same blocks, in use and empty, and no less capacity keeps what a row keeps
    pub kept_row : (more rest : List (List X)) (ur' er' : ℕ) → more ≡ used → rest ≡ empty → ur ≤ ur' → er ≤ er' → IsRow more rest over len ur' er'
    kept_row more rest ur' er' e f wide capacity =
        let count : length more ≡ length used = ap (λ (r : List (List X)). length r) e in
        let same : length rest ≡ length empty = ap (λ (r : List (List X)). length r) f in
        record {
          filled = subst AreFilled (sym e) row.filled;
          cleared = subst (All IsClear) (sym f) row.cleared;
          overs = row.overs ∙ sym (ap (sum_by over_of) e);
          owed = omega (arith, row.owed, same);
          all = row.all ∙ sym (ap (λ (r : List (List X)). length (flat r)) e);
          few = omega (arith, row.few, count, same);
          usable = omega (arith, row.usable, count, same, wide);
          returnable = omega (arith, row.returnable, count, same, capacity);
        }

    -- a row with one empty block more, and capacity for it, keeps it
    pub grown_row : (more rest : List (List X)) (ur' er' : ℕ) → more ≡ used → All IsClear rest → length rest ≡ length empty + 1 → length used + length empty < 2 ^ 40 → length used + length empty < ur' → length used + length empty < er' → IsRow more rest over len ur' er'
    grown_row more rest ur' er' e clear added few wide capacity =
        let count : length more ≡ length used = ap (λ (r : List (List X)). length r) e in
        record {
          filled = subst AreFilled (sym e) row.filled;
          cleared = clear;
          overs = row.overs ∙ sym (ap (sum_by over_of) e);
          owed = omega (arith, row.owed, added);
          all = row.all ∙ sym (ap (λ (r : List (List X)). length (flat r)) e);
          few = omega (arith, few, count, added);
          usable = omega (arith, wide, count, added);
          returnable = omega (arith, capacity, count, added);
        }

    -- a row whose full block was cut, with one empty block fewer, keeps it, and is over by 63 fewer
    pub cut_row : (k : ℕ) (new rest : List (List X)) (ur' er' : ℕ) → k < length used → length (get_or used k []) ≡ 128 → 1 ≤ capacity_of (length used) (length empty) over → new ≡ cut_at k used → All IsClear rest → length rest + 1 ≡ length empty → ur ≤ ur' → er ≤ er' → IsRow new rest (over - 63) len ur' er'
    cut_row k new rest ur' er' lt full some e clear fewer wide capacity =
        let count : length new ≡ length used + 1 = ap length e ∙ cut_length k used lt in
        record {
          filled = subst AreFilled (sym e) (cut_filled k used lt row.filled full);
          cleared = clear;
          overs = omega (arith, row.overs, ap (sum_by over_of) e, cut_over k used lt full);
          owed = omega (arith, some, fewer);
          all = row.all ∙ ap length (sym (ap flat e ∙ cut_flat k used lt));
          few = omega (arith, row.few, fewer, count);
          usable = omega (arith, row.usable, fewer, count, wide);
          returnable = omega (arith, row.returnable, fewer, count, capacity);
        }

    same_row : (k : ℕ) (block : List X) (new : List (List X)) (over' len' ur' er' : ℕ) → k < length used → IsFilled block → new ≡ set used k block → ur ≤ ur' → er ≤ er'
        → over' ≤ 64 * length empty → over' + (length (get_or used k []) - 65) ≡ over + (length block - 65) → len' + length (get_or used k []) ≡ len + length block → IsRow new empty over' len' ur' er'
    same_row k block new over' len' ur' er' lt full e wide same owed overs all =
        let count : length new ≡ length used = ap length e ∙ length-set used k block in
        record {
          filled = subst AreFilled (sym e) (filled-set k used block row.filled full);
          cleared = row.cleared;
          overs = omega (arith, row.overs, ap (sum_by over_of) e, sum_by-set over_of used k block [] lt, overs);
          owed = owed;
          all = omega (arith, row.all, all_is used, all_is new, ap (sum_by (λ (c : List X). length c)) e, sum_by-set (λ (c : List X). length c) used k block [] lt, all);
          few = omega (arith, row.few);
          usable = omega (arith, row.usable);
          returnable = omega (arith, row.returnable);
        }

    -- a row with one item more in a block that had capacity keeps it
    pub put_row : (k at n less more : ℕ) (new : List (List X)) (x : X) (ur' er' : ℕ) → k < length used → at ≤ length (get_or used k []) → length (get_or used k []) < 128 → (64 < length (get_or used k []) → 1 ≤ capacity_of (length used) (length empty) over) → n ≡ length (get_or used k []) → less ≡ n - 65 → more ≡ n + 1 - 65 → new ≡ set used k (insert (get_or used k []) at x) → ur ≤ ur' → er ≤ er'
        → IsRow new empty (over - less + more) (len + 1) ur' er'
    put_row k at n less more new x ur' er' lt le short capacity long down up e wide same =
        let longer : length (insert (get_or used k []) at x) ≡ length (get_or used k []) + 1 = length-insert (get_or used k []) at x le in
        same_row k (insert (get_or used k []) at x) new (over - less + more) (len + 1) ur' er' lt (record { low = omega arith; high = omega arith }) e wide same (owes (cases_lt 64 (length (get_or used k [])))) (omega (arith, over_here k lt)) (omega arith)
      where
        owes : (64 < length (get_or used k [])) ⊎ (length (get_or used k []) ≤ 64) → over - less + more ≤ 64 * length empty
        owes (inl many) = let some = capacity many in omega (arith, row.owed, some)
        owes (inr few) = omega (arith, row.owed)

    -- an insertion in a block takes at most one from the insertions that surely find capacity
    pub put_spare : (k n less more : ℕ) (b : List X) (new : List (List X)) {spare : ℕ} → k < length used → n ≡ length (get_or used k []) → less ≡ n - 65 → more ≡ n + 1 - 65 → new ≡ set used k b → spare ≡ capacity_of (length used) (length empty) over → spare ≤ capacity_of (length new) (length empty) (over - less + more) + 1
    put_spare k n less more b new lt long down up e is = omega (arith, long, down, up, over_here k lt, ap length e, length-set used k b, is)

    -- an insertion in a block of at most 64 items leaves as many insertions that surely find capacity
    pub put_kept : (n less more k : ℕ) (b : List X) (new : List (List X)) {spare : ℕ} → n ≤ 64 → less ≡ n - 65 → more ≡ n + 1 - 65 → new ≡ set used k b → spare ≡ capacity_of (length used) (length empty) over → capacity_of (length new) (length empty) (over - less + more) ≡ spare
    put_kept n less more k b new short down up e is = omega (arith, short, down, up, ap length e, length-set used k b, is)

    -- an item taken from a block leaves no fewer insertions that surely find capacity
    pub taken_spare : (k n less more : ℕ) (b : List X) (new : List (List X)) {spare : ℕ} → k < length used → n ≡ length (get_or used k []) → less ≡ n - 65 → more ≡ n - 1 - 65 → new ≡ set used k b → spare ≡ capacity_of (length used) (length empty) over → spare ≤ capacity_of (length new) (length empty) (over - less + more)
    taken_spare k n less more b new lt long down up e is = omega (arith, long, down, up, over_here k lt, ap length e, length-set used k b, is)

    -- a row with one item fewer in a block that has others keeps what a row keeps
    pub taken_row : (k at n less more : ℕ) (new : List (List X)) (ur' er' : ℕ) → k < length used → at < length (get_or used k []) → 2 ≤ length (get_or used k []) → n ≡ length (get_or used k []) → less ≡ n - 65 → more ≡ n - 1 - 65 → new ≡ set used k (remove (get_or used k []) at) → ur ≤ ur' → er ≤ er'
        → IsRow new empty (over - less + more) (len - 1) ur' er'
    taken_row k at n less more new ur' er' lt le several long down up e wide same =
        let shorter : length (remove (get_or used k []) at) + 1 ≡ length (get_or used k []) = length-remove (get_or used k []) at le in
        let here : IsFilled (get_or used k []) = filled_here k used row.filled lt in
        same_row k (remove (get_or used k []) at) new (over - less + more) (len - 1) ur' er' lt (record { low = omega arith; high = omega (arith, here.high) }) e wide same (omega (arith, row.owed, over_here k lt)) (omega (arith, over_here k lt)) (omega (arith, here_all k lt))

    -- a row one of whose blocks of one item is now among the empty ones keeps it
    pub retired_row : (k : ℕ) (new rest : List (List X)) (ur' er' : ℕ) → k < length used → length (get_or used k []) ≡ 1 → new ≡ remove used k → All IsClear rest → length rest ≡ length empty + 1 → ur ≤ ur' → er ≤ er' → IsRow new rest over (len - 1) ur' er'
    retired_row k new rest ur' er' lt one e clear more wide capacity =
        let count : length new + 1 ≡ length used = ap (λ (r : List (List X)). length r + 1) e ∙ length-remove used k lt in
        record {
          filled = subst AreFilled (sym e) (filled-remove k used row.filled);
          cleared = clear;
          overs = omega (arith, row.overs, ap (sum_by over_of) e, sum_by-remove over_of used k [] lt, one);
          owed = omega (arith, row.owed, more);
          all = omega (arith, row.all, all_is used, all_is new, ap (sum_by (λ (c : List X). length c)) e, sum_by-remove (λ (c : List X). length c) used k [] lt, one);
          few = omega (arith, row.few, more, count);
          usable = omega (arith, row.usable, more, count, wide);
          returnable = omega (arith, row.returnable, more, count, capacity);
        }

    -- a row of which two blocks with at most 64 items together were joined, with one empty block more, keeps it
    pub joined_row : (k : ℕ) (new rest : List (List X)) (ur' er' : ℕ) → k + 1 < length used → length (get_or used k []) + length (get_or used (k + 1) []) ≤ 64 → new ≡ joined_at k used → All IsClear rest → length rest ≡ length empty + 1 → ur ≤ ur' → er ≤ er' → IsRow new rest over len ur' er'
    joined_row k new rest ur' er' lt le e clear more wide capacity =
        let count : length new + 1 ≡ length used = ap (λ (r : List (List X)). length r + 1) e ∙ join_length k used lt in
        record {
          filled = subst AreFilled (sym e) (join_filled k used lt row.filled le);
          cleared = clear;
          overs = row.overs ∙ sym (ap (sum_by over_of) e ∙ join_over k used lt le);
          owed = omega (arith, row.owed, more);
          all = row.all ∙ ap length (sym (join_flat k used new lt e));
          few = omega (arith, row.few, more, count);
          usable = omega (arith, row.usable, more, count, wide);
          returnable = omega (arith, row.returnable, more, count, capacity);
        }
