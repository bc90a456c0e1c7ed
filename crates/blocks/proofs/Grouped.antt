-- Groups of blocks, through each edit of the blocks: where a block begins once one before it was edited, one group, all groups, and the
-- groups before a block that is cut, joined or taken away.
use Rattle.std.proofs.Common.{◌≡◌, ℕ, zero, suc, ◌+◌, ◌-◌, ◌*◌, ◌/◌, ◌<◌, ◌≤◌, List, [], ◌∷◌, ◌++◌, length, length-append, take, drop, get_or, insert, remove, set, slice_get, refl, ap, sym, subst, ◌∙◌, arith, ⊎_elim}
use Rattle.std.specs.List.{All, sum_by}
use Rattle.std.proofs.lemmas.Bool.{cases_lt}
use Rattle.std.proofs.lemmas.List.{append-nil, drop_all, get_or_at, get_or_past, length-set, length-take, length-take-le, length_push, take_all, take_more}
use Rattle.std.proofs.lemmas.List.Edits.{length-insert, length-remove}
use Rattle.std.proofs.lemmas.List.Elements.{All-append, All-nil}
use Rattle.std.proofs.lemmas.List.Sums.{sum_by-append, sum_by-cons, sum_by-insert, sum_by-remove}
use Rattle.blocks.specs.Rows.{cut_at, flat, joined_at, start, weight_to}
use Rattle.blocks.proofs.Bounds.{all_insert, all_remove, lower}
use Rattle.blocks.proofs.Edits.{again_is, cut_parts, join_parts, read_is}
use Rattle.blocks.specs.Groups.{AreGroups, IsGroup}
use Rattle.blocks.specs.declared.groups.Group.{Group}

module _ {Y : Type 0} where
  front_take : (k n : ℕ) (xs rest : List Y) → k ≤ n → n ≤ length xs → take k (take n xs ++ rest) ≡ take k xs
  front_take zero n xs rest le within = refl
  front_take (suc k) zero xs rest le within = absurd (omega (arith, le))
  front_take (suc k) (suc n) [] rest le within = absurd (omega (arith, within))
  front_take (suc k) (suc n) (x ∷ xs) rest le within = ap (λ (r : List Y). x ∷ r) (front_take k n xs rest (omega (arith, le)) (omega (arith, within)))

  front_get : (k n : ℕ) (xs rest : List Y) (d : Y) → k < n → n ≤ length xs → get_or (take n xs ++ rest) k d ≡ get_or xs k d
  front_get k zero xs rest d lt within = absurd (omega (arith, lt))
  front_get k (suc n) [] rest d lt within = absurd (omega (arith, within))
  front_get zero (suc n) (x ∷ xs) rest d lt within = refl
  front_get (suc k) (suc n) (x ∷ xs) rest d lt within = front_get k n xs rest d (omega (arith, lt)) (omega (arith, within))

  take_get : (k n : ℕ) (xs : List Y) (d : Y) → k < n → get_or (take n xs) k d ≡ get_or xs k d
  take_get k zero xs d lt = absurd (omega (arith, lt))
  take_get k (suc n) [] d lt = refl
  take_get zero (suc n) (x ∷ xs) d lt = refl
  take_get (suc k) (suc n) (x ∷ xs) d lt = take_get k n xs d (omega (arith, lt))

  set_below : (k b : ℕ) (xs : List Y) (y d : Y) → k < b → get_or (set xs b y) k d ≡ get_or xs k d
  set_below k b [] y d lt = refl
  set_below k zero (x ∷ xs) y d lt = absurd (omega (arith, lt))
  set_below zero (suc b) (x ∷ xs) y d lt = refl
  set_below (suc k) (suc b) (x ∷ xs) y d lt = set_below k b xs y d (omega (arith, lt))

  set_above : (k b : ℕ) (xs : List Y) (y d : Y) → b < k → get_or (set xs b y) k d ≡ get_or xs k d
  set_above k b [] y d lt = refl
  set_above zero b (x ∷ xs) y d lt = absurd (omega (arith, lt))
  set_above (suc k) zero (x ∷ xs) y d lt = refl
  set_above (suc k) (suc b) (x ∷ xs) y d lt = set_above k b xs y d (omega (arith, lt))

  set_here : (b : ℕ) (xs : List Y) (y d : Y) → b < length xs → get_or (set xs b y) b d ≡ y
  set_here b [] y d lt = absurd (omega (arith, lt))
  set_here zero (x ∷ xs) y d lt = refl
  set_here (suc b) (x ∷ xs) y d lt = set_here b xs y d (omega (arith, lt))

  take_set : (k b : ℕ) (xs : List Y) (y : Y) → k ≤ b → take k (set xs b y) ≡ take k xs
  take_set zero b xs y le = refl
  take_set (suc k) b [] y le = refl
  take_set (suc k) zero (x ∷ xs) y le = absurd (omega (arith, le))
  take_set (suc k) (suc b) (x ∷ xs) y le = ap (λ (r : List Y). x ∷ r) (take_set k b xs y (omega (arith, le)))

-- a list that was lent as a whole, and has its length still, is what it was written to
pub lent : {Y : Type 0} (n : ℕ) (new old : List Y) → n ≡ length old → length new ≡ length old → take n (new ++ drop (length new) old) ≡ new
lent n new old at same =
    ap (λ (r : List _). take n (new ++ r)) (drop_all (length new) old (omega (arith, same))) ∙ ap (take n) (append-nil new) ∙ take_all n new (omega (arith, at, same))

-- a list has its length still once one of its elements was set
pub lent_length : {Y : Type 0} (k : ℕ) (new old seen : List Y) (f : List Y → Y) → seen ≡ old → new ≡ set seen k (f seen) → length new ≡ length old
lent_length k new old seen f same e = ap length e ∙ length-set seen k (f seen) ∙ ap length same

-- a list that was lent as a whole, and one of whose elements was set, is the old list with that element set
pub lent_set : {Y : Type 0} (n k : ℕ) (new old seen : List Y) (f : List Y → Y) → n ≡ length old → seen ≡ old → new ≡ set seen k (f seen) → take n (new ++ drop (length new) old) ≡ set old k (f old)
lent_set n k new old seen f at same e =
    let here : new ≡ set old k (f old) = e ∙ ap (λ (r : List _). set r k (f r)) same in
    lent n new old at (ap length here ∙ length-set old k (f old)) ∙ here

module _ {X : Type 0} (m : List X → ℕ) (adds : (xs ys : List X) → m (xs ++ ys) ≡ m xs + m ys) where
  abbrev upto : ℕ → List (List X) → ℕ
  upto k cs = m (flat (take k cs))

  upto_set : (k b : ℕ) (cs : List (List X)) (c : List X) → b < k → b < length cs → upto k (set cs b c) + m (get_or cs b []) ≡ upto k cs + m c
  upto_set zero b cs c lt there = absurd (omega (arith, lt))
  upto_set (suc k) b [] c lt there = absurd (omega (arith, there))
  upto_set (suc k) zero (d ∷ cs) c lt there = omega (arith, adds c (flat (take k cs)), adds d (flat (take k cs)))
  upto_set (suc k) (suc b) (d ∷ cs) c lt there =
      omega (arith, adds d (flat (take k (set cs b c))), adds d (flat (take k cs)), upto_set k b cs c (omega (arith, lt)) (omega (arith, there)))

  upto_same : (k b : ℕ) (cs : List (List X)) (c : List X) → k ≤ b → upto k (set cs b c) ≡ upto k cs
  upto_same k b cs c le = ap (λ (r : List (List X)). m (flat r)) (take_set k b cs c le)

  upto_suc : (k : ℕ) (cs : List (List X)) → k < length cs → upto (suc k) cs ≡ upto k cs + m (get_or cs k [])
  upto_suc k [] lt = absurd (omega (arith, lt))
  upto_suc zero (c ∷ cs) lt = omega (arith, adds c [])
  upto_suc (suc k) (c ∷ cs) lt = omega (arith, adds c (flat (take (suc k) cs)), adds c (flat (take k cs)), upto_suc k cs (omega (arith, lt)))

  upto_next : (k : ℕ) (cs : List (List X)) → k < length cs → upto (k + 1) cs ≡ upto k cs + m (get_or cs k [])
  upto_next k cs lt = let next : k + 1 ≡ suc k = omega arith in ap (λ (n : ℕ). upto n cs) next ∙ upto_suc k cs lt

  upto_rises : (k n : ℕ) (cs : List (List X)) → k ≤ n → upto k cs ≤ upto n cs
  upto_rises zero n cs le = omega (arith, adds [] [])
  upto_rises (suc k) zero cs le = absurd (omega (arith, le))
  upto_rises (suc k) (suc n) [] le = omega arith
  upto_rises (suc k) (suc n) (c ∷ cs) le = omega (arith, adds c (flat (take k cs)), adds c (flat (take n cs)), upto_rises k n cs (omega (arith, le)))

  -- first blocks give no more than all items
  pub upto_most : (k : ℕ) (cs : List (List X)) → upto k cs ≤ m (flat cs)
  upto_most zero cs = omega (arith, adds [] [])
  upto_most (suc k) [] = omega arith
  upto_most (suc k) (c ∷ cs) = omega (arith, adds c (flat (take k cs)), adds c (flat cs), upto_most k cs)

  upto_groups : (size : Group → ℕ) (n : ℕ) (cs : List (List X)) (groups : List Group) → ((k : ℕ) (d : Group) → k < length groups → upto (64 * k) cs + size (get_or groups k d) ≡ upto (64 * k + 64) cs) → n ≤ length groups → sum_by size (take n groups) ≡ upto (64 * n) cs
  upto_groups size zero cs groups each le = omega (arith, adds [] [])
  upto_groups size (suc n) cs [] each le = absurd (omega (arith, le))
  upto_groups size (suc n) cs (h ∷ groups) each le =
      let gs = h ∷ groups in
      let next : n + 1 ≡ suc n = omega arith in
      let far : 64 * n + 64 ≡ 64 * suc n = omega arith in
      let lt : n < length gs = omega (arith, le) in
      ap (λ (k : ℕ). sum_by size (take k gs)) (sym next) ∙ ap (sum_by size) (take_more gs n h lt) ∙ sum_by-append size (take n gs) (get_or gs n h ∷ [])
      ∙ omega (arith, upto_groups size n cs gs each (omega (arith, le)), each n h lt, ap (λ (k : ℕ). upto k cs) far, sum_by-cons size (get_or gs n h) [])

module _ {X : Type 0} where
  -- one block further, the items of the block are passed too
  pub start_next : (k : ℕ) (cs : List (List X)) → k < length cs → start (k + 1) cs ≡ start k cs + length (get_or cs k [])
  start_next k cs lt = upto_next length length-append k cs lt

  -- behind the last block is the end of that one
  pub open_start : (k at count : ℕ) (cs : List (List X)) → 1 ≤ length cs → k ≤ length cs → length cs ≤ k → at ≤ length (get_or cs k []) → count ≡ length (get_or cs (length cs - 1) []) → start (length cs - 1) cs + count ≡ start k cs + at
  open_start k at count cs some le ge within e =
      let last : length cs - 1 + 1 ≡ k = omega (arith, some, le, ge) in
      omega (arith, e, start_next (length cs - 1) cs (omega (arith, some)), ap (λ (n : ℕ). start n cs) last, within, ap length (get_or_past cs k [] ge))

  -- a block begins no later than all items end
  pub start_most : (k : ℕ) (cs : List (List X)) → start k cs ≤ length (flat cs)
  start_most k cs = upto_most length length-append k cs

  module _ (f : X → ℕ) where
    abbrev Low : ℕ → List X → Type 0
    Low least xs = All (λ x. least ≤ f x) xs

    pub group_front : (n : ℕ) (cs rest : List (List X)) (first : ℕ) (group : Group) → n ≤ length cs → first + 64 ≤ n → IsGroup f cs first group → IsGroup f (take n cs ++ rest) first group
    group_front n cs rest first group within le g =
        let begin = front_take first n cs rest (omega (arith, le)) within in
        let end = front_take (first + 64) n cs rest le within in
        record {
          there = omega (arith, length-append (take n cs) rest, length-take-le n cs within, le);
          count = omega (arith, g.count, ap (λ (r : List (List X)). length (flat r)) begin, ap (λ (r : List (List X)). length (flat r)) end);
          sum = omega (arith, g.sum, ap (λ (r : List (List X)). sum_by f (flat r)) begin, ap (λ (r : List (List X)). sum_by f (flat r)) end);
          bound = λ block low high. subst (Low group.least) (sym (front_get block n cs rest [] (omega (arith, high, le)) within)) (g.bound block low high);
        }

    pub group_before : (cs : List (List X)) (b : ℕ) (c : List X) (first : ℕ) (group : Group) → first + 64 ≤ b → IsGroup f cs first group → IsGroup f (set cs b c) first group
    group_before cs b c first group le g =
        record {
          there = omega (arith, length-set cs b c, g.there);
          count = omega (arith, g.count, upto_same length length-append first b cs c (omega (arith, le)), upto_same length length-append (first + 64) b cs c le);
          sum = omega (arith, g.sum, upto_same (sum_by f) (sum_by-append f) first b cs c (omega (arith, le)), upto_same (sum_by f) (sum_by-append f) (first + 64) b cs c le);
          bound = λ block low high. subst (Low group.least) (sym (set_below block b cs c [] (omega (arith, high, le)))) (g.bound block low high);
        }

    pub group_behind : (cs : List (List X)) (b : ℕ) (c : List X) (first : ℕ) (group : Group) → b < first → IsGroup f cs first group → IsGroup f (set cs b c) first group
    group_behind cs b c first group lt g =
        let there : b < length cs = omega (arith, lt, g.there) in
        record {
          there = omega (arith, length-set cs b c, g.there);
          count = omega (arith, g.count, upto_set length length-append first b cs c lt there, upto_set length length-append (first + 64) b cs c (omega (arith, lt)) there);
          sum = omega (arith, g.sum, upto_set (sum_by f) (sum_by-append f) first b cs c lt there, upto_set (sum_by f) (sum_by-append f) (first + 64) b cs c (omega (arith, lt)) there);
          bound = λ block low high. subst (Low group.least) (sym (set_above block b cs c [] (omega (arith, low, lt)))) (g.bound block low high);
        }

    pub group_edited : (cs : List (List X)) (b : ℕ) (c : List X) (first : ℕ) (group edited : Group) → first ≤ b → b < first + 64 → IsGroup f cs first group → edited.items + length (get_or cs b []) ≡ group.items + length c → edited.weight + sum_by f (get_or cs b []) ≡ group.weight + sum_by f c
        → edited.least ≤ group.least → Low edited.least c → IsGroup f (set cs b c) first edited
    group_edited cs b c first group edited le lt g count sum low here =
        let there : b < length cs = omega (arith, lt, g.there) in
        let others : (block : ℕ) → first ≤ block → block < first + 64 → Low edited.least (get_or cs block []) = λ block from to. lower f group.least edited.least (get_or cs block []) low (g.bound block from to) in
        record {
          there = omega (arith, length-set cs b c, g.there);
          count = omega (arith, g.count, count, upto_same length length-append first b cs c le, upto_set length length-append (first + 64) b cs c lt there);
          sum = omega (arith, g.sum, sum, upto_same (sum_by f) (sum_by-append f) first b cs c le, upto_set (sum_by f) (sum_by-append f) (first + 64) b cs c lt there);
          bound = λ block from to.
              ⊎_elim
              (λ (l : block < b). subst (Low edited.least) (sym (set_below block b cs c [] l)) (others block from to))
              (λ (r : b ≤ block).
              ⊎_elim
              (λ (a : b < block). subst (Low edited.least) (sym (set_above block b cs c [] a)) (others block from to))
              (λ (e : block ≤ b).
              let same : b ≡ block = omega (arith, r, e) in
              subst (λ (k : ℕ). Low edited.least (get_or (set cs b c) k [])) same (subst (Low edited.least) (sym (set_here b cs c [] there)) here))
              (cases_lt b block))
              (cases_lt block b);
        }

    pub groups_front : (n : ℕ) (cs new rest : List (List X)) (groups kept : List Group) → n ≤ length cs → new ≡ take n cs ++ rest → kept ≡ take (n / 64) groups → AreGroups f cs groups → AreGroups f new kept
    groups_front n cs new rest groups kept within e k all number other lt =
        let below : number < n / 64 = omega (arith, ap length k, length-take (n / 64) groups, lt) in
        let inside : number < length groups = omega (arith, ap length k, length-take (n / 64) groups, lt) in
        let last : 64 * number + 64 ≤ n = omega (arith, below) in
        let same : get_or kept number other ≡ get_or groups number other = ap (λ (r : List Group). get_or r number other) k ∙ take_get number (n / 64) groups other below in
        subst (λ (g : Group). IsGroup f new (64 * number) g) (sym same)
        (subst (λ (r : List (List X)). IsGroup f r (64 * number) (get_or groups number other)) (sym e)
        (group_front n cs rest (64 * number) (get_or groups number other) within last (all number other inside)))

    -- what is known of groups is known of equal blocks and equal groups
    pub groups_same : (cs new : List (List X)) (groups kept : List Group) → new ≡ cs → kept ≡ groups → AreGroups f cs groups → AreGroups f new kept
    groups_same cs new groups kept e k all = subst (λ (r : List (List X)). AreGroups f r kept) (sym e) (subst (AreGroups f cs) (sym k) all)

    groups_none : (cs : List (List X)) (groups : List Group) → length groups ≡ 0 → AreGroups f cs groups
    groups_none cs groups none number other lt = absurd (omega (arith, none, lt))

    pub groups_set : (cs new : List (List X)) (b q : ℕ) (c : List X) (groups : List Group) (group : Group) → q ≡ b / 64 → new ≡ set cs b c → AreGroups f cs groups → q < length groups → IsGroup f (set cs b c) (64 * q) group → AreGroups f new (set groups q group)
    groups_set cs new b q c groups group at e all there is number other lt =
        let inside : number < length groups = omega (arith, length-set groups q group, lt) in
        subst (λ (r : List (List X)). IsGroup f r (64 * number) (get_or (set groups q group) number other)) (sym e)
        (⊎_elim
        (λ (l : number < q).
        subst (λ (g : Group). IsGroup f (set cs b c) (64 * number) g) (sym (set_below number q groups group other l))
        (group_before cs b c (64 * number) (get_or groups number other) (omega (arith, at, l)) (all number other inside)))
        (λ (r : q ≤ number).
        ⊎_elim
        (λ (a : q < number).
        subst (λ (g : Group). IsGroup f (set cs b c) (64 * number) g) (sym (set_above number q groups group other a))
        (group_behind cs b c (64 * number) (get_or groups number other) (omega (arith, at, a)) (all number other inside)))
        (λ (s : number ≤ q).
        let same : q ≡ number = omega (arith, r, s) in
        subst (λ (k : ℕ). IsGroup f (set cs b c) (64 * k) (get_or (set groups q group) k other)) same
        (subst (λ (g : Group). IsGroup f (set cs b c) (64 * q) g) (sym (set_here q groups group other there)) is))
        (cases_lt q number))
        (cases_lt number q))

    -- the groups are known still where a block behind all of them is set
    pub groups_unset : (cs new : List (List X)) (b q : ℕ) (c : List X) (groups : List Group) → q ≡ b / 64 → new ≡ set cs b c → AreGroups f cs groups → length groups ≤ q → AreGroups f new groups
    groups_unset cs new b q c groups at e all past number other lt =
        subst (λ (r : List (List X)). IsGroup f r (64 * number) (get_or groups number other)) (sym e)
        (group_before cs b c (64 * number) (get_or groups number other) (omega (arith, at, past, lt)) (all number other lt))

    pub groups_push : (cs : List (List X)) (groups more : List Group) (group : Group) → more ≡ groups ++ group ∷ [] → AreGroups f cs groups → IsGroup f cs (64 * length groups) group → AreGroups f cs more
    groups_push cs groups more group e all is number other lt =
        subst (λ (r : List Group). IsGroup f cs (64 * number) (get_or r number other)) (sym e)
        (⊎_elim
        (λ (l : number < length groups).
        subst (λ (g : Group). IsGroup f cs (64 * number) g) (sym (before number groups l)) (all number other l))
        (λ (r : length groups ≤ number).
        let same : length groups ≡ number = omega (arith, r, lt, ap length e, length_push groups group) in
        subst (λ (k : ℕ). IsGroup f cs (64 * k) (get_or (groups ++ group ∷ []) k other)) same
        (subst (λ (g : Group). IsGroup f cs (64 * length groups) g) (sym (get_or_at groups group [] other (length groups) refl)) is))
        (cases_lt number (length groups)))
      where
        before : (k : ℕ) (gs : List Group) → k < length gs → get_or (gs ++ group ∷ []) k other ≡ get_or gs k other
        before k [] l = absurd (omega (arith, l))
        before zero (h ∷ gs) l = refl
        before (suc k) (h ∷ gs) l = before k gs (omega (arith, l))

    -- there are 64 blocks for each group
    pub groups_there : (cs : List (List X)) (groups : List Group) → AreGroups f cs groups → 64 * length groups ≤ length cs
    groups_there cs [] all = omega arith
    groups_there cs (g ∷ groups) all = let last = (all (length groups) g (omega arith)).there in omega (arith, last)

    -- the first groups have as many items together as the blocks of theirs
    pub groups_sum : (n : ℕ) (cs : List (List X)) (groups : List Group) → AreGroups f cs groups → n ≤ length groups → sum_by (λ (g : Group). g.items) (take n groups) ≡ start (64 * n) cs
    groups_sum n cs groups all le = upto_groups length length-append (λ (g : Group). g.items) n cs groups (λ k d lt. (all k d lt).count) le

    -- and these weigh as much together
    pub groups_weight : (n : ℕ) (cs : List (List X)) (groups : List Group) → AreGroups f cs groups → n ≤ length groups → sum_by (λ (g : Group). g.weight) (take n groups) ≡ weight_to f (64 * n) cs
    groups_weight n cs groups all le = upto_groups (sum_by f) (sum_by-append f) (λ (g : Group). g.weight) n cs groups (λ k d lt. (all k d lt).sum) le

    pub low_all : (least : ℕ) (cs : List (List X)) → ((k : ℕ) → k < length cs → Low least (get_or cs k [])) → Low least (flat cs)
    low_all least [] h = All-nil (λ x. least ≤ f x)
    low_all least (c ∷ cs) h = All-append (λ x. least ≤ f x) c (flat cs) (h 0 (omega arith)) (low_all least cs (λ k lt. h (suc k) (omega (arith, lt))))

    -- all groups have no more items than all blocks
    pub groups_all : (cs : List (List X)) (groups : List Group) → AreGroups f cs groups → sum_by (λ (g : Group). g.items) groups ≤ length (flat cs)
    groups_all cs groups all =
        omega (arith, groups_sum (length groups) cs groups all (omega arith), ap (sum_by (λ (g : Group). g.items)) (take_all (length groups) groups (omega arith)), start_most (64 * length groups) cs)

    -- all groups weigh no more than all blocks
    pub groups_light : (cs : List (List X)) (groups : List Group) → AreGroups f cs groups → sum_by (λ (g : Group). g.weight) groups ≤ sum_by f (flat cs)
    groups_light cs groups all =
        omega (arith, groups_weight (length groups) cs groups all (omega arith), ap (sum_by (λ (g : Group). g.weight)) (take_all (length groups) groups (omega arith)), upto_most (sum_by f) (sum_by-append f) (64 * length groups) cs)

    -- the item so many places behind the first groups is the one that many places behind their items, among all
    pub item_start : (n left place : ℕ) (cs : List (List X)) (groups : List Group) → AreGroups f cs groups → n ≤ length groups → sum_by (λ (g : Group). g.items) (take n groups) + left ≡ place → slice_get (flat (drop (64 * n) cs)) left ≡ slice_get (flat cs) place
    item_start n left place cs groups all le e = behind (64 * n) left cs ∙ ap (slice_get (flat cs)) (ap (λ (k : ℕ). k + left) (sym (groups_sum n cs groups all le)) ∙ e)
      where
        right : (b xs : List X) (k : ℕ) → slice_get (b ++ xs) (length b + k) ≡ slice_get xs k
        right [] xs k = let same : 0 + k ≡ k = omega arith in ap (slice_get xs) same
        right (x ∷ b) xs k = let same : suc (length b) + k ≡ suc (length b + k) = omega arith in ap (slice_get ((x ∷ b) ++ xs)) same ∙ right b xs k

        behind : (k n : ℕ) (ds : List (List X)) → slice_get (flat (drop k ds)) n ≡ slice_get (flat ds) (start k ds + n)
        behind zero n ds = let same : n ≡ 0 + n = omega arith in ap (slice_get (flat ds)) same
        behind (suc k) n [] = let same : n ≡ 0 + n = omega arith in ap (slice_get []) same
        behind (suc k) n (d ∷ ds) =
            let far : length d + (start k ds + n) ≡ start (suc k) (d ∷ ds) + n = omega (arith, length-append d (flat (take k ds))) in
            behind k n ds ∙ sym (right d (flat ds) (start k ds + n)) ∙ ap (slice_get (d ++ flat ds)) far

    -- the bound of one block more
    pub low_more : (first number least less both : ℕ) (cs : List (List X)) (b : List X) → number < length cs → b ≡ get_or cs number b → Low less b → both ≤ least → both ≤ less → ((block : ℕ) → first ≤ block → block < number → Low least (get_or cs block []))
        → (block : ℕ) → first ≤ block → block < number + 1 → Low both (get_or cs block [])
    low_more first number least less both cs b lt read here one two others block low high =
        ⊎_elim
        (λ (l : block < number). lower f least both (get_or cs block []) one (others block low l))
        (λ (r : number ≤ block).
        let same : number ≡ block = omega (arith, r, high) in
        subst (λ (k : ℕ). Low both (get_or cs k [])) same (subst (Low both) (read_is number cs b lt read) (lower f less both b two here)))
        (cases_lt block number)

    -- the bound of all blocks, from groups and from the blocks behind them
    pub low_groups : (cs : List (List X)) (groups : List Group) (one two both : ℕ) → AreGroups f cs groups → All (λ (g : Group). one ≤ g.least) groups → ((block : ℕ) → 64 * length groups ≤ block → block < length cs → Low two (get_or cs block [])) → both ≤ one → both ≤ two → Low both (flat cs)
    low_groups cs groups one two both all low rest first second =
        low_all both cs (λ k lt. ⊎_elim
        (λ (l : k < 64 * length groups).
        let there : k / 64 < length groups = omega (arith, l) in
        lower f (at groups (k / 64) there).least both (get_or cs k []) (omega (arith, first, low (k / 64) (at groups (k / 64) there) there, ap (λ (g : Group). g.least) (is groups (k / 64) there)))
        (subst (λ (g : Group). Low g.least (get_or cs k [])) (is groups (k / 64) there) ((all (k / 64) (at groups (k / 64) there) there).bound k (omega arith) (omega arith))))
        (λ (r : 64 * length groups ≤ k). lower f two both (get_or cs k []) second (rest k r lt))
        (cases_lt k (64 * length groups)))
      where
        at : (gs : List Group) (n : ℕ) → n < length gs → Group
        at [] n l = absurd (omega (arith, l))
        at (g ∷ gs) zero l = g
        at (g ∷ gs) (suc n) l = at gs n (omega (arith, l))

        is : (gs : List Group) (n : ℕ) (l : n < length gs) → get_or gs n (at gs n l) ≡ at gs n l
        is [] n l = absurd (omega (arith, l))
        is (g ∷ gs) zero l = refl
        is (g ∷ gs) (suc n) l = is gs n (omega (arith, l))

module _ {X : Type 0} (f : X → ℕ) where
  -- a group ends no later than all items
  pub group_fits : (cs : List (List X)) (first : ℕ) (group : Group) → IsGroup f cs first group → start first cs + group.items ≤ length (flat cs)
  group_fits cs first group g = omega (arith, g.count, start_most (first + 64) cs)

  -- a group weighs no more than all items
  pub group_light : (cs : List (List X)) (first : ℕ) (group : Group) → IsGroup f cs first group → group.weight ≤ sum_by f (flat cs)
  group_light cs first group g = omega (arith, g.sum, upto_most (sum_by f) (sum_by-append f) (first + 64) cs)

  -- a block of a group has no more items than the group
  pub group_some : (cs : List (List X)) (b first : ℕ) (group : Group) → first ≤ b → b < first + 64 → IsGroup f cs first group → length (get_or cs b []) ≤ group.items
  group_some cs b first group le lt g =
      omega (arith, g.count, start_next b cs (omega (arith, lt, g.there)), upto_rises length length-append first b cs le, upto_rises length length-append (b + 1) (first + 64) cs (omega (arith, lt)))

  -- a block of a group weighs no more than the group
  pub group_heavy : (cs : List (List X)) (b first : ℕ) (group : Group) → first ≤ b → b < first + 64 → IsGroup f cs first group → sum_by f (get_or cs b []) ≤ group.weight
  group_heavy cs b first group le lt g =
      omega (arith, g.sum, upto_next (sum_by f) (sum_by-append f) b cs (omega (arith, lt, g.there)), upto_rises (sum_by f) (sum_by-append f) first b cs le, upto_rises (sum_by f) (sum_by-append f) (b + 1) (first + 64) cs (omega (arith, lt)))

  pub groups_replace : (cs : List (List X)) (groups : List Group) (n : ℕ) (group : Group) → AreGroups f cs groups → n < length groups → IsGroup f cs (64 * n) group → AreGroups f cs (set groups n group)
  groups_replace cs groups n group all there is number other lt =
      ⊎_elim
      (λ (l : number < n). subst (λ (g : Group). IsGroup f cs (64 * number) g) (sym (set_below number n groups group other l)) (all number other (omega (arith, length-set groups n group, lt))))
      (λ (r : n ≤ number).
      ⊎_elim
      (λ (a : n < number). subst (λ (g : Group). IsGroup f cs (64 * number) g) (sym (set_above number n groups group other a)) (all number other (omega (arith, length-set groups n group, lt))))
      (λ (s : number ≤ n).
      let same : n ≡ number = omega (arith, r, s) in
      subst (λ (k : ℕ). IsGroup f cs (64 * k) (get_or (set groups n group) k other)) same
      (subst (λ (g : Group). IsGroup f cs (64 * n) g) (sym (set_here n groups group other there)) is))
      (cases_lt n number))
      (cases_lt number n)

  -- a group may have another bound, if none of its items weighs less
  pub groups_learn : (cs now : List (List X)) (groups : List Group) (n less : ℕ) (d : Group) → now ≡ cs → n < length groups → AreGroups f cs groups → ((block : ℕ) → 64 * n ≤ block → block < 64 * n + 64 → Low f less (get_or now block []))
      → AreGroups f cs (set groups n (record (get_or groups n d) { least = less }))
  groups_learn cs now groups n less d e lt all low =
      groups_replace cs groups n (record (get_or groups n d) { least = less }) all lt
      (record {
        there = (all n d lt).there;
        count = (all n d lt).count;
        sum = (all n d lt).sum;
        bound = λ block first last. subst (λ (r : List (List X)). Low f less (get_or r block [])) e (low block first last);
      })

  -- an item inserted in a block of a group makes it one item larger and heavier by that item, with a bound no greater than its old one and than the item
  pub groups_put : (cs : List (List X)) (b at : ℕ) (x : X) (c r : List X) (groups new : List Group) (weight least : ℕ) (d : Group) → b < length cs → at ≤ length (get_or cs b []) → r ≡ get_or cs b r → c ≡ insert (get_or cs b r) at x → AreGroups f cs groups → b / 64 < length groups
      → weight ≡ f x → least ≤ (get_or groups (b / 64) d).least → least ≤ weight
      → new ≡ set groups (b / 64) (record { items = (get_or groups (b / 64) d).items + 1; weight = (get_or groups (b / 64) d).weight + weight; least = least }) → AreGroups f (set cs b c) new
  groups_put cs b at x c r groups new weight least d lt le read made all inside own one two is =
      let q = b / 64 in
      let group = get_or groups q d in
      let edited : Group = record { items = group.items + 1; weight = group.weight + weight; least = least } in
      let old : IsGroup f cs (64 * q) group = all q d inside in
      let here : get_or cs b r ≡ get_or cs b [] = again_is b cs r lt read in
      let made_here : c ≡ insert (get_or cs b []) at x = made ∙ ap (λ (l : List X). insert l at x) here in
      let low : Low f least (get_or cs b []) = lower f group.least least (get_or cs b []) one (old.bound b (omega arith) (omega arith)) in
      let fresh : Low f least c = subst (Low f least) (sym made_here) (all_insert (λ y. least ≤ f y) at (get_or cs b []) x low (omega (arith, two, own))) in
      subst (AreGroups f (set cs b c)) (sym is)
      (groups_set f cs (set cs b c) b q c groups edited refl refl all inside
      (group_edited f cs b c (64 * q) group edited (omega arith) (omega arith) old (omega (arith, ap length made_here, length-insert (get_or cs b []) at x le)) (omega (arith, ap (sum_by f) made_here, sum_by-insert f (get_or cs b []) at x, own)) one fresh))

  -- an item removed from a block of a group makes the group one item smaller, and lighter by that item
  pub groups_taken : (cs : List (List X)) (b at : ℕ) (x : X) (c r : List X) (groups new : List Group) (weight : ℕ) (d : Group) → b < length cs → at < length (get_or cs b []) → r ≡ get_or cs b r → x ≡ get_or (get_or cs b r) at x → c ≡ remove (get_or cs b r) at → AreGroups f cs groups → b / 64 < length groups
      → weight ≡ f x → new ≡ set groups (b / 64) (record { items = (get_or groups (b / 64) d).items - 1; weight = (get_or groups (b / 64) d).weight - weight; least = (get_or groups (b / 64) d).least }) → AreGroups f (set cs b c) new
  groups_taken cs b at x c r groups new weight d lt le read item made all inside own is =
      let q = b / 64 in
      let group = get_or groups q d in
      let edited : Group = record { items = group.items - 1; weight = group.weight - weight; least = group.least } in
      let old : IsGroup f cs (64 * q) group = all q d inside in
      let here : get_or cs b r ≡ get_or cs b [] = again_is b cs r lt read in
      let made_here : c ≡ remove (get_or cs b []) at = made ∙ ap (λ (l : List X). remove l at) here in
      let item_here : x ≡ get_or (get_or cs b []) at x = item ∙ ap (λ (l : List X). get_or l at x) here in
      let fresh : Low f group.least c = subst (Low f group.least) (sym made_here) (all_remove (λ y. group.least ≤ f y) at (get_or cs b []) (old.bound b (omega arith) (omega arith))) in
      subst (AreGroups f (set cs b c)) (sym is)
      (groups_set f cs (set cs b c) b q c groups edited refl refl all inside
      (group_edited f cs b c (64 * q) group edited (omega arith) (omega arith) old
      (omega (arith, ap length made_here, length-remove (get_or cs b []) at le, group_some cs b (64 * q) group (omega arith) (omega arith) old))
      (omega (arith, ap (sum_by f) made_here, sum_by-remove f (get_or cs b []) at x le, ap f item_here, own, group_heavy cs b (64 * q) group (omega arith) (omega arith) old)) (omega arith) fresh))

  -- one group more, behind those that there are
  pub groups_added : (cs : List (List X)) (n : ℕ) (groups more : List Group) (group : Group) → more ≡ groups ++ group ∷ [] → AreGroups f cs groups → n ≡ length groups → IsGroup f cs (64 * n) group → AreGroups f cs more
  groups_added cs n groups more group e all at is = groups_push f cs groups more group e all (subst (λ (k : ℕ). IsGroup f cs (64 * k) group) at is)

  -- the groups before that of a block that is cut are known still
  pub groups_cut : (k : ℕ) (cs new : List (List X)) (groups kept : List Group) → k < length cs → new ≡ cut_at k cs → kept ≡ take (k / 64) groups → AreGroups f cs groups → AreGroups f new kept
  groups_cut k cs new groups kept lt e t all = groups_front f k cs new (take 64 (get_or cs k []) ∷ drop 64 (get_or cs k []) ∷ drop (k + 1) cs) groups kept (omega (arith, lt)) (e ∙ cut_parts k cs lt) t all

  -- the groups before that of two blocks that are joined are known still
  pub groups_joined : (k : ℕ) (cs new : List (List X)) (groups kept : List Group) → k + 1 < length cs → new ≡ joined_at k cs → kept ≡ take (k / 64) groups → AreGroups f cs groups → AreGroups f new kept
  groups_joined k cs new groups kept lt e t all = groups_front f k cs new ((get_or cs k [] ++ get_or cs (k + 1) []) ∷ drop (suc (k + 1)) cs) groups kept (omega (arith, lt)) (e ∙ join_parts k cs lt) t all

  -- the groups before that of a block that is removed are known still
  pub groups_retired : (k : ℕ) (cs new : List (List X)) (groups kept : List Group) → k < length cs → new ≡ remove cs k → kept ≡ take (k / 64) groups → AreGroups f cs groups → AreGroups f new kept
  groups_retired k cs new groups kept lt e t all = groups_front f k cs new (drop (suc k) cs) groups kept (omega (arith, lt)) e t all

  -- the groups of no blocks are groups of any
  pub groups_empty : (cs new : List (List X)) (groups : List Group) → cs ≡ [] → AreGroups f cs groups → AreGroups f new groups
  groups_empty cs new groups e all = groups_none f new groups (omega (arith, groups_there f cs groups all, ap length e))

  -- a block that is removed makes one block fewer
  pub retired_length : (k : ℕ) (cs new : List (List X)) → k < length cs → new ≡ remove cs k → length new + 1 ≡ length cs
  retired_length k cs new lt e = ap (λ (r : List (List X)). length r + 1) e ∙ length-remove cs k lt
