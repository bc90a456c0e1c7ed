-- A walk over groups, and then over the blocks behind them.
use Rattle.std.proofs.Common.{◌≡◌, ℕ, ◌+◌, ◌*◌, ◌<◌, Option, List, length, get_or, ap, subst, ◌∙◌, arith}
use Rattle.std.proofs.lemmas.List.{take_all}
use Rattle.blocks.specs.Rows.{flat, start}
use Rattle.blocks.specs.Groups.{AreGroups}
use Rattle.blocks.specs.Light.{IsFirstLight, IsFirstUntil, NoneWithin}
use Rattle.blocks.specs.declared.groups.Group.{Group}
use Rattle.blocks.proofs.Grouped.{start_most}
use Rattle.blocks.proofs.Weighed.{until_all}

module _ {X : Type 0} (f : X → ℕ) (limit from end : ℕ) (cs now : List (List X)) (same : now ≡ cs) where
  -- a walk that has passed the groups before one has passed it too, once its items are added
  pub passed_next : (groups : List Group) (number begin : ℕ) (d : Group) → AreGroups f cs groups → number < length groups → begin ≡ start (64 * number) cs → begin + (get_or groups number d).items ≡ start (64 * (number + 1)) cs
  passed_next groups number begin d all lt at =
      let far : 64 * number + 64 ≡ 64 * (number + 1) = omega arith in
      omega (arith, at, (all number d lt).count, ap (λ (k : ℕ). start k cs) far)

  -- the items that a walk has passed with a group are fewer than a number that all items are fewer than
  pub passed_fits : (groups : List Group) (number begin size : ℕ) (d : Group) → AreGroups f cs groups → number < length groups → begin ≡ start (64 * number) cs → length (flat cs) < size → begin + (get_or groups number d).items < size
  passed_fits groups number begin size d all lt at few = omega (arith, at, (all number d lt).count, few, start_most (64 * number + 64) cs)

  -- the walk has met no light item in the group, said by where the group ends
  pub passed_none : (groups : List Group) (number begin : ℕ) (d : Group) → AreGroups f cs groups → number < length groups → begin ≡ start (64 * number) cs → NoneWithin f limit (flat now) from end (start (64 * number + 64) now)
      → NoneWithin f limit (flat cs) from end (begin + (get_or groups number d).items)
  passed_none groups number begin d all lt at none =
      let there : start (64 * number + 64) cs ≡ begin + (get_or groups number d).items = omega (arith, at, (all number d lt).count) in
      subst (λ (k : ℕ). NoneWithin f limit (flat cs) from end k) there (subst (λ (r : List (List X)). NoneWithin f limit (flat r) from end (start (64 * number + 64) r)) same none)

  -- what was found up to the end of the last block is the first light item of all
  pub passed_all : (n : ℕ) (r : Option ℕ) → n ≡ length now → IsFirstUntil f limit (flat now) from end (start n now) r → IsFirstLight f limit (flat cs) from end r
  passed_all n r e h =
      let all : start n now ≡ length (flat now) = ap (λ (k : ℕ). start k now) e ∙ ap (λ (s : List (List X)). length (flat s)) (take_all (length now) now (omega arith)) in
      subst (λ (s : List (List X)). IsFirstLight f limit (flat s) from end r) same (until_all f limit (flat now) from end (start n now) r (omega (arith, all)) h)
