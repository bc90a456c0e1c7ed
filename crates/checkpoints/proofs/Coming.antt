-- An engine that works some event seconds before an end: what its next event second, or none, says of whether one comes before the end.
use Rattle.std.proofs.Common.{◌≡◌, ℕ, ◌+◌, ◌≤◌, ◌<◌, false, IsTrue, ◌↔◌, nat_lt, List, Option, Some, None, IfSome, sym, ap, arith, subst, ⊎_elim}
use Rattle.std.proofs.lemmas.Bool.{cases_lt, ltb-true, ltb-false, lt-ltb, false≢true}
use Rattle.scenarios.specs.Plan.{Plan}
use Rattle.event_loop.specs.Events.{Progress, IsNextEvent}
use Rattle.easy_rule.specs.declared.start.Start.{Start}
use Rattle.scenarios.specs.declared.placed.Placed.{Placed}
use Rattle.checkpoints.proofs.Worked.{Working}
use Rattle.checkpoints.specs.Coming.{ComesBefore, NoneComes}

pub one-next : (plan : Plan) (a t u : ℕ) → IsNextEvent plan a (Some t) → IsNextEvent plan a (Some u) → t ≡ u
one-next plan a t u h k =
    ⊎_elim
    (λ (l : t < u). absurd (k.2 t h.0 l h.1))
    (λ (l : u ≤ t). ⊎_elim
    (λ (m : u < t). absurd (h.2 u k.0 m k.1))
    (λ (m : t ≤ u). omega arith)
    (cases_lt u t))
    (cases_lt t u)

-- an engine that works an event second that comes before the end doesn't go past the end
pub step-before-end : (now new : Progress) (end : Option ℕ) (t : ℕ) → ComesBefore now end → IsNextEvent now.plan now.position (Some t) → new ≡ record now { position = t + 1; handled = now.handled + 1 } → IfSome end (λ e. new.position ≤ e)
step-before-end now new None t c next is = tt
step-before-end now new (Some e) t c next is =
    let same = one-next now.plan now.position t c.0 next c.1 in
    let b = c.2 in
    let p = ap (λ (x : Progress). x.position) is in
    omega (arith, same, b, p)

-- where an event second came before the end and none does any more, at least one was worked
pub none-worked : (old now : Progress) (starts : List Start) (placed : List Placed) (count : ℕ) (end : Option ℕ) → Working old now starts placed count → ComesBefore old end → (ComesBefore now end → ⊥) → count ≡ 0 → ⊥
none-worked old now starts placed count end h c no' z = no' (subst (λ (x : Progress). ComesBefore x end) (sym (h.none z)) c)

-- where an event second comes before the end, there is a next one
pub comes-some : (now : Progress) (end : Option ℕ) → ComesBefore now end → IsNextEvent now.plan now.position None → ⊥
comes-some now end c none = none c.0 c.1.0 c.1.1

-- where there is no next event second, `false` says whether one comes before the end
pub comes-none : (now : Progress) (end o : Option ℕ) → IsNextEvent now.plan now.position o → o ≡ None → IsTrue false ↔ ComesBefore now end
comes-none now end o h e = ((λ t. absurd (false≢true t)), (λ c. absurd (comes-some now end c (subst (IsNextEvent now.plan now.position) e h))))

-- where t is the next event second and e is the end, one comes before the end exactly where t is less than e
pub comes-at : (now : Progress) (end o : Option ℕ) (t e : ℕ) → IsNextEvent now.plan now.position o → o ≡ Some t → end ≡ Some e → IsTrue (nat_lt t e) ↔ ComesBefore now end
comes-at now end o t e h is at =
    let next : IsNextEvent now.plan now.position (Some t) = subst (IsNextEvent now.plan now.position) is h in (
      (λ l. subst (ComesBefore now) (sym at) (t, next, ltb-true t e l)),
      (λ c.
          let k : ComesBefore now (Some e) = subst (ComesBefore now) at c in
          lt-ltb t e (subst (λ x. x < e) (one-next now.plan now.position k.0 t k.1 next) k.2)),
    )

-- where there is no next event second, none comes before the end
pub quiet-none : (now : Progress) (end o : Option ℕ) → IsNextEvent now.plan now.position o → o ≡ None → NoneComes now end
quiet-none now end o h e = go end (subst (IsNextEvent now.plan now.position) e h)
  where
    go : (end' : Option ℕ) → IsNextEvent now.plan now.position None → NoneComes now end'
    go None none = none
    go (Some b) none = λ t l m. none t l

-- where the next event second is not before the end, none comes before the end
pub quiet-at : (now : Progress) (end o : Option ℕ) (t e : ℕ) → IsNextEvent now.plan now.position o → o ≡ Some t → end ≡ Some e → nat_lt t e ≡ false → NoneComes now end
quiet-at now end o t e h is at late =
    let next : IsNextEvent now.plan now.position (Some t) = subst (IsNextEvent now.plan now.position) is h in
    let l : e ≤ t = ltb-false t e late in
    subst (NoneComes now) (sym at) (λ u x y. next.2 u x (omega (arith, y, l)))
