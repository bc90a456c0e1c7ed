-- That the tests of equality are true exactly where both sides are one, and so are equivalences.
use Rattle.std.specs.Prelude.{◌≡◌, ℕ, ◌==◌, ◌&&◌, ℤ, Bool, true, false, List, refl}
use Rattle.std.specs.Bool.{Decides}
use Rattle.std.specs.Cmp.{IsEquivalence}
use Rattle.std.specs.Cmp.Lexicographic.{pointwise}
use Rattle.std.specs.Ordering.{int_eq}
use Rattle.std.specs.Str.{bytes_eq}
use Rattle.std.proofs.Common.{ap, ap₂, sym, ◌∙◌}
use Rattle.std.proofs.lemmas.Bool.{true≢false}
use Rattle.std.proofs.lemmas.Bool.Decides.{Decides-eqb, Decides-int_eq, Decides-and, Decides-like, same_from_decides}
use Rattle.std.proofs.lemmas.Slice.Eq.{slice_eq-Decides, bytes_eq-Decides}
use Rattle.swf_text.specs.Entry.{LogEntry}
use Rattle.job_table.specs.Edit.{LogEdit, Insert, Remove, Change}
use Rattle.scenarios.specs.declared.order.Order.{Order}
use Rattle.scenarios.specs.declared.order.Order.TheVariants.{Arrival, Shortest}
use Rattle.scenarios.specs.Scenario.{ScenarioView}
use Rattle.book_machine.specs.Call.{BookCall, Edit, AddScenario, DropScenario, Retry, Claim, Finish, GiveUp, View}
use Rattle.book_machine.specs.Same.{same_entry, same_edit, same_order, same_scenario, same_flag, same_call}

line-Decides : (a b : List ℤ) → Decides (pointwise int_eq a b) (a ≡ b)
line-Decides a b = slice_eq-Decides Decides-int_eq a b (pointwise int_eq a b) refl

parts-Decides : (a b : List (List ℤ)) → Decides (pointwise (pointwise int_eq) a b) (a ≡ b)
parts-Decides a b = slice_eq-Decides line-Decides a b (pointwise (pointwise int_eq) a b) refl

entry-from : (a b : LogEntry) → (a.main ≡ b.main) × (a.parts ≡ b.parts) → a ≡ b
entry-from a b e = ap₂ (λ (m : List ℤ) (ps : List (List ℤ)). let x : LogEntry = record { main = m; parts = ps } in x) e.0 e.1

pub same_entry-Decides : (a b : LogEntry) → Decides (same_entry a b) (a ≡ b)
same_entry-Decides a b =
    let d = Decides-and (pointwise int_eq a.main b.main) (pointwise (pointwise int_eq) a.parts b.parts) (line-Decides a.main b.main) (parts-Decides a.parts b.parts) in
    ((λ t. entry-from a b (d.0 t)), (λ e. d.1 (ap (λ (x : LogEntry). x.main) e, ap (λ (x : LogEntry). x.parts) e)))

pub same_edit-Decides : (a b : LogEdit) → Decides (same_edit a b) (a ≡ b)
same_edit-Decides (Insert a) (Insert b) = let d = same_entry-Decides a b in ((λ t. ap Insert (d.0 t)), (λ e. d.1 cc))
same_edit-Decides (Remove m) (Remove n) = let d = Decides-eqb m n in ((λ t. ap Remove (d.0 t)), (λ e. d.1 cc))
same_edit-Decides (Change m p v) (Change n q w) =
    let pv = Decides-and (p == q) (int_eq v w) (Decides-eqb p q) (Decides-int_eq v w) in
    let d = Decides-and (m == n) (p == q && int_eq v w) (Decides-eqb m n) pv in (
      (λ t. let e : (m ≡ n) × ((p ≡ q) × (v ≡ w)) = d.0 t in let one : m ≡ n = e.0 in let two : p ≡ q = e.1.0 in let three : v ≡ w = e.1.1 in cc),
      (λ e. let one : m ≡ n = cc in let two : p ≡ q = cc in let three : v ≡ w = cc in d.1 (one, (two, three))),
    )
same_edit-Decides a b = ((λ t. absurd (true≢false (sym t))), (λ e. cc))

order-Decides : (a b : Order) → Decides (same_order a b) (a ≡ b)
order-Decides Arrival Arrival = ((λ t. refl), (λ e. refl))
order-Decides Shortest Shortest = ((λ t. refl), (λ e. refl))
order-Decides a b = ((λ t. absurd (true≢false (sym t))), (λ e. cc))

flag-Decides : (a b : Bool) → Decides (same_flag a b) (a ≡ b)
flag-Decides true b = (sym, sym)
flag-Decides false true = ((λ t. t), (λ e. e))
flag-Decides false false = ((λ t. refl), (λ e. refl))

scenario-from : (a b : ScenarioView) → (a.procs ≡ b.procs) × ((a.factor ≡ b.factor) × (a.order ≡ b.order)) → a ≡ b
scenario-from a b e =
    ap (λ (n : ℕ). let x : ScenarioView = record { procs = n; factor = a.factor; order = a.order } in x) e.0
    ∙ ap₂ (λ (n : ℕ) (o : Order). let x : ScenarioView = record { procs = b.procs; factor = n; order = o } in x) e.1.0 e.1.1

scenario-Decides : (a b : ScenarioView) → Decides (same_scenario a b) (a ≡ b)
scenario-Decides a b =
    let fo = Decides-and (a.factor == b.factor) (same_order a.order b.order) (Decides-eqb a.factor b.factor) (order-Decides a.order b.order) in
    let d = Decides-and (a.procs == b.procs) (a.factor == b.factor && same_order a.order b.order) (Decides-eqb a.procs b.procs) fo in (
      (λ t. scenario-from a b (d.0 t)),
      (λ e. d.1 (ap (λ (x : ScenarioView). x.procs) e, (ap (λ (x : ScenarioView). x.factor) e, ap (λ (x : ScenarioView). x.order) e))),
    )

pub same_call-Decides : (a b : BookCall) → Decides (same_call a b) (a ≡ b)
same_call-Decides (Edit a) (Edit b) = let d = same_edit-Decides a b in ((λ t. ap Edit (d.0 t)), (λ e. d.1 cc))
same_call-Decides (AddScenario m a) (AddScenario n b) =
    let d = Decides-and (bytes_eq m n) (same_scenario a b) (bytes_eq-Decides m n) (scenario-Decides a b) in
    ((λ t. let e : (m ≡ n) × (a ≡ b) = d.0 t in let one : m ≡ n = e.0 in let two : a ≡ b = e.1 in cc), (λ e. let one : m ≡ n = cc in let two : a ≡ b = cc in d.1 (one, two)))
same_call-Decides (DropScenario m) (DropScenario n) = let d = bytes_eq-Decides m n in ((λ t. ap DropScenario (d.0 t)), (λ e. d.1 cc))
same_call-Decides (Retry m) (Retry n) = let d = Decides-eqb m n in ((λ t. ap Retry (d.0 t)), (λ e. d.1 cc))
same_call-Decides Claim Claim = ((λ t. refl), (λ e. refl))
same_call-Decides (Finish m a) (Finish n b) =
    let d = Decides-and (m == n) (same_flag a b) (Decides-eqb m n) (flag-Decides a b) in
    ((λ t. let e : (m ≡ n) × (a ≡ b) = d.0 t in let one : m ≡ n = e.0 in let two : a ≡ b = e.1 in cc), (λ e. let one : m ≡ n = cc in let two : a ≡ b = cc in d.1 (one, two)))
same_call-Decides (GiveUp m) (GiveUp n) = let d = Decides-eqb m n in ((λ t. ap GiveUp (d.0 t)), (λ e. d.1 cc))
same_call-Decides (View m s) (View n t) =
    let d = Decides-and (m == n) (s == t) (Decides-eqb m n) (Decides-eqb s t) in
    ((λ h. let e : (m ≡ n) × (s ≡ t) = d.0 h in let one : m ≡ n = e.0 in let two : s ≡ t = e.1 in cc), (λ e. let one : m ≡ n = cc in let two : s ≡ t = cc in d.1 (one, two)))
same_call-Decides a b = ((λ t. absurd (true≢false (sym t))), (λ e. cc))

-- a test of equality is an equivalence
test-equiv : {K : Type 0} (E : K → K → Bool) → ((a b : K) → Decides (E a b) (a ≡ b)) → IsEquivalence E
test-equiv E d = record {
  refl = λ x. (d x x).1 refl;
  symm = λ x y. same_from_decides (E x y) (E y x) (d x y) (Decides-like (E y x) sym sym (d y x));
  congr = λ x y z t. ap (λ a. E a z) ((d x y).0 t);
}

pub same_entry-equiv : IsEquivalence same_entry
same_entry-equiv = test-equiv same_entry same_entry-Decides

pub same_edit-equiv : IsEquivalence same_edit
same_edit-equiv = test-equiv same_edit same_edit-Decides

pub same_call-equiv : IsEquivalence same_call
same_call-equiv = test-equiv same_call same_call-Decides
