use Rattle.std.proofs.Common.{rules, arith, ◌≡◌, max, true, ℕ, sym, ◌∙◌}
use Rattle.std.proofs.lemmas.Bool.{cond-false}
use Rattle.rejoin.specs.Started.{among}
use Rattle.rejoin.proofs.own_starts.note_own.Goals as goal

pub returns-then-is_touched-clause-ended : goal.returns-then-is_touched-clause-ended
returns-then-is_touched-clause-ended g c early t =
    let latest : max c.args.ended.now c.end_of.result ≡ c.max.result = search rules in
    let law = c.end_of.ensures early t in
    let touched : among c.args.change.now.touched c.args.start.number ≡ true = sym c.is_touched.ensures ∙ c.if-is_touched.true in (
      (λ m. (omega (arith, latest, m), λ _. law.0 (omega (arith, latest, m)))),
      (λ (l, h). let k = law.1 (h touched) in omega (arith, latest, l, k)),
    )

pub returns-else-is_touched-clause-started : goal.returns-else-is_touched-clause-started
returns-else-is_touched-clause-started g c =
    let none = cond-false {A = ℕ} (among c.args.change.now.touched c.args.start.number) 1 0 (sym c.is_touched.ensures ∙ c.if-is_touched.false) in
    search (rules, none)
