use Rattle.std.proofs.Common.{rules, ◌≡◌, IsTrue, ◌↔◌, List, ℕ, subst}
use Rattle.std.specs.List.{Contains}
use Rattle.rejoin.proofs.Meeting.{outcome-among}
use Rattle.rejoin.proofs.change.Change.is_touched.Goals as goal

pub returns : goal.returns
returns g c =
    let change = c.args.self.now in
    let numbers : c.as_slice.result.now ≡ change.touched = search rules in
    outcome-among change.touched c.args.number c.is_among.result (subst (λ (ns : List ℕ). IsTrue c.is_among.result ↔ Contains ns c.args.number) numbers c.is_among.ensures)
