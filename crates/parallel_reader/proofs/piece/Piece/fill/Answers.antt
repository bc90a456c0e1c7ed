use Rattle.std.proofs.Common.{◌≡◌, ◌≤◌, ◌-◌, ◌++◌, ℕ, List, length, take, drop, subst, sym, arith}
use Rattle.std.proofs.lemmas.List.{length-take}
use Rattle.parallel_reader.proofs.Fronts.{filled_so, whole_slice}
use Rattle.parallel_reader.proofs.piece.Piece.fill.Goals as goal

pub returns-clause-given : goal.returns-clause-given
returns-clause-given g c =
    let filled = c.in_ok-filled.filled in
    let whole = c.end_of_lines-self-inside.result in
    let bytes = c.refill.new.buffer in
    let f = c.in_ok-filled.ensures.given in
    let all = whole_slice c.resize.new.self.len bytes (drop (length bytes) c.resize.new.self.items) (omega (arith, c.refill.ensures.same, c.as_mut_slice.ensures.len)) in
    let within : whole ≤ filled = omega (arith, c.end_of_lines-self-inside.ensures.within, length-take filled c.deref.result.now) in
    (f.0, f.1, subst (λ (l : List ℕ). take whole l ++ take (filled - whole) (drop whole l) ≡ c.args.front.now ++ f.0) (sym all) (filled_so bytes c.args.front.now f.0 filled whole f.2 within))
