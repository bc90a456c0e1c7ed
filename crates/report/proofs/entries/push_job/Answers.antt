use Rattle.std.proofs.Common.{◌++◌, ◌∙◌, ap, rules, w64, List, ℕ}
use mir.Val.{SFits}
use Rattle.std.proofs.lemmas.Int.{to_z-of_z}
use Rattle.std.specs.Prelude.{codes}
use Rattle.std.specs.Fmt.{signed_decimal}
use Rattle.report.specs.Pieces.{right, cell, verdict}
use Rattle.report.proofs.Joins.{begun, joined, joined_as}
use Rattle.report.proofs.entries.push_job.Goals as goal

pub returns : goal.returns
returns g c =
    let j = c.args.job.now in
    let o : List ℕ = c.args.text.now.items in
    let fits : SFits w64 c.user.result = search rules in
    let user = rw (to_z-of_z w64 c.user.result fits) at c.in_ok-push_aligned.ensures in
    let a : List ℕ = cell 10 j.submit in
    let b : List ℕ = a ++ cell 8 j.size in
    let d : List ℕ = b ++ cell 10 j.estimate in
    let e : List ℕ = d ++ cell 10 j.length in
    let f : List ℕ = e ++ codes " " in
    let submit = begun o a c.in_ok-push_cell.ensures (ap (cell 10) c.submit.ensures.value) in
    let size = joined_as o a (cell 8 j.size) submit c.in_ok-push_cell-2.ensures (ap (cell 8) c.size.ensures.value) in
    let estimate = joined_as o b (cell 10 j.estimate) size c.in_ok-push_cell-3.ensures (ap (cell 10) c.estimate.ensures.value) in
    let length = joined_as o d (cell 10 j.length) estimate c.in_ok-push_cell-4.ensures (ap (cell 10) c.length.ensures.value) in
    let blank = joined o e (codes " ") length c.in_ok-push.ensures.items in
    let by = joined_as o f (right 8 (signed_decimal j.user)) blank user (ap (λ z. right 8 (signed_decimal z)) c.user.ensures) in
    joined_as o (f ++ right 8 (signed_decimal j.user)) (verdict j.killed) by c.in_ok-extend_from_slice.ensures.items (c.verdict.ensures.text ∙ ap verdict c.killed.ensures)
