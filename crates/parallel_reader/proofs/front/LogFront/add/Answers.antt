use Rattle.std.proofs.Common.{ℕ, Vec, map, subst, sym, refl, ap, length, arith}
use Rattle.swf_text.specs.Text.{lines}
use Rattle.parallel_reader.specs.Fronts.{AreJobsIn, IsFront, Progress}
use Rattle.parallel_reader.proofs.Fronts.{front_more}
use Rattle.parallel_reader.proofs.front.LogFront.add.Goals as goal

pub returns-in-Some-add_portions : goal.returns-in-Some-add_portions
returns-in-Some-add_portions g c = λ front is are.
    let more = c.args.piece.now.lines in
    let comments = map (λ (v : Vec ℕ g.row.A.Denot). v.items) c.self.inside.comments.items in
    let old : Progress = record { text = record { comments = comments; entries = c.self.inside.entries.items }; lines = c.self.inside.lines; bytes = c.self.inside.bytes } in
    let new : Progress = record { text = record { comments = comments; entries = c.add_portions.new.entries.items }; lines = c.in-Some-checked_add.lines; bytes = c.in-Some-checked_add-2.bytes } in
    let jobs = subst (AreJobsIn (lines more)) (sym c.jobs-jobs.ensures) are in
    front_more front more old new c.in-Some.more (length c.lines.result.now) (subst (IsFront front) (sym c.self.view_is) is) c.lines.ensures.ends (c.in-Some-add_portions.ensures.added (lines more) jobs) (c.in-Some.ensures (lines more) jobs)
    (ap length c.lines.ensures.lines) refl (omega (arith, c.in-Some-checked_add.ensures)) (omega (arith, c.in-Some-checked_add-2.ensures))
