use Rattle.std.proofs.Common.{ℕ, List, subst, take}
use Rattle.std.specs.List.{flat_map}
use Rattle.std.specs.Io.KnownBytes.{Appends}
use Rattle.std.proofs.lemmas.Result.{err_from_is_err_and}
use Rattle.swf_text.specs.Writing.{Writes}
use Rattle.report.specs.Schedule.{row_line}
use Rattle.swf_text.proofs.Lemmas.{front_more, writes_then}
use Rattle.report.proofs.printing.ScheduleReport.write.Goals as goal

pub returns-in_err-write_bytes : goal.returns-in_err-write_bytes
returns-in_err-write_bytes g c =
    let p = err_from_is_err_and c.from_residual.result c.from_residual.ensures.1 in
    let outcome = subst (λ (l : List ℕ). (n : ℕ) × Appends (g.W.Write.contents c.args.writer.now) (g.W.Write.contents c.write_bytes.new.writer) (take n l)) c.as_slice.ensures.value c.in_err-write_bytes.ensures in
    rw (p.1) (subst (λ (l : List ℕ). (n : ℕ) × Appends (g.W.Write.contents c.args.writer.now) (g.W.Write.contents c.write_bytes.new.writer) (take n l)) c.self.view_is
    (front_more _ _ c.self.inside.heading.items (flat_map row_line c.self.inside.rows) outcome))

pub returns-then-current_num_threads-eq1 : goal.returns-then-current_num_threads-eq1
returns-then-current_num_threads-eq1 g c =
    let outcome = subst (Appends (g.W.Write.contents c.args.writer.now) (g.W.Write.contents c.write_bytes.new.writer)) c.as_slice.ensures.value c.in_ok-write_bytes.ensures in
    subst (Writes c.write_alone.result (g.W.Write.contents c.args.writer.now) (g.W.Write.contents c.write_alone.new.writer)) c.self.view_is
    (writes_then c.write_alone.result _ _ _ c.self.inside.heading.items (flat_map row_line c.self.inside.rows) outcome c.write_alone.ensures)

pub returns : goal.returns
returns g c =
    let outcome = subst (Appends (g.W.Write.contents c.args.writer.now) (g.W.Write.contents c.write_bytes.new.writer)) c.as_slice.ensures.value c.in_ok-write_bytes.ensures in
    subst (Writes c.write_rows.result (g.W.Write.contents c.args.writer.now) (g.W.Write.contents c.write_rows.new.writer)) c.self.view_is
    (writes_then c.write_rows.result _ _ _ c.self.inside.heading.items (flat_map row_line c.self.inside.rows) outcome c.write_rows.ensures)
