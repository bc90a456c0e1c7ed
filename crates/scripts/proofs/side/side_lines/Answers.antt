use Rattle.std.proofs.Common.{◌≡◌, ◌+◌, List, ℕ, map, take, sym, subst, arith}
use Rattle.std.specs.Prelude.{Err, Ok, Some, slice_get}
use Rattle.std.proofs.lemmas.Result.{err_from_is_err_and}
use Rattle.report.specs.Side.{side_line}
use Rattle.scenarios.specs.ScenarioList.{Listed}
use Rattle.scripts.specs.Analysts.{AreBeside, StandsSo}
use Rattle.scripts.proofs.Besides.{beside-next, refused-next}
use Rattle.scripts.proofs.side.side_lines.Goals as goal

pub returns-in_err-found-clause-refused : goal.returns-in_err-found-clause-refused
returns-in_err-found-clause-refused g c =
    let p = err_from_is_err_and c.from_residual.result c.from_residual.ensures.1 in
    let s : Listed = record { name = c.in-Some.listed.0.now; id = c.in-Some.listed.1; scenario = c.in-Some.listed.2 } in
    let at : slice_get c.args.list.now.scenarios c.loop-place.place ≡ Some s = sym c.in-Some.ensures.value in
    let stands : StandsSo g.S.Analyst.rules g.row.A.Denot c.loop-place.analyst c.in-Some.listed.1 (Err c.in_err-found.field-0.0) c.beside.new.analyst = c.in_err-found.ensures in
    rw (p.1, p.2) (refused-next g.S.Analyst.rules g.row.A.Denot c.args.analyst.now c.loop-place.analyst c.beside.new.analyst c.args.list.now.scenarios c.loop-place.place (map side_line c.loop-place.lines.items) s c.in_err-found.field-0.0 at c.loop-place.invariant.lines stands)

pub loop-place-preserved : goal.loop-place-preserved
loop-place-preserved g c =
    let s : Listed = record { name = c.in-Some.listed.0.now; id = c.in-Some.listed.1; scenario = c.in-Some.listed.2 } in
    let at : slice_get c.args.list.now.scenarios c.loop-place.place ≡ Some s = sym c.in-Some.ensures.value in
    let stands : StandsSo g.S.Analyst.rules g.row.A.Denot c.loop-place.analyst c.in-Some.listed.1 (Ok c.in_ok-found.found) c.beside.new.analyst = c.in_ok-found.ensures in
    let more = beside-next g.S.Analyst.rules g.row.A.Denot c.args.analyst.now c.loop-place.analyst c.beside.new.analyst c.args.list.now.scenarios c.loop-place.place (map side_line c.loop-place.lines.items) s c.in_ok-found.found at c.loop-place.invariant.lines stands in
    record {
      lines = subst (λ (ls : List (List ℕ)). AreBeside g.S.Analyst.rules g.row.A.Denot c.args.analyst.now (take (c.loop-place.place + 1) c.args.list.now.scenarios) ls c.beside.new.analyst) (sym c.add_line.ensures.lines) more;
      count = omega (arith, c.loop-place.invariant.count, c.add_line.ensures.count);
      capacity = omega (arith, c.loop-place.invariant.capacity, c.add_line.ensures.capacity);
    }
