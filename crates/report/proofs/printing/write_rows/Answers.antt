use Rattle.std.proofs.Common.{◌≡◌, ◌++◌, length, refl, ap, ◌∙◌, arith}
use Rattle.std.specs.Vec.{with_items}
use Rattle.std.proofs.KnownBytes.{Appends-nil}
use Rattle.std.proofs.lemmas.List.{nil_from_length}
use Rattle.std.proofs.lemmas.Result.{err_from_is_err_and}
use Rattle.report.specs.Pages.{all_rows}
use Rattle.report.proofs.Prints.{alike, begun, ended, failed, lent, print-lines, turned}
use Rattle.report.proofs.printing.write_rows.Goals as goal

pub rows-init : goal.rows-init
rows-init g c =
    let took = with_items c.args.printed c.take_all.new.pages in
    let first = lent c.args.printed c.as_mut_slice.result.now c.take_all.new.pages c.as_mut_slice-2.result.now c.as_mut_slice.ensures.value c.take_all.ensures.same c.as_mut_slice-2.ensures.value in
    let ready = lent took c.as_mut_slice-2.result.now c.print_all.new.pages _ c.as_mut_slice-2.ensures.value c.print_all.ensures.count refl in
    let next = lent c.args.next c.as_mut_slice-3.result.now c.take_all-2.new.pages _ c.as_mut_slice-3.ensures.value c.take_all-2.ensures.same refl in
    let prints = print-lines c.as_mut_slice-2.result.now c.print_all.new.pages c.print_all.ensures in
    let rows = ap (λ pages. all_rows pages ++ c.take_all.new.rows) first ∙ c.take_all.ensures.rows in
    record {
      printed = omega (arith, c.requires.printed, c.args.printed.ok.0, (with_items took c.print_all.new.pages).ok.0);
      next = omega (arith, c.requires.next, c.args.next.ok.0, (with_items c.args.next c.take_all-2.new.pages).ok.0);
      under_way = alike _ _ (begun _ c.as_mut_slice-2.result.now c.print_all.new.pages c.take_all-2.new.pages c.take_all.new.rows c.take_all-2.new.rows c.args.rows (Appends-nil _) prints rows c.take_all-2.ensures.rows) ready next;
    }

pub rows-smaller : goal.rows-smaller
rows-smaller g c =
    c.in_ok-print_beside.ensures.some (omega (arith, c.rows.invariant.printed, ap length c.as_mut_slice-in-rows-2.ensures.value)) (omega (arith, c.left.ensures, c.rows-test.true))

pub returns-in_err-print_beside : goal.returns-in_err-print_beside
returns-in_err-print_beside g c =
    let p = err_from_is_err_and c.from_residual.result c.from_residual.ensures.1 in
    let under_way = alike _ _ c.rows.invariant.under_way c.as_mut_slice-in-rows-2.ensures.value c.as_mut_slice-in-rows.ensures.value in
    rw (p.1) (failed _ _ _ c.as_mut_slice-in-rows-2.result.now c.as_mut_slice-in-rows.result.now c.rows.rows c.args.rows under_way c.in_err-print_beside.ensures.writes)

pub rows-preserved : goal.rows-preserved
rows-preserved g c =
    let h = c.rows.invariant in
    let ready = c.as_mut_slice-in-rows-2.ensures.value in
    let next = c.as_mut_slice-in-rows.ensures.value in
    let prints = print-lines c.as_mut_slice-in-rows.result.now c.print_beside.new.next c.print_beside.ensures.prints in
    let under = turned _ _ _ c.as_mut_slice-in-rows-2.result.now c.as_mut_slice-in-rows.result.now c.print_beside.new.printed c.print_beside.new.next c.rows.rows c.print_beside.new.rows c.args.rows
    (alike _ _ h.under_way ready next) c.in_ok-print_beside.ensures.writes c.in_ok-print_beside.ensures.rows prints in
    let x = lent c.rows.next c.as_mut_slice-in-rows.result.now c.print_beside.new.next c.swap.new.x.items next c.print_beside.ensures.prints.count (ap (λ v. v.items) c.swap.ensures.x_after) in
    let y = lent c.rows.printed c.as_mut_slice-in-rows-2.result.now c.print_beside.new.printed c.swap.new.y.items ready c.print_beside.ensures.same (ap (λ v. v.items) c.swap.ensures.y_after) in
    record {
      printed = omega (arith, h.next, ap length x, c.print_beside.ensures.prints.count, ap length next);
      next = omega (arith, h.printed, ap length y, c.print_beside.ensures.same, ap length ready);
      under_way = alike _ _ under x y;
    }

pub returns-in_err-write_all : goal.returns-in_err-write_all
returns-in_err-write_all g c =
    let p = err_from_is_err_and c.from_residual-in_err-write_all.result c.from_residual-in_err-write_all.ensures.1 in
    let under_way = alike _ _ c.rows.invariant.under_way c.as_slice.ensures.value refl in
    rw (p.1) (failed _ _ _ c.as_slice.result.now c.rows.next.items c.rows.rows c.args.rows under_way c.in_err-write_all.ensures)

pub returns : goal.returns
returns g c =
    let under_way = alike _ _ c.rows.invariant.under_way c.as_slice.ensures.value c.as_mut_slice-4.ensures.value in
    let written = lent c.rows.next c.as_mut_slice-4.result.now c.print_all-2.new.pages c.as_slice-2.result.now c.as_mut_slice-4.ensures.value c.print_all-2.ensures.count c.as_slice-2.ensures.value in
    let prints = print-lines c.as_mut_slice-4.result.now c.print_all-2.new.pages c.print_all-2.ensures in
    let none : length c.rows.rows ≡ 0 = omega (arith, c.left.ensures, c.rows-test.false) in
    ended c.write_all-2.result _ _ _ _ c.as_slice.result.now c.as_mut_slice-4.result.now c.as_slice-2.result.now c.rows.rows c.args.rows under_way (nil_from_length c.rows.rows none) c.in_ok-write_all.ensures (rw written prints) c.write_all-2.ensures
