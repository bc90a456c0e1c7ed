use Rattle.std.proofs.Common.{ℕ, get_or, sym, ap, ◌∙◌, unwrap_or}
use Rattle.std.proofs.lemmas.Cmp.{nat_cmp_total}
use Rattle.std.proofs.lemmas.Map.Lookups.{exact_unsigned}
use Rattle.std.proofs.lemmas.Option.{slice_get-get_or}
use Rattle.metrics.proofs.RisingLists.{found_at, missed_at}
use Rattle.metrics.proofs.Falls.{day_total_is}
use Rattle.metrics.proofs.days.fall_at.Goals as goal

pub returns-in-Ok : goal.returns-in-Ok
returns-in-Ok c =
    let is = c.in-Ok.ensures in
    let d : ℕ × ℕ = (0, 0) in
    sym (day_total_is c.args.day c.args.falls.now c.requires ∙ ap (λ o. unwrap_or o 0) (found_at nat_cmp_total exact_unsigned c.args.falls.now c.args.day c.in-Ok.place (get_or c.args.falls.now c.in-Ok.place d) c.requires (slice_get-get_or c.args.falls.now c.in-Ok.place d is.0) (is.1 d)))

pub returns-in-Err : goal.returns-in-Err
returns-in-Err c = sym (day_total_is c.args.day c.args.falls.now c.requires ∙ ap (λ o. unwrap_or o 0) (missed_at nat_cmp_total c.args.falls.now c.args.day c.in-Err.field-0 c.requires c.in-Err.ensures))
