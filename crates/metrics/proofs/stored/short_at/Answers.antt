use Rattle.std.proofs.Common.{ℤ, rules, w64, pos, get_or, sym}
use mir.Val.{SFits}
use Rattle.std.proofs.lemmas.Int.{to_z-of_z}
use Rattle.std.proofs.lemmas.Cmp.{int_cmp_total}
use Rattle.std.proofs.lemmas.Map.Lookups.{exact_signed}
use Rattle.std.proofs.lemmas.Option.{slice_get-get_or}
use Rattle.metrics.specs.declared.stored.ShortSums.{ShortSums}
use Rattle.metrics.proofs.RisingLists.{found_at, missed_at}
use Rattle.metrics.proofs.stored.short_at.Goals as goal

pub returns-in-Ok : goal.returns-in-Ok
returns-in-Ok c =
    let f : SFits w64 c.args.user = search rules in
    let is = rw (to_z-of_z w64 c.args.user f) at c.in-Ok.ensures in
    let d : ℤ × ShortSums = (pos 0, record { count = 0; wait = 0; slowdown = 0; busy = 0 }) in
    sym (found_at int_cmp_total exact_signed c.args.users.now c.args.user c.in-Ok.place (get_or c.args.users.now c.in-Ok.place d) c.requires (slice_get-get_or c.args.users.now c.in-Ok.place d is.0) (is.1 d))

pub returns-in-Err : goal.returns-in-Err
returns-in-Err c =
    let f : SFits w64 c.args.user = search rules in
    sym (missed_at int_cmp_total c.args.users.now c.args.user c.in-Err.field-0 c.requires (rw (to_z-of_z w64 c.args.user f) at c.in-Err.ensures))
