use Rattle.std.proofs.Common.{Ok, Err, rules, w64}
use mir.Val.{SFits}
use Rattle.std.proofs.lemmas.Int.{to_z-of_z}
use Rattle.std.specs.Ordering.{int_cmp}
use Rattle.metrics.proofs.RisingLists.{found_in}
use Rattle.metrics.proofs.UserLists.{list-set, sums-set, list-insert}
use Rattle.metrics.proofs.users.add_user.Goals as goal

pub returns-in-Ok-clause-list : goal.returns-in-Ok-clause-list
returns-in-Ok-clause-list g c = list-set c.args.users.now.items c.in-Ok.place c.index_mut.result.now c.index.result.now c.args.sums.now c.plus.result c.index_mut.ensures.value c.plus.ensures c.requires.some c.requires.list

pub returns-in-Ok-clause-sums : goal.returns-in-Ok-clause-sums
returns-in-Ok-clause-sums g c = λ q.
    let f : SFits w64 c.args.user = search rules in
    sums-set q c.args.user c.args.users.now.items c.in-Ok.place c.index_mut.result.now c.index.result.now c.args.sums.now c.plus.result (found_in int_cmp c.args.user c.deref.result.now c.args.users.now.items (Ok c.in-Ok.place) c.deref.ensures.value (rw (to_z-of_z w64 c.args.user f) at c.in-Ok.ensures)) c.index_mut.ensures.value c.index.ensures c.plus.ensures

pub returns-in_ok-insert-in-Err-clause-list : goal.returns-in_ok-insert-in-Err-clause-list
returns-in_ok-insert-in-Err-clause-list g c =
    let f : SFits w64 c.args.user = search rules in
    list-insert c.args.user c.args.users.now.items c.insert.new.self.items c.in-Err.place c.args.sums.now (found_in int_cmp c.args.user c.deref.result.now c.args.users.now.items (Err c.in-Err.place) c.deref.ensures.value (rw (to_z-of_z w64 c.args.user f) at c.in-Err.ensures)) (rw (to_z-of_z w64 c.args.user f) at c.in_ok-insert-in-Err.ensures.items) c.requires.some c.requires.list
