use Rattle.std.proofs.Common.{rules, ◌≡◌, get_or}
use Rattle.std.specs.List.{position}
use Rattle.std.specs.Prelude.{None, Some}
use Rattle.version_book.specs.Lookups.{has_id, unmarking}
use Rattle.version_book.proofs.Changing.{change-at, change-none}
use Rattle.version_book.proofs.lookups.unmark.Goals as goal

pub returns-in-Some-clause-shown : goal.returns-in-Some-clause-shown
returns-in-Some-clause-shown g c =
    let at : position (has_id c.args.id) c.args.shown.now.items ≡ Some c.in-Some.place = search rules in
    let is : c.index_mut.result.now ≡ get_or c.args.shown.now.items c.in-Some.place c.index_mut.result.now = search rules in
    let put = change-at c.args.id unmarking c.args.shown.now.items c.in-Some.place c.index_mut.result.now c.requires at is in
    rw c.unmark.ensures put

pub returns-in_default-clause-shown : goal.returns-in_default-clause-shown
returns-in_default-clause-shown g c =
    let none : position (has_id c.args.id) c.args.shown.now.items ≡ None = search rules in
    change-none c.args.id unmarking c.args.shown.now.items none
