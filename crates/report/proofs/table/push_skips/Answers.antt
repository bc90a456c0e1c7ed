use Rattle.std.specs.Prelude.{codes}
use Rattle.report.specs.Table.{word_and_number}
use Rattle.report.proofs.Joins.{five}
use Rattle.report.proofs.table.push_skips.Goals as goal

pub returns : goal.returns
returns g c =
    let s = c.args.skips.now in
    five c.args.text.now.items (word_and_number (codes "skipped size") s.size) (word_and_number (codes " run") s.run) (word_and_number (codes " large") s.large) (word_and_number (codes " long") s.long) (codes "\n")
    c.in_ok-push_labelled.ensures c.in_ok-push_labelled-2.ensures c.in_ok-push_labelled-3.ensures c.in_ok-push_labelled-4.ensures c.in_ok-push.ensures.items
