use Rattle.chunks.specs.Chunks.{flat}
use Rattle.std.proofs.Common.{◌≡◌, ◌≤◌, ◌<◌, List, length, arith, ap, subst, sym}
use Rattle.swf_text.specs.Entry.{LogEntry}
use Rattle.job_table.proofs.Stored.{stored-more, second-new, lacks-it, log-with, index-some}
use Rattle.job_table.proofs.Counted.{fewest-insert}
use Rattle.job_table.proofs.table.JobTable.insert.Goals as goal

pub with_number-requires-clause-rising : goal.with_number-requires-clause-rising
with_number-requires-clause-rising g c = c.self.invariant.index.rising

pub with_number-requires-clause-new : goal.with_number-requires-clause-new
with_number-requires-clause-new g c =
    second-new c.args.entry.now c.in_ok-copy.copy (flat c.self.inside.rows) c.args.self.now (flat c.self.inside.index) c.self.invariant.table c.self.invariant.index c.self.view_is c.in_ok-copy.ensures c.requires.new c.number.result c.number.ensures.number

pub with_one-requires-clause-table : goal.with_one-requires-clause-table
with_one-requires-clause-table g c = c.self.invariant.table

pub invariant_of-self : goal.invariant_of-self
invariant_of-self g c =
    let capacity : length (flat c.self.inside.rows) < 4194304 = subst (λ (es : List LogEntry). length es < 4194304) (sym c.self.view_is) c.requires.capacity in
    let lacks = lacks-it c.args.entry.now c.in_ok-copy.copy (flat c.self.inside.rows) c.args.self.now (flat c.self.inside.index) c.self.invariant.table c.self.invariant.index c.self.view_is c.in_ok-copy.ensures c.requires.new in
    stored-more (flat c.self.inside.rows) (flat c.in_ok-rows.rows) (flat c.self.inside.index) (flat c.in_ok-index.index) c.self.inside.len c.self.invariant c.in_ok-copy.copy c.number.result c.submit.result c.submit.ensures.entry lacks capacity c.in_ok-rows.ensures.rows c.number.ensures.number c.submit.ensures.second c.in_ok-index.ensures.set.rising c.in_ok-index.ensures.set.gives

pub returns-clause-ok : goal.returns-clause-ok
returns-clause-ok g c =
    log-with c.args.entry.now c.in_ok-copy.copy (flat c.self.inside.rows) c.args.self.now (flat c.self.inside.index) c.self.invariant.table c.self.invariant.index c.self.view_is c.in_ok-copy.ensures c.requires.new (flat c.in_ok-rows.rows) c.in_ok-rows.ensures.rows

pub returns-clause-least : goal.returns-clause-least
returns-clause-least g c =
    let rows = flat c.self.inside.rows in
    let long : length rows ≡ length c.args.self.now = ap length c.self.view_is in
    fewest-insert c.args.entry.now c.args.self.now _ (omega (arith, c.in_ok-index.ensures.count, c.in_ok-rows.ensures.count))
    (λ some.
    let more : 1 ≤ length rows = omega (arith, some, long) in
    omega (arith, c.in_ok-index.ensures.least (index-some (flat c.self.inside.index) rows c.self.invariant.index more), c.in_ok-rows.ensures.least more))
