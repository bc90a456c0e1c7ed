use Rattle.std.proofs.Common.{rules, ◌≡◌, ◌≤◌, ◌∷◌, true, false, length, IsTrue, arith}
use Rattle.workers.specs.Lists.{same_caller}
use Rattle.workers.proofs.Portions.{goes-on, passes, runs-out, differs, at-end}
use Rattle.workers.proofs.parts.is_part.Goals.{then-is_same_caller+in-Some+else-not-is_noted, else-is_same_caller}
use Rattle.workers.proofs.parts.is_part.Goals as goal

pub returns-in_default : goal.returns-in_default
returns-in_default g c =
    let by : same_caller c.note-item.result.caller c.args.who ≡ true = search rules in
    let empty : length c.loop-note.left.now ≡ 0 = search rules in
    runs-out _ c.args.who c.loop-note.left.now c.args.notes.now c.loop-note.note-index c.note-item.result c.loop-note.invariant c.loop-note-test.true c.note-item.is by empty

pub returns-then-not-is_noted : goal.returns-then-not-is_noted
returns-then-not-is_noted g c =
    let by : same_caller c.note-item.result.caller c.args.who ≡ true = search rules in
    let split : c.loop-note.left.now ≡ c.in-Some.first.now ∷ c.in-Some.rest.now = search rules in
    let fails : c.is_noted.result ≡ false = search rules in
    differs _ c.args.who c.loop-note.left.now c.in-Some.first.now c.in-Some.rest.now c.args.notes.now c.loop-note.note-index c.note-item.result c.is_noted.result c.loop-note.invariant c.loop-note-test.true c.note-item.is by split c.is_noted.ensures fails

pub loop-note-preserved : goal.loop-note-preserved
loop-note-preserved g c = elim c.if-is_same_caller.branch [
  | then-is_same_caller+in-Some+else-not-is_noted w ↦
      let by : same_caller c.note-item.result.caller c.args.who ≡ true = search rules in
      let split : c.loop-note.left.now ≡ w.in-Some.first.now ∷ w.in-Some.rest.now = search rules in
      let yes : IsTrue w.is_noted.result = search rules in
      rw w.left-is (goes-on _ c.args.who c.loop-note.left.now w.in-Some.first.now w.in-Some.rest.now c.args.notes.now c.loop-note.note-index c.note-item.result c.loop-note.invariant c.loop-note-test.true c.note-item.is by split (w.is_noted.ensures.0 yes))
  | else-is_same_caller w ↦
      let by : same_caller c.note-item.result.caller c.args.who ≡ false = search rules in
      rw w.left-is (passes _ c.args.who c.loop-note.left.now c.args.notes.now c.loop-note.note-index c.note-item.result c.loop-note.invariant c.loop-note-test.true c.note-item.is by)
]

pub returns : goal.returns
returns g c =
    let end = c.loop-note-test.false in
    let over : length c.args.notes.now ≤ c.loop-note.note-index = omega arith in
    at-end _ c.args.who c.loop-note.left.now c.args.notes.now c.loop-note.note-index c.is_empty.result c.loop-note.invariant over c.is_empty.ensures
