use Rattle.std.proofs.Common.{rules, ◌≡◌, map, true, false, refl, arith}
use Rattle.std.proofs.lemmas.List.{length-map}
use Rattle.book_machine.specs.History.{Noted}
use Rattle.book_machine.specs.Noted.{noted_of}
use Rattle.workers.specs.Closing.{is_known}
use Rattle.workers.proofs.Portions.{at-noted, more, noted-at, within}
use Rattle.workers.proofs.listing.are_known.Goals as goal

pub returns-then-not-is_of_caller : goal.returns-then-not-is_of_caller
returns-then-not-is_of_caller g c =
    let no : is_known c.args.sessions.now c.args.workers.now (noted_of c.note-item.result) ≡ false = search rules in
    ((λ f. cc), (λ all. let yes = at-noted (λ (n : Noted). is_known c.args.sessions.now c.args.workers.now n ≡ true) c.args.notes.now c.loop-note.note-index c.note-item.result c.loop-note-test.true c.note-item.is all in cc))

pub loop-note-preserved : goal.loop-note-preserved
loop-note-preserved g c =
    let yes : is_known c.args.sessions.now c.args.workers.now (noted_of c.note-item.result) ≡ true = search rules in
    more (λ (n : Noted). is_known c.args.sessions.now c.args.workers.now n ≡ true) (map noted_of c.args.notes.now) c.loop-note.note-index (noted_of c.note-item.result) c.loop-note.invariant (within c.args.notes.now c.loop-note.note-index c.loop-note-test.true) (noted-at c.args.notes.now c.loop-note.note-index c.note-item.result (noted_of c.note-item.result) c.loop-note-test.true c.note-item.is) yes

pub returns : goal.returns
returns g c =
    ((λ t k d below. let end = c.loop-note-test.false in let same = length-map c.args.notes.now (noted_of {A = g.row.A.Denot}) in c.loop-note.invariant k d (omega arith)), (λ all. refl))
