use Rattle.std.proofs.Common.{rules, ◌≡◌, ap, sym, subst}
use Rattle.std.specs.Prelude.{Option, Some, IfSome}
use Rattle.std.specs.List.{slice_get}
use Rattle.std.specs.Option.{option_map}
use Rattle.book_machine.specs.History.{Noted}
use Rattle.book_machine.specs.Noted.{noted_of}
use Rattle.chronicle.specs.Events.{IsAccepted, state_after}
use Rattle.workers.specs.Tied.{Hears}
use Rattle.workers.proofs.hearing.heard.Goals as goal

pub call-requires : goal.call-requires
call-requires g c = λ kept.
    let is : slice_get c.args.book.now.journal c.args.notes ≡ Some (noted_of c.in_ok-note.note.now) = search rules in
    subst (λ (o : Option Noted). IfSome o (IsAccepted (state_after g.J.Naming.opening c.args.whole.now.events))) is (c.requires.accepted kept)

pub returns-clause-reply : goal.returns-clause-reply
returns-clause-reply g c =
    let is : slice_get c.args.book.now.journal c.args.notes ≡ Some (noted_of c.in_ok-note.note.now) = search rules in
    sym (ap (option_map (λ (n : Noted). n.reply)) is)

pub returns-clause-whole : goal.returns-clause-whole
returns-clause-whole g c =
    let is : slice_get c.args.book.now.journal c.args.notes ≡ Some (noted_of c.in_ok-note.note.now) = search rules in
    subst (λ (o : Option Noted). Hears c.args.whole.now o c.call.new.self) (sym is) c.call.ensures
