use Rattle.std.proofs.lemmas.Bool.Decides.{Decides-at}
use Rattle.book_machine.specs.Noted.{call_of}
use Rattle.book_machine.specs.Same.{same_call}
use Rattle.book_machine.specs.Decided.{same_call-Decides}
use Rattle.book_machine.proofs.call.Call.same.Goals as goal

pub returns : goal.returns
returns g c =
    let d = same_call-Decides (call_of c.args.self.now) (call_of c.args.other.now) in
    Decides-at c.eq.result (same_call (call_of c.args.self.now) (call_of c.args.other.now)) c.eq.ensures d
