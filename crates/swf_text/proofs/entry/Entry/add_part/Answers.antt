use Rattle.swf_text.proofs.Entries.{more_sound}
use Rattle.swf_text.proofs.entry.Entry.add_part.Goals as goal

pub invariant_of-self-in-Continue-branch-2 : goal.invariant_of-self-in-Continue-branch-2
invariant_of-self-in-Continue-branch-2 g c =
    rw c.in_ok-push-in-Lines.ensures.items (more_sound c.args.part c.in-Lines.lines.items c.args.self.now (rw c.in-Lines.is at c.self.view_is) (rw c.in-Lines.is at c.self.invariant) c.requires.same c.requires.partial)

pub returns-in_ok-push-in-Lines-clause-entry : goal.returns-in_ok-push-in-Lines-clause-entry
returns-in_ok-push-in-Lines-clause-entry g c =
    rw c.in_ok-push-in-Lines.ensures.items (more_sound c.args.part c.in-Lines.lines.items c.args.self.now (rw c.in-Lines.is at c.self.view_is) (rw c.in-Lines.is at c.self.invariant) c.requires.same c.requires.partial)
