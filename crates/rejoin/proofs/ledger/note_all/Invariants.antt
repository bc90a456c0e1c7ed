use Rattle.std.proofs.Common.{ℕ, ◌<◌, ◌^◌, ◌++◌, List, All, take}
use Rattle.easy_rule.specs.declared.start.Start.{Start as StartView}
use Rattle.timeline.specs.Ledger.{ledger_of}
use Rattle.rejoin.specs.Noted.{AreStarts, Keeps}
use Rattle.rejoin.specs.Started.{among}
use Rattle.rejoin.proofs.ledger.note_all.Given as goal

abbrev pub invariant-loop-start : goal.invariant-loop-start
invariant-loop-start g l =
    (from : ℕ) (starts others : List StartView) → AreStarts (among l.change.touched) l.change.is.jobs (starts ++ l.new) → All (λ x. x.at < 2 ^ 49) others
    → Keeps from (ledger_of (among l.change.touched) l.change.is.jobs starts others) l.fn.here l.fn.there l.fn.until
    → Keeps from (ledger_of (among l.change.touched) l.change.is.jobs (starts ++ take l.start-index l.new) others) l.here l.there l.until
