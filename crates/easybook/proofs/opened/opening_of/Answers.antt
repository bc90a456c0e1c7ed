use Rattle.std.proofs.Common.{arith}
use Rattle.easybook.proofs.Openings.{opened-some}
use Rattle.easybook.proofs.opened.opening_of.Goals as goal

pub returns-clause-opened : goal.returns-clause-opened
returns-clause-opened g c = record {
  within = omega arith;
  read = c.in_ok-text.text;
  is_text = c.in_ok-text.ensures.text;
  opened_with = c.in_ok-opening.ensures.scenarios;
  kept_comments = c.in_ok-opening.ensures.comments;
  arranged = c.in_ok-opening.ensures.table;
}

pub returns-clause-some : goal.returns-clause-some
returns-clause-some g c = opened-some c.args.procs c.in_ok-text.text.comments c.in_ok-opening.opening.scenarios c.in_ok-opening.ensures.scenarios
