use Rattle.chunks.specs.Chunks.{flat}
use Rattle.job_table.proofs.Numbers.{parted-numbers, number-within, fewer-rises, fewer-gives}
use Rattle.job_table.proofs.index.without_number.Goals as goal

pub without-requires-clause-parted : goal.without-requires-clause-parted
without-requires-clause-parted g c = parted-numbers c.args.number (flat c.args.index.now) c.requires.rising

pub without-requires-clause-there : goal.without-requires-clause-there
without-requires-clause-there g c = number-within c.args.number (flat c.args.index.now) c.requires.rising c.requires.there

pub returns-clause-set : goal.returns-clause-set
returns-clause-set g c = record {
  rising = fewer-rises c.args.number (flat c.args.index.now) (flat c.in_ok-without.field-0) c.requires.rising c.requires.there c.in_ok-without.ensures.list;
  gives = fewer-gives c.args.number (flat c.args.index.now) (flat c.in_ok-without.field-0) c.requires.rising c.requires.there c.in_ok-without.ensures.list;
}
