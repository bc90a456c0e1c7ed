use Rattle.chunks.specs.Chunks.{flat}
use Rattle.chunks.specs.declared.numbered.Numbered.{Numbered}
use Rattle.job_table.proofs.Numbers.{parted-numbers, more-rises, more-gives}
use Rattle.job_table.proofs.index.with_number.Goals as goal

pub with-requires-clause-parted : goal.with-requires-clause-parted
with-requires-clause-parted g c = parted-numbers c.args.number (flat c.args.index.now) c.requires.rising

pub returns-clause-set : goal.returns-clause-set
returns-clause-set g c =
    let pair : Numbered = record { number = c.args.number; submit = c.args.submit } in
    record {
      rising = more-rises pair (flat c.args.index.now) (flat c.in_ok-with.field-0) c.requires.rising c.requires.new c.in_ok-with.ensures.list;
      gives = more-gives pair (flat c.args.index.now) (flat c.in_ok-with.field-0) c.requires.rising c.requires.new c.in_ok-with.ensures.list;
    }
