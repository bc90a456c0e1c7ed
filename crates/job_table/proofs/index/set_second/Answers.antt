use Rattle.chunks.specs.Chunks.{flat}
use Rattle.chunks.specs.declared.numbered.Numbered.{Numbered}
use Rattle.std.proofs.lemmas.Result.{on_ok_weaker}
use Rattle.job_table.proofs.Numbers.{parted-numbers, number-within, other-rises, other-gives}
use Rattle.job_table.proofs.index.set_second.Goals as goal

pub exchange-requires-clause-parted : goal.exchange-requires-clause-parted
exchange-requires-clause-parted g c = parted-numbers c.args.number (flat c.args.index.now) c.requires.rising

pub exchange-requires-clause-there : goal.exchange-requires-clause-there
exchange-requires-clause-there g c = number-within c.args.number (flat c.args.index.now) c.requires.rising c.requires.there

pub returns-clause-set : goal.returns-clause-set
returns-clause-set g c =
    let pair : Numbered = record { number = c.args.number; submit = c.args.submit } in
    on_ok_weaker c.exchange.result
    (λ list. record {
      rising = other-rises pair (flat c.args.index.now) (flat c.exchange.new.self) c.requires.rising c.requires.there list;
      gives = other-gives pair (flat c.args.index.now) (flat c.exchange.new.self) c.requires.rising c.requires.there list;
    })
    c.exchange.ensures.list
