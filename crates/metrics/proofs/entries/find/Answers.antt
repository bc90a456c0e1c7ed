use Rattle.std.proofs.Common.{sym, arith, rules}
use Rattle.std.proofs.lemmas.List.Sorted.{answers_always}
use Rattle.metrics.proofs.RisingLists.{below_last, search_finds}
use Rattle.metrics.proofs.entries.find.Goals as goal

pub returns-in-Less : goal.returns-in-Less
returns-in-Less g c = (omega arith, (below_last g.met.K.Ord.total c.args.entries.now c.args.key c.in-Some.last.now c.requires c.in-Some.ensures.value (sym c.in-Less.ensures), λ k d l m. absurd (omega (arith, l, m))))

pub returns-in-Greater : goal.returns-in-Greater
returns-in-Greater g c = search_finds g.met.K.Ord.total c.args.entries.now c.args.key c.binary_search_by_key.result c.requires c.binary_search_by_key.ensures.bound (c.binary_search_by_key.ensures.position (λ e. e.0) (answers_always _ _ _ (λ f a r h k. search rules)))
