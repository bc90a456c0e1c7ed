use Rattle.version_book.specs.Book.{machine_of}
use Rattle.version_book.proofs.Settlings.{all-ended, all-short, given_up-more, published-more}
use Rattle.version_book.proofs.settling.work_all.Goals as goal

pub returns-in-Ended : goal.returns-in-Ended
returns-in-Ended g c = all-ended c.loop-short.short _ (machine_of c.loop-short.book) (machine_of c.work_next.new.book) c.loop-short.invariant c.in-Ended.ensures

pub returns-in-Short : goal.returns-in-Short
returns-in-Short g c = all-short c.loop-short.short _ (machine_of c.loop-short.book) (machine_of c.work_next.new.book) c.loop-short.invariant c.in-Short.ensures

pub loop-short-preserved-in-Worked : goal.loop-short-preserved-in-Worked
loop-short-preserved-in-Worked g c = published-more c.loop-short.short _ (machine_of c.loop-short.book) (machine_of c.work_next.new.book) c.loop-short.invariant c.in-Worked.ensures

pub loop-short-preserved : goal.loop-short-preserved
loop-short-preserved g c = given_up-more c.loop-short.short _ (machine_of c.loop-short.book) (machine_of c.work_next.new.book) c.loop-short.invariant c.in-GivenUp.ensures
