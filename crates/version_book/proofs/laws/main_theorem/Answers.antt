use Rattle.version_book.proofs.Mains.{main}
use Rattle.version_book.proofs.laws.main_theorem.Goals as goal

pub returns : goal.returns
returns c = main c.each_version_keeps_its_log.ensures.noted c.each_version_keeps_its_log.ensures.kept c.versions_never_go_down.ensures c.each_run_is_simulated.ensures
