use Rattle.easybook.proofs.Forms.{live_chosen, log_chosen}
use Rattle.easybook.proofs.laws.log_words_law.Goals as goal

pub returns-clause-log : goal.returns-clause-log
returns-clause-log c = log_chosen

pub returns-clause-live : goal.returns-clause-live
returns-clause-live c = live_chosen
