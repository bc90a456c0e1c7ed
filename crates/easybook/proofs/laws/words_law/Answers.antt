use Rattle.easybook.proofs.Forms.{joined_spacing, joined_word, joined_workers, next_spacing, next_word, no_word, twice_bad, two_scripts}
use Rattle.easybook.proofs.laws.words_law.Goals as goal

pub returns-clause-none : goal.returns-clause-none
returns-clause-none c = no_word

pub returns-clause-joined : goal.returns-clause-joined
returns-clause-joined c = joined_word

pub returns-clause-apart : goal.returns-clause-apart
returns-clause-apart c = next_word

pub returns-clause-joined_spacing : goal.returns-clause-joined_spacing
returns-clause-joined_spacing c = joined_spacing

pub returns-clause-spacing_apart : goal.returns-clause-spacing_apart
returns-clause-spacing_apart c = next_spacing

pub returns-clause-workers : goal.returns-clause-workers
returns-clause-workers c = joined_workers

pub returns-clause-scripts : goal.returns-clause-scripts
returns-clause-scripts c = two_scripts

pub returns-clause-twice : goal.returns-clause-twice
returns-clause-twice c = twice_bad
