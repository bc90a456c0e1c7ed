use Rattle.commands.proofs.SavedAgain.{saves_sound, saves_same}
use Rattle.commands.proofs.SavedBytes.{saves_bytes, saves_edited}
use Rattle.commands.proofs.laws.saved_again_law.Goals as goal

pub returns-clause-sound : goal.returns-clause-sound
returns-clause-sound c = saves_sound

pub returns-clause-same : goal.returns-clause-same
returns-clause-same c = saves_same

pub returns-clause-edited : goal.returns-clause-edited
returns-clause-edited c = saves_edited

pub returns-clause-bytes : goal.returns-clause-bytes
returns-clause-bytes c = saves_bytes
