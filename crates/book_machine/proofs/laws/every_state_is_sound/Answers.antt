use Rattle.book_machine.specs.Machine.{opened}
use Rattle.book_machine.proofs.Sound.{sound-opened, sound_after}
use Rattle.book_machine.proofs.laws.every_state_is_sound.Goals as goal

pub returns : goal.returns
returns c = λ log notes legal. sound_after (opened log) notes (sound-opened log) legal
